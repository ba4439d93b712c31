-- A state of the list and a state of each segment keep what the channel's points stand on.
use Rattle.std.proofs.Common.{ℕ, zero, suc, Bool, true, false, true≢false, List, [], length, nat_le, map, sym, refl, ap, subst, inl, inr, ⊎_elim, arith, eq-eqb, eqb-true}
use Rattle.std.proofs.Common.{◌≡◌, ◌+◌, ◌<◌, ◌⊎◌, ◌∷◌, ◌∙◌, if◌then◌else◌}
use Rattle.std.specs.Prelude.{All, None, Option, Some, is_some, slice_index}
use mathlib.Core.Option.{some, some-injective, some-ne-none}
use lib.ListN.{get_elem?}
use Rattle.std.proofs.lemmas.Bool.{and_from, and_parts, cases_Bool, cases_eq, cases_lt, le-leb, leb-true, ltb-false, ltb-true, or_cases, or_left, or_parts, or_right}
use Rattle.std.proofs.lemmas.List.{length-map}
use Rattle.std.proofs.lemmas.List.Elements.{All-cons, All-nil}
use Rattle.mb_segment.specs.Vocabulary.{Claim, Has, In, IsOfPass, IsOver, IsViewOf, Keeps as SegmentKeeps, Match, SegmentState}
use Rattle.mb_segment.specs.declared.view.Role.{TheVariants.Issuer, TheVariants.Member}
use Rattle.mb_segment.specs.Vocabulary.{claimed_in, closing, drawn_in, got_by, is_over, listed, owed, sleeping, spots_to, total as total_there}
use Rattle.mb_channel.specs.Types.{Account, Home, Knows, View}
use Rattle.mb_channel.specs.ChannelTheorem.{EachMoment, Segment}
use Rattle.mb_channel.specs.Segments.{EachKeeps, InTurn, Keeps as Kept, KeepsEnd}
use Rattle.mb_channel.specs.Homes.{AllMade, IsDone, IsNext, IsOver as IsKnownOver, Keeps, Made, came_back, made_in, sends, total}
use Rattle.mb_channel.specs.Closing.{AreStates, ListState}
use Rattle.mb_channel.specs.States.{HasReceiver, OnlyReceiversTake, all_done, claim_of, entry_of, has_come, is_seen, knows_last, knows_shut}
use Rattle.mb_channel.specs.States.{looks_and_wakes, moment_of, segment_in, segments_in, some_view, starts_visited}
use Rattle.mb_channel.proofs.Theorems.{each_moment}
use Rattle.mb_channel.proofs.Views.{below_total, in_other, in_own, there}

-- what the laws of a segment say
pub record Laws (T : Type 0) : Type 0 where
  pub over : (s : SegmentState T) (k : SegmentKeeps s) (n : ℕ) (v : View T) → IsViewOf s n v → v.over ≡ true
      → IsOver s × (drawn_in s ≡ claimed_in s) × (k.history.rest ≡ [])
  pub over_all : (s : SegmentState T) (k : SegmentKeeps s) (n : ℕ) (v : View T) → IsViewOf s n v → is_over v ≡ true
      → IsOver s
  pub asleep : (s : SegmentState T) (k : SegmentKeeps s) → k.tokens < total_there sleeping s.views → IsOver s
      → 0 < total_there closing s.views
  pub debtor : (s : SegmentState T) (k : SegmentKeeps s) (n : ℕ) (v : View T) → IsViewOf s n v
      → 0 < owed v + listed v → v.role ≡ Member
  pub beginning : (s : SegmentState T) (k : SegmentKeeps s) (p : ℕ) → p < claimed_in s
      → (c : Claim T) × (get_elem? k.history.claims p ≡ some c) × IsOfPass s c.to (λ a. Has p c.entry.value a.got)
  pub back : (s : SegmentState T) (k : SegmentKeeps s) (n : ℕ) (v : View T) → IsViewOf s n v → v.role ≡ Issuer
      → Match k.history k.roll v.ends

module _ {A : Type 0} where
  some_at : (xs : List A) (i : ℕ) → i < length xs → (a : A) × (get_elem? xs i ≡ some a)
  some_at [] i lt = absurd (omega arith)
  some_at (x ∷ xs) zero lt = (x, refl)
  some_at (x ∷ xs) (suc i) lt = some_at xs i (omega arith)

  first_or : (x : A) (xs : List A) (i : ℕ) (a : A) → get_elem? (x ∷ xs) i ≡ some a
      → (x ≡ a) ⊎ ((j : ℕ) × (get_elem? xs j ≡ some a))
  first_or x xs zero a at = inl (some-injective x a at)
  first_or x xs (suc i) a at = inr (i, at)

  empty_is : (xs : List A) → length xs ≡ 0 → xs ≡ []
  empty_is [] e = refl
  empty_is (x ∷ xs) e = absurd (omega arith)

module _ {T : Type 0} where
  -- ---- views, and homes
  view_is : (p : Knows T → Bool) (vs : List (Knows T)) (id : ℕ) (v : Knows T) → get_elem? vs id ≡ some v → p v ≡ true
      → some_view p vs ≡ true
  view_is p [] id v at is = absurd (some-ne-none v (sym at))
  view_is p (x ∷ xs) zero v at is = or_left (p x) (some_view p xs) (ap p (some-injective x v at) ∙ is)
  view_is p (x ∷ xs) (suc id) v at is = or_right (p x) (some_view p xs) (view_is p xs id v at is)

  the_view : (p : Knows T → Bool) (vs : List (Knows T)) → some_view p vs ≡ true
      → (id : ℕ) × (v : Knows T) × (get_elem? vs id ≡ some v) × (p v ≡ true)
  the_view p [] is = absurd (true≢false (sym is))
  the_view p (x ∷ xs) is = ⊎_elim (λ e. (0, x, refl, e))
      (λ r. let g = the_view p xs r in (suc g.0, g.1, g.2, g.3)) (or_cases (p x) (some_view p xs) is)

  done_at : (hs : List (Home T)) → all_done hs ≡ true → (j : ℕ) (h : Home T) → get_elem? hs j ≡ some h → IsDone h
  done_at [] is j h at = absurd (some-ne-none h (sym at))
  done_at (x ∷ xs) is zero h at = subst (λ (g : Home T). IsDone g) (some-injective x h at) (and_parts _ _ is).0
  done_at (x ∷ xs) is (suc j) h at = done_at xs (and_parts _ _ is).1 j h at

  are_done : (hs : List (Home T)) → ((j : ℕ) (h : Home T) → get_elem? hs j ≡ some h → IsDone h) → all_done hs ≡ true
  are_done [] f = refl
  are_done (h ∷ hs) f = and_from _ _ (f 0 h refl) (are_done hs (λ j g at. f (suc j) g at))

  some_sleeps : (vs : List (View T)) → 0 < total_there sleeping vs
      → (n : ℕ) × (v : View T) × (get_elem? vs n ≡ some v) × (0 < sleeping v)
  some_sleeps [] lt = absurd (omega arith)
  some_sleeps (v ∷ vs) lt = go (sleeping v) refl (some_sleeps vs)
    where
      go : (m : ℕ) → sleeping v ≡ m → (0 < total_there sleeping vs
          → (n : ℕ) × (u : View T) × (get_elem? vs n ≡ some u) × (0 < sleeping u))
          → (n : ℕ) × (u : View T) × (get_elem? (v ∷ vs) n ≡ some u) × (0 < sleeping u)
      go zero e rec = let r = rec (omega arith) in (suc r.0, r.1, r.2, r.3)
      go (suc n) e rec = (0, v, refl, omega arith)

  owed_is : (vs : List (View T))
      → total_there owed vs ≡ total_there looks_and_wakes vs + total_there closing vs
  owed_is [] = refl
  owed_is (v ∷ vs) = let r = owed_is vs in omega arith

  claimed_is : (s : SegmentState T) (k : SegmentKeeps s) → claimed_in s ≡ length k.history.claims
  claimed_is s k = ap (λ l. slice_index l 16) k.words

  -- ---- each segment keeps its rule
  keeps_segment : (l : Laws T) (came : Bool) (s : SegmentState T) (k : SegmentKeeps s) (behind : List (Segment T))
      → Kept (segment_in came s k behind)
  keeps_segment l came s k behind = record {
    unvisited = λ un. (
        let seen = or_parts came _ (or_parts (is_seen came s) (starts_visited behind) un).0 in
        let low = ltb-false 0 (claimed_in s + total_there sleeping s.views) seen.1 in
        let e = claimed_is s k in
        let none_taken : k.history.claims ≡ [] = empty_is k.history.claims (omega arith) in
        (ap (λ x. map claim_of x) none_taken, omega arith)
        );
    quiet = ⊎_elim (λ few. inl few) (λ few. let o = owed_is s.views in
        let n = length-map k.history.rest entry_of in inr (omega arith)) k.quiet;
    shut = λ over. ⊎_elim (λ few. inr (l.asleep s k few (leb-true _ _ over))) (λ few. inl few)
        (cases_lt k.tokens (total_there sleeping s.views));
  }

  each_keeps : (l : Laws T) (hs : List (Home T)) (came : ℕ → Bool) (now : ℕ → SegmentState T) (a : AreStates now hs)
      → EachKeeps (segments_in hs came now a)
  each_keeps l [] came now a = tt
  each_keeps l (h ∷ hs) came now a = (
    keeps_segment l (came 0) (now 0) (a 0 h refl).0 (segments_in hs (λ j. came (suc j)) (λ j. now (suc j))
        (λ j. a (suc j))),
    each_keeps l hs (λ j. came (suc j)) (λ j. now (suc j)) (λ j. a (suc j)),
  )

  -- ---- they follow each other in turn, if whoever was seen in one is behind segments of which all was taken
  seen_in : (hs : List (Home T)) (came : ℕ → Bool) (now : ℕ → SegmentState T) (a : AreStates now hs)
      → starts_visited (segments_in hs came now a) ≡ true
      → (i : ℕ) × (i < length hs) × (is_seen (came i) (now i) ≡ true)
  seen_in [] came now a is = absurd (true≢false (sym is))
  seen_in (h ∷ hs) came now a is = ⊎_elim (λ e. (0, omega arith, e))
      (λ r. let x = seen_in hs (λ j. came (suc j)) (λ j. now (suc j)) (λ j. a (suc j)) r in
      let lt = x.1 in (suc x.0, omega arith, x.2))
      (or_cases _ _ is)

  in_turn : (hs : List (Home T)) (came : ℕ → Bool) (now : ℕ → SegmentState T) (a : AreStates now hs)
      → ((j : ℕ) → suc j < length hs → IsOver (now j))
      → ((i : ℕ) → i < length hs → is_seen (came i) (now i) ≡ true
      → (j : ℕ) → j < i → (k : SegmentKeeps (now j)) → k.history.rest ≡ [])
      → InTurn (segments_in hs came now a)
  in_turn [] came now a over empty = tt
  in_turn (h ∷ []) came now a over empty = (tt, tt)
  in_turn (h ∷ g ∷ hs) came now a over empty = (
    (
      le-leb _ _ (over 0 (omega arith)),
      λ visited. (
        or_right _ _ visited,
        let x = seen_in (g ∷ hs) (λ j. came (suc j)) (λ j. now (suc j)) (λ j. a (suc j)) visited in
            let lt = x.1 in
            ap (λ l. map entry_of l) (empty (suc x.0) (omega arith) x.2 0 (omega arith) (a 0 h refl).0),
      ),
    ),
    in_turn (g ∷ hs) (λ j. came (suc j)) (λ j. now (suc j)) (λ j. a (suc j))
        (λ j lt. over (suc j) (omega arith))
        (λ i lt seen j less k. empty (suc i) (omega arith) seen (suc j) (omega arith) k),
  )

  all_over : (hs : List (Home T)) (came : ℕ → Bool) (now : ℕ → SegmentState T) (a : AreStates now hs)
      → ((j : ℕ) → j < length hs → IsOver (now j)) → All (λ s. s.is_over ≡ true) (segments_in hs came now a)
  all_over [] came now a over = All-nil (λ s. s.is_over ≡ true)
  all_over (h ∷ hs) came now a over = All-cons (λ s. s.is_over ≡ true) _ _ (le-leb _ _ (over 0 (omega arith)))
      (all_over hs (λ j. came (suc j)) (λ j. now (suc j)) (λ j. a (suc j)) (λ j lt. over (suc j) (omega arith)))

  all_empty : (hs : List (Home T)) (came : ℕ → Bool) (now : ℕ → SegmentState T) (a : AreStates now hs)
      → ((j : ℕ) → j < length hs → (k : SegmentKeeps (now j)) → k.history.rest ≡ [])
      → All (λ s. s.history.rest ≡ []) (segments_in hs came now a)
  all_empty [] came now a empty = All-nil (λ s. s.history.rest ≡ [])
  all_empty (h ∷ hs) came now a empty = All-cons (λ s. s.history.rest ≡ []) _ _
      (ap (λ l. map entry_of l) (empty 0 (omega arith) (a 0 h refl).0))
      (all_empty hs (λ j. came (suc j)) (λ j. now (suc j)) (λ j. a (suc j)) (λ j lt k. empty (suc j) (omega arith) k))

  -- ---- who took a value in a segment
  passed : (hs : List (Home T)) (j : ℕ) (ms : List (Made T))
      → AllMade (λ m. (m.visit.account.got ≡ []) ⊎ IsNext hs m.visit.segment) ms
      → (i : ℕ) (a : Account T) → get_elem? (made_in j ms) i ≡ some a → (a.got ≡ []) ⊎ IsNext hs j
  passed hs j [] fit i a at = absurd (some-ne-none a (sym at))
  passed hs j (m ∷ ms) fit i a at = ⊎_elim
      (λ e. ⊎_elim
      (λ same. ⊎_elim (λ none. inl (ap (λ (b : Account T). b.got) (sym same) ∙ none))
      (λ next. inr (subst (λ n. IsNext hs n) e next)) fit.0)
      (λ r. passed hs j ms fit.1 r.0 a r.1)
      (first_or m.visit.account (made_in j ms) i a (ap (λ l. get_elem? l i) (sym (in_own j m ms e)) ∙ at)))
      (λ ne. passed hs j ms fit.1 i a (ap (λ l. get_elem? l i) (sym (in_other j m ms ne)) ∙ at))
      (cases_eq m.visit.segment j)

  account_of : (s : SegmentState T) (k : SegmentKeeps s) (n : ℕ) (ns : List ℕ) (xs : List (Account T))
      → Match k.history ns xs → In n ns
      → (i : ℕ) × (a : Account T) × (get_elem? xs i ≡ some a) × (a.got ≡ got_by n k.history)
  account_of s k n [] xs is here = absurd here
  account_of s k n (m ∷ ns) [] is here = absurd is
  account_of s k n (m ∷ ns) (a ∷ xs) is here = ⊎_elim
      (λ e. (0, a, refl, is.1 ∙ ap (λ j. got_by j k.history) (sym e)))
      (λ r. let x = account_of s k n ns xs is.3 r in (suc x.0, x.1, x.2, x.3)) here

  -- whoever claimed the first position got something
  first_got : (cs : List (Claim T)) (c : Claim T) → get_elem? cs 0 ≡ some c → spots_to c.to 0 cs ≡ [] → ⊥
  first_got [] c at none = some-ne-none c (sym at)
  first_got (x ∷ xs) c at none = let n = ap length (sym (ap (λ (b : Bool). if b
      then record { at = 0; value = x.entry.value } ∷ spots_to c.to 1 xs else spots_to c.to 1 xs)
      (eq-eqb x.to c.to (ap (λ (y : Claim T). y.to) (some-injective x c at)))) ∙ none) in absurd (omega arith)

  seen_there : (hs : List (Home T)) (was : ℕ → Bool) (now : ℕ → SegmentState T) (a : AreStates now hs) (j : ℕ)
      (s : Segment T) → get_elem? (segments_in hs was now a) j ≡ some s → was j ≡ true → s.is_visited ≡ true
  seen_there [] was now a j s at is = absurd (some-ne-none s (sym at))
  seen_there (h ∷ hs) was now a zero s at is = ap (λ (x : Segment T). x.is_visited) (sym (some-injective _ s at))
      ∙ or_left _ _ (or_left (was 0) _ is)
  seen_there (h ∷ hs) was now a (suc j) s at is = seen_there hs (λ j. was (suc j)) (λ j. now (suc j))
      (λ j. a (suc j)) j s at is

  -- ---- the ends of a state
  abbrev have_come : ListState T → ℕ → Bool
  have_come c j = some_view (has_come j) c.views

  abbrev one_if_shut : Knows T → ℕ
  one_if_shut v = if knows_shut v then 1 else 0

module _ {T : Type 0} (c : ListState T) (k : Keeps c) (now : ℕ → SegmentState T) (a : AreStates now k.homes) where
  -- whoever may receive behind segment j has come there
  come_next : (j : ℕ) → have_come c j ≡ true → IsNext k.homes j
  come_next j is i lt =
      let x = the_view (has_come j) c.views is in
      let y = and_parts x.1.takes (nat_le j x.1.at) x.3 in
      let le = leb-true j x.1.at y.1 in
      (k.fits x.0 x.1 x.2).takes y.0 i (omega arith)

  came_here : (id : ℕ) (v : Knows T) → get_elem? c.views id ≡ some v → v.takes ≡ true → have_come c v.at ≡ true
  came_here id v at takes = view_is (has_come v.at) c.views id v at
      (and_from v.takes (nat_le v.at v.at) takes (le-leb v.at v.at (omega arith)))

  -- ---- what an end is told, the moment tells
  pub receive_told : (id : ℕ) (v : Knows T) → get_elem? c.views id ≡ some v → v.takes ≡ true → v.last ≡ Some v.at
      → (moment_of c k now a).is_told ≡ true
  receive_told id v at takes last = and_from _ _
      (view_is knows_last c.views id v at (ap is_some last))
      (are_done k.homes (λ j h here.
      let lt : j < v.at = subst (λ n. j < n) ((k.told id v at).last v.at last).0 (there k.homes j h here) in
      let d = (k.fits id v at).takes takes j lt in
      subst (λ (g : Home T). IsDone g) (some-injective d.0 h (sym d.1 ∙ here)) d.2))

  pub send_told : (id : ℕ) (v : Knows T) → get_elem? c.views id ≡ some v → v.shut ≡ true
      → (moment_of c k now a).is_refused ≡ true
  send_told id v at is = view_is (λ v. v.shut) c.views id v at is

  pub end_visits : (id : ℕ) (v : Knows T) (s : Segment T) → get_elem? c.views id ≡ some v → v.takes ≡ true
      → get_elem? (moment_of c k now a).segments v.at ≡ some s → s.is_visited ≡ true
  end_visits id v s at takes here = seen_there k.homes (have_come c) now a v.at s here (came_here id v at takes)

module _ {T : Type 0} (l : Laws T) (c : ListState T) (k : Keeps c) (now : ℕ → SegmentState T)
    (a : AreStates now k.homes) where
  home_over : (j : ℕ) (h : Home T) → get_elem? k.homes j ≡ some h → IsKnownOver h → IsOver (now j)
  home_over j h at is = let x = a j h at in l.over_all (now j) x.0 x.1.0 x.1.1 x.1.2 (x.1.4 is)

  home_done : (j : ℕ) (h : Home T) → get_elem? k.homes j ≡ some h → IsDone h → (q : SegmentKeeps (now j))
      → q.history.rest ≡ []
  home_done j h at is q = let x = a j h at in (l.over (now j) q x.1.0 x.1.1 x.1.2 (x.1.3 is)).2

  taker_next : (j : ℕ) → HasReceiver c.views j → IsNext k.homes j
  taker_next j r = subst (λ n. IsNext k.homes n) r.3.1 ((k.fits r.0 r.1 r.2).takes r.3.0)

  module _ (t : OnlyReceiversTake c.views now k.homes) where
    -- one of its passes came back, and took something
    back_next : (j : ℕ) (h : Home T) → get_elem? k.homes j ≡ some h → (q : SegmentKeeps (now j)) (n : ℕ)
        → In n q.roll → (got_by n q.history ≡ [] → ⊥) → IsNext k.homes j
    back_next j h at q n here some_ =
        let b = t.back j h at in
        let m = account_of (now j) q n q.roll b.1.ends (l.back (now j) q b.0 b.1 b.2 b.3) here in
        let known : (i : ℕ) (x : Account T) → get_elem? (came_back h) i ≡ some x → (x.got ≡ []) ⊎ IsNext k.homes j =
        λ i x is. passed k.homes j k.all k.agrees.turn i x
        (ap (λ y. get_elem? y i) (sym (k.agrees.here j h at)) ∙ is) in
        let did : (m.1.got ≡ []) ⊎ IsNext k.homes j = ⊎_elim
        (λ same. known m.0 m.1 (ap (λ y. get_elem? y m.0) (sym same) ∙ m.2))
        (λ more. ⊎_elim
        (λ one. ⊎_elim (λ none. inl (ap (λ (x : Account T). x.got) (sym one) ∙ none))
        (λ r. inr (taker_next j r)) more.2)
        (λ r. known r.0 m.1 r.1)
        (first_or more.0 (came_back h) m.0 m.1 (ap (λ y. get_elem? y m.0) (sym more.1) ∙ m.2))) b.4 in
        ⊎_elim (λ none. absurd (some_ (sym m.3 ∙ none))) (λ next. next) did

    claimed_next : (j : ℕ) (h : Home T) → get_elem? k.homes j ≡ some h → 0 < claimed_in (now j) → IsNext k.homes j
    claimed_next j h at lt =
        let q = (a j h at).0 in
        let b = l.beginning (now j) q 0 lt in
        ⊎_elim
        (λ spent. back_next j h at q b.0.to ((q.fits b.0.to b.2.0 b.2.1).back spent).0
        (first_got q.history.claims b.0 b.1))
        (λ out. ⊎_elim (λ none. absurd (subst (λ x. Has 0 b.0.entry.value x) none.0 out.1)) (λ r. taker_next j r)
        (t.out j b.0.to b.2.0 (there k.homes j h at) (b.2.1, out.0)))
        b.2.2

    sleeps_next : (j : ℕ) (h : Home T) → get_elem? k.homes j ≡ some h → 0 < total_there sleeping (now j).views
        → IsNext k.homes j
    sleeps_next j h at lt =
        let q = (a j h at).0 in
        let s = some_sleeps (now j).views lt in
        let some_ = s.3 in
        ⊎_elim (λ none. let z = none.1 in absurd (omega arith)) (λ r. taker_next j r)
        (t.out j s.0 s.1 (there k.homes j h at) (s.2, l.debtor (now j) q s.0 s.1 s.2 (omega arith)))

    seen_next : (j : ℕ) → j < length k.homes → is_seen (have_come c j) (now j) ≡ true → IsNext k.homes j
    seen_next j lt seen =
        let h = some_at k.homes j lt in
        ⊎_elim (λ is. come_next c k now a j is)
        (λ is. let some_ = ltb-true 0 (claimed_in (now j) + total_there sleeping (now j).views) is in
        ⊎_elim (λ one. claimed_next j h.0 h.1 one)
        (λ none. sleeps_next j h.0 h.1 (omega arith)) (cases_lt 0 (claimed_in (now j))))
        (or_cases _ _ seen)

    turn_in : InTurn (segments_in k.homes (have_come c) now a)
    turn_in = in_turn k.homes (have_come c) now a
        (λ j lt. let o = k.leads j lt in home_over j o.0 o.1 o.2)
        (λ i lt seen j less q. let d = seen_next i lt seen j less in home_done j d.0 d.1 d.2 q)

  -- ---- the words of the channel
  ended_in : some_view knows_last c.views ≡ true
      → ((k.mark ≡ 0) ⊎ (total sends c.views ≡ 0)) × ((j : ℕ) → j < length k.homes → IsOver (now j))
  ended_in is = let x = the_view knows_last c.views is in go x.0 x.1 x.2 x.1.last refl x.3
    where
      go : (id : ℕ) (v : Knows T) → get_elem? c.views id ≡ some v → (o : Option ℕ) → v.last ≡ o → is_some o ≡ true
          → ((k.mark ≡ 0) ⊎ (total sends c.views ≡ 0)) × ((j : ℕ) → j < length k.homes → IsOver (now j))
      go id v at None e is = absurd (true≢false (sym is))
      go id v at (Some n) e is = let x = (k.told id v at).last n e in (
        x.1,
        λ j lt. let o = x.2 j (subst (λ m. j < m) x.0 lt) in home_over j o.0 o.1 o.2,
      )

  words_in : KeepsEnd (moment_of c k now a)
  words_in = record {
    told = λ is. (
        let b = and_parts (some_view knows_last c.views) (all_done k.homes) is in
        let e = ended_in b.0 in (
          (
            ⊎_elim (λ z. inl (eq-eqb k.mark 0 z)) (λ z. inr z) e.0,
            all_over k.homes (have_come c) now a e.1,
          ),
          all_empty k.homes (have_come c) now a (λ j lt q. let h = some_at k.homes j lt in
              home_done j h.0 h.1 (done_at k.homes b.1 j h.0 h.1) q),
        )
        );
    refused = λ is. (let x = the_view (λ v. v.shut) c.views is in
        inl (eq-eqb k.mark 0 ((k.told x.0 x.1 x.2).shut x.3)));
    ended = λ shut. ⊎_elim (λ is. inr (all_over k.homes (have_come c) now a (ended_in is).1))
        (λ untold. inl (closers untold (⊎_elim (λ z. inl (eqb-true k.mark 0 z)) (λ z. inr z) shut)))
        (cases_Bool (some_view knows_last c.views));
  }
    where
      counts : (id : ℕ) (v : Knows T) → get_elem? c.views id ≡ some v → knows_shut v ≡ true
          → 0 < total one_if_shut c.views
      counts id v at is = let low = below_total one_if_shut c.views id v at in
          let e : one_if_shut v ≡ 1 = ap (λ (b : Bool). if b then 1 else 0) is in omega arith

      closers : some_view knows_last c.views ≡ false → (k.mark ≡ 0) ⊎ (total sends c.views ≡ 0)
          → 0 < (moment_of c k now a).closers
      closers untold shut =
          let some_ : 0 < total one_if_shut c.views = ⊎_elim
          (λ z. let x = k.known.closer z in counts x.0 x.1 x.2 (or_left x.1.shut x.1.alone x.3))
          (λ z. let x = k.known.loner z in counts x.0 x.1 x.2 (or_right x.1.shut x.1.alone x.3)) shut in
          subst (λ (b : Bool). 0 < (if b then 0 else total one_if_shut c.views)) (sym untold) some_

  pub moment_keeps : OnlyReceiversTake c.views now k.homes → EachMoment (moment_of c k now a)
  moment_keeps t = each_moment (moment_of c k now a) (each_keeps l k.homes (have_come c) now a) (turn_in t) words_in
