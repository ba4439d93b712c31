-- The list and its segments make a whole life.
use Rattle.std.proofs.Common.{ℕ, zero, suc, Bool, true, false, true≢false, List, [], length, map, sym, refl, ap, subst, inl, inr, ⊎_elim, arith, eq-eqb, ne_eqb}
use Rattle.std.proofs.Common.{◌≡◌, ◌+◌, ◌<◌, ◌≤◌, ◌⊎◌, ◌∷◌, ◌++◌, ◌∙◌, if◌then◌else◌}
use mathlib.Core.Option.{some, some-injective, some-ne-none}
use lib.ListN.{get_elem?}
use native.Mathlib.Decide.{dec_lt, ℕ_discrete}
use Rattle.std.proofs.lemmas.List.{map-append}
use Rattle.mb_segment.specs.History as seg
use Rattle.mb_segment.specs.Vocabulary.{AllHeed, Heeds, In, IsWhole as IsToldWhole, hub_view}
use Rattle.mb_channel.specs.Types.{Account, Home, Knows, Position}
use Rattle.mb_channel.specs.ChannelTheorem.{Spot, TakenInTurn, left, taken}
use Rattle.mb_channel.specs.Homes.{AllMade, IsNext, IsWhole, Made, came_back, made_by, made_in}
use Rattle.mb_channel.specs.Segments.{drawn}
use Rattle.mb_channel.specs.Stays.{AreStays, Stay, Told, log_of, logs_of, moved_by}
use Rattle.mb_channel.specs.Lives.{HaveEnded, HaveLived, all_left, count_sent, end_in, placed, visits_of}
use Rattle.mb_channel.proofs.Accounts.{EachFalls, accounts, accounts_at, claim, entry, made_at, none_got, pos, stay, told}
use Rattle.mb_channel.proofs.Counts.{drawn_told}
use Rattle.mb_channel.proofs.Places.{all_rows, at_visit, falls_within, log_here, moved_placed, rows, spots_in, within}
use Rattle.mb_channel.proofs.Views.{made_map}
use Rattle.mb_channel.proofs.Visited.{AllVisits, all_behind, each_falls, made_heed, spots_called, visits_are, visits_made}
use Rattle.mb_channel.proofs.Theorems.{passes_are_ends}

module _ {T : Type 0} where
  -- ---- what the segments tell, from number k on
  abbrev Agree : ℕ → List (Made T) → List (Home T) → Type 0
  Agree k all hs = (j : ℕ) (h : Home T) → get_elem? hs j ≡ some h → came_back h ≡ made_in (k + j) all

  agree_here : (k : ℕ) (all : List (Made T)) (h : Home T) (hs : List (Home T)) → Agree k all (h ∷ hs)
      → came_back h ≡ accounts (made_at k all)
  agree_here k all h hs agree = let z : k + 0 ≡ k = omega arith in
      agree 0 h refl ∙ ap (λ i. made_in i all) z ∙ accounts_at k all

  agree_behind : (k : ℕ) (all : List (Made T)) (h : Home T) (hs : List (Home T)) → Agree k all (h ∷ hs)
      → Agree (suc k) all hs
  agree_behind k all h hs agree j g at = let z : k + suc j ≡ suc k + j = omega arith in
      agree (suc j) g at ∙ ap (λ i. made_in i all) z

  whole_here : (k : ℕ) (all : List (Made T)) (h : Home T) (hs : List (Home T)) (l : List T) → Agree k all (h ∷ hs)
      → IsToldWhole (came_back h) l → IsToldWhole (accounts (made_at k all)) l
  whole_here k all h hs l agree w = subst (λ xs. IsToldWhole xs l) (agree_here k all h hs agree) w

  abbrev tolds : (k : ℕ) (all : List (Made T)) → EachFalls all → (hs : List (Home T)) (ls : List (List T))
      → Agree k all hs → HaveEnded hs ls → List (Told T)
  tolds k all each [] ls agree ended = []
  tolds k all each (h ∷ hs) [] agree ended = []
  tolds k all each (h ∷ hs) (l ∷ ls) agree ended =
      told k all l each (whole_here k all h hs l agree ended.0)
      ∷ tolds (suc k) all each hs ls (agree_behind k all h hs agree) ended.2

  logs_rows : (f : Stay T → List (Spot T)) (g : Account T → List (Position T))
      → ((n : ℕ) (m : Made T) → f (stay n m) ≡ map pos (g m.visit.account))
      → (n k p : ℕ) (all : List (Made T)) (each : EachFalls all) (hs : List (Home T)) (ls : List (List T))
      → (agree : Agree k all hs) (ended : HaveEnded hs ls)
      → logs_of f n p (tolds k all each hs ls agree ended) ≡ rows g k p hs (made_by n all)
  logs_rows f g same n k p all each [] ls agree ended = refl
  logs_rows f g same n k p all each (h ∷ hs) [] agree ended = absurd ended
  logs_rows f g same n k p all each (h ∷ hs) (l ∷ ls) agree ended =
      let w = whole_here k all h hs l agree ended.0 in
      let t = told k all l each w in
      let part : map (moved_by p) (log_of f n t.stays) ≡ map (placed p) (at_visit g k (made_by n all)) =
      ap (map (moved_by p)) (log_here f g same n k w.history w.numbers all w.accounts_)
      ∙ moved_placed p (at_visit g k (made_by n all)) in
      let size : drawn t.history ≡ count_sent (came_back h) = drawn_told (accounts (made_at k all)) l w
      ∙ ap count_sent (sym (agree_here k all h hs agree)) in
      (λ i. part i ++ logs_rows f g same n (suc k) (p + drawn t.history) all each hs ls
      (agree_behind k all h hs agree) ended.2 i)
      ∙ ap (λ d. map (placed p) (at_visit g k (made_by n all)) ++ rows g (suc k) (p + d) hs (made_by n all)) size

  pub values_same : (es : List (seg.Entry T)) → seg.values es ≡ map (λ e. e.value) (map entry es)
  values_same [] = refl
  values_same (e ∷ es) = ap (λ l. e.value ∷ l) (values_same es)

  left_rows : (k : ℕ) (all : List (Made T)) (each : EachFalls all) (hs : List (Home T)) (ls : List (List T))
      → (agree : Agree k all hs) (ended : HaveEnded hs ls)
      → all_left ls ≡ map (λ e. e.value) (left (map (λ t. t.history) (tolds k all each hs ls agree ended)))
  left_rows k all each [] [] agree ended = refl
  left_rows k all each [] (l ∷ ls) agree ended = absurd ended
  left_rows k all each (h ∷ hs) [] agree ended = absurd ended
  left_rows k all each (h ∷ hs) (l ∷ ls) agree ended =
      let w = whole_here k all h hs l agree ended.0 in
      let behind = agree_behind k all h hs agree in
      (λ i. (w.left_is ∙ values_same w.history.rest) i ++ left_rows (suc k) all each hs ls behind ended.2 i)
      ∙ sym (map-append (λ e. e.value) (map entry w.history.rest)
      (left (map (λ t. t.history) (tolds (suc k) all each hs ls behind ended.2))))

  -- ---- taken in turn
  got_none : (whole : List (Home T)) (k : ℕ) (all : List (Made T))
      → AllMade (λ m. (m.visit.account.got ≡ []) ⊎ IsNext whole m.visit.segment) all → (IsNext whole k → ⊥)
      → (j : ℕ) (a : Account T) → get_elem? (accounts (made_at k all)) j ≡ some a → a.got ≡ []
  got_none whole k [] turn no_ j a at = absurd (some-ne-none a (sym at))
  got_none whole k (m ∷ ms) turn no_ j a at = go (λ j at. got_none whole k ms turn.1 no_ j a at)
      (ℕ_discrete m.visit.segment k)
    where
      on : ((j : ℕ) → get_elem? (accounts (made_at k ms)) j ≡ some a → a.got ≡ []) → m.visit.segment ≡ k
          → (j : ℕ) → get_elem? (accounts (m ∷ made_at k ms)) j ≡ some a → a.got ≡ []
      on rec e zero is = ap (λ (x : Account T). x.got) (sym (some-injective m.visit.account a is))
          ∙ ⊎_elim (λ q. q) (λ r. absurd (no_ (subst (λ i. IsNext whole i) e r))) turn.0
      on rec e (suc j) is = rec j is

      go : ((j : ℕ) → get_elem? (accounts (made_at k ms)) j ≡ some a → a.got ≡ []) → Dec (m.visit.segment ≡ k)
          → a.got ≡ []
      go rec (yes e) = on rec e j (subst (λ l. get_elem? (accounts l) j ≡ some a)
          (ap (λ (b : Bool). if b then m ∷ made_at k ms else made_at k ms) (eq-eqb m.visit.segment k e)) at)
      go rec (no e) = rec j (subst (λ l. get_elem? (accounts l) j ≡ some a)
          (ap (λ (b : Bool). if b then m ∷ made_at k ms else made_at k ms) (ne_eqb m.visit.segment k e)) at)

  no_claims : (xs : List (Account T)) (l : List T) (w : IsToldWhole xs l)
      → ((j : ℕ) (a : Account T) → get_elem? xs j ≡ some a → a.got ≡ []) → w.history.claims ≡ []
  no_claims xs l w none_ = go w.history.claims refl
    where
      got : (m : ℕ) → In m w.numbers → seg.got_by m w.history ≡ []
      got m is = none_got w.history w.numbers xs w.accounts_ none_ m is

      go : (cs : List (seg.Claim T)) → cs ≡ w.history.claims → cs ≡ []
      go [] e = refl
      go (c ∷ cs) e =
          let is = w.receivers 0 c (ap (λ l. get_elem? l 0) (sym e)) in
          let z : seg.spots_to c.to 0 (c ∷ cs) ≡ [] = ap (seg.spots_to c.to 0) e ∙ got c.to is in
          let y = ap (λ (b : Bool). if b then seg.spot 0 c.entry.value ∷ seg.spots_to c.to 1 cs
          else seg.spots_to c.to 1 cs) (eq-eqb c.to c.to refl) in
          let n = ap length (sym y ∙ z) in absurd (omega arith)

  none_taken : (whole : List (Home T)) (k : ℕ) (all : List (Made T)) (each : EachFalls all) (hs : List (Home T))
      (ls : List (List T)) (agree : Agree k all hs) (ended : HaveEnded hs ls)
      → AllMade (λ m. (m.visit.account.got ≡ []) ⊎ IsNext whole m.visit.segment) all
      → ((m : ℕ) → k ≤ m → IsNext whole m → ⊥)
      → taken (map (λ t. t.history) (tolds k all each hs ls agree ended)) ≡ []
  none_taken whole k all each [] ls agree ended turn none_next = refl
  none_taken whole k all each (h ∷ hs) [] agree ended turn none_next = refl
  none_taken whole k all each (h ∷ hs) (l ∷ ls) agree ended turn none_next =
      let w = whole_here k all h hs l agree ended.0 in
      let got = got_none whole k all turn (none_next k (omega arith)) in
      let none_ = no_claims (accounts (made_at k all)) l w got in
      λ i. map claim (none_ i) ++ none_taken whole (suc k) all each hs ls (agree_behind k all h hs agree) ended.2 turn
      (λ m le. none_next m (omega arith)) i

  no_values : (es : List (seg.Entry T)) → seg.values es ≡ [] → map entry es ≡ []
  no_values [] e = refl
  no_values (x ∷ es) e = let n = ap length e in absurd (omega arith)

  turn_rows : (whole : List (Home T)) (k : ℕ) (all : List (Made T)) (each : EachFalls all) (hs : List (Home T))
      (ls : List (List T)) (agree : Agree k all hs) (ended : HaveEnded hs ls)
      → AllMade (λ m. (m.visit.account.got ≡ []) ⊎ IsNext whole m.visit.segment) all
      → ((j : ℕ) → get_elem? whole (k + j) ≡ get_elem? hs j)
      → TakenInTurn (map (λ t. t.history) (tolds k all each hs ls agree ended))
  turn_rows whole k all each [] ls agree ended turn here = tt
  turn_rows whole k all each (h ∷ hs) [] agree ended turn here = absurd ended
  turn_rows whole k all each (h ∷ hs) (l ∷ ls) agree ended turn here = (
    go (hub_view h.hub).over refl,
    turn_rows whole (suc k) all each hs ls behind ended.2 turn here_behind,
  )
    where
      here_behind : (j : ℕ) → get_elem? whole (suc k + j) ≡ get_elem? hs j
      here_behind j = let z : suc k + j ≡ k + suc j = omega arith in ap (get_elem? whole) z ∙ here (suc j)

      behind : Agree (suc k) all hs
      behind = agree_behind k all h hs agree

      w : IsToldWhole (accounts (made_at k all)) l
      w = whole_here k all h hs l agree ended.0

      go : (b : Bool) → (hub_view h.hub).over ≡ b
          → (map entry w.history.rest ≡ [])
          ⊎ (taken (map (λ t. t.history) (tolds (suc k) all each hs ls behind ended.2)) ≡ [])
      go true is = inl (no_values w.history.rest (sym w.left_is ∙ ended.1 is))
      go false is = inr (none_taken whole (suc k) all each hs ls behind ended.2 turn
          (λ m le next. let d = next k (omega arith) in let z : k ≡ k + 0 = omega arith in
          let same = some-injective d.0 h (sym d.1 ∙ ap (get_elem? whole) z ∙ here 0) in
          true≢false (sym d.2 ∙ ap (λ (x : Home T). (hub_view x.hub).over) same ∙ is)))

  -- ---- each visit heeds what was known
  segments_heed : (hs : List (Home T)) (ls : List (List T)) → HaveEnded hs ls → (k : ℕ) (h : Home T)
      → get_elem? hs k ≡ some h → AllHeed (came_back h)
  segments_heed [] ls ended k h at = absurd (some-ne-none h (sym at))
  segments_heed (g ∷ hs) [] ended k h at = absurd ended
  segments_heed (g ∷ hs) (l ∷ ls) ended zero h at =
      subst (λ (x : Home T). AllHeed (came_back x)) (some-injective g h at) ended.0.heeds
  segments_heed (g ∷ hs) (l ∷ ls) ended (suc k) h at = segments_heed hs ls ended.2 k h at

  pub is_there : (hs : List (Home T)) (k : ℕ) → k < length hs → (h : Home T) × (get_elem? hs k ≡ some h)
  is_there [] k lt = absurd (omega arith)
  is_there (h ∷ hs) zero lt = (h, refl)
  is_there (h ∷ hs) (suc k) lt = is_there hs k (omega arith)

  pub each_heeds : (v : Knows T) (hs : List (Home T)) (ls : List (List T)) (w : IsWhole v hs) → HaveEnded hs ls
      → (k : ℕ) → AllHeed (made_in k w.all)
  each_heeds v hs ls w ended k = go (dec_lt k (length hs))
    where
      go : Dec (k < length hs) → AllHeed (made_in k w.all)
      go (yes lt) = let h = is_there hs k lt in
          subst (λ l. AllHeed l) (w.agrees.here k h.0 h.1) (segments_heed hs ls ended k h.0 h.1)
      go (no far) = subst (λ l. AllHeed l) (sym (w.agrees.none_behind k (omega arith))) tt

  -- ---- the whole life
  spots_are : (f : Stay T → List (Spot T)) (g : Account T → List (Position T))
      → ((n : ℕ) (m : Made T) → f (stay n m) ≡ map pos (g m.visit.account))
      → (v : Knows T) (hs : List (Home T)) (ls : List (List T)) (w : IsWhole v hs) (ended : HaveEnded hs ls)
      → (agree : Agree 0 w.all hs) (n : ℕ)
      → spots_in g hs (visits_of n v) ≡ logs_of f n 0 (tolds 0 w.all (each_falls v hs w) hs ls agree ended)
  spots_are f g same v hs ls w ended agree n =
      let each = each_falls v hs w in
      let low = within (length hs) w.all w.agrees.none_behind in
      let falls = falls_within (each n).0 (length hs) n w.all low (each n).1 in
      ap (spots_in g hs) (visits_are v hs w n) ∙ all_rows g hs (made_by n w.all) falls
      ∙ sym (logs_rows f g same n 0 0 w.all each hs ls agree ended)

  pub have_lived : (v : Knows T) (hs : List (Home T)) (ls : List (List T)) → IsWhole v hs → HaveEnded hs ls
      → HaveLived (end_in v hs) (all_left ls)
  have_lived v hs ls w ended =
      let each = each_falls v hs w in
      let agree : Agree 0 w.all hs = λ j h at. (let z : j ≡ 0 + j = omega arith in
      w.agrees.here j h at ∙ ap (λ i. made_in i w.all) z) in
      let ts = tolds 0 w.all each hs ls agree ended in
      let heed = made_heed w.all (each_heeds v hs ls w ended) in
      let sent : (n : ℕ) → AllVisits (λ a. Heeds a.sent a.sent_knew) (visits_of n v) = λ n. subst
      (λ l. AllVisits (λ a. Heeds a.sent a.sent_knew) l) (sym (visits_are v hs w n))
      (visits_made (λ a. Heeds a.sent a.sent_knew) n w.all (made_map
      (λ m. Heeds m.visit.account.sent m.visit.account.sent_knew × Heeds m.visit.account.got m.visit.account.got_knew)
      (λ m. Heeds m.visit.account.sent m.visit.account.sent_knew) w.all (λ m x. x.0) heed)) in
      let got : (n : ℕ) → AllVisits (λ a. Heeds a.got a.got_knew) (visits_of n v) = λ n. subst
      (λ l. AllVisits (λ a. Heeds a.got a.got_knew) l) (sym (visits_are v hs w n))
      (visits_made (λ a. Heeds a.got a.got_knew) n w.all (made_map
      (λ m. Heeds m.visit.account.sent m.visit.account.sent_knew × Heeds m.visit.account.got m.visit.account.got_knew)
      (λ m. Heeds m.visit.account.got m.visit.account.got_knew) w.all (λ m x. x.1) heed)) in
      let a : AreStays ts (end_in v hs) (all_left ls) = record {
        sends = λ n. spots_called (λ a. a.sent) (λ a. a.sent_knew) hs (visits_of n v) (sent n)
            ∙ spots_are (λ s. s.sent) (λ a. a.sent) (λ n m. refl) v hs ls w ended agree n;
        after = λ n. all_behind (λ a. a.sent) (λ a. a.sent_knew) hs (visits_of n v) (sent n);
        takes = λ n. spots_called (λ a. a.got) (λ a. a.got_knew) hs (visits_of n v) (got n)
            ∙ spots_are (λ s. s.got) (λ a. a.got) (λ n m. refl) v hs ls w ended agree n;
        later = λ n. all_behind (λ a. a.got) (λ a. a.got_knew) hs (visits_of n v) (got n);
        rest = left_rows 0 w.all each hs ls agree ended;
        turn = turn_rows hs 0 w.all each hs ls agree ended w.agrees.turn
            (λ j. let z : 0 + j ≡ j = omega arith in ap (get_elem? hs) z);
      } in
      (ts, a, passes_are_ends ts (end_in v hs) (all_left ls) a)
