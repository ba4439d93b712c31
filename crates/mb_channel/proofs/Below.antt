-- The positions of all calls are below the number that was sent in their segment.
use Rattle.std.proofs.Common.{ℕ, zero, suc, Bool, true, false, List, [], length, nat_eq, sym, ap, subst, arith, eq-eqb, ne_eqb}
use Rattle.std.proofs.Common.{◌≡◌, ◌<◌, ◌≤◌, ◌+◌, ◌∷◌, ◌++◌, ◌∙◌, if◌then◌else◌, refl}
use mathlib.Core.Option.{some, some-injective, some-ne-none}
use lib.ListN.{get_elem?}
use native.Mathlib.Decide.{dec_lt, ℕ_discrete}
use Rattle.std.proofs.lemmas.List.{length-map}
use Rattle.mb_segment.specs.History as seg
use Rattle.mb_segment.specs.Heard.{Below}
use Rattle.mb_segment.specs.Passes.{Match}
use Rattle.mb_segment.specs.Whole.{IsWhole as IsToldWhole}
use Rattle.mb_channel.specs.Types.{Account, Home, Knows, Visit}
use Rattle.mb_channel.specs.Homes.{AllMade, IsWhole, Made, came_back, made_by, made_in}
use Rattle.mb_channel.specs.Lives.{HaveEnded, count_sent}
use Rattle.mb_channel.proofs.Accounts.{all_same, entry}
use Rattle.mb_channel.proofs.Counts.{drawn_told}
use Rattle.mb_channel.proofs.Lives.{is_there}

module _ {T : Type 0} where
  -- ---- positions are below the number that was sent
  by_below : (n p b : ℕ) (es : List (seg.Entry T)) → p + length es ≤ b → Below b (seg.spots_by n p es)
  by_below n p b [] le = tt
  by_below n p b (e ∷ es) le = go (nat_eq e.by n) (by_below n (suc p) b es (omega arith))
    where
      go : (c : Bool) → Below b (seg.spots_by n (suc p) es)
          → Below b (if c then seg.spot p e.value ∷ seg.spots_by n (suc p) es else seg.spots_by n (suc p) es)
      go true rec = (omega arith, rec)
      go false rec = rec

  to_below : (n p b : ℕ) (cs : List (seg.Claim T)) → p + length cs ≤ b → Below b (seg.spots_to n p cs)
  to_below n p b [] le = tt
  to_below n p b (c ∷ cs) le = go (nat_eq c.to n) (to_below n (suc p) b cs (omega arith))
    where
      go : (d : Bool) → Below b (seg.spots_to n (suc p) cs)
          → Below b (if d then seg.spot p c.entry.value ∷ seg.spots_to n (suc p) cs else seg.spots_to n (suc p) cs)
      go true rec = (omega arith, rec)
      go false rec = rec

  claims_in : (cs : List (seg.Claim T)) (es : List (seg.Entry T)) → length cs ≤ length (seg.entries cs ++ es)
  claims_in [] es = omega arith
  claims_in (c ∷ cs) es = let r = claims_in cs es in omega arith

  abbrev IsBelow : ℕ → Account T → Type 0
  IsBelow b a = Below b a.sent × Below b a.got

  abbrev AllOf : (Account T → Type 0) → List (Account T) → Type 0
  AllOf P [] = Unit {0}
  AllOf P (a ∷ rest) = P a × AllOf P rest

  matched : (h : seg.History T) (b : ℕ) (ns : List ℕ) (xs : List (Account T)) → Match h ns xs
      → length (seg.all_entries h) ≤ b → length h.claims ≤ b → AllOf (IsBelow b) xs
  matched h b [] [] is le lt = tt
  matched h b [] (a ∷ xs) is le lt = absurd is
  matched h b (n ∷ ns) [] is le lt = absurd is
  matched h b (n ∷ ns) (a ∷ xs) is le lt = (
    (
      subst (Below b) (sym is.0) (by_below n 0 b (seg.all_entries h) (omega arith)),
      subst (Below b) (sym is.1) (to_below n 0 b h.claims (omega arith)),
    ),
    matched h b ns xs is.3 le lt,
  )

  told_below : (xs : List (Account T)) (left : List T) → IsToldWhole xs left → AllOf (IsBelow (count_sent xs)) xs
  told_below xs left w =
      let e : length (seg.all_entries w.history) ≡ count_sent xs =
      sym (length-map (seg.all_entries w.history) entry) ∙ ap length (all_same w.history) ∙ drawn_told xs left w in
      let c = claims_in w.history.claims w.history.rest in
      matched w.history (count_sent xs) w.numbers xs w.accounts_ (omega arith) (omega arith)

  -- how many values were sent in segment k
  abbrev pub size : List (Home T) → ℕ → ℕ
  size [] k = 0
  size (h ∷ hs) zero = count_sent (came_back h)
  size (h ∷ hs) (suc k) = size hs k

  segments_below : (hs : List (Home T)) (ls : List (List T)) → HaveEnded hs ls → (k : ℕ) (h : Home T)
      → get_elem? hs k ≡ some h → AllOf (IsBelow (size hs k)) (came_back h)
  segments_below [] ls ended k h at = absurd (some-ne-none h (sym at))
  segments_below (g ∷ hs) [] ended k h at = absurd ended
  segments_below (g ∷ hs) (l ∷ ls) ended zero h at =
      subst (λ (x : Home T). AllOf (IsBelow (count_sent (came_back g))) (came_back x)) (some-injective g h at)
      (told_below (came_back g) l ended.0)
  segments_below (g ∷ hs) (l ∷ ls) ended (suc k) h at = segments_below hs ls ended.2 k h at

  each_below : (v : Knows T) (hs : List (Home T)) (ls : List (List T)) (w : IsWhole v hs) → HaveEnded hs ls
      → (k : ℕ) → AllOf (IsBelow (size hs k)) (made_in k w.all)
  each_below v hs ls w ended k = go (dec_lt k (length hs))
    where
      go : Dec (k < length hs) → AllOf (IsBelow (size hs k)) (made_in k w.all)
      go (yes lt) = let h = is_there hs k lt in subst (AllOf (IsBelow (size hs k))) (w.agrees.here k h.0 h.1)
          (segments_below hs ls ended k h.0 h.1)
      go (no far) = subst (AllOf (IsBelow (size hs k))) (sym (w.agrees.none_behind k (omega arith))) tt

  -- ---- of each visit
  abbrev pub VisitIsBelow : List (Home T) → Visit T → Type 0
  VisitIsBelow hs v = IsBelow (size hs v.segment) v.account

  made_below : (hs : List (Home T)) (all : List (Made T)) → ((k : ℕ) → AllOf (IsBelow (size hs k)) (made_in k all))
      → AllMade (λ m. VisitIsBelow hs m.visit) all
  made_below hs [] each = tt
  made_below hs (m ∷ ms) each = ((own m.visit.segment refl).0, made_below hs ms behind)
    where
      own : (k : ℕ) → m.visit.segment ≡ k → AllOf (IsBelow (size hs k)) (m.visit.account ∷ made_in k ms)
      own k e = subst (AllOf (IsBelow (size hs k)))
          (ap (λ (b : Bool). if b then m.visit.account ∷ made_in k ms else made_in k ms)
          (eq-eqb m.visit.segment k e)) (each k)

      behind : (k : ℕ) → AllOf (IsBelow (size hs k)) (made_in k ms)
      behind k = go (ℕ_discrete m.visit.segment k)
        where
          go : Dec (m.visit.segment ≡ k) → AllOf (IsBelow (size hs k)) (made_in k ms)
          go (yes e) = (own k e).1
          go (no e) = subst (AllOf (IsBelow (size hs k)))
              (ap (λ (b : Bool). if b then m.visit.account ∷ made_in k ms else made_in k ms)
              (ne_eqb m.visit.segment k e)) (each k)

  abbrev pub EachVisit : (Visit T → Type 0) → List (Visit T) → Type 0
  EachVisit P [] = Unit {0}
  EachVisit P (v ∷ vs) = P v × EachVisit P vs

  by_one : (P : Visit T → Type 0) (n : ℕ) (all : List (Made T)) → AllMade (λ m. P m.visit) all
      → EachVisit P (made_by n all)
  by_one P n [] fit = tt
  by_one P n (m ∷ ms) fit = go (nat_eq m.by n) (by_one P n ms fit.1)
    where
      go : (b : Bool) → EachVisit P (made_by n ms)
          → EachVisit P (if b then m.visit ∷ made_by n ms else made_by n ms)
      go true rec = (fit.0, rec)
      go false rec = rec

  pub visits_below : (v : Knows T) (hs : List (Home T)) (ls : List (List T)) (w : IsWhole v hs) → HaveEnded hs ls
      → (n : ℕ) → EachVisit (VisitIsBelow hs) (made_by n w.all)
  visits_below v hs ls w ended n =
      by_one (VisitIsBelow hs) n w.all (made_below hs w.all (each_below v hs ls w ended))

  pub each_part : (P Q : Visit T → Type 0) (vs : List (Visit T)) → ((v : Visit T) → P v → Q v) → EachVisit P vs
      → EachVisit Q vs
  each_part P Q [] part fit = tt
  each_part P Q (v ∷ vs) part fit = (part v fit.0, each_part P Q vs part fit.1)
