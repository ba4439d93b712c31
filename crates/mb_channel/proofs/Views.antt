-- Sums over views, and lists of visits.
use Rattle.std.proofs.Common.{ℕ, zero, suc, Bool, true, false, List, [], length, nat_eq, sym, refl, ap, inl, inr, ⊎_elim, arith, eq-eqb, ne_eqb}
use Rattle.std.proofs.Common.{◌≡◌, ◌≢◌, ◌+◌, ◌<◌, ◌≤◌, ◌⊎◌, ◌∷◌, ◌++◌, ◌∙◌, if◌then◌else◌}
use Rattle.std.specs.Prelude.{slice_set}
use mathlib.Core.Option.{some, some-injective, some-ne-none}
use lib.ListN.{get_elem?}
use native.Mathlib.Decide.{ℕ_discrete}
use Rattle.mb_channel.specs.Types.{Knows, Past}
use Rattle.mb_channel.specs.Homes.{AllMade, AllPast, Made, how_many, is_in, made_by, made_in, past_count, total}

pub not_true : (b : Bool) → (b ≡ true → ⊥) → b ≡ false
not_true true n = absurd (n refl)
not_true false n = refl

module _ {A : Type 0} where
  pub size_set : (l : List A) (i : ℕ) (w : A) → length (slice_set l i w) ≡ length l
  size_set [] i w = refl
  size_set (x ∷ xs) zero w = refl
  size_set (x ∷ xs) (suc i) w = let r = size_set xs i w in omega arith

  pub size_snoc : (l : List A) (w : A) → length (l ++ w ∷ []) ≡ length l + 1
  size_snoc [] w = refl
  size_snoc (x ∷ xs) w = let r = size_snoc xs w in omega arith

  pub there : (l : List A) (i : ℕ) (v : A) → get_elem? l i ≡ some v → i < length l
  there [] i v at = absurd (some-ne-none v (sym at))
  there (x ∷ xs) zero v at = omega arith
  there (x ∷ xs) (suc i) v at = let r = there xs i v at in omega arith

  pub snoc_cases : (l : List A) (a b : A) (j : ℕ) → get_elem? (l ++ a ∷ []) j ≡ some b
      → (get_elem? l j ≡ some b) ⊎ ((j ≡ length l) × (a ≡ b))
  snoc_cases [] a b zero e = inr (refl, some-injective a b e)
  snoc_cases [] a b (suc j) e = absurd (some-ne-none b (sym e))
  snoc_cases (x ∷ xs) a b zero e = inl e
  snoc_cases (x ∷ xs) a b (suc j) e = ⊎_elim (λ t. inl t) (λ t. let i = t.0 in inr (omega arith, t.1))
      (snoc_cases xs a b j e)

module _ {T : Type 0} where
  pub total_set : (f : Knows T → ℕ) (views : List (Knows T)) (id : ℕ) (v w : Knows T) → get_elem? views id ≡ some v
      → total f (slice_set views id w) + f v ≡ total f views + f w
  total_set f [] id v w at = absurd (some-ne-none v (sym at))
  total_set f (x ∷ xs) zero v w at = let e : f x ≡ f v = ap f (some-injective x v at) in omega arith
  total_set f (x ∷ xs) (suc id) v w at = let r = total_set f xs id v w at in omega arith

  pub total_snoc : (f : Knows T → ℕ) (views : List (Knows T)) (w : Knows T) → total f
      (views ++ w ∷ []) ≡ total f views + f w
  total_snoc f [] w = omega arith
  total_snoc f (x ∷ xs) w = let r = total_snoc f xs w in omega arith

  pub below_total : (f : Knows T → ℕ) (views : List (Knows T)) (id : ℕ) (v : Knows T) → get_elem? views id ≡ some v
      → f v ≤ total f views
  below_total f [] id v at = absurd (some-ne-none v (sym at))
  below_total f (x ∷ xs) zero v at = let e : f x ≡ f v = ap f (some-injective x v at) in omega arith
  below_total f (x ∷ xs) (suc id) v at = let r = below_total f xs id v at in omega arith

  pub two_below : (f : Knows T → ℕ) (views : List (Knows T)) (i j : ℕ) (v w : Knows T) → i ≢ j
      → get_elem? views i ≡ some v → get_elem? views j ≡ some w → f v + f w ≤ total f views
  two_below f [] i j v w ne at at' = absurd (some-ne-none v (sym at))
  two_below f (x ∷ xs) zero zero v w ne at at' = absurd (ne refl)
  two_below f (x ∷ xs) zero (suc j) v w ne at at' =
      let e : f x ≡ f v = ap f (some-injective x v at) in let r = below_total f xs j w at' in omega arith
  two_below f (x ∷ xs) (suc i) zero v w ne at at' =
      let e : f x ≡ f w = ap f (some-injective x w at') in let r = below_total f xs i v at in omega arith
  two_below f (x ∷ xs) (suc i) (suc j) v w ne at at' = let r = two_below f xs i j v w (λ e. ne (ap suc e)) at at'
      in omega arith

  pub all_zero : (f : Knows T → ℕ) (views : List (Knows T))
      → ((j : ℕ) (u : Knows T) → get_elem? views j ≡ some u → f u ≡ 0) → total f views ≡ 0
  all_zero f [] zeros = refl
  all_zero f (x ∷ xs) zeros = let e = zeros 0 x refl in let r = all_zero f xs (λ j u at. zeros (suc j) u at)
      in omega arith

  -- the sum is one view's number, if it is 0 of each other one
  pub only : (f : Knows T → ℕ) (views : List (Knows T)) (id : ℕ) (v : Knows T) → get_elem? views id ≡ some v
      → ((j : ℕ) (u : Knows T) → j ≢ id → get_elem? views j ≡ some u → f u ≡ 0) → total f views ≡ f v
  only f [] id v at zeros = absurd (some-ne-none v (sym at))
  only f (x ∷ xs) zero v at zeros = let e : f x ≡ f v = ap f (some-injective x v at) in
      let r = all_zero f xs (λ j u at'. zeros (suc j) u (λ q. omega arith) at') in omega arith
  only f (x ∷ xs) (suc id) v at zeros = let e = zeros 0 x (λ q. omega arith) refl in
      let r = only f xs id v at (λ j u ne at'. zeros (suc j) u (λ q. ne (omega arith)) at') in omega arith

  -- who has a pass of segment k
  pub in_here : (v : Knows T) (k : ℕ) → v.inside ≡ true → v.at ≡ k → is_in k v ≡ 1
  in_here v k is e = ap (λ (b : Bool). if b then (if nat_eq v.at k then 1 else 0) else 0) is
      ∙ ap (λ (b : Bool). if b then 1 else 0) (eq-eqb v.at k e)

  pub in_none : (v : Knows T) (k : ℕ) → v.inside ≡ false → is_in k v ≡ 0
  in_none v k is = ap (λ (b : Bool). if b then (if nat_eq v.at k then 1 else 0) else 0) is

  pub in_else : (v : Knows T) (k : ℕ) → v.at ≢ k → is_in k v ≡ 0
  in_else v k ne = go v.inside
    where
      go : (b : Bool) → ◌≡◌ {A = ℕ} (if b then (if nat_eq v.at k then 1 else 0) else 0) 0
      go true = ap (λ (b : Bool). if b then 1 else 0) (ne_eqb v.at k ne)
      go false = refl

  pub past_map : (P Q : Past T → Type 0) (ps : List (Past T)) → ((p : Past T) → P p → Q p) → AllPast P ps → AllPast Q ps
  past_map P Q [] f a = tt
  past_map P Q (p ∷ ps) f a = (f p a.0, past_map P Q ps f a.1)

  pub past_append : (P : Past T → Type 0) (xs ys : List (Past T)) → AllPast P xs → AllPast P ys → AllPast P (xs ++ ys)
  past_append P [] ys a b = b
  past_append P (x ∷ xs) ys a b = (a.0, past_append P xs ys a.1 b)

  pub past_count_append : (f : ℕ → ℕ) (xs ys : List (Past T)) → past_count f
      (xs ++ ys) ≡ past_count f xs + past_count f ys
  past_count_append f [] ys = omega arith
  past_count_append f (x ∷ xs) ys = let r = past_count_append f xs ys in omega arith

  pub how_many_append : (n : ℕ) (xs ys : List (Past T)) → how_many n (xs ++ ys) ≡ how_many n xs + how_many n ys
  how_many_append n [] ys = omega arith
  how_many_append n (x ∷ xs) ys = let r = how_many_append n xs ys in omega arith

  pub none_many : (n : ℕ) (ps : List (Past T)) → AllPast (λ p. p.number ≢ n) ps → how_many n ps ≡ 0
  none_many n [] a = refl
  none_many n (p ∷ ps) a = let r = none_many n ps a.1 in
      (λ i. (if ne_eqb p.number n a.0 i then 1 else 0) + r i)

  -- one more of them, of whose number there was none
  pub once_more : (p : Past T) (n old new : ℕ) → new ≡ (if nat_eq p.number n then 1 else 0) + old → old ≤ 1
      → (p.number ≡ n → old ≡ 0) → new ≤ 1
  once_more p n old new e one none_ = go (ℕ_discrete p.number n)
    where
      go : Dec (p.number ≡ n) → new ≤ 1
      go (yes q) = let z = none_ q in
          let x : new ≡ 1 + old = e ∙ ap (λ (b : Bool). (if b then 1 else 0) + old) (eq-eqb p.number n q) in omega arith
      go (no q) =
          let x : new ≡ 0 + old = e ∙ ap (λ (b : Bool). (if b then 1 else 0) + old) (ne_eqb p.number n q) in omega arith

  pub made_map : (P Q : Made T → Type 0) (ms : List (Made T)) → ((m : Made T) → P m → Q m) → AllMade P ms → AllMade Q ms
  made_map P Q [] f a = tt
  made_map P Q (m ∷ ms) f a = (f m a.0, made_map P Q ms f a.1)

  -- one more visit, by its end, by another, in its segment, in another
  pub by_own : (m : Made T) (all : List (Made T)) → made_by m.by (m ∷ all) ≡ m.visit ∷ made_by m.by all
  by_own m all = ap (λ (b : Bool). if b then m.visit ∷ made_by m.by all else made_by m.by all) (eq-eqb m.by m.by refl)

  pub by_other : (n : ℕ) (m : Made T) (all : List (Made T)) → n ≢ m.by → made_by n (m ∷ all) ≡ made_by n all
  by_other n m all ne = ap (λ (b : Bool). if b then m.visit ∷ made_by n all else made_by n all) (ne_eqb m.by n
      (λ e. ne (sym e)))

  pub in_own : (k : ℕ) (m : Made T) (all : List (Made T)) → m.visit.segment ≡ k → made_in k
      (m ∷ all) ≡ m.visit.account ∷ made_in k all
  in_own k m all e = ap (λ (b : Bool). if b then m.visit.account ∷ made_in k all else made_in k all)
      (eq-eqb m.visit.segment k e)

  pub in_other : (k : ℕ) (m : Made T) (all : List (Made T)) → m.visit.segment ≢ k → made_in k (m ∷ all) ≡ made_in k all
  in_other k m all ne = ap (λ (b : Bool). if b then m.visit.account ∷ made_in k all else made_in k all)
      (ne_eqb m.visit.segment k ne)
