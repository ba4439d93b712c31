-- Items at chosen positions, and the last number below a bound that passes a test.
use Rattle.std.proofs.Common.{◌≡◌, ◌⊎◌, ℕ, zero, suc, ◌<◌, ◌≤◌, Bool, true, false, not, ◌||◌, cond, List, [], ◌∷◌, length, Option, Some, None, refl, sym, inl, inr, arith}
use Rattle.std.proofs.lemmas.Bool.{cases_eq}
use Rattle.std.specs.Prelude.{slice_get}
use Rattle.std.specs.Option.{is_none}
use Rattle.std.specs.List.{filter_map}
use Rattle.mb_world.specs.declared.report.Note.{Note}
use Rattle.mb_world.specs.declared.report.Note.TheVariants.{Took, Lost, Undecided}
use Rattle.mb_world.specs.Theorem.{item_taken, items_where}
use Rattle.mb_world.specs.Reporting.{is_took, any_below}

-- two tests that agree choose the same items
pub items_where-same : (f g : ℕ → Bool) (xs : List ℕ) → ((j : ℕ) → f j ≡ g j) → items_where f xs ≡ items_where g xs
items_where-same f g [] h = refl
items_where-same f g (x ∷ xs) h =
    rw (h 0, items_where-same (λ j. f (suc j)) (λ j. g (suc j)) xs (λ j. h (suc j))) refl

-- a test that never passes chooses none
pub items_where-none : (f : ℕ → Bool) (xs : List ℕ) → ((j : ℕ) → f j ≡ false) → items_where f xs ≡ []
items_where-none f [] h = refl
items_where-none f (x ∷ xs) h = rw (h 0) (items_where-none (λ j. f (suc j)) xs (λ j. h (suc j)))

-- what passes `is_took` is a note that an item was taken
pub is_took-at : (o : Option Note) → is_took o ≡ true → (x : ℕ) × (o ≡ Some (Took x))
is_took-at None e = absurd (cc)
is_took-at (Some (Took x)) e = (x, refl)
is_took-at (Some (Lost w)) e = absurd (cc)
is_took-at (Some Undecided) e = absurd (cc)

-- if each note of an item taken has the item at its position, the items of these notes are those at their positions
pub taken-items_where : (ns : List Note) (xs : List ℕ) (f : ℕ → Bool) → length ns ≤ length xs
    → ((j : ℕ) → f j ≡ is_took (slice_get ns j))
    → ((j x : ℕ) → slice_get ns j ≡ Some (Took x) → slice_get xs j ≡ Some x)
    → filter_map item_taken ns ≡ items_where f xs
taken-items_where [] xs f fits h v = sym (items_where-none f xs (λ j. h j))
taken-items_where (n ∷ ns) [] f fits h v = absurd (omega arith)
taken-items_where (Took y ∷ ns) (x ∷ xs) f fits h v =
    let same : Some y ≡ Some x = sym (v 0 y refl) in
    let e : y ≡ x = cc in
    let rest = taken-items_where ns xs (λ j. f (suc j)) (omega arith) (λ j. h (suc j)) (λ j z. v (suc j) z) in
    rw (h 0, e, rest) refl
taken-items_where (Lost w ∷ ns) (x ∷ xs) f fits h v =
    let rest = taken-items_where ns xs (λ j. f (suc j)) (omega arith) (λ j. h (suc j)) (λ j z. v (suc j) z) in
    rw (h 0, rest) refl
taken-items_where (Undecided ∷ ns) (x ∷ xs) f fits h v =
    let rest = taken-items_where ns xs (λ j. f (suc j)) (omega arith) (λ j. h (suc j)) (λ j z. v (suc j) z) in
    rw (h 0, rest) refl

-- ---- the last number below n that passes the test
-- the last number below the bound that passes the test, if one does
abbrev pub last_below : ℕ → (ℕ → Bool) → Option ℕ
last_below zero f = None
last_below (suc n) f = cond (f n) (Some n) (last_below n f)

-- if a number found below n is below n and passes, a number found below n + 1 is below n + 1 and passes
at_top : (n : ℕ) (f : ℕ → Bool) (c : ℕ) → (last_below n f ≡ Some c → (c < n) × (f c ≡ true)) → (b : Bool) → f n ≡ b
    → cond b (Some n) (last_below n f) ≡ Some c → (c < suc n) × (f c ≡ true)
at_top n f c below true h k = let same : n ≡ c = cc in (omega arith, rw (← same) h)
at_top n f c below false h k = let b = below k in (omega arith, b.1)

-- the number found is below n and passes
pub last_below-at : (n : ℕ) (f : ℕ → Bool) (c : ℕ) → last_below n f ≡ Some c → (c < n) × (f c ≡ true)
last_below-at zero f c e = absurd (cc)
last_below-at (suc n) f c e = at_top n f c (last_below-at n f c) (f n) refl e

-- let a number be found below n if one passes there. Then one is found below n + 1 if one passes below n + 1
some_top : (n : ℕ) (f : ℕ → Bool) (c : ℕ) → (c < n → (d : ℕ) × (last_below n f ≡ Some d)) → c < suc n → f c ≡ true
    → (b : Bool) → f n ≡ b → (d : ℕ) × (cond b (Some n) (last_below n f) ≡ Some d)
some_top n f c below h e true k = (n, refl)
some_top n f c below h e false k = below (apart (cases_eq c n))
  where
    apart : (c ≡ n) ⊎ (c ≡ n → ⊥) → c < n
    apart (inl same) = absurd (let e2 : f n ≡ true = rw (← same) e in cc)
    apart (inr other) = omega arith

-- if one number below n passes, one is found
pub last_below-some : (n : ℕ) (f : ℕ → Bool) (c : ℕ) → c < n → f c ≡ true → (d : ℕ) × (last_below n f ≡ Some d)
last_below-some zero f c h e = absurd (omega arith)
last_below-some (suc n) f c h e = some_top n f c (λ below. last_below-some n f c below e) h e (f n) refl

-- if below n no number is found exactly if none passes, the same holds below n + 1
none_top : (b : Bool) (o : Option ℕ) (n : ℕ) (a : Bool) → is_none o ≡ not a → is_none (cond b (Some n) o) ≡ not (b || a)
none_top true o n a h = refl
none_top false o n a h = h

-- no number is found exactly if none passes
pub last_below-none : (n : ℕ) (f : ℕ → Bool) → is_none (last_below n f) ≡ not (any_below n f)
last_below-none zero f = refl
last_below-none (suc n) f = none_top (f n) (last_below n f) n (any_below n f) (last_below-none n f)
