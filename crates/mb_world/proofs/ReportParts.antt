-- The parts of the report of a state: cells that have notes, begun claims, and the views of lanes.
use Rattle.std.proofs.Common.{◌≡◌, ◌≢◌, ◌↔◌, ℕ, suc, ◌+◌, ◌*◌, ◌<◌, ◌≤◌, ◌++◌, Bool, true, false, List, [], ◌∷◌, length, Option, Some, None, refl, sym, ◌∙◌, ap, subst, inl, inr, arith, reverse}
use Rattle.std.proofs.lemmas.List.{append_assoc}
use Rattle.std.proofs.Math.Nat.{mul-le-mul_right}
use Rattle.mb_claim.specs.declared.layout.Layout.{Layout}
use Rattle.mb_world.specs.Vocabulary.{Place, Has, IsOnceEach, ObjectTurn, LaneView, has_begun, IsPlaceAt, has_begun_at, At, Before}
use Rattle.mb_world.proofs.Positions.{HasPosition, at_has}
use Rattle.mb_world.proofs.Tracks.{closed}
use mathlib.Core.List.{reverse-cons}

-- ---- lists of cells
-- a cell of the first list is in the two lists joined
pub has_front : (xs ys : List ℕ) (k : ℕ) → Has xs k → Has (xs ++ ys) k
has_front [] ys k has = absurd has
has_front (x ∷ xs) ys k (inl e) = inl e
has_front (x ∷ xs) ys k (inr m) = inr (has_front xs ys k m)

-- a cell of the second list is in the two lists joined
has_right : (xs ys : List ℕ) (k : ℕ) → Has ys k → Has (xs ++ ys) k
has_right [] ys k has = has
has_right (x ∷ xs) ys k has = inr (has_right xs ys k has)

-- a cell of a list with x at its end is also in the list with x in front
has_last : (xs : List ℕ) (x k : ℕ) → Has (xs ++ x ∷ []) k → Has (x ∷ xs) k
has_last [] x k has = has
has_last (y ∷ xs) x k (inl e) = inr (inl e)
has_last (y ∷ xs) x k (inr m) = elim (has_last xs x k m) [ inl e ↦ inl e | inr n ↦ inr (inr n) ]

-- a cell of the reversed list is in the list
pub has_of_reverse : (xs : List ℕ) (k : ℕ) → Has (reverse xs) k → Has xs k
has_of_reverse [] k has = has
has_of_reverse (x ∷ xs) k has =
    elim (has_last (reverse xs) x k (subst (λ (ys : List ℕ). Has ys k) (reverse-cons x xs) has)) [
      | inl e ↦ inl e
      | inr m ↦ inr (has_of_reverse xs k m)
    ]

-- if two lists joined have each cell once, no cell is in both
pub once_apart : (xs ys : List ℕ) (k : ℕ) → IsOnceEach (xs ++ ys) → Has xs k → Has ys k → ⊥
once_apart [] ys k once has there = has
once_apart (x ∷ xs) ys k once (inl e) there =
    once.0 (has_right xs ys x (subst (λ (i : ℕ). Has ys i) (sym e) there))
once_apart (x ∷ xs) ys k once (inr m) there = once_apart xs ys k once.1 m there

-- ---- the cells that have notes
-- `closed` lists the cells met whose claims have notes, so each cell in it was met
pub closed_has : (ks : List ℕ) (z : Option (List ObjectTurn)) (k : ℕ) → Has (closed ks z) k → Has ks k
closed_has ks None k has = has
closed_has [] (Some xs) k has = absurd has
closed_has (q ∷ qs) (Some xs) k has = inr has

-- if j is below the length of `closed`, the cell met at position j is in `closed`
pub closed_at : (ks : List ℕ) (z : Option (List ObjectTurn)) (j k : ℕ) → HasPosition ks j k → j < length (closed ks z)
    → Has (closed ks z) k
closed_at ks None j k at less = at_has ks j k at
closed_at [] (Some xs) j k at less = absurd at
closed_at (q ∷ qs) (Some xs) j k (inl at) less = absurd (omega (arith, at.0, less))
closed_at (q ∷ qs) (Some xs) j k (inr at) less = at_has qs j k at

-- if the lane's list is some later cells and then the cells met, it is also some later cells and then those in `closed`
pub closed_cut : (ks : List ℕ) (z : Option (List ObjectTurn)) (later ls : List ℕ) → later ++ ks ≡ ls
    → (late : List ℕ) × (late ++ closed ks z ≡ ls)
closed_cut ks None later ls e = (later, e)
closed_cut [] (Some xs) later ls e = (later, e)
closed_cut (q ∷ qs) (Some xs) later ls e = (later ++ q ∷ [], append_assoc later (q ∷ []) qs ∙ e)

-- ---- whether the claim at a place is begun
-- a list with an element is not empty
cons_some : (x : ObjectTurn) (xs : List ObjectTurn) → x ∷ xs ≢ []
cons_some x xs e = cc

-- if b says whether a claim has steps, it says what `has_begun` says
claim_begun : (b : Bool) (xs : List ObjectTurn) → (b ≡ true) ↔ (xs ≢ []) → b ≡ has_begun (Some xs)
claim_begun true [] w = absurd (w.0 refl refl)
claim_begun false [] w = refl
claim_begun true (x ∷ xs) w = refl
claim_begun false (x ∷ xs) w = w.1 (cons_some x xs)

-- a claim held at a place is begun exactly if the claim that the path there holds is begun
pub place_begun : (layout : Layout) (c p : ℕ) (ks : List ℕ) (held : Option (List ObjectTurn)) (d : Place)
    → IsPlaceAt layout c p ks held d → has_begun_at d ≡ has_begun held
place_begun layout c p ks None (Before at) is = refl
place_begun layout c p ks None (At k claim) is = absurd is
place_begun layout c p [] (Some xs) d is = absurd is
place_begun layout c p (q ∷ qs) (Some xs) (Before at) is = absurd is
place_begun layout c p (q ∷ qs) (Some xs) (At k claim) is = claim_begun claim.begun xs is.2.begun

-- ---- the view of a lane, and the position of a diary
-- the view of a lane with these items put and left, and whether it has ended
abbrev lane_of : List ℕ → Bool → List ℕ → LaneView
lane_of put ended left = record { put = put; ended = ended; left = left }

-- two views of a lane with equal fields are equal
pub lane_same : (l m : LaneView) → l.put ≡ m.put → l.ended ≡ m.ended → l.left ≡ m.left → l ≡ m
lane_same l m a b c =
    ap (λ x. lane_of x l.ended l.left) a ∙ (ap (λ x. lane_of m.put x l.left) b ∙ ap (λ x. lane_of m.put m.ended x) c)

-- the position of row c and column p is within a grid of n rows and w columns
pub grid_within : (n w c p : ℕ) → c < n → p < w → c * w + p < n * w
grid_within n w c p cs ps =
    let most : suc c * w ≤ n * w = mul-le-mul_right w cs in
    let more : suc c * w ≡ c * w + w = grind arith in
    omega (arith, most, more, ps)
