-- In a run whose gate stops nobody, no producer is stopped. So a producer that put less than its list found no cell.
-- After that stand lemmas of sums and of beginnings of lists.
use Rattle.std.proofs.Common.{◌≡◌, ◌+◌, ◌*◌, ◌++◌, ◌<◌, ◌≤◌, ℕ, zero, suc, Bool, true, false, List, [], ◌∷◌, Some, inl, inr, length, slice_get, refl, sym, ap, ◌∙◌, subst, arith}
use Rattle.std.specs.Prelude.{slice_index_or}
use Rattle.std.specs.List.{All, sum_by}
use Rattle.std.proofs.Math.Nat.{suc-mul}
use Rattle.std.proofs.lemmas.List.{append-nil, length-append}
use Rattle.std.proofs.lemmas.Option.{slice_get-get_or}
use Rattle.std.proofs.lemmas.List.Sums.{sum_by-cons, sum_by-le}
use Rattle.mb_mailbox.specs.Imports.{HasFoundNone}
use Rattle.mb_mailbox.specs.Jobs.{IsFront}
use Rattle.mb_mailbox.specs.Worked.{AreCutByCells, AreStoppedPuts, IsStoppedPut, ProducerEnd}
use Rattle.mb_mailbox.specs.declared.gate.Who.{Who}

-- ---- what holds of all lanes holds of each
-- what is said of each producer that was stopped holds of the producer at place p, if it was stopped
stopped_at : (may_stop : Who → ℕ → Type 0) (cells from : ℕ) (lists : List (List ℕ))
    (lanes : List ProducerEnd) (p : ℕ) (list : List ℕ) (l : ProducerEnd)
    → AreStoppedPuts may_stop cells from lists lanes → slice_get lists p ≡ Some list → slice_get lanes p ≡ Some l
    → l.stopped ≡ true → IsStoppedPut may_stop cells (from + p) list l
stopped_at may_stop cells from [] lanes p list l all at there = absurd (cc)
stopped_at may_stop cells from (x ∷ xs) [] p list l all at there = absurd (cc)
stopped_at may_stop cells from (x ∷ xs) (y ∷ ys) zero list l all at there =
    let e : x ≡ list = cc in
    let f : y ≡ l = cc in
    let here : from ≡ from + 0 = omega arith in
    subst (λ (k : ℕ). l.stopped ≡ true → IsStoppedPut may_stop cells k list l) here
    (subst (λ (z : List ℕ). l.stopped ≡ true → IsStoppedPut may_stop cells from z l) e
    (subst (λ (z : ProducerEnd). z.stopped ≡ true → IsStoppedPut may_stop cells from x z) f all.0))
stopped_at may_stop cells from (x ∷ xs) (y ∷ ys) (suc p) list l all at there =
    let next : suc from + p ≡ from + suc p = omega arith in
    subst (λ (k : ℕ). l.stopped ≡ true → IsStoppedPut may_stop cells k list l) next
    (stopped_at may_stop cells (suc from) xs ys p list l all.1 at there)

-- what is said of each producer that put less than its list and was not stopped holds of such a producer at place p
cut_at : (cells from : ℕ) (lists : List (List ℕ)) (lanes : List ProducerEnd) (p : ℕ) (list : List ℕ) (l : ProducerEnd)
    → AreCutByCells cells from lists lanes → slice_get lists p ≡ Some list → slice_get lanes p ≡ Some l
    → l.stopped ≡ false → length l.put < length list → HasFoundNone cells (from + p) l.part
cut_at cells from [] lanes p list l all at there = absurd (cc)
cut_at cells from (x ∷ xs) [] p list l all at there = absurd (cc)
cut_at cells from (x ∷ xs) (y ∷ ys) zero list l all at there =
    let e : x ≡ list = cc in
    let f : y ≡ l = cc in
    let here : from ≡ from + 0 = omega arith in
    subst (λ (k : ℕ). l.stopped ≡ false → length l.put < length list → HasFoundNone cells k l.part) here
    (subst (λ (z : List ℕ). l.stopped ≡ false → length l.put < length z → HasFoundNone cells from l.part) e
    (subst (λ (z : ProducerEnd). z.stopped ≡ false → length z.put < length x → HasFoundNone cells from z.part) f all.0))
cut_at cells from (x ∷ xs) (y ∷ ys) (suc p) list l all at there =
    let next : suc from + p ≡ from + suc p = omega arith in
    subst (λ (k : ℕ). l.stopped ≡ false → length l.put < length list → HasFoundNone cells k l.part) next
    (cut_at cells (suc from) xs ys p list l all.1 at there)

-- if the gate stops nobody, a producer with a list of at most 256 items is not stopped
not_stopped : (may_stop : Who → ℕ → Type 0) → ((w : Who) (n : ℕ) → may_stop w n → ⊥)
    → (cells p : ℕ) (list : List ℕ) (l : ProducerEnd) → length list ≤ 256
    → (l.stopped ≡ true → IsStoppedPut may_stop cells p list l) → l.stopped ≡ false
not_stopped may_stop never cells p list l few is = go l.stopped refl
  where
    go : (b : Bool) → l.stopped ≡ b → l.stopped ≡ false
    go false e = e
    go true e =
        let was = is e in
        let short = was.short in
        let none : ⊥ = elim was.stop [
          | inl stops ↦ never _ _ stops
          | inr last ↦ omega (arith, last, few, short)
        ] in absurd none

-- if the gate stops nobody and a producer put less than its list, a fetch-add of that producer found no cell
pub found_none : (may_stop : Who → ℕ → Type 0) → ((w : Who) (n : ℕ) → may_stop w n → ⊥)
    → (cells : ℕ) (lists : List (List ℕ)) (lanes : List ProducerEnd)
    → AreStoppedPuts may_stop cells 0 lists lanes → AreCutByCells cells 0 lists lanes
    → (p : ℕ) (list : List ℕ) (l : ProducerEnd)
    → slice_get lists p ≡ Some list → slice_get lanes p ≡ Some l → length list ≤ 256
    → length l.put < length list → HasFoundNone cells p l.part
found_none may_stop never cells lists lanes stopped cut p list l at there few short =
    let here : 0 + p ≡ p = omega arith in
    subst (λ (k : ℕ). HasFoundNone cells k l.part) here (cut_at cells 0 lists lanes p list l cut at there
    (not_stopped may_stop never cells (0 + p) list l few
    (stopped_at may_stop cells 0 lists lanes p list l stopped at there)) short)

-- ---- what holds of each element, for all, and for a sum
-- what holds of the element at each position holds of all elements
all_of : {X : Type 0} (P : X → Type 0) (xs : List X) → ((p : ℕ) (x : X) → slice_get xs p ≡ Some x → P x) → All P xs
all_of P xs each = λ k d low. each k (slice_index_or xs k d) (slice_get-get_or xs k d low)

-- if no value is over b and one is under it, the sum of the values is less than b times their number
pub sum_short : {X : Type 0} (f : X → ℕ) (b : ℕ) (xs : List X) (p : ℕ) (x : X)
    → ((q : ℕ) (y : X) → slice_get xs q ≡ Some y → f y ≤ b)
    → slice_get xs p ≡ Some x → f x < b → sum_by f xs < length xs * b
sum_short f b [] p x each at less = absurd (cc)
sum_short f b (y ∷ ys) zero x each at less =
    let e : x ≡ y = cc in
    let here : f y < b = subst (λ z. f z < b) e less in
    let rest : sum_by f ys ≤ length ys * b = sum_by-le f b ys
    (all_of (λ z. f z ≤ b) ys (λ q z there. each (suc q) z there)) in
    let sum = sum_by-cons f y ys in
    let more = suc-mul (length ys) b in
    omega (arith, here, rest, sum, more)
sum_short f b (y ∷ ys) (suc p) x each at less =
    let here : f y ≤ b = each 0 y refl in
    let rest = sum_short f b ys p x (λ q z there. each (suc q) z there) at less in
    let sum = sum_by-cons f y ys in
    let more = suc-mul (length ys) b in
    omega (arith, here, rest, sum, more)

-- ---- a beginning of a list
-- a beginning of a list is no longer than the list
pub front_within : (put list : List ℕ) → IsFront put list → length put ≤ length list
front_within put list front =
    let e = sym (length-append put front.0) ∙ ap length front.1 in omega (arith, e)

-- a beginning that is not shorter than the list is the list
pub front_whole : (put list : List ℕ) → IsFront put list → (length put < length list → ⊥) → put ≡ list
front_whole put list front never = go front.0 front.1
  where
    go : (rest : List ℕ) → put ++ rest ≡ list → put ≡ list
    go [] e = sym (append-nil put) ∙ e
    go (x ∷ rest) e =
        let long : length put + suc (length rest) ≡ length list = sym (length-append put (x ∷ rest)) ∙ ap length e in
        absurd (never (omega (arith, long)))
