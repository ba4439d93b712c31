-- How many accesses are left at a place: at least one. Also a mask without one of its registers, and the attempts left.
use Rattle.std.proofs.Common.{◌≡◌, ◌≢◌, ◌↔◌, ℕ, zero, suc, ◌+◌, ◌-◌, ◌*◌, ◌^◌, ◌<◌, ◌≤◌, ◌==◌, count_ones, cond}
use Rattle.std.proofs.Common.{Bool, true, false, List, ◌∷◌, length, inl, inr, sym, refl, ap, ap₂, ◌∙◌, subst, arith}
use Rattle.std.specs.Int.{bit_at}
use Rattle.std.proofs.Math.Nat.{mod-eq_of_lt}
use Rattle.std.proofs.Math.Numerals.{one-add}
use Rattle.std.proofs.Math.Pow.{pow_mono, pow_pos, pow-add}
use Rattle.std.proofs.lemmas.Bool.{cases_eq, cases_lt, eq-eqb, ne_eqb}
use Rattle.std.proofs.lemmas.Nat.{zero_from_ones}
use Rattle.mb_quorum.specs.Quorum.{QuorumTable, IsMember}
use Rattle.mb_quorum.specs.Width.{width_of}
use Rattle.mb_quorum.specs.WidthLaw.{width_is_least}
use Rattle.mb_deciding.specs.{Quorum, Act, Load, Pc, InRatifier, InConciliator, InLast, Begin, Announce, Propose, Check, Draw}
use Rattle.mb_deciding.specs.{Put, Look, acts_below, IsPlace, HasLimits, turns_left}
use Rattle.mb_deciding.proofs.Sizes.{each_exact}

-- ---- a mask without one register
-- `kept` has just the registers of the mask other than r
abbrev pub IsWithout : ℕ → ℕ → ℕ → Type 0
IsWithout mask r kept = (k : ℕ) → IsMember kept k ↔ (IsMember mask k × (k ≢ r))

-- if either both numbers are 1 or neither is, the tests of both for 1 have the same result
same_test : (a b : ℕ) → (a ≡ 1 → b ≡ 1) → (b ≡ 1 → a ≡ 1) → (a == 1) ≡ (b == 1)
same_test a b f g =
    elim (cases_eq a 1) [
      | inl e ↦ eq-eqb a 1 e ∙ sym (eq-eqb b 1 (f e))
      | inr ne ↦ ne_eqb a 1 ne ∙ sym (ne_eqb b 1 (λ e. ne (g e)))
    ]

-- a register k other than r is in both masks or in neither
other_test :
    (mask r kept k : ℕ) → IsWithout mask r kept → k ≢ r → (bit_at mask k == 1) ≡ (bit_at kept k == 1)
other_test mask r kept k without other =
    same_test (bit_at mask k) (bit_at kept k) (λ m. (without k).1 (m, other)) (λ m. ((without k).0 m).0)

-- below a bound n that is at most r the mask and the mask without r give the same list of acts
below_same :
    (act : ℕ → Act) (n mask r kept : ℕ) → IsWithout mask r kept → n ≤ r → acts_below act n mask ≡ acts_below act n kept
below_same act zero mask r kept without le = refl
below_same act (suc n) mask r kept without le =
    ap₂ (λ b xs. cond b (act n ∷ xs) xs) (other_test mask r kept n without (omega arith))
    (below_same act n mask r kept without (omega arith))

-- if xs is longer than ys by one, it still is with the same act added to both, or to none
cond_more :
    (b : Bool) (x : Act) (xs ys : List Act) → length xs ≡ suc (length ys)
    → length (cond b (x ∷ xs) xs) ≡ suc (length (cond b (x ∷ ys) ys))
cond_more true x xs ys e = ap suc e
cond_more false x xs ys e = e

-- below a bound above r the mask without r gives one act less than the mask
below_fewer :
    (act : ℕ → Act) (n mask r kept : ℕ) → IsWithout mask r kept → IsMember mask r → r < n
    → length (acts_below act n mask) ≡ suc (length (acts_below act n kept))
below_fewer act zero mask r kept without member less = absurd (omega arith)
below_fewer act (suc n) mask r kept without member less =
    elim (cases_eq n r) [
      | inl e ↦ (let had : (bit_at mask n == 1) ≡ true = eq-eqb (bit_at mask n) 1
          (subst (λ k. IsMember mask k) (sym e) member) in
          let gone : (bit_at kept n == 1) ≡ false =
          ne_eqb (bit_at kept n) 1 (λ m. ((without n).0 m).1 e) in
          let same : acts_below act n mask ≡ acts_below act n kept =
          below_same act n mask r kept without (omega arith) in
          ap (λ b. length (cond b (act n ∷ acts_below act n mask) (acts_below act n mask))) had
          ∙ (ap (λ xs. suc (length xs)) same
          ∙ sym (ap (λ b. suc (length (cond b (act n ∷ acts_below act n kept) (acts_below act n kept)))) gone)))
      | inr other ↦ (ap (λ b. length (cond b (act n ∷ acts_below act n mask) (acts_below act n mask)))
          (other_test mask r kept n without other)
          ∙ cond_more (bit_at kept n == 1) (act n) (acts_below act n mask) (acts_below act n kept)
          (below_fewer act n mask r kept without member (omega arith)))
    ]

-- a mask without one of its registers has one register less
pub ones_fewer :
    (n mask r kept : ℕ) → mask < 2 ^ n → kept < 2 ^ n → IsWithout mask r kept → IsMember mask r → r < n
    → count_ones mask ≡ count_ones kept + 1
ones_fewer n mask r kept small low without member less =
    let act = λ (k : ℕ). Load (Quorum k) 0 in
    let all : count_ones mask ≡ length (acts_below act n mask) =
    ap count_ones (sym (mod-eq_of_lt small)) ∙ sym (each_exact act n mask) in
    let rest : count_ones kept ≡ length (acts_below act n kept) =
    ap count_ones (sym (mod-eq_of_lt low)) ∙ sym (each_exact act n kept) in
    omega (arith, below_fewer act n mask r kept without member less)

-- a mask that is not empty has a register
pub some_ones : (mask : ℕ) → mask ≢ 0 → 0 < count_ones mask
some_ones mask some =
    elim (cases_eq (count_ones mask) 0) [ inl e ↦ absurd (some (zero_from_ones mask e)) | inr more ↦ omega arith ]

-- ---- how many attempts a limit leaves
-- if one power of two is at most another, so is its exponent
below_power : (k b : ℕ) → 2 ^ k ≤ 2 ^ b → k ≤ b
below_power k b le =
    elim (cases_lt b k) [
      | inl less ↦ absurd (let more : 2 ^ suc b ≤ 2 ^ k = pow_mono less in
          let double : 2 ^ suc b ≡ 2 * 2 ^ b = rw one-add at (pow-add 2 1 b) in
          let some : 0 < 2 ^ b = pow_pos b in
          omega arith)
      | inr other ↦ omega arith
    ]

-- the width of a power of two is its exponent
width_of_power : (k : ℕ) → width_of (2 ^ k) ≡ k
width_of_power k =
    let least = width_is_least (2 ^ k) in
    omega (arith, least.least k (omega arith), below_power k (width_of (2 ^ k)) least.enough)

-- on attempt k of a conciliator whose last attempt is s, the limits show that s - k attempts come after it
pub attempts_left : (s k limit modulus : ℕ) → HasLimits s k limit modulus → width_of modulus - width_of limit ≡ s - k
attempts_left s k limit modulus (within, limit_is, modulus_is) =
    ap₂ (λ a b. a - b) (ap width_of modulus_is ∙ width_of_power s) (ap width_of limit_is ∙ width_of_power k)

-- after an attempt that did not store, fewer accesses are left than before it
pub attempts_fewer :
    (s k limit modulus : ℕ) → HasLimits s k limit modulus → HasLimits s (suc k) (limit * 2) modulus
    → width_of modulus - width_of (limit * 2) + 3 < width_of modulus - width_of limit + 3
attempts_fewer s k limit modulus now next =
    let later : suc k ≤ s = next.0 in
    omega (arith, attempts_left s k limit modulus now, attempts_left s (suc k) (limit * 2) modulus next)

-- ---- each place has an access left
-- at each place that fits the table at least one access is left
pub some_left : (t : QuorumTable) (pc : Pc) → IsPlace t pc → 0 < turns_left t pc
some_left t (InRatifier (Begin input)) fit = omega arith
some_left t (InRatifier (Announce input left)) fit = omega arith
some_left t (InRatifier (Propose input)) fit = omega arith
some_left t (InRatifier (Check preference left)) fit = some_ones left fit.1
some_left t (InConciliator (Draw input limit modulus)) fit = omega arith
some_left t (InConciliator (Put input)) fit = omega arith
some_left t (InConciliator (Look input)) fit = omega arith
some_left t (InLast place) fit = omega arith
