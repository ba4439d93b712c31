-- `set_number` numbers the sets of h registers among n by rising mask, each once.
use Rattle.std.proofs.Common.{◌≡◌, ℕ, zero, suc, ◌+◌, ◌-◌, ◌*◌, ◌^◌, ◌<◌, count_ones, sym, ap, ◌∙◌}
use Rattle.std.proofs.Common.{subst, inl, inr, arith}
use Rattle.std.proofs.lemmas.Bool.{cases_lt, cases_eq}
use Rattle.std.proofs.lemmas.Nat.{ones_cat, ones_le_self, zero_from_ones}
use Rattle.mb_quorum.specs.Middle.{choose, set_number}
use Rattle.mb_quorum.specs.MiddleLaw.{double, set_below, without_last, with_last}

-- the mask 0 has no registers
no_ones : count_ones 0 ≡ 0
no_ones = omega (arith, ones_le_self 0)

-- the mask 1 has one register
one_one : count_ones 1 ≡ 1
one_one =
    elim (cases_eq (count_ones 1) 0) [
      | inl e ↦ (let none : ◌≡◌ {A = ℕ} 1 0 = zero_from_ones 1 e in absurd (omega (arith, none)))
      | inr some ↦ omega (arith, ones_le_self 1, some)
    ]

-- if x has only registers below n, the mask 2 ^ n + x has one register more than x
ones_with_last : (n x : ℕ) → x < 2 ^ n → count_ones (2 ^ n + x) ≡ suc (count_ones x)
ones_with_last n x small =
    let shape : 2 ^ n + x ≡ 1 * 2 ^ n + x = omega arith in
    omega (arith, ap count_ones shape, ones_cat n 1 x small, one_one)

-- if v is below `choose n h`, set v of the sets of h registers among n has exactly h registers
pub set_size : (n h v : ℕ) → v < choose n h → count_ones (set_number n h v) ≡ h
set_size zero zero v known = no_ones
set_size zero (suc h) v known = absurd (omega (arith, known))
set_size (suc n) zero v known = no_ones
set_size (suc n) (suc h) v known =
    elim (cases_lt v (choose n (suc h))) [
      | inl less ↦ ap count_ones (without_last n h v less) ∙ set_size n (suc h) v less
      | inr more ↦
          (let rest : ℕ = v - choose n (suc h) in
          let there = set_size n h rest (omega (arith, known, more)) in
          omega (
            arith,
            ap count_ones (with_last n h v more),
            ones_with_last n (set_number n h rest) (set_below n h rest),
            there,
          ))
    ]

-- of two sets of h registers among n, the set with the larger number has the larger mask
pub set_rises : (n h v w : ℕ) → v < w → w < choose n h → set_number n h v < set_number n h w
set_rises zero zero v w less known = absurd (omega (arith, less, known))
set_rises zero (suc h) v w less known = absurd (omega (arith, known))
set_rises (suc n) zero v w less known = absurd (omega (arith, less, known))
set_rises (suc n) (suc h) v w less known =
    elim (cases_lt w (choose n (suc h))) [
      | inl low ↦
          (let first = without_last n h v (omega (arith, less, low)) in
          omega (arith, first, without_last n h w low, set_rises n (suc h) v w less low))
      | inr high ↦ elim (cases_lt v (choose n (suc h))) [
        | inl low ↦ omega (
          arith,
          without_last n h v low,
          set_below n (suc h) v,
          with_last n h w high,
        )
        | inr past ↦
            (let rests =
            set_rises n h (v - choose n (suc h)) (w - choose n (suc h)) (omega (arith, less, past))
            (omega (arith, known, high)) in
            omega (arith, rests, with_last n h v past, with_last n h w high))
      ]
    ]

-- x is the mask of a set of h registers among n, which has a number
abbrev pub HasNumber : ℕ → ℕ → ℕ → Type 0
HasNumber n h x = (v : ℕ) × (v < choose n h) × (x ≡ set_number n h v)

-- a set of h + 1 registers that has a number among n registers has a number among n + 1
number_without : (n h x : ℕ) → HasNumber n (suc h) x → HasNumber (suc n) (suc h) x
number_without n h x (v, known, is) = (v, omega (arith, known), is ∙ sym (without_last n h v known))

-- if a set of h registers has a number among n registers, the set with register n added has one among n + 1
number_with : (n h x : ℕ) → HasNumber n h x → HasNumber (suc n) (suc h) (2 ^ n + x)
number_with n h x (v, known, is) =
    let all : ℕ = choose n (suc h) + v in
    let back : all - choose n (suc h) ≡ v = omega arith in (
      all,
      omega (arith, known),
      ap (λ k. 2 ^ n + k) is ∙ ap (λ k. 2 ^ n + set_number n h k) (sym back)
          ∙ sym (with_last n h all (omega arith)),
    )

-- each set of h registers among n has a number
pub set_numbered : (n h x : ℕ) → x < 2 ^ n → count_ones x ≡ h → HasNumber n h x
set_numbered zero zero x small size = (0, omega arith, omega (arith, small))
set_numbered zero (suc h) x small size =
    let none : x ≡ 0 = omega (arith, small) in
    absurd (omega (arith, size, ap count_ones none, no_ones))
set_numbered (suc n) zero x small size = (0, omega arith, zero_from_ones x size)
set_numbered (suc n) (suc h) x small size =
    elim (cases_lt x (2 ^ n)) [
      | inl less ↦ number_without n h x (set_numbered n (suc h) x less size)
      | inr more ↦
          (let rest : ℕ = x - 2 ^ n in
          let whole : 2 ^ n + rest ≡ x = omega (arith, more) in
          let below : rest < 2 ^ n = omega (arith, small, double n, more) in
          let ones = ones_with_last n rest below in
          let there = set_numbered n h rest below (omega (arith, size, ap count_ones whole, ones)) in
          subst (HasNumber (suc n) (suc h)) whole (number_with n h rest there))
    ]
