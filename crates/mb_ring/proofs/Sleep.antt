-- What a step does to one list, and how the laws of sleep stay true.
use Rattle.mb_ring.proofs.Base.{arith, inl, inr, ℕ, ⊎_elim, ◌+◌, ◌≡◌, ◌≤◌, suc, zero, refl}
use Rattle.mb_ring.specs.Vocabulary.{Duty, Quiet, Room, Shut, Values, Want, debts, free, in_list}

-- the same numbers for both lists, but n for one
abbrev pub put : Want → ℕ → (Want → ℕ) → Want → ℕ
put Values n f Values = n
put Values n f Room = f Room
put Room n f Values = f Values
put Room n f Room = n

-- what a step does to one list keeps the laws of sleep. The duty d of its pass becomes e, the goods r become s, and z
-- and y say whether the ring is open; then the tokens. L sleep, O is owed, C by who owes tokens to all
abbrev pub Law : Duty → Duty → ℕ → ℕ → ℕ → ℕ → ℕ → ℕ → ℕ → Type 0
Law d e r s z y t u a =
    (L O C L' O' C' : ℕ) → L' + d.asleep ≡ L + e.asleep → O' + debts d ≡ O + debts e
    → C' + d.closing ≡ C + e.closing → L' ≤ u + a
    → Quiet r t L O → Shut t L z C → Quiet s u L' O' × Shut u L' y C'

pub law_rest : (d : Duty) (r z t a : ℕ) → Law d d r r z z t t a
law_rest d r z t a L O C L' O' C' l o c le q h = (
  ⊎_elim (λ y. inl (omega arith)) (λ y. inr (omega arith)) q,
  ⊎_elim (λ y. inl (omega arith)) (λ y. inr (omega arith)) h,
)

-- no room is ready where none is free
pub free_none : (c : ℕ) → free c 0 ≡ 0
free_none zero = refl
free_none (suc c) = refl

-- one more position may be drawn at most
pub free_more : (c x y : ℕ) → y ≤ x + 1 → free c y ≤ free c x + 1
free_more zero x y le = le
free_more (suc c) x y le = omega arith

-- what a draw or a claim does to what its pass owes: at most one look less
abbrev pub IsLook : (Duty → Duty) → Duty → Type 0
IsLook f d = (in_list (f d) ≡ in_list d) × ((f d).asleep ≡ d.asleep) × (debts d ≤ debts (f d) + 1)
    × ((f d).closing ≡ d.closing)
