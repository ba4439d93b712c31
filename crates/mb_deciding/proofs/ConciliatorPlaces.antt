-- The places of a process in a conciliator: what its next turn leads to, and that later turns complete a path.
use Rattle.std.proofs.Common.{◌≡◌, ℕ, suc, ◌+◌, ◌-◌, ◌*◌, ◌<◌, ◌≤◌, ◌%◌, ◌^◌, false, List, [], ◌∷◌, inl, inr, refl, ap}
use Rattle.std.proofs.Common.{subst, arith, bit_and}
use Rattle.std.proofs.Math.Numerals.{one-add}
use Rattle.std.proofs.Math.Pow.{pow_mono, pow_pos, pow-add}
use Rattle.std.proofs.Math.Nat.{mod-lt}
use Rattle.std.proofs.lemmas.Bool.{cases_lt}
use Rattle.std.proofs.lemmas.Nat.{and_mask}
use Rattle.mb_quorum.specs.Quorum.{QuorumTable}
use Rattle.mb_deciding.specs.{Value, Load, Store, Turn, Conciliator, ConciliatorPlace, Draw, Put, Look}
use Rattle.mb_deciding.specs.{IsConciliatorPath, answer, IsOpen, HasLimits, IsInConciliator}
use Rattle.mb_deciding.proofs.Histories.{not_empty}

-- ---- the next turn
-- no number is both below a bound and at or above it
never : (a b : ℕ) → a < b → b ≤ a → ⊥
never a b l m = omega arith

-- if a number is below 2 ^ s and not below 2 ^ k, attempt k is not the last attempt s
attempts_remain : (k s n : ℕ) → 2 ^ k ≤ n → n < 2 ^ s → suc k ≤ s
attempts_remain k s n a b =
    elim (cases_lt k s) [ inl l ↦ l | inr l ↦ absurd (let m : 2 ^ s ≤ 2 ^ k = pow_mono l in omega arith) ]

-- the low bits of a word are the word modulo a power of two
pub low_bits : (s k limit modulus word : ℕ) → HasLimits s k limit modulus → bit_and word (modulus - 1) ≡ word % modulus
low_bits s k limit modulus word limits = rw (limits.2) (and_mask word s)

-- if a random word modulo 2 ^ s is not below the limit, it does not store on attempt k
above_limit : (s k limit modulus word : ℕ) → HasLimits s k limit modulus → limit ≤ word % modulus → 2 ^ k ≤ word % 2 ^ s
above_limit s k limit modulus word limits none =
    subst (λ n. 2 ^ k ≤ word % n) limits.2 (subst (λ n. n ≤ word % modulus) limits.1 none)

-- after an attempt that did not store there is another, whose limit is twice as large
pub next_limits :
    (s k limit modulus word : ℕ) → HasLimits s k limit modulus → limit ≤ word % modulus
    → HasLimits s (suc k) (limit * 2) modulus
next_limits s k limit modulus word limits none =
    let double : 2 ^ suc k ≡ 2 * 2 ^ k = rw one-add at (pow-add 2 1 k) in
    let exact : limit ≡ 2 ^ k = limits.1 in (
      attempts_remain k s (word % 2 ^ s) (above_limit s k limit modulus word limits none)
          (mod-lt word (pow_pos s)),
      omega arith,
      limits.2,
    )

-- if the word is empty and the random word does not store, the process is at the place of the next attempt
pub draw_missed :
    (s v input limit modulus word : ℕ) (turns : List Turn) → IsInConciliator s v (Draw input limit modulus) turns
    → limit ≤ word % modulus
    → IsInConciliator s v (Draw input (limit * 2) modulus) (record { act = Load Value 0; word = word } ∷ turns)
draw_missed s v input limit modulus word turns at none =
    let above = above_limit s at.1.0 limit modulus word at.1.1 none in (
      at.0,
      (
        suc at.1.0,
        next_limits s at.1.0 limit modulus word at.1.1 none,
        (refl, (λ stores. never (word % 2 ^ s) (2 ^ at.1.0) stores above), at.1.2),
      ),
    )

-- if the word is empty and the random word stores, the process is about to store
pub draw_found :
    (s v input limit modulus word : ℕ) (turns : List Turn) → IsInConciliator s v (Draw input limit modulus) turns
    → word % modulus < limit → IsInConciliator s v (Put input) (record { act = Load Value 0; word = word } ∷ turns)
draw_found s v input limit modulus word turns at stores = (
  at.0,
  (
    at.1.0,
    at.1.1.0,
    (
      refl,
      subst (λ n. word % 2 ^ s < n) at.1.1.1
          (subst (λ n. word % n < limit) at.1.1.2 stores),
      at.1.2,
    ),
  ),
)

-- if the word is not empty, the load of it ends the path with the value that it finds
pub draw_ends :
    (s v input limit modulus seen word : ℕ) (turns : List Turn) → IsInConciliator s v (Draw input limit modulus) turns
    → 0 < seen
    → IsConciliatorPath s v (record { act = Load Value seen; word = word } ∷ turns) (seen - 1)
draw_ends s v input limit modulus seen word turns at some =
    (let e : seen ≡ seen - 1 + 1 = omega arith in ap (λ n. Load Value n) e, (at.1.0, at.1.1.0, inl at.1.2))

-- after the store of the input the process is about to load the word once more
pub put_looks :
    (s v input word : ℕ) (turns : List Turn) → IsInConciliator s v (Put input) turns
    → IsInConciliator s v (Look input) (record { act = Store Value (input + 1); word = word } ∷ turns)
put_looks s v input word turns at = (at.0, (at.1.0, at.1.1, (ap (λ n. Store Value (n + 1)) at.0, at.1.2)))

-- the load after the store ends the path with the value that it finds
pub look_ends :
    (s v input seen word : ℕ) (turns : List Turn) → IsInConciliator s v (Look input) turns → 0 < seen
    → IsConciliatorPath s v (record { act = Load Value seen; word = word } ∷ turns) (seen - 1)
look_ends s v input seen word turns at some =
    (let e : seen ≡ seen - 1 + 1 = omega arith in ap (λ n. Load Value n) e, (at.1.0, at.1.1, inr at.1.2))

-- ---- from each place some later turns complete a path
-- the turn that loads v + 1 from the conciliator's word
last_turn : ℕ → Turn
last_turn v = record { act = Load Value (v + 1); word = 0 }

-- the turns that led to a place are an open prefix of a path
pub drawing_open :
    (t : QuorumTable) (s v : ℕ) (place : ConciliatorPlace) (turns : List Turn) → IsInConciliator s v place turns
    → IsOpen t (Conciliator s) v turns
unfolding last_turn
drawing_open t s v (Draw input limit modulus) turns at =
    (last_turn v ∷ [], not_empty (last_turn v) [], (answer false v, (refl, (refl, (at.1.0, at.1.1.0, inl at.1.2)))))
drawing_open t s v (Put input) turns at =
    let put : Turn = record { act = Store Value (v + 1); word = 0 } in (
      last_turn v ∷ put ∷ [],
      not_empty (last_turn v) (put ∷ []),
      (answer false v, (refl, (refl, (at.1.0, at.1.1, inr (refl, at.1.2))))),
    )
drawing_open t s v (Look input) turns at =
    (last_turn v ∷ [], not_empty (last_turn v) [], (answer false v, (refl, (refl, (at.1.0, at.1.1, inr at.1.2)))))
