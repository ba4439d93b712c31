-- The turns of slots: what a position's turn is after its slot's word, or another slot's, was set.
use Rattle.mb_ring.proofs.Base.{List, ap, arith, dec_le, dite, length, slice_index, slice_set, ℕ, ◌%◌, ◌*◌, ◌+◌, ◌<◌, ◌≡◌, ◌≢◌, ◌≤◌}
use Rattle.std.proofs.lemmas.List.{get_or-set_other}
use Rattle.std.proofs.lemmas.Grind.{get_or-set_at}
use Rattle.std.proofs.lemmas.Nat.{mod_below}
use Rattle.std.proofs.Math.Nat.{add-mod_right}
use Rattle.atomic_table.proofs.Lists.{one_turn}
use Rattle.mb_ring.specs.Vocabulary.{turn}

pub turn_here : (n : ℕ) (states : List ℕ) (p k y z : ℕ) → 0 < n → length states ≡ n → y + 2 * (p % n) ≡ z
    → k % n ≡ p % n → turn n (slice_set states (p % n) y) k ≡ z
turn_here n states p k y z some_ many is e =
    let lt = mod_below p n some_ in
    let r = get_or-set_at states (p % n) (k % n) y 0 e (omega arith) in omega arith

pub turn_else : (n : ℕ) (states : List ℕ) (p k y : ℕ) → k % n ≢ p % n
    → turn n (slice_set states (p % n) y) k ≡ turn n states k
turn_else n states p k y ne =
    let r = get_or-set_other states (p % n) (k % n) y 0 ne in omega arith

-- two positions of one slot have one turn
pub one_slot : (n : ℕ) (states : List ℕ) (j k : ℕ) → j % n ≡ k % n → turn n states j ≡ turn n states k
one_slot n states j k e = ap (λ i. slice_index states i + 2 * i) e

pub other_slot : (n : ℕ) (states : List ℕ) (j k : ℕ) → turn n states j ≢ turn n states k → j % n ≢ k % n
other_slot n states j k ne e = ne (one_slot n states j k e)

-- the next position of the slot is a lap away
pub next_lap : (n j k : ℕ) → j % n ≡ k % n → j < k → j + n ≤ k
next_lap n j k e lt = dite (dec_le (j + n) k) (λ le. le)
    (λ no_. let q = one_turn j k n (omega arith) (omega arith) e in absurd (omega arith))

pub lap_on : (n k : ℕ) → (k + n) % n ≡ k % n
lap_on n k = add-mod_right k n
