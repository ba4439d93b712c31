-- The accesses left at a place are at most `most_turns`. Also how large `most_turns` is at most for a ratifier.
use Rattle.std.proofs.Common.{◌≡◌, ℕ, zero, suc, ◌+◌, ◌*◌, ◌^◌, ◌<◌, ◌≤◌, ◌==◌, count_ones, cond, Bool, true, false, List}
use Rattle.std.proofs.Common.{◌∷◌, length, sym, refl, ap, ◌∙◌, arith}
use Rattle.std.specs.Int.{bit_at}
use Rattle.std.proofs.Math.Nat.{mod-eq_of_lt, max-le}
use Rattle.std.proofs.lemmas.Bool.{eq-eqb, eqb-true}
use Rattle.std.proofs.lemmas.Nat.{ones-le}
use Rattle.mb_quorum.specs.Quorum.{QuorumTable, IsQuorumTable, IsMember}
use Rattle.mb_quorum.specs.WidthLaw.{self_below}
use Rattle.mb_deciding.specs.{Quorum, Act, Load, Turn, Kind, Conciliator, Ratifier, LastObject, Pc, InRatifier, InConciliator}
use Rattle.mb_deciding.specs.{InLast, Begin, Announce, Propose, Check, Draw, Put, Look, acts_below, IsRest, PcIsAt}
use Rattle.mb_deciding.specs.{most_turns, turns_left, largest_quorum}
use Rattle.mb_deciding.proofs.Sizes.{each_exact, each_size, largest_bound}
use Rattle.mb_deciding.proofs.TurnsLeft.{attempts_left}

-- ---- masks whose registers are all in another mask
-- if xs is no longer than ys, that stays so after one act is put before both, before ys alone, or before none
cond_within :
    (x : Act) (xs ys : List Act) (p q : Bool) → (p ≡ true → q ≡ true) → length xs ≤ length ys
    → length (cond p (x ∷ xs) xs) ≤ length (cond q (x ∷ ys) ys)
cond_within x xs ys true true both less = omega (arith, less)
cond_within x xs ys true false both less = let e = both refl in absurd (cc)
cond_within x xs ys false true both less = omega (arith, less)
cond_within x xs ys false false both less = less

-- if all registers of a are in b, a has below a bound no more registers than b
below_within :
    (act : ℕ → Act) (n a b : ℕ) → ((k : ℕ) → IsMember a k → IsMember b k)
    → length (acts_below act n a) ≤ length (acts_below act n b)
below_within act zero a b within = omega arith
below_within act (suc n) a b within =
    cond_within (act n) (acts_below act n a) (acts_below act n b) (bit_at a n == 1) (bit_at b n == 1)
    (λ e. eq-eqb (bit_at b n) 1 (within n (eqb-true (bit_at a n) 1 e))) (below_within act n a b within)

-- if all registers of a are in b, a has no more registers than b
ones_within : (a b : ℕ) → ((k : ℕ) → IsMember a k → IsMember b k) → count_ones a ≤ count_ones b
ones_within a b within =
    let act = λ (k : ℕ). Load (Quorum k) 0 in
    let all : count_ones a ≡ length (acts_below act a a) =
    ap count_ones (sym (mod-eq_of_lt (self_below a))) ∙ sym (each_exact act a a) in
    omega (arith, all, below_within act a a b within, each_size act a b)

-- the registers of a mask that are left are no more than the mask has
rest_within : (mask bound left : ℕ) → IsRest mask bound left → count_ones left ≤ count_ones mask
rest_within mask bound left rest = ones_within left mask (λ k member. ((rest k).0 member).1)

-- ---- the accesses left at a place
-- the accesses left at a place are at most `most_turns`, the most that a process makes on an object of its kind
pub most_left :
    (t : QuorumTable) (kind : Kind) (v : ℕ) (pc : Pc) (turns : List Turn) → v < t.values → PcIsAt t kind v pc turns
    → turns_left t pc ≤ most_turns t kind
most_left t Ratifier v (InRatifier (Begin input)) turns value at =
    omega (arith, largest_bound t.write t.values input at.0)
most_left t Ratifier v (InRatifier (Announce input left)) turns value at =
    omega (arith, largest_bound t.write t.values v value, rest_within (t.write v) at.1.1.0 left at.1.1.2)
most_left t Ratifier v (InRatifier (Propose input)) turns value at = omega arith
most_left t Ratifier v (InRatifier (Check preference left)) turns value at =
    omega (
      arith,
      largest_bound t.read t.values preference at.0.0,
      rest_within (t.read preference) at.1.0 left at.1.2,
    )
most_left t (Conciliator s) v (InConciliator (Draw input limit modulus)) turns value at =
    omega (arith, attempts_left s at.1.1.0 limit modulus at.1.1.1)
most_left t (Conciliator s) v (InConciliator (Put input)) turns value at = omega arith
most_left t (Conciliator s) v (InConciliator (Look input)) turns value at = omega arith
most_left t LastObject v (InLast place) turns value at = omega arith
most_left t Ratifier v (InConciliator place) turns value at = absurd at
most_left t (Conciliator s) v (InRatifier place) turns value at = absurd at
most_left t LastObject v (InConciliator place) turns value at = absurd at
most_left t LastObject v (InRatifier place) turns value at = absurd at
most_left t Ratifier v (InLast place) turns value at = absurd at
most_left t (Conciliator s) v (InLast place) turns value at = absurd at

-- ---- whole paths
-- if all quorums are below 2 ^ r, the largest has at most r registers
largest_within : (quorum : ℕ → ℕ) (r n : ℕ) → ((v : ℕ) → v < n → quorum v < 2 ^ r) → largest_quorum quorum n ≤ r
largest_within quorum r zero within = omega arith
largest_within quorum r (suc n) within =
    max-le (ones-le r (quorum n) (within n (omega arith)))
    (largest_within quorum r n (λ v below. within v (omega arith)))

-- on a ratifier a process makes at most two accesses for each of the table's registers, and two more
pub ratifier_short : (t : QuorumTable) → IsQuorumTable t → most_turns t Ratifier ≤ 2 * t.registers + 2
ratifier_short t q =
    omega (
      arith,
      largest_within t.write t.registers t.values q.write_within,
      largest_within t.read t.registers t.values q.read_within,
    )
