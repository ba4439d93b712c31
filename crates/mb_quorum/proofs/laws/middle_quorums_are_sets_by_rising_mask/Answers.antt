-- Proof of `laws::middle_quorums_are_sets_by_rising_mask`: the sets of h registers among n are numbered from 0, by
-- rising mask, each once.
use Rattle.std.proofs.Common.{◌-◌, ◌/◌, ◌^◌, inl, inr, refl, arith}
use Rattle.std.specs.Int.{bit_at}
use Rattle.std.proofs.Math.Pow.{pow_pos}
use Rattle.std.proofs.lemmas.Bool.{cases_lt, cases_eq}
use Rattle.std.proofs.lemmas.Nat.Bits.{bit_at-lt, bit_at_above}
use Rattle.mb_quorum.specs.Middle.{breadth_of, set_number}
use Rattle.mb_quorum.specs.MiddleLaw.{others_have, set_below, breadth_is_least}
use Rattle.mb_quorum.proofs.SetOrder.{set_size, set_rises, set_numbered}
use Rattle.mb_quorum.proofs.laws.middle_quorums_are_sets_by_rising_mask.Goals as goal

pub returns-clause-within : goal.returns-clause-within
returns-clause-within c = set_below

pub returns-clause-size : goal.returns-clause-size
returns-clause-size c = set_size

pub returns-clause-rise : goal.returns-clause-rise
returns-clause-rise c = set_rises

pub returns-clause-all : goal.returns-clause-all
returns-clause-all c = set_numbered

pub returns-clause-registers : goal.returns-clause-registers
returns-clause-registers c = breadth_is_least

pub returns-clause-write : goal.returns-clause-write
returns-clause-write c m v value = refl

-- the read quorum is the complement of the write quorum among the table's registers
pub returns-clause-read : goal.returns-clause-read
returns-clause-read c m v r value =
    let k = breadth_of m in
    let x = set_number k (k / 2) v in
    let bit = bit_at-lt x r in
    elim (cases_lt r k) [
      | inl below ↦
          (let other = others_have k x r (set_below k (k / 2) v) below in (
            (λ read. (below, λ written. omega (arith, other, read, written))),
            (λ out.
                elim (cases_eq (bit_at x r) 1) [
                  | inl is ↦ absurd (out.1 is)
                  | inr isnt ↦ omega (arith, other, isnt, bit)
                ]),
          ))
      | inr above ↦
          (let none = bit_at_above (2 ^ k - 1 - x) k r (omega (arith, pow_pos k)) above in
          ((λ read. absurd (omega (arith, read, none))), (λ out. absurd (omega (arith, out.0, above)))))
    ]
