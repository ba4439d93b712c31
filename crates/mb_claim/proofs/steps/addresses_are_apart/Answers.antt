-- Proof of `steps::addresses_are_apart`: different words have different addresses. Also where words of a row lie.
use Rattle.std.proofs.Common.{◌≡◌, ◌+◌, ◌*◌, length, ap, arith}
use Rattle.mb_claim.specs.{Value, Proposal, Quorum, Last, address_of, pairs_of, fast_row}
use Rattle.mb_claim.proofs.Addresses.{distinct, within, row_words-pairs_of, pair_address}
use Rattle.mb_claim.proofs.ShapedAddresses.{row_words-row_of, fast_address, shaped_address, last_address}
use Rattle.mb_claim.proofs.steps.addresses_are_apart.Goals as goal

pub returns-clause-apart : goal.returns-clause-apart
returns-clause-apart c r kinds j k o p reg other = distinct r kinds j k o p reg other

pub returns-clause-within : goal.returns-clause-within
returns-clause-within c = within

pub returns-clause-conciliator : goal.returns-clause-conciliator
returns-clause-conciliator c r s n k i h =
    let first : 2 * i + 0 ≡ 2 * i = omega arith in
    omega (arith, ap (λ o. address_of r (pairs_of s n) k o Value) first, pair_address r s n k i 0 Value h (omega arith))

pub returns-clause-proposal : goal.returns-clause-proposal
returns-clause-proposal c r s n k i h = omega (arith, pair_address r s n k i 1 Proposal h (omega arith))

pub returns-clause-register : goal.returns-clause-register
returns-clause-register c r s n k i q h = omega (arith, pair_address r s n k i 1 (Quorum q) h (omega arith))

pub returns-clause-words : goal.returns-clause-words
returns-clause-words c = row_words-pairs_of

pub returns-clause-fast_proposal : goal.returns-clause-fast_proposal
returns-clause-fast_proposal c r s n k i shape h = omega (arith, fast_address r s n k i shape Proposal h)

pub returns-clause-fast_register : goal.returns-clause-fast_register
returns-clause-fast_register c r s n k i q shape h = omega (arith, fast_address r s n k i shape (Quorum q) h)

pub returns-clause-shaped_conciliator : goal.returns-clause-shaped_conciliator
returns-clause-shaped_conciliator c r s n k i shape h =
    let f = length (fast_row shape.fast) in
    omega (arith, shaped_address r s n k i 0 (f + 2 * i) shape Value h (omega arith) (omega arith))

pub returns-clause-shaped_proposal : goal.returns-clause-shaped_proposal
returns-clause-shaped_proposal c r s n k i shape h =
    let f = length (fast_row shape.fast) in
    omega (arith, shaped_address r s n k i 1 (f + 2 * i + 1) shape Proposal h (omega arith) (omega arith))

pub returns-clause-shaped_register : goal.returns-clause-shaped_register
returns-clause-shaped_register c r s n k i q shape h =
    let f = length (fast_row shape.fast) in
    omega (arith, shaped_address r s n k i 1 (f + 2 * i + 1) shape (Quorum q) h (omega arith) (omega arith))

pub returns-clause-last : goal.returns-clause-last
returns-clause-last c r s n k shape = omega (arith, last_address r s n k shape Last)

pub returns-clause-shaped : goal.returns-clause-shaped
returns-clause-shaped c = row_words-row_of
