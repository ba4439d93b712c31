-- Proof of `without`: the mask without this register.
use Rattle.std.proofs.Common.{◌≡◌, ◌≢◌, ◌<◌, ◌*◌, ◌%◌, ◌^◌, arith, w64, sym, ◌∙◌, subst, bit_and}
use Rattle.std.specs.Int.{bit_at, bit_not}
use Rattle.std.proofs.lemmas.Nat.{and_le_l}
use Rattle.std.proofs.lemmas.Nat.Bits.{bit_at_clear_same, bit_at_clear_other}
use Rattle.mb_quorum.specs.Quorum.{IsMember}
use Rattle.mb_deciding.proofs.Registers.{member_below}
use Rattle.mb_deciding.proofs.TurnsLeft.{ones_fewer}
use Rattle.mb_deciding.proofs.place.mask.without.Goals as goal

pub returns-clause-taken : goal.returns-clause-taken
returns-clause-taken c k =
    let mask = c.args.mask in
    let r = c.args.register in
    let kept = bit_and mask (bit_not w64 (1 * 2 ^ r % 2 ^ 64)) in
    let small : kept < 2 ^ 64 = omega (arith, and_le_l mask (bit_not w64 (1 * 2 ^ r % 2 ^ 64))) in
    let gone : bit_at kept r ≡ 0 = bit_at_clear_same w64 mask r c.requires in
    let other : k ≢ r → k < 64 → bit_at kept k ≡ bit_at mask k =
    λ ne below. bit_at_clear_other w64 mask r c.requires k below ne in
    let differs : IsMember kept k → k ≢ r =
    λ m e. (let one : bit_at kept r ≡ 1 = subst (λ n. bit_at kept n ≡ 1) e m in omega arith) in (
      (λ m. (sym (other (differs m) (member_below 64 kept k small m)) ∙ m, differs m)),
      (λ both. other both.1 (member_below 64 mask k (omega arith) both.0) ∙ both.0),
    )

pub returns-clause-fewer : goal.returns-clause-fewer
returns-clause-fewer c member =
    let mask = c.args.mask in
    let kept = bit_and mask (bit_not w64 (1 * 2 ^ c.args.register % 2 ^ 64)) in
    let small : kept < 2 ^ 64 = omega (arith, and_le_l mask (bit_not w64 (1 * 2 ^ c.args.register % 2 ^ 64))) in
    ones_fewer 64 mask c.args.register kept (omega arith) small (returns-clause-taken c) member c.requires
