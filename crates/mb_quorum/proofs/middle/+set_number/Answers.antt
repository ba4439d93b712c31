-- Proof of `set_number`: set number v, by rising mask, of the sets of `size` registers among the first `registers`.
use Rattle.std.proofs.Common.{◌≤◌, ◌-◌, ◌^◌, arith}
use Rattle.std.proofs.Math.Pow.{pow_mono}
use Rattle.std.proofs.lemmas.Nat.{one_shl}
use Rattle.mb_quorum.specs.MiddleLaw.{set_below}
use Rattle.mb_quorum.proofs.middle.+set_number.Goals as goal

pub overflow_add-result : goal.overflow_add-result
overflow_add-result t c =
    let last = c.args.registers - 1 in
    let h = c.args.size - 1 in
    let v = c.args.v - c.choose-without.result in
    let narrow : 2 ^ last ≤ 2 ^ 8 = pow_mono {j = 8} (omega (arith, c.requires.few)) in
    omega (
      arith,
      narrow,
      one_shl last 64 (omega (arith, c.requires.few)),
      set_below last h v,
      c.set_number-else-v-without.ensures,
    )
