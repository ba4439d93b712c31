-- Proof of `Unary::read_quorum`: all registers but the value's own, as a mask.
use Rattle.std.proofs.Common.{◌<◌, ◌≤◌, ◌^◌, arith}
use Rattle.std.proofs.Math.Pow.{pow-lt}
use Rattle.std.proofs.lemmas.Nat.{one_shl}
use Rattle.mb_quorum.proofs.Masks.{all_registers}
use Rattle.mb_quorum.proofs.unary.UnaryQuorums.read_quorum.Goals as goal

pub overflow_sub-result : goal.overflow_sub-result
overflow_sub-result c =
    let limit : c.args.self.now.values ≤ 64 = omega (arith, c.args.self.now.most) in
    let all = all_registers c.args.self.now.values limit in
    let own : 2 ^ c.args.v < 2 ^ c.args.self.now.values = pow-lt c.requires in
    omega (arith, own, all, one_shl c.args.v 64 (omega (arith, c.requires, limit)))

pub returns : goal.returns
returns c =
    let limit : c.args.self.now.values ≤ 64 = omega (arith, c.args.self.now.most) in
    let all = all_registers c.args.self.now.values limit in
    omega (arith, all, one_shl c.args.v 64 (omega (arith, c.requires, limit)))
