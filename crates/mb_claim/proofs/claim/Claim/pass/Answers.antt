-- Proof of `Claim::pass`: goes on to the next object, if there is one.
use Rattle.std.proofs.Common.{arith}
use Rattle.mb_deciding.specs.Vocabulary.{spread}
use Rattle.mb_claim.specs.{quorums_of}
use Rattle.mb_claim.proofs.LayoutObjects.{objects_few}
use Rattle.mb_claim.proofs.claim.Claim.pass.Goals as goal

pub overflow_add-self : goal.overflow_add-self
overflow_add-self c =
    let all = objects_few c.args.layout.now.shape (spread (quorums_of c.args.layout.now).values)
    c.args.layout.now.pairs c.args.layout.now.few in
    omega (arith, all, c.requires.object)

pub overflow_add-self-in-Some : goal.overflow_add-self-in-Some
overflow_add-self-in-Some c =
    let all = objects_few c.args.layout.now.shape (spread (quorums_of c.args.layout.now).values)
    c.args.layout.now.pairs c.args.layout.now.few in
    omega (arith, all, c.requires.object)
