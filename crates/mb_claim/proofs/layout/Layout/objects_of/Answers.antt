-- Proof of `Layout::objects_of`: how many objects a row of this shape has.
use Rattle.std.proofs.Common.{arith}
use Rattle.mb_claim.proofs.LayoutObjects.{length-row_of}
use Rattle.mb_claim.proofs.layout.Layout.objects_of.Goals as goal

pub returns : goal.returns
returns c s = omega (arith, length-row_of c.args.shape s c.args.pairs, c.before-2.ensures.exact, c.after.ensures.exact)
