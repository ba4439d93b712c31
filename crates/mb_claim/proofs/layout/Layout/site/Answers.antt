-- Proof of `Layout::site`: the site of an object, on a cell whose words begin at `begin`.
use Rattle.std.proofs.Common.{arith}
use Rattle.mb_claim.specs.{quorums_of, kinds_of}
use Rattle.mb_claim.proofs.Addresses.{words_before-within}
use Rattle.mb_claim.proofs.layout.Layout.site.Goals as goal

pub overflow_add-result : goal.overflow_add-result
overflow_add-result c =
    let layout = c.args.self.now in
    let begins = layout.begin c.args.object (omega (arith, c.requires.object, layout.counted)) in
    let within = words_before-within (quorums_of layout).registers (kinds_of layout) c.args.object in
    omega (arith, begins, within, c.requires.begin)
