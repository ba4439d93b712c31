-- Proof of `Layout::kind`: the kind of an object, or none if the cells have no such object.
use Rattle.std.proofs.Common.{sym, arith}
use Rattle.std.proofs.lemmas.Option.{slice_get_past}
use Rattle.mb_claim.specs.{kinds_of}
use Rattle.mb_claim.proofs.layout.Layout.kind.Goals as goal

pub kind_of-requires : goal.kind_of-requires
kind_of-requires c = let layout = c.args.self.now in omega (arith, layout.counted)

pub returns-else-object-self-clause-exact : goal.returns-else-object-self-clause-exact
returns-else-object-self-clause-exact c =
    let layout = c.args.self.now in
    sym (slice_get_past (kinds_of layout) c.args.object (omega (arith, layout.counted)))
