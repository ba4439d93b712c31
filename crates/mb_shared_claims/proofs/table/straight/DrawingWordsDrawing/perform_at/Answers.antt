-- Proof of `DrawingWords::perform_at`: makes an access to the object of a site.
use Rattle.std.proofs.Common.{ap, arith}
use Rattle.mb_deciding.specs.Vocabulary.{reg_of}
use Rattle.mb_claim.specs.Vocabulary.{quorums_of, kinds_of, offset}
use Rattle.mb_shared_claims.proofs.Sites.{word_addressed}
use Rattle.mb_shared_claims.proofs.table.straight.DrawingWordsDrawing.perform_at.Goals as goal

-- the word is one of the cell's words, and all of these can be addressed
pub overflow_add-address : goal.overflow_add-address
overflow_add-address g c =
    let layout = c.args.self.now.table.now.layout in
    let in_cell = c.addresses_are_apart.ensures.within (quorums_of layout).registers (kinds_of layout) 1 0
    c.args.site.object (reg_of c.args.op) c.requires.2 (omega arith) in
    let low = word_addressed layout c.args.self.now.cell c.args.site (reg_of c.args.op) in_cell
    c.requires.4 c.requires.5 in
    omega (arith, low, c.place_in_object.ensures, ap offset c.reg.ensures)
