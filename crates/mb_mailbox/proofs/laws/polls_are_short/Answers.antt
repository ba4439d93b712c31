-- Proof of `laws::polls_are_short`: a poll makes few accesses.
use Rattle.std.proofs.Common.{◌<◌, ◌≤◌, suc, length, sym, ap, ◌∙◌, subst}
use Rattle.mb_quorum.specs.Vocabulary.{IsQuorumTable}
use Rattle.mb_claim.specs.Vocabulary.{most_accesses}
use Rattle.mb_mailbox.specs.Imports.{CellsName, ClaimTable, ReaderSeatView, SeatView, cells_met, claims_at, part_on}
use Rattle.mb_mailbox.specs.Steps.{outcome}
use Rattle.mb_mailbox.proofs.ShortPolls.{few_made, one_met}
use Rattle.mb_mailbox.proofs.Straight.{few_on}
use Rattle.mb_mailbox.proofs.laws.polls_are_short.Goals as goal

pub returns : goal.returns
returns c m p budget answer s t old new i low was is belongs lawful told =
    let most = most_accesses m.claims.layout in
    let kept = ap (λ (z : SeatView). z.table) i.done.seat in
    let sound = subst (λ (z : ClaimTable). IsQuorumTable (claims_at z).table) (sym belongs.claims ∙ kept)
    (c.layouts_are_sound.ensures.table m.claims.layout) in
    let lane = subst (λ (z : CellsName). p < z.size.lanes)
    (sym belongs.cells ∙ ap (λ (r : ReaderSeatView). r.table) i.done.reader) low in
    few_made c.accesses_lengthen_one_part.ensures.own_cell c.prefixes_have_one_stage.ensures
    c.loads_meet_cells.ensures.cell c.looks_tell_links.ensures.cell p old sound most (outcome answer) i.accesses i.lead
    (subst (λ (r : ReaderSeatView). length (cells_met p r.part) ≤ suc (length (cells_met p old.reader.part)))
    i.done.reader (one_met p budget answer s t old new i was is told lane))
    (λ k. subst (λ (z : SeatView). length (part_on z.consumer k z.part) ≤ most) i.done.seat
    (few_on c.accesses_lengthen_one_part.ensures.cells c.claims_are_bounded.ensures.layouts m.claims.layout
    m.claims.cells k new.seat (ap (λ (z : ClaimTable). z.size) belongs.claims) lawful))
