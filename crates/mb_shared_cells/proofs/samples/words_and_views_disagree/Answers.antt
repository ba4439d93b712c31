-- Proof of `samples::words_and_views_disagree`: words and views that are no state of such a table.
use Rattle.std.proofs.Common.{arith, ap, refl, sym, ◌≡◌, ◌∙◌}
use Rattle.mb_cells.specs.Vocabulary.{one_put, part, value_in}
use Rattle.mb_cells.specs.declared.access.Process.TheVariants.{Producer}
use Rattle.mb_cells.specs.declared.access.Word.TheVariants.{Head}
use Rattle.mb_shared_cells.specs.Samples.{lane_with, one_by_one}
use Rattle.mb_shared_cells.proofs.samples.words_and_views_disagree.Goals as goal

-- lane 0 has put its item, so its head holds 1, and not 0
pub returns : goal.returns
returns c = λ s.
    let t = s.0 in
    let state = s.1 in
    let seat = state.fits 1 (lane_with one_put) refl in
    let done : one_put ≡ part (Producer 0) t.history = seat.2.part in
    let here : 0 ≡ value_in (Head 0) t.history = state.memory.left (Head 0) (omega arith) in
    let own = c.parts_tell_lanes.ensures.head one_by_one t.history 0 state.memory.lawful in
    let e : 0 ≡ 1 = here ∙ (own ∙ ap (λ h. value_in (Head 0) h) (sym done)) in
    omega (arith, e)
