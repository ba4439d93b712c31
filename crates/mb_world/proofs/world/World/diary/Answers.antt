-- Proof of `World::diary`: the diary of consumer `c` on lane `p`.
use Rattle.std.proofs.Common.{◌≡◌, take, refl, sym, ◌∙◌, ap}
use Rattle.std.specs.List.{filter_map}
use Rattle.std.proofs.lemmas.List.{take_all}
use Rattle.mb_world.specs.StateReport.{note_on}
use Rattle.mb_world.proofs.StateNotes.{note_missed, note_read}
use Rattle.mb_world.proofs.world.World.diary.Goals as goal
use Rattle.mb_world.proofs.world.World.diary.Goals.{in-Some+in_ok-push, in_default}

-- after the loop all cells of the lane were read
pub returns : goal.returns
returns g c =
    let s = c.args.self.now in
    let ks = c.in_ok-lane.lane.cells.items in
    let items = c.deref-k-items.result.now in
    let whole : take c.loop-k.k-index items ≡ ks =
    take_all c.loop-k.k-index items c.loop-k-test.false ∙ c.deref-k-items.ensures.value in
    record {
      consumer = refl;
      lane = refl;
      cells = ks;
      ended = c.in_ok-lane.lane.ended;
      walked = c.in_ok-lane.ensures.walked;
      notes = c.loop-k.invariant ∙ ap (filter_map (note_on s c.args.c)) whole;
      begun = c.begun.ensures;
    }

-- if the next cell has a note, it is put after the notes of the cells before
pub loop-k-preserved : goal.loop-k-preserved
loop-k-preserved g c =
    let f = note_on c.args.self.now c.args.c in
    let items = c.deref-k-items.result.now in
    elim c.match-note.branch [
      | in-Some+in_ok-push w ↦
          ap (λ v. v.items) w.notes-is ∙ (w.in_ok-push.ensures.items
          ∙ note_read f items c.loop-k.k-index 0 c.loop-k.notes.items w.in-Some.note c.loop-k-test.true
          c.loop-k.invariant
          (sym c.note.ensures ∙ w.in-Some.is))
      | in_default w ↦
          ap (λ v. v.items) w.notes-is
          ∙ note_missed f items c.loop-k.k-index 0 c.loop-k.notes.items c.loop-k-test.true c.loop-k.invariant
          (λ n e. w.in_default.not-Some n (c.note.ensures ∙ e))
    ]
