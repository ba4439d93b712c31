-- Proof of `copy_notes`: copies the first notes, as many as there is room for in `to`.
use Rattle.std.proofs.Common.{◌≡◌, ◌∙◌, ◌<◌, ◌+◌, ◌++◌, [], ◌∷◌, ap, arith, drop, length, map}
use Rattle.std.proofs.Common.{sym, take}
use Rattle.std.proofs.lemmas.List.{drop-drop, drop-set-lt, map_more, take-append-drop, take-map}
use Rattle.std.proofs.lemmas.List.{take_more_set}
use Rattle.hazbultra.specs.Reports.{note_out}
use Rattle.hazbultra.proofs.copies.copy_notes.Goals as goal

-- one more note is copied, and the rest of `to` stays
pub loop-place-preserved : goal.loop-place-preserved
loop-place-preserved c =
    let notes = c.args.from.now in
    let slots = c.loop-place.to in
    let at = c.loop-place.place in
    let out = c.from.result in
    let in_notes : at < length notes = omega arith in
    let in_slots : at < length slots = omega arith in
    record {
      front = take_more_set slots at out in_slots
          ∙ (λ i. c.loop-place.invariant.front i ++ c.from.ensures i ∷ [])
          ∙ sym (map_more note_out notes at _ in_notes);
      rest = drop-set-lt (at + 1) slots at out (omega arith)
          ∙ sym (drop-drop 1 at slots) ∙ ap (drop 1) c.loop-place.invariant.rest
          ∙ drop-drop 1 at c.args.to.now;
    }

-- after the loop the first notes are copied
pub returns-clause-notes : goal.returns-clause-notes
returns-clause-notes c =
    let count = c.min-count.result in
    let whole : c.loop-place.place ≡ count = omega arith in
    sym (take-append-drop count c.loop-place.to)
    ∙ (λ i. take (sym whole i) c.loop-place.to ++ drop (sym whole i) c.loop-place.to)
    ∙ (λ i. c.loop-place.invariant.front i ++ c.loop-place.invariant.rest i)
    ∙ (λ i. map note_out (take (whole i) c.args.from.now) ++ drop (whole i) c.args.to.now)
    ∙ ap (λ l. l ++ drop count c.args.to.now) (sym (take-map note_out count c.args.from.now))
