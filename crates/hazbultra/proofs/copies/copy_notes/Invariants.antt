-- Loop invariants of `copy_notes`, which copies the first notes, as many as there is room for in `to`.
use Rattle.std.specs.Prelude.{◌≡◌, drop, map, take}
use Rattle.hazbultra.specs.Reports.{note_out}
use Rattle.hazbultra.proofs.copies.copy_notes.Given as goal

abbrev pub invariant-loop-place : goal.invariant-loop-place
invariant-loop-place l = record {
  front : take l.place l.to ≡ map note_out (take l.place l.from);
  rest : drop l.place l.to ≡ drop l.place l.initial.to;
}
