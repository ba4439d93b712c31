use Rattle.std.specs.Prelude.{Some}
use Rattle.mb_segment.proofs.segment.Segment.draw_from.Given as goal

abbrev pub ghosts-draw_next : goal.ghosts-draw_next
ghosts-draw_next g a = record { value = Some a.value.now }

abbrev pub ghosts-draw_last : goal.ghosts-draw_last
ghosts-draw_last g a = record { value = Some a.value.now }
