use Rattle.std.specs.Prelude.{Some}
use Rattle.mb_ring.proofs.ring.Ring.draw_listed.Given as goal

abbrev pub ghosts-load_room : goal.ghosts-load_room
ghosts-load_room g a = record { position = a.at }

abbrev pub ghosts-draw_next_listed : goal.ghosts-draw_next_listed
ghosts-draw_next_listed g a = record { value = Some a.value.now }
