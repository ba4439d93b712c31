use Rattle.mb_ring.proofs.ring.Ring.look.Given as goal

abbrev pub ghosts-load_mark : goal.ghosts-load_mark
ghosts-load_mark g a = record { position = a.at }
