use Rattle.mb_segment.proofs.segment.Segment.look_listed.Given as goal

abbrev pub ghosts-load_mark : goal.ghosts-load_mark
ghosts-load_mark g a = record { position = a.at }
