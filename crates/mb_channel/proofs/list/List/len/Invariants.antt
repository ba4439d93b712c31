use Rattle.mb_channel.proofs.list.List.len.Given as goal

abbrev pub ghosts-give_length : goal.ghosts-give_length
ghosts-give_length g a = record { told = a.found }
