use Rattle.mb_channel.proofs.list.List.fates.Given as goal

abbrev pub ghosts-give_fates : goal.ghosts-give_fates
ghosts-give_fates g a = record { told = a.taken.now }
