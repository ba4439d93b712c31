use Rattle.mb_channel.proofs.list.List.another.Given as goal

abbrev pub ghosts-number : goal.ghosts-number
ghosts-number g a = record { name = a.name }
