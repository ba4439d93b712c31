use Rattle.mb_channel.specs.Tallies.{told_last}
use Rattle.mb_channel.proofs.list.List.tell.Given as goal

abbrev pub ghosts-tell_last : goal.ghosts-tell_last
ghosts-tell_last g a = record { of = told_last a.last }
