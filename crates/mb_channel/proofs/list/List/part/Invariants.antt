use Rattle.mb_channel.specs.Homes.{left_segment}
use Rattle.mb_channel.proofs.list.List.part.Given as goal

abbrev pub ghosts-give_left : goal.ghosts-give_left
ghosts-give_left g a = record { of = left_segment g.X.Stay.knew a.done }
