use Rattle.mb_channel.specs.Homes.{came_to, went_on}
use Rattle.mb_channel.proofs.list.List.come.Given as goal

abbrev pub ghosts-enter : goal.ghosts-enter
ghosts-enter g a = record { of = came_to a.segment.now a.takes }

abbrev pub ghosts-go_on : goal.ghosts-go_on
ghosts-go_on g a = record { of = went_on a.next a.takes }
