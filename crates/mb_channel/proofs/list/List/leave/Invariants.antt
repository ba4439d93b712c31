use Rattle.mb_segment.specs.Seats.{view_in as pass_view}
use Rattle.mb_channel.proofs.list.List.leave.Given as goal

abbrev pub ghosts-part : goal.ghosts-part
ghosts-part g a = record { knew = pass_view a.pass }
