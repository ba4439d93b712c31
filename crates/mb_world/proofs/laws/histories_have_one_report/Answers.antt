-- Proof of `laws::histories_have_one_report`: there is at most one report of what was done.
use Rattle.mb_world.proofs.OneReport.{one_report}
use Rattle.mb_world.proofs.laws.histories_have_one_report.Goals as goal

pub returns : goal.returns
returns c plan hs r s sound x y =
    one_report plan hs (c.sound_histories_are_known.ensures plan hs sound) r s x y
