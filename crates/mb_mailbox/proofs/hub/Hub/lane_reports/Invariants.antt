use Rattle.mb_mailbox.specs.Gathering.{AreLanesOutlined}
use Rattle.mb_mailbox.proofs.hub.Hub.lane_reports.Given as goal

-- the outlines of the lanes before p are made
abbrev pub invariant-loop-p : goal.invariant-loop-p
invariant-loop-p g l = AreLanesOutlined l.consumers l.self l.p l.reports.items
