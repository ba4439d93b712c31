-- What the loop over the items of a lane keeps.
use Rattle.std.specs.Prelude.{◌≡◌, ◌+◌}
use Rattle.test_audit.proofs.rules.audit_lane.Given as goal

-- the tally counts the items before position j, each of which is taken or left
abbrev pub invariant-loop-j : goal.invariant-loop-j
invariant-loop-j g l = (l.tally.put ≡ l.j) × (l.tally.left ≡ l.left) × (l.tally.took + l.tally.left ≡ l.j)
