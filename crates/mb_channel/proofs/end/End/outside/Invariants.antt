use Rattle.std.proofs.Common.{◌≡◌}
use Rattle.mb_channel.specs.Inside.{pass_there}
use Rattle.mb_channel.proofs.end.End.outside.Given as goal

abbrev pub invariant-loop : goal.invariant-loop
invariant-loop g l =
    (goal.iterator-loop g).can_next l.iterator' × (goal.iterator-loop g).is_finite l.iterator'
    × (l.end.chair.table_id ≡ l.initial.end.chair.table_id) × (l.end.chair.me ≡ l.initial.end.chair.me)
    × (l.end.rights ≡ l.initial.end.rights) × (pass_there l.end.inside ≡ pass_there l.initial.end.inside)
