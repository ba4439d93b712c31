use Rattle.std.proofs.Common.{ℕ, ◌≡◌}
use Rattle.mb_ring.specs.Vocabulary.{gives_tokens}
use Rattle.mb_ring.proofs.ring.Ring.pay_all.Given as goal

abbrev pub invariant-loop : goal.invariant-loop
invariant-loop g l =
    (goal.iterator-loop g).can_next l.iterator' × (goal.iterator-loop g).is_finite l.iterator'
    × (l.pass.seat.table_id ≡ l.initial.pass.seat.table_id) × (l.pass.seat.id ≡ l.initial.pass.seat.id)
    × ((n : ℕ) × (l.pass.seat.me.0 ≡ gives_tokens g.Q.AnyList.want n l.initial.pass.seat.me.0))
    × (l.pass.seat.me.1 ≡ l.initial.pass.seat.me.1)
