use Rattle.std.proofs.Common.{◌≡◌, false, take}
use Rattle.mb_mailbox.specs.Calls.{ArePassed}
use Rattle.mb_mailbox.specs.Producers.{FoundNoCell, IsProducerOf, IsSameLane, is_over}
use Rattle.mb_mailbox.specs.declared.gate.Who.TheVariants as who
use Rattle.mb_mailbox.proofs.crew.workers.put_items.Given as goal

-- the items before item i are put, each into a cell, and the gate let these calls through. The lane has not ended
abbrev pub invariant-loop-i : goal.invariant-loop-i
invariant-loop-i g l = record {
  all_of : IsProducerOf l.mailbox l.producer;
  items : l.producer.items ≡ take l.i l.items;
  lane : IsSameLane l.initial.producer l.producer;
  begun : is_over l.producer ≡ false;
  had_cells : FoundNoCell l.producer → FoundNoCell l.initial.producer;
  passed : ArePassed (g.G.Gate.may_pass l.gate) (who.Producer l.initial.producer.seat.lane) l.i;
}
