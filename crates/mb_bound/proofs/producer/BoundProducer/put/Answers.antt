-- Proof of `BoundProducer::put`: puts an item, as its producer does.
use Rattle.std.proofs.Common.{◌≡◌, ℕ, subst}
use Rattle.mb_mailbox.specs.declared.producer.Put.TheVariants.{Linked}
use Rattle.mb_mailbox.specs.Producers.{IsPutInto}
use Rattle.mb_bound.specs.Bound.{BoundProducerView}
use Rattle.mb_bound.proofs.producer.BoundProducer.put.Goals as goal

-- the clause follows from the same clause of `Producer::put`, which this call makes with its own producer
pub returns-clause-linked : goal.returns-clause-linked
returns-clause-linked g c =
    subst (λ (p : BoundProducerView). c.put.result ≡ Linked
    → (k : ℕ) × IsPutInto k c.args.x p.producer c.put.new.self) c.self.view_is c.put.ensures.linked
