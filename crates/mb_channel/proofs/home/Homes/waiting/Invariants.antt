use Rattle.std.proofs.Common.{◌≡◌}
use Rattle.mb_channel.specs.Lengths.{HaveLooked}
use Rattle.mb_channel.proofs.home.Homes.waiting.Given as goal

abbrev pub invariant-loop : goal.invariant-loop
invariant-loop g l = record {
  first : (l.self.first ≡ l.initial.self.first) × (l.self.audited ≡ l.initial.self.audited);
  looked : HaveLooked l.initial.self.list.items l.self.list.items;
}
