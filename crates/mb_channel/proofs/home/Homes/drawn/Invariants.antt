use Rattle.std.proofs.Common.{◌≡◌, length}
use Rattle.mb_channel.specs.Lengths.{HaveLooked, drawn_there, sum_to}
use Rattle.mb_channel.proofs.home.Homes.drawn.Given as goal

abbrev pub invariant-loop-at : goal.invariant-loop-at
invariant-loop-at g l = record {
  first : (l.self.first ≡ l.initial.self.first) × (l.self.audited ≡ l.initial.self.audited);
  long : length l.self.list.items ≡ length l.initial.self.list.items;
  looked : HaveLooked l.initial.self.list.items l.self.list.items;
  drawn : l.drawn ≡ sum_to drawn_there l.at l.self.list.items;
}
