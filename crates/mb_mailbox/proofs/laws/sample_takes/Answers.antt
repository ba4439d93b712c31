-- Proof of `laws::sample_takes`: a take past an item that was lost, and what is no take.
use Rattle.std.proofs.Common.{[], ◌∷◌, refl}
use Rattle.mb_mailbox.proofs.laws.sample_takes.Goals as goal

pub returns-clause-past_one : goal.returns-clause-past_one
returns-clause-past_one c p most left w x s t u old mid new lost rest took = record {
  winners = w ∷ [];
  mid = mid;
  rest = t;
  passed = (s, old, (refl, refl), record { left = most; rest = refl; poll = lost });
  last = record { left = left; rest = rest; poll = took };
  over = λ v e. cc;
}

pub returns-clause-lost : goal.returns-clause-lost
returns-clause-lost c p most w s t old new i = i.over w refl
