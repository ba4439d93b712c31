use Rattle.std.proofs.Common.{ap, arith, refl, ℕ}
use Rattle.mb_ring.specs.Vocabulary.{View}
use Rattle.mb_ring.proofs.samples.sample_views.Goals as goal

pub returns-clause-early : goal.returns-clause-early
returns-clause-early c saw = let lt = (saw 0 refl).0 in absurd (omega arith)

pub returns-clause-owes : goal.returns-clause-owes
returns-clause-owes c e = let n = ap (λ (v : View ℕ). v.duty.room.wakes) e in absurd (omega arith)

pub returns-clause-looked_before : goal.returns-clause-looked_before
returns-clause-looked_before c saw = absurd (let lt = saw.2 in omega arith)

pub returns-clause-drew_before : goal.returns-clause-drew_before
returns-clause-drew_before c saw = absurd (let lt = saw.5 in omega arith)
