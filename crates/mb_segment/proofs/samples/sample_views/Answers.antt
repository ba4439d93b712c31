use Rattle.mb_segment.proofs.Base.{ap, arith, ℕ}
use Rattle.mb_segment.specs.Vocabulary.{View}
use Rattle.mb_segment.proofs.Spots.{no_some}
use Rattle.mb_segment.proofs.samples.sample_views.Goals as goal

pub returns-clause-taken : goal.returns-clause-taken
returns-clause-taken c = ((omega arith, tt), λ p e. absurd (no_some p e))

pub returns-clause-waits : goal.returns-clause-waits
returns-clause-waits c e = let lt = e.0.0 in absurd (omega arith)

pub returns-clause-owes : goal.returns-clause-owes
returns-clause-owes c e = let n = ap (λ (v : View ℕ). v.duty.wakes) e in absurd (omega arith)

pub returns-clause-falls : goal.returns-clause-falls
returns-clause-falls c r = let le = r.1.0 in absurd (omega arith)
