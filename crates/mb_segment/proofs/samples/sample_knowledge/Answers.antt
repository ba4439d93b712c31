use Rattle.mb_segment.proofs.Base.{arith, refl}
use Rattle.mb_segment.specs.SegmentSamples.{knowing}
use Rattle.mb_segment.specs.Vocabulary.{blank, learns_drawn}
use Rattle.mb_segment.proofs.Kept.{at0}
use Rattle.mb_segment.proofs.samples.sample_knowledge.Goals as goal

pub returns-clause-heeds : goal.returns-clause-heeds
returns-clause-heeds c = (omega arith, (omega arith, tt))

pub returns-clause-unheeded : goal.returns-clause-unheeded
returns-clause-unheeded c h = let le = h.0 in absurd (omega arith)

pub returns-clause-sends : goal.returns-clause-sends
returns-clause-sends c = (omega arith, refl, refl, refl, refl)

pub returns-clause-too_low : goal.returns-clause-too_low
returns-clause-too_low c m = let le = m.0 in absurd (omega arith)

pub returns-clause-takes : goal.returns-clause-takes
returns-clause-takes c = (omega arith, refl)

pub returns-clause-taken : goal.returns-clause-taken
returns-clause-taken c m = let le = m.0 in absurd (omega arith)

pub returns-clause-made_up : goal.returns-clause-made_up
returns-clause-made_up c k =
    let d = at0 (knowing 1) k in let le = (k.fits 1 (learns_drawn 1 blank) refl).heard.0 in absurd (omega arith)
