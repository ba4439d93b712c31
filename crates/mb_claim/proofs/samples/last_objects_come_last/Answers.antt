-- Proof of `samples::last_objects_come_last`: what a last object after the pair changes.
use Rattle.std.proofs.Common.{[], ◌∷◌, refl, arith}
use Rattle.mb_quorum.specs.Unary.{unary_table}
use Rattle.mb_claim.specs.{Going, LastObject, Undecided, left_undecided, pairs_of}
use Rattle.mb_claim.proofs.LastSamples.{first_refused, pair_passed, still_going}
use Rattle.mb_claim.proofs.samples.last_objects_come_last.Goals as goal

pub returns-clause-undecided : goal.returns-clause-undecided
returns-clause-undecided c = ((omega arith), pair_passed [] Undecided (refl, refl))

pub returns-clause-going : goal.returns-clause-going
returns-clause-going c = ((omega arith), pair_passed (LastObject ∷ []) Going still_going)

pub returns-clause-not_undecided : goal.returns-clause-not_undecided
returns-clause-not_undecided c = c.last_objects_decide_claims.ensures.rows (unary_table 2)
    (pairs_of 2 1) 1 0 0 left_undecided

pub returns-clause-first : goal.returns-clause-first
returns-clause-first c = first_refused
