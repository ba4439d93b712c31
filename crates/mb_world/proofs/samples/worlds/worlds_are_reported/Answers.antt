-- Proof of `samples::worlds::worlds_are_reported`: the report of the small world.
use Rattle.std.proofs.Common.{[], ◌∷◌, Some, None, arith}
use Rattle.mb_quorum.specs.declared.table.TableName.TheVariants.{Unary}
use Rattle.mb_world.specs.declared.report.Note.TheVariants.{Lost, Took}
use Rattle.mb_world.specs.PathSamples.{first_step}
use Rattle.mb_world.specs.WorldSamples.{all_done, all_reported, two_by_two}
use Rattle.mb_world.proofs.SampleReports.{all_told}
use Rattle.mb_world.proofs.samples.worlds.worlds_are_reported.Goals as goal

pub returns-clause-report : goal.returns-clause-report
returns-clause-report c =
    let table = (c.named_tables_are_lawful.ensures.lawful Unary 2 (omega arith)) in
    let all = c.worlds_go_on.ensures.all in
    all_told
    (c.places_tell_diaries.ensures.diary two_by_two all_done 0 0 (0 ∷ []) (Took 5 ∷ []) None table
    all c.worlds_go_on.ensures.took)
    (c.places_tell_diaries.ensures.diary two_by_two all_done 0 1 [] [] None table all c.worlds_go_on.ensures.away)
    (c.places_tell_diaries.ensures.diary two_by_two all_done 1 0 (0 ∷ []) (Lost 0 ∷ []) None table
    all c.worlds_go_on.ensures.lost)
    (c.places_tell_diaries.ensures.diary two_by_two all_done 1 1 (1 ∷ []) []
    (Some (first_step ∷ [])) table all c.worlds_go_on.ensures.begun)

pub returns-clause-sound : goal.returns-clause-sound
returns-clause-sound c = c.worlds_are_sound.ensures.sound two_by_two all_done
    (c.named_tables_are_lawful.ensures.lawful Unary 2 (omega arith)) c.worlds_go_on.ensures.all

pub returns-clause-ends : goal.returns-clause-ends
returns-clause-ends c =
    (c.worlds_are_sound.ensures.main_theorem two_by_two all_done all_reported
    (c.named_tables_are_lawful.ensures.lawful Unary 2 (omega arith)) c.worlds_go_on.ensures.all
    (returns-clause-report c)).ends
