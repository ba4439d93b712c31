-- Proof of `laws::nothing_is_exact`: a step's answer is that it found nothing exactly if `HasNothing` holds.
use Rattle.std.proofs.Common.{ℕ, List, Option, None}
use Rattle.mb_world.specs.declared.report.Note.{Note}
use Rattle.mb_world.specs.Imports.{ObjectTurn}
use Rattle.mb_world.specs.Plan.{size_of}
use Rattle.mb_world.specs.World.{lane_part, pool_accesses}
use Rattle.mb_world.specs.ConsumerPath.{ConsumerPath}
use Rattle.mb_world.proofs.NothingFound.{nothing_found, nothing_there}
use Rattle.mb_world.proofs.laws.nothing_is_exact.Goals as goal

pub returns : goal.returns
returns c plan h d p word r a table lawful entry =
    let size = size_of plan in
    let pool = (c.worlds_are_sound.ensures.sound plan h table lawful).pool_lawful in
    let known = c.worlds_are_known.ensures plan h table pool in
    let next = λ (q k : ℕ) (later ks : List ℕ).
    c.words_lead_through_lanes.ensures.next size (pool_accesses h) q k later ks pool in
    let end = λ (q : ℕ). c.words_lead_through_lanes.ensures.end size (pool_accesses h) q pool in
    let one = λ (js : List ℕ) (ms : List Note) (held : Option (List ObjectTurn))
    (path : ConsumerPath plan.claims d p (lane_part d p h) js ms held) (ks : List ℕ) (ns : List Note)
    (other : ConsumerPath plan.claims d p (lane_part d p h) ks ns None).
    c.paths_lead_to_one_place.ensures.one plan.claims d p (lane_part d p h) js ks ms ns held None table path other in (
      nothing_there plan h lawful known next end d p word r a entry,
      nothing_found plan h lawful known next end d p word one r a entry,
    )
