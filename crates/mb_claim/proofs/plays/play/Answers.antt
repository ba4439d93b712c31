-- Proof of `play`: runs the claims of all consumers on one cell.
use Rattle.std.proofs.Common.{◌≡◌, ℕ, ◌<◌, ◌≤◌, subst, Bool, nat_le, None, List, length, get_or, arith}
use Rattle.std.specs.List.{position_or_len}
use Rattle.std.proofs.lemmas.List.Sums.{fails_before_first}
use Rattle.mb_claim.specs.{claims_in, history_of, HasStage, quorums_of, pair_count, shape_of, Stage, stranger_in}
use Rattle.mb_deciding.proofs.FirstPlaces.{below_by_test, none_inside}
use Rattle.mb_claim.proofs.LayoutObjects.{quorums_lawful}
use Rattle.mb_claim.proofs.plays.play.Goals as goal

-- if no step is of a consumer at or above the bound, each step's consumer is below it
all_known : (bound : ℕ) (steps : List (ℕ × ℕ)) → None ≡ stranger_in bound steps → (k : ℕ) (d : ℕ × ℕ) → k < length steps
    → (get_or steps k d).0 < bound
all_known bound steps none k d inside =
    let test : ℕ × ℕ → Bool = λ (step : ℕ × ℕ). nat_le bound step.0 in
    let past : length steps ≤ position_or_len test steps = none_inside (position_or_len test steps)
    (length steps) none in
    below_by_test bound (get_or steps k d).0 (fails_before_first test steps k d (omega arith))

pub played-requires : goal.played-requires
played-requires g c k d inside = let below = all_known c.consumers.result c.args.steps.now
    c.in_default.ensures k d inside in
    omega (arith, c.consumers.ensures)

pub returns-clause-winner : goal.returns-clause-winner
returns-clause-winner g c =
    let layout = c.args.layout.now in
    c.claims_have_one_winner.ensures (claims_in layout 1) _ 0 (quorums_lawful layout)
    c.in_ok-played.ensures.lawful

pub returns-clause-bound : goal.returns-clause-bound
returns-clause-bound g c d =
    let layout = c.args.layout.now in
    c.claims_are_bounded.ensures.rows (quorums_of layout) (shape_of layout) (pair_count layout) 1 _
    d 0 (quorums_lawful layout)
    c.in_ok-played.ensures.lawful

pub returns-clause-decided : goal.returns-clause-decided
returns-clause-decided g c last d s inside undecided =
    let cs = claims_in c.args.layout.now 1 in
    let run = c.in_ok-played.ensures in
    c.last_objects_decide_claims.ensures.stages c.args.layout.now 1 d 0 _ last
    (subst (λ (r : Stage). HasStage cs d 0 r
    (history_of c.args.steps.now c.in_ok-played.field-0.entries.items)) undecided
    (run.reached d s inside))
