-- Proof of `trace`: the trace of a schedule on the machine's object.
use Rattle.std.proofs.Common.{◌≡◌, ℕ, ◌<◌, ◌≤◌, nat_le, None, List, length, get_or, map, sym, ◌∙◌, subst, arith}
use Rattle.std.specs.List.{position_or_len}
use Rattle.std.proofs.lemmas.List.{get_or-map, length-map}
use Rattle.std.proofs.lemmas.Simd.{map-map}
use Rattle.std.proofs.lemmas.List.Sums.{fails_before_first}
use Rattle.mb_deciding.specs.{first_from}
use Rattle.mb_deciding.proofs.Refused.{none_first}
use Rattle.mb_deciding.proofs.FirstPlaces.{below_by_test, none_inside}
use Rattle.mb_deciding.proofs.run.schedule.trace.Goals as goal

-- if there is no first number that is not below the bound, each number is below it
all_below : (bound : ℕ) (numbers : List ℕ) → None ≡ first_from bound numbers → (k d : ℕ) → k < length numbers
    → get_or numbers k d < bound
all_below bound numbers none k d inside =
    let first = position_or_len (nat_le bound) numbers in
    let past : length numbers ≤ first = none_inside first (length numbers) none in
    below_by_test bound (get_or numbers k d) (fails_before_first (nat_le bound) numbers k d (omega arith))

pub traced-requires-clause-inputs : goal.traced-requires-clause-inputs
traced-requires-clause-inputs g c k d inside =
    let none = none_first c.from.result c.args.inputs.now _ (sym c.in-None.is ∙ c.refusal.ensures) in
    let below = all_below c.from.result c.args.inputs.now none.0 k d inside in
    omega arith

pub traced-requires-clause-processes : goal.traced-requires-clause-processes
traced-requires-clause-processes g c k d inside =
    let turns = map g.T.ScheduledTurn.turn c.args.schedule.now in
    let processes = map (λ (turn : ℕ × ℕ). turn.0) turns in
    let same : get_or processes k 0 ≡ (get_or turns k d).0 =
    get_or-map (λ (turn : ℕ × ℕ). turn.0) turns k d 0 inside in
    let more : k < length processes = rw length-map inside in
    let first = none_first c.from.result c.args.inputs.now _ (sym c.in-None.is ∙ c.refusal.ensures) in
    let none : None ≡ first_from (length c.args.inputs.now) processes =
    subst (λ xs. None ≡ first_from (length c.args.inputs.now) xs)
    (sym (map-map (λ (turn : ℕ × ℕ). turn.0) g.T.ScheduledTurn.turn c.args.schedule.now)) first.1 in
    subst (λ n. n < length c.args.inputs.now) same (all_below (length c.args.inputs.now) processes none k 0 more)
