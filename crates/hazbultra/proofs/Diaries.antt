-- How many consumers a report tells of, by the counts of its diaries and lanes.
use Rattle.std.proofs.Common.{◌≡◌, ◌∙◌, ◌+◌, ◌*◌, ◌/◌, ◌<◌, ℕ, Option, None, Some, ap, arith, sym}
use Rattle.std.proofs.Common.{length}
use Rattle.std.proofs.lemmas.Nat.{div-mul-add}
use Rattle.std.specs.Prelude.{SomeIff}
use Rattle.std.specs.Option.{unwrap_or}
use Rattle.mb_world.specs.Theorem.{ReportView}
use Rattle.hazbultra.specs.Reports.{HasConsumers}

-- if `count` is not 0, `share` is a number, and that is the quotient of `all` by `count`
share_of : (share : Option ℕ) (all count : ℕ) → 0 < count → SomeIff share (0 < count) (all / count)
    → unwrap_or share 0 ≡ all / count
share_of None all count some is = absurd (is some)
share_of (Some s) all count some is = is.1

-- the number of diaries divided by the number of lanes is the number of consumers
pub consumers_told : (n : ℕ) (r : ReportView) (share : Option ℕ) (all count : ℕ) → HasConsumers n r
    → all ≡ length r.diaries → count ≡ length r.lanes
    → SomeIff share (0 < count) (all / count) → unwrap_or share 0 ≡ n
consumers_told n r share all count has diaries lanes is =
    let some = has.some in
    let whole : all ≡ n * count + 0 =
    diaries ∙ has.diaries ∙ ap (λ k. n * k) (sym lanes) ∙ omega arith in
    share_of share all count (omega (arith, some, lanes)) is
    ∙ ap (λ k. k / count) whole ∙ div-mul-add n count 0 (omega (arith, some, lanes))
