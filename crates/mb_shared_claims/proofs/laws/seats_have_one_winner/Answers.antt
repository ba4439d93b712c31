-- Proof of `laws::seats_have_one_winner`: no state of a table has two winners of a cell.
use Rattle.std.proofs.Common.{arith, refl, ◌≡◌, ◌∙◌, subst, ap}
use Rattle.mb_deciding.specs.declared.object.Kind.TheVariants.{Ratifier}
use Rattle.mb_claim.specs.declared.access.Stage.TheVariants.{Won}
use Rattle.mb_claim.specs.Vocabulary.{IsClaimPrefix, part_on}
use Rattle.mb_shared_claims.specs.Views.{claims_of_size}
use Rattle.mb_shared_claims.proofs.laws.seats_have_one_winner.Goals as goal

-- the seats' stages are those of their claims in the history of the state
pub returns-clause-named : goal.returns-clause-named
returns-clause-named g k words views i j c d cell u w xs ys s r state one other is too =
    let laws = g.states_have_one_history.ensures in
    let told = laws.history k words views state in
    let h = told.0 in
    let cs = claims_of_size k in
    let cut = g.accesses_lengthen_one_part.ensures.cells in
    let winner = g.claims_have_one_winner.ensures cs h cell
    (g.layouts_are_sound.ensures.table k.layout) told.1.lawful in
    let few = laws.roster k words views state in
    let here : part_on c cell xs ≡ part_on c cell h = ap (part_on c cell) (told.2 i c xs one) ∙ cut c cell h in
    let there : part_on d cell ys ≡ part_on d cell h = ap (part_on d cell) (told.2 j d ys other) ∙ cut d cell h in
    let low = laws.numbers k words views i c xs state one in
    let small = laws.numbers k words views j d ys state other in
    winner.same c d u w s r
    (omega (arith, low, few), subst (λ x. IsClaimPrefix cs c x s) here is)
    (omega (arith, small, few), subst (λ x. IsClaimPrefix cs d x r) there too)

pub returns-clause-won : goal.returns-clause-won
returns-clause-won g k words views i j c d cell xs ys state one other won too =
    returns-clause-named g k words views i j c d cell c d xs ys Won Won state one other won too refl refl

-- the history of the state is lawful, so in it each ratifier of a cell is used with some inputs
pub returns-clause-checks : goal.returns-clause-checks
returns-clause-checks g k words views state =
    let told = g.states_have_one_history.ensures.history k words views state in
    let sound = g.layouts_are_sound.ensures.table k.layout in
    let laws = g.objects_have_lawful_histories.ensures in (
      told.0,
      told.1,
      told.2,
      told.3,
      λ cell o is.
          let used = laws.lawful (claims_of_size k) told.0 cell o Ratifier sound told.1.lawful is in
          (used.0, used.1, laws.checks (claims_of_size k) told.0 cell o used.0 sound used.1),
    )
