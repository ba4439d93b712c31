-- Proof of `SharedClaims::close`: ends the table, once all seats that were issued are returned.
use Rattle.std.proofs.Common.{ap, ◌∙◌, subst}
use mathlib.Core.Option.{some}
use Rattle.mb_shared_claims.specs.Types.{TableSize}
use Rattle.mb_shared_claims.specs.Views.{claims_of_size}
use Rattle.mb_shared_claims.specs.ViewSteps.{Seated, roll_of}
use Rattle.mb_shared_claims.specs.Rule.{IsClaimsState}
use Rattle.mb_shared_claims.specs.Seats.{TableView, HubView, AreOfOneHistory, taken_part, count_out}
use Rattle.mb_shared_claims.proofs.Closing.{ends}
use Rattle.mb_shared_claims.proofs.table.SharedClaims.close.Goals as goal

-- the last state keeps the rule, and has the hub's view with all parts in its roll
pub returns : goal.returns
returns g c =
    let last = c.close_with.ensures.values.2 in
    let hub = c.hub.invariant in
    let size = c.self.inside.size in
    let at = last.1.1 ∙ ap (λ (z : Seated). some z.0) hub.is in
    let none_out = ap (λ (v : HubView). count_out v.roll) c.hub.view_is ∙ c.requires.all_in in
    subst (λ (v : TableView × HubView).
    AreOfOneHistory (claims_of_size (record { layout = v.0.layout; cells = v.0.cells })) (taken_part v.1.roll))
    (λ i. (c.self.view_is i, c.hub.view_is i))
    (ends size hub.size last.0.words last.0.views c.hub.inside.seat.id (roll_of c.hub.inside.seat.me.0)
    (subst (λ (k : TableSize). IsClaimsState k last.0.words last.0.views) c.self.invariant.told last.1.0) at none_out)
