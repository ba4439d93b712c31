-- Proof of `laws::last_objects_settle_items`: what a report shows if each cell has a last object.
use Rattle.std.proofs.Common.{subst}
use Rattle.mb_claim.specs.AllClaims.{claims_of}
use Rattle.mb_claim.specs.declared.access.Stage.TheVariants as stage
use Rattle.mb_world.specs.Imports.{IsClaimPrefix, claim_part}
use Rattle.mb_world.proofs.LastObjects.{beside, taken}
use Rattle.mb_world.proofs.ReportPositions.{undecided_in}
use Rattle.mb_world.proofs.laws.last_objects_settle_items.Goals as goal

pub returns-clause-notes : goal.returns-clause-notes
returns-clause-notes c plan hs r d p j last sound is e =
    let cs = plan.claims in
    let u = undecided_in plan hs r is d p j e in
    let k = u.1.0 in
    c.last_objects_decide_claims.ensures.rows cs.table last.0 cs.cells d k hs.claims (
      u.0,
      subst (λ ks. IsClaimPrefix (claims_of cs.table ks cs.cells) d (claim_part d k hs.claims) stage.Undecided)
          last.1 u.1.1,
    )

pub returns-clause-beside : goal.returns-clause-beside
returns-clause-beside c plan hs r last sound is =
    beside hs r (c.reports_have_one_assignment.ensures plan hs r sound is)
    (λ d p j. returns-clause-notes c plan hs r d p j last sound is)

pub returns-clause-taken : goal.returns-clause-taken
returns-clause-taken c plan hs r last sound is =
    taken hs r (c.reports_have_one_assignment.ensures plan hs r sound is)
    (λ d p j. returns-clause-notes c plan hs r d p j last sound is)
