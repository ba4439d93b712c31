use Rattle.std.proofs.Common.{ap, rules}
use Rattle.mb_shared_cells.specs.Vocabulary.{CellHubView}
use Rattle.mb_shared_claims.specs.Vocabulary.{HubView as ClaimHubView}
use Rattle.mb_mailbox.proofs.HubMoves.{new_hub}
use Rattle.mb_mailbox.proofs.mailbox.Mailbox.new.Goals as goal

-- all lists of the new hub are empty
pub invariant_of-hub : goal.invariant_of-hub
invariant_of-hub g c = (
  new_hub c.in_ok-cells.lanes_hub c.in_ok-claims.claims_hub c.in_ok-puts.puts.items
      c.in_ok-records.records.items
      (ap (λ (h : CellHubView). h.roll) c.in_ok-cells.ensures.hub)
      (ap (λ (h : ClaimHubView). h.roll) c.in_ok-claims.ensures.hub)
      c.in_ok-puts.ensures.items c.in_ok-records.ensures.items,
  search rules,
  search rules,
)
