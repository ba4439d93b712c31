-- The fields of a consumer with a claim that it holds on a lane, and accesses of that claim in a poll.
use Rattle.std.proofs.Common.{◌≡◌, ℕ, zero, suc, ◌+◌, ◌<◌, List, length, sym, ap, ◌∙◌, subst, arith}
use Rattle.std.specs.Prelude.{Some, None, slice_get}
use Rattle.std.proofs.lemmas.List.{length-set}
use Rattle.mb_claim.specs.declared.access.Stage.TheVariants as stage
use Rattle.mb_shared_claims.specs.Vocabulary.{AreSeatSteps, IsSeatStep}
use Rattle.mb_mailbox.specs.Imports.{Claim, ClaimTable, Gave, IsClaimIn, Layout, SeatView, Stream, TableSize, claim_stage, consumer_of, next_u64, note_of, part_on}
use Rattle.mb_world.specs.declared.place.Place.{Place}
use Rattle.mb_world.specs.declared.place.Place.TheVariants.{At}
use Rattle.mb_mailbox.specs.declared.consumer.ConsumerFields.{ConsumerFields}
use Rattle.mb_mailbox.specs.Consumers.{ConsumerView, IsConsumer, IsConsumerOf}
use Rattle.mb_mailbox.specs.{Laws.Laws, Mailboxes.MailboxView}
use Rattle.mb_mailbox.specs.Moves.{HasLoads, HasPlace}
use Rattle.mb_mailbox.specs.NoteLists.{HasAllRoom, HasRoom}
use Rattle.mb_mailbox.specs.Pursuits.{HasCompeted, holding, with_fields}
use Rattle.mb_mailbox.specs.Steps.{AreSteps}
use Rattle.mb_mailbox.proofs.Competing.{IsNext, MovesOn, competed_more, competed_none}
use Rattle.mb_mailbox.proofs.Holding.{given as found, own_claim, room, turns_made, within as low}
use Rattle.mb_mailbox.proofs.Lists.{get_some, set_here}
use Rattle.mb_mailbox.proofs.Moving.{holds}

-- a claim on a cell of a lane
pub record PendingClaim : Type 0 where
  pub lane : ℕ
  pub cell : ℕ
  pub claim : Claim

-- these are the fields of a consumer that holds this claim. Its place on the claim's lane may be out of date
pub record Start {Z : Type 0} (m : MailboxView) (pending : PendingClaim) (f : ConsumerFields Z) : Type 0 where
  pub held : IsConsumer (holding pending.lane pending.cell pending.claim (with_fields f))
  pub belongs : IsConsumerOf m (with_fields f)
  pub lane : pending.lane < length f.places.items
  pub wide : HasAllRoom f.reader.table.size.cells f.notes
  pub loads : HasLoads (with_fields f)

module _ {Z : Type 0} (m : MailboxView) (pending : PendingClaim) (f : ConsumerFields Z)
    (start : Start m pending f) where
  -- the lane and the cell of the claim, the claim, and the consumer's seat and places
  abbrev p : ℕ
  p = pending.lane

  abbrev k : ℕ
  k = pending.cell

  abbrev claim : Claim
  claim = pending.claim

  abbrev seat : SeatView
  seat = f.seat

  abbrev places : List Place
  places = f.places.items

  -- the consumer, with the claim at its place on lane p
  abbrev s : ConsumerView
  s = holding p k claim (with_fields f)

  -- the consumer's fields have some place for the lane
  pub there : (place : Place) × (slice_get places p ≡ Some place)
  there = get_some places p start.lane

  -- the consumer stands at the claim
  pub here : HasPlace p (At k claim) s
  here = set_here places p (At k claim) there.0 there.1

  -- the claim is the consumer's own
  pub own : consumer_of claim ≡ seat.consumer
  own = own_claim s p k claim start.held here

  -- one of the consumer's loads found the cell, which is one of the pool
  pub given : Laws → Gave k f.reader.part
  given laws = found s p k claim start.held here laws start.loads

  pub within : Laws → k < f.reader.table.size.cells
  within laws = low s p k claim start.held here laws start.loads

  -- there is room for the claim's note
  pub has_room : Laws → HasRoom p f.notes
  has_room laws = record {
    lane = subst (λ n. p < n) (sym (length-set places p (At k claim)) ∙ start.held.places_count
        ∙ sym start.held.notes_count) start.lane;
    room =
        let few = room s p k claim start.held here laws start.loads in
        let wide = start.wide in omega (arith, few, wide);
  }

  -- the consumer's table of claims has the mailbox's layout and number of cells
  pub table : seat.table.size ≡ Some (record { layout = m.claims.layout; cells = m.claims.cells })
  table = ap (λ (t : ClaimTable). t.size) start.belongs.claims

  -- the claim has made the turns of the consumer's part on the cell
  pub path : IsClaimIn m.claims.layout claim (part_on seat.consumer k seat.part)
  path = turns_made s p k claim start.held here (record { layout = m.claims.layout; cells = m.claims.cells }) table

  -- the claim has no note yet
  pub unnoted : note_of (claim_stage claim) ≡ None
  unnoted = (holds s p k claim start.held here).2.unnoted

  -- if the steps of the poll so far led to the consumer with the claim, `HasCompeted` holds with no access of the claim
  pub begun : (from : ConsumerView) (n : ℕ) (t u : Stream) → AreSteps p n None t u from s
      → HasCompeted p k n claim t u from s seat
  begun from n t u so = competed_none p k n claim t u from s seat (λ j. seat) here unnoted start.held so

  -- `HasCompeted` still holds after one more access of the claim
  pub stepped : MovesOn → IsNext → (now : MailboxView) → now ≡ m
      → (from : ConsumerView) (made n word : ℕ) (was next : Claim) (before after : SeatView)
      (t u v : Stream) → claim_stage was ≡ stage.Going → HasCompeted p k (made + n) was t u from s before
      → IsSeatStep now.claims.layout k word was before next after → consumer_of was
      ≡ before.consumer → consumer_of next ≡ consumer_of was
      → IsClaimIn now.claims.layout next (part_on after.consumer k after.part) → (word, v) ≡ next_u64 u
      → HasCompeted p k (made + 1 + n) next t v from s after
  stepped moves nexts now same from made n word was next before after t u v going so step own still turns drawn =
      let size : TableSize = record { layout = m.claims.layout; cells = m.claims.cells } in
      let turned : IsClaimIn m.claims.layout next (part_on after.consumer k after.part) =
      subst (λ (y : MailboxView). IsClaimIn y.claims.layout next (part_on after.consumer k after.part)) same turns in
      let more = competed_more moves nexts s from p k (made + n) word step.seen was next step.next
      before after size (At k claim) t u v here
      start.loads table going so step.adds (still ∙ own) turned drawn in
      let count : made + n + 1 ≡ made + 1 + n = omega arith in
      subst (λ z. HasCompeted p k z next t v from s after) count more

  -- after several accesses the claim is still the consumer's own
  pub ran_own :
      (layout : Layout) (u : Stream) (made : ℕ) (follows : Claim) (after : SeatView) (v : Stream)
      → AreSeatSteps layout k claim seat u made follows after v → consumer_of follows ≡ after.consumer
  ran_own layout u zero follows after v (is, keeps, e) =
      ap consumer_of is ∙ own ∙ sym (ap (λ (z : SeatView). z.consumer) keeps)
  ran_own layout u (suc made) follows after v (at, before, w, word, older, going, drawn, step, still, stands) =
      still ∙ ran_own layout u made at before w older ∙ sym (ap (λ (z : SeatView). z.consumer) step.adds)

  -- `HasCompeted` holds after several accesses of the claim
  pub ran :
      MovesOn → IsNext → (now : MailboxView) → now ≡ m → (from : ConsumerView) (n : ℕ) (t u : Stream)
      → AreSteps p n None t u from s → (made : ℕ) (follows : Claim) (after : SeatView) (v : Stream)
      → AreSeatSteps now.claims.layout k claim seat u made follows after v
      → HasCompeted p k (made + n) follows t v from s after
  ran moves nexts now same from n t u so zero follows after v (is, keeps, e) =
      let none : n ≡ 0 + n = omega arith in
      subst (λ z. HasCompeted p k z follows t v from s after) none
      (subst (λ c. HasCompeted p k n c t v from s after) (sym is)
      (subst (λ x. HasCompeted p k n claim t v from s x) (sym keeps)
      (subst (λ x. HasCompeted p k n claim t x from s seat) (sym e) (begun from n t u so))))
  ran moves nexts now same from n t u so (suc made) follows after v
      (at, before, w, word, older, going, drawn, step, still, stands) =
      let count : made + 1 + n ≡ suc made + n = omega arith in
      subst (λ z. HasCompeted p k z follows t v from s after) count
      (stepped moves nexts now same from made n word at follows before after t w v going
      (ran moves nexts now same from n t u so made at before w older) step
      (ran_own now.claims.layout u made at before w older) still stands drawn)
