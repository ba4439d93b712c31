use Rattle.std.proofs.Common.{◌≡◌, ◌<◌, ◌∙◌, List, ap, subst, sym, ℕ, length}
use Rattle.std.specs.Prelude.{None, Some, slice_get, slice_set}
use Rattle.std.proofs.lemmas.List.{length-set}
use Rattle.mb_claim.specs.declared.access.Stage.TheVariants as stage
use Rattle.mb_world.specs.declared.place.Place.{Place, TheVariants.At}
use Rattle.mb_mailbox.specs.Steps.{AreSteps}
use Rattle.mb_mailbox.specs.Consumers.{ConsumerView, IsConsumer}
use Rattle.mb_mailbox.specs.Imports.{Claim, IsStanding, Layout, claim_stage, consumer_count, kinds_of, part_on}
use Rattle.mb_mailbox.specs.Mailboxes.{MailboxView}
use Rattle.mb_mailbox.specs.Pursuits.{holding, with_fields}
use Rattle.mb_mailbox.proofs.Beginnings.{standing_going, standing_same}
use Rattle.mb_mailbox.proofs.Lists.{get_some, set_here, some_same}
use Rattle.mb_mailbox.proofs.Starts.{PendingClaim, Start, path}
use Rattle.mb_mailbox.proofs.consumer.pursuit.run_rest.{Given.Over, Goals.After-has_history, Goals.After-standing-claim, Goals.After-stay}
use Rattle.mb_mailbox.proofs.consumer.pursuit.run_rest.Goals as goal

-- if two places at claims are equal and the first claim goes on, the second is not won
held_goes : (j k : ℕ) (x y : Claim) → At j x ≡ At k y → claim_stage x ≡ stage.Going → claim_stage y ≡ stage.Won → ⊥
held_goes j k x y e going won =
    let same : x ≡ y = cc in
    let both : stage.Going ≡ stage.Won = sym going ∙ ap claim_stage same ∙ won in
    cc

module _ (g : Over) (c : After-has_history g) where
  -- the claim that the consumer holds, on the lane and the cell
  abbrev pending : PendingClaim
  pending = record { lane = c.args.lane; cell = c.args.cell; claim = c.requires.held.claim }

  -- `Start` holds: the consumer with these fields is the mailbox's, and holds this claim
  start : Start c.args.mailbox.now pending c.args.fields.now
  start = record {
    held = c.requires.held.is;
    belongs = c.requires.belongs;
    lane = c.requires.held.lane;
    wide = c.requires.wide;
    loads = c.has_history.ensures;
  }

  -- the claim's object is one of the layout's, and its input is one of the consumers
  within : (c.args.end.now.object < length (kinds_of c.args.mailbox.now.claims.layout))
      × (c.args.end.now.value < consumer_count c.args.mailbox.now.claims.layout)
  within =
      let m = c.args.mailbox.now in
      let seat = c.args.fields.now.seat in
      c.claims_begin_objects.ensures.within m.claims.layout seat.consumer c.args.end.now.object c.args.end.now.value
      pending.claim (part_on seat.consumer c.args.cell seat.part) c.requires.held.standing
      (path m pending c.args.fields.now start)

module _ (g : Over) (c : After-standing-claim g) where
  -- the layout that the mailbox's claims returned is the layout of the mailbox
  layout_is : c.args.mailbox.now.claims.layout ≡ c.layout-layout.result.now
  layout_is = sym (c.layout-layout.ensures ∙ ap (λ (v : MailboxView). v.claims.layout) c.mailbox.view_is)

  -- the claim that `Claim::standing` returned is the one that the consumer holds
  claim_is : c.requires.held.claim ≡ c.standing-claim.result
  claim_is =
      standing_same c.args.mailbox.now.claims.layout c.args.fields.now.seat.consumer c.args.end.now.object
      c.args.end.now.value c.requires.held.claim c.requires.held.standing c.standing-claim.result
      (subst (λ (l : Layout). IsStanding l c.args.fields.now.seat.consumer c.args.end.now.object c.args.end.now.value
      c.standing-claim.result) (sym layout_is)
      (subst (λ d. IsStanding c.layout-layout.result.now d c.args.end.now.object
      c.args.end.now.value c.standing-claim.result)
      c.consumer-consumer.ensures.exact c.standing-claim.ensures))

pub standing-claim-requires-clause-object : goal.standing-claim-requires-clause-object
standing-claim-requires-clause-object g c =
    let at = (goal.at.standing-claim-requires-clause-object g c).After-has_history in
    subst (λ (l : Layout). c.args.end.now.object < length (kinds_of l))
    (sym (c.layout-layout.ensures ∙ ap (λ (v : MailboxView). v.claims.layout) c.mailbox.view_is)) (within g at).0

pub standing-claim-requires-clause-value : goal.standing-claim-requires-clause-value
standing-claim-requires-clause-value g c =
    let at = (goal.at.standing-claim-requires-clause-value g c).After-has_history in
    subst (λ (l : Layout). c.args.end.now.value < consumer_count l)
    (sym (c.layout-layout.ensures ∙ ap (λ (v : MailboxView). v.claims.layout) c.mailbox.view_is)) (within g at).1

-- the consumer that `run_held` goes on with
module _ (g : Over) (c : After-stay g) (claim_is : c.requires.held.claim ≡ c.standing-claim.result) where
  abbrev was : ConsumerView
  was = with_fields c.args.fields.now

  -- `was` with the places set by `stay` is the consumer that holds the claim
  held_is : holding c.args.lane c.args.cell c.requires.held.claim was ≡ record was { places = c.stay.new.places.items }
  held_is = ap (λ (ps : List Place). record was { places = ps })
      (ap (λ z. slice_set c.args.fields.now.places.items c.args.lane (At c.args.cell z)) claim_is ∙ sym c.stay.ensures)

  -- that consumer stands at the claim
  place_is : (there : Place) → slice_get c.args.fields.now.places.items c.args.lane ≡ Some there
      → slice_get c.stay.new.places.items c.args.lane ≡ Some (At c.args.cell c.standing-claim.result)
  place_is there is =
      ap (λ ps. slice_get ps c.args.lane) c.stay.ensures
      ∙ set_here c.args.fields.now.places.items c.args.lane (At c.args.cell c.standing-claim.result) there is

pub run_held-requires-clause-is : goal.run_held-requires-clause-is
run_held-requires-clause-is g c =
    let at = goal.at.run_held-requires-clause-is g c in
    subst IsConsumer (held_is g at.After-stay (claim_is g at.After-standing-claim)) c.requires.held.is

pub run_held-requires-clause-held : goal.run_held-requires-clause-held
run_held-requires-clause-held g c =
    let at = goal.at.run_held-requires-clause-held g c in
    let some = get_some c.args.fields.now.places.items c.args.lane c.requires.held.lane in
    record {
      cell = c.args.cell;
      claim = c.standing-claim.result;
      place = place_is g at.After-stay (claim_is g at.After-standing-claim) some.0 some.1;
    }

pub run_held-requires-clause-lane : goal.run_held-requires-clause-lane
run_held-requires-clause-lane g c =
    subst (λ n. c.args.lane < n) (sym (ap (λ (ps : List Place). length ps) c.stay.ensures
    ∙ length-set c.args.fields.now.places.items c.args.lane (At c.args.cell c.standing-claim.result)))
    c.requires.held.lane

-- the claim goes on, so it is not won, and `run_held` needs no budget
pub run_held-requires-clause-won : goal.run_held-requires-clause-won
run_held-requires-clause-won g c k claim there won =
    let at = goal.at.run_held-requires-clause-won g c in
    let f = c.args.fields.now in
    let m = c.args.mailbox.now in
    let some = get_some f.places.items c.args.lane c.requires.held.lane in
    let is = place_is g at.After-stay (claim_is g at.After-standing-claim) some.0 some.1 in
    let going = standing_going m.claims.layout f.seat.consumer c.args.end.now.object c.args.end.now.value
    c.requires.held.claim c.requires.held.standing in
    absurd (held_goes c.args.cell k c.standing-claim.result claim
    (some_same (At c.args.cell c.standing-claim.result) (At k claim) (sym is ∙ there))
    (ap claim_stage (sym (claim_is g at.After-standing-claim)) ∙ going) won)

pub returns-clause-pursued : goal.returns-clause-pursued
returns-clause-pursued g c from n t claim is so =
    let at = goal.at.returns-clause-pursued g c in
    let f = c.args.fields.now in
    let same = standing_same c.args.mailbox.now.claims.layout f.seat.consumer c.args.end.now.object c.args.end.now.value
    claim is c.requires.held.claim c.requires.held.standing in
    c.run_held.ensures.pursued from n t
    (subst (λ z. AreSteps c.args.lane n None t (g.R.Rng.stream c.args.rng.now) from z)
    (held_is g at.After-stay (claim_is g at.After-standing-claim))
    (subst (λ z. AreSteps c.args.lane n None t (g.R.Rng.stream c.args.rng.now) from
    (holding c.args.lane c.args.cell z (with_fields f))) same so))

pub returns-clause-few : goal.returns-clause-few
returns-clause-few g c spent =
    let at = goal.at.returns-clause-few g c in
    let some = get_some c.args.fields.now.places.items c.args.lane c.requires.held.lane in
    c.run_held.ensures.few c.args.cell c.standing-claim.result
    (place_is g at.After-stay (claim_is g at.After-standing-claim) some.0 some.1) spent
