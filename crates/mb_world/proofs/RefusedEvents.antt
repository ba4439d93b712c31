-- A producer's event is refused exactly if the place of the lane's producer refuses it.
use Rattle.std.proofs.Common.{◌≡◌, ◌<◌, ◌↔◌, ℕ, Some, None, refl, sym, ◌∙◌, ap, inl, inr, arith}
use Rattle.mb_cells.specs.declared.answer.Finish.{Finish}
use Rattle.mb_cells.specs.declared.answer.Offer.{Offer}
use Rattle.mb_cells.specs.declared.answer.Push.TheVariants as push
use Rattle.mb_cells.specs.declared.lane.Lane.{Lane}
use Rattle.mb_cells.specs.Standing.{finish_refusal, offer_refusal, push_store}
use Rattle.mb_world.specs.declared.event.Answer.{Answer}
use Rattle.mb_world.specs.declared.event.Answer.TheVariants as answer
use Rattle.mb_world.specs.declared.event.Event.TheVariants as event
use Rattle.mb_world.specs.Plan.{Plan}
use Rattle.mb_world.specs.World.{WorldHistory}
use Rattle.mb_world.specs.Replay.{IsLaneOf, IsRefused}

module _ (plan : Plan) (h : WorldHistory) (p : ℕ) (ps : p < plan.lanes)
    (place : (lane : Lane) × IsLaneOf plan p lane h) where
  -- ---- when offers are refused
  -- let the producer's place refuse offers with `why` exactly if X. Then an offer is refused with `why` exactly if X
  pub offer_refused : (x : ℕ) (why : Offer) (X : Type 0)
      → ((lane : Lane) → IsLaneOf plan p lane h → (offer_refusal lane ≡ Some why) ↔ X)
      → IsRefused plan (event.Offer p x) (answer.Offered why) h ↔ X
  offer_refused x why X says = (to, from)
    where
      to : IsRefused plan (event.Offer p x) (answer.Offered why) h → X
      to (inl (past, e)) = absurd (omega (arith, past, ps))
      to (inr (_, (lane, z, at, refuses, e))) =
          let same : why ≡ z = cc in (says lane at).0 (refuses ∙ ap Some (sym same))

      from : X → IsRefused plan (event.Offer p x) (answer.Offered why) h
      from is = inr (ps, (place.0, why, place.1, (says place.0 place.1).1 is, refl))

  -- if the producer's place refuses no offer, no offer is refused
  pub offer_free : (x : ℕ) (r : Answer) → ((lane : Lane) → IsLaneOf plan p lane h → offer_refusal lane ≡ None)
      → IsRefused plan (event.Offer p x) r h → ⊥
  offer_free x r free (inl (past, e)) = omega (arith, past, ps)
  offer_free x r free (inr (_, (lane, why, at, refuses, e))) =
      let f : None ≡ Some why = sym (free lane at) ∙ refuses in cc

  -- ---- when pushes are refused
  -- let the producer's place have nothing to store exactly if X. Then a push is refused, as `Idle`, exactly if X
  pub push_refused : (r : Answer) (X : Type 0)
      → ((lane : Lane) → IsLaneOf plan p lane h → (push_store p lane ≡ None) ↔ X)
      → IsRefused plan (event.Push p) r h ↔ ((r ≡ answer.Pushed push.Idle) × X)
  push_refused r X says = (to, from)
    where
      to : IsRefused plan (event.Push p) r h → (r ≡ answer.Pushed push.Idle) × X
      to (inl (past, e)) = absurd (omega (arith, past, ps))
      to (inr (_, (lane, at, refuses, e))) = (e, (says lane at).0 refuses)

      from : (r ≡ answer.Pushed push.Idle) × X → IsRefused plan (event.Push p) r h
      from (e, is) = inr (ps, (place.0, place.1, (says place.0 place.1).1 is, e))

  -- ---- when finishes are refused
  -- let the producer's place refuse finishes with `why` exactly if X. Then a finish is refused with `why` exactly if X
  pub finish_refused : (why : Finish) (X : Type 0)
      → ((lane : Lane) → IsLaneOf plan p lane h → (finish_refusal lane ≡ Some why) ↔ X)
      → IsRefused plan (event.Finish p) (answer.Finished why) h ↔ X
  finish_refused why X says = (to, from)
    where
      to : IsRefused plan (event.Finish p) (answer.Finished why) h → X
      to (inl (past, e)) = absurd (omega (arith, past, ps))
      to (inr (_, (lane, z, at, refuses, e))) =
          let same : why ≡ z = cc in (says lane at).0 (refuses ∙ ap Some (sym same))

      from : X → IsRefused plan (event.Finish p) (answer.Finished why) h
      from is = inr (ps, (place.0, why, place.1, (says place.0 place.1).1 is, refl))

  -- if the producer's place refuses no finish, no finish is refused
  pub finish_free : (r : Answer) → ((lane : Lane) → IsLaneOf plan p lane h → finish_refusal lane ≡ None)
      → IsRefused plan (event.Finish p) r h → ⊥
  finish_free r free (inl (past, e)) = omega (arith, past, ps)
  finish_free r free (inr (_, (lane, why, at, refuses, e))) =
      let f : None ≡ Some why = sym (free lane at) ∙ refuses in cc
