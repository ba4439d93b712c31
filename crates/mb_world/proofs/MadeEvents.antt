-- A producer's event that the producer's place does not refuse has an access.
use Rattle.std.proofs.Common.{◌≡◌, ◌<◌, ◌^◌, ℕ, ◌∷◌, Option, Some, None, refl, subst, inl, inr, arith}
use Rattle.mb_cells.specs.declared.answer.Finish.TheVariants as finish
use Rattle.mb_cells.specs.declared.answer.Push.TheVariants as push
use Rattle.mb_cells.specs.declared.lane.Lane.{Lane}
use Rattle.mb_cells.specs.LanePath.{fetch, store}
use Rattle.mb_cells.specs.Memory.{ReadsLast, value_in}
use Rattle.mb_cells.specs.Standing.{IsLaneWord, finish_refusal, link_after, next_link, offer_by_found, offer_refusal, push_store}
use Rattle.mb_world.specs.declared.event.Answer.{Answer}
use Rattle.mb_world.specs.declared.event.Answer.TheVariants as answer
use Rattle.mb_world.specs.declared.event.Event.TheVariants as event
use Rattle.mb_world.specs.Imports.{ActFits, Counter, END, Entry, Head, History, IsLanePrefix, IsLinkWord, Item, Link, PoolAccess, Producer, Store, Word, part}
use Rattle.mb_world.specs.Plan.{Plan, size_of}
use Rattle.mb_world.specs.World.{ToCells, WorldHistory, pool_accesses}
use Rattle.mb_world.specs.Worlds.{IsWorldLawful}
use Rattle.mb_world.specs.Replay.{IsLaneOf, IsPushed, IsRefusedOrMade, answer_to, answer_to_link}

module _ (plan : Plan) (h : WorldHistory) (p : ℕ) (ps : p < plan.lanes) (lane : Lane) (here : IsLaneOf plan p lane h)
    (goes : (a : PoolAccess) → a.process ≡ Producer p → ActFits a.act → ReadsLast a.word a.act (pool_accesses h)
    → IsLanePrefix plan.claims.cells p (a ∷ part (Producer p) (pool_accesses h)) → IsWorldLawful plan (ToCells a ∷ h))
  where
    -- the part of producer p
    abbrev done : History
    done = part (Producer p) (pool_accesses h)

    -- ---- an offer that is not refused has an access
    module _ (x : ℕ) (xs : x < 2 ^ 64) (small : value_in Counter (pool_accesses h) < 2 ^ 64)
        (next : (e : Entry) → offer_refusal lane ≡ None → IsLanePrefix plan.claims.cells p (fetch p e ∷ done)) where
      -- an offer is refused or made, by whether the producer's place refuses it
      by_offer : (z : Option _) → offer_refusal lane ≡ z → IsRefusedOrMade plan (event.Offer p x) h
      by_offer (Some why) e = inl (answer.Offered why, inr (ps, (lane, why, here, e, refl)))
      by_offer None e =
          let n = value_in Counter (pool_accesses h) in
          let entry : Entry = record { cell = n; value = x } in
          inr (
            answer.Offered (offer_by_found plan.claims.cells n),
            ToCells (fetch p entry),
            ((n, refl), refl, goes (fetch p entry) refl (xs, small) refl (next entry e)),
          )

      -- each offer is refused or made
      pub offer_made : IsRefusedOrMade plan (event.Offer p x) h
      offer_made = by_offer (offer_refusal lane) refl

    -- ---- a push that has something to store has an access
    module _ (next : (s : Word × ℕ) → push_store p lane ≡ Some s
        → IsLanePrefix plan.claims.cells p (store p s.0 s.1 ∷ done))
        (fits : (w : Word) (v : ℕ) → push_store p lane ≡ Some (w, v) → v < 2 ^ 64)
        (within : (w : Word) (v : ℕ) → push_store p lane ≡ Some (w, v) → IsLaneWord (size_of plan) w)
        (no_mark : (w : Word) → push_store p lane ≡ Some (w, END) → IsLinkWord w → ⊥) where
      -- a store that the producer's place names is one that a push makes, and has an answer
      pushed : (w : Word) (v : ℕ) → push_store p lane ≡ Some (w, v) → IsLaneWord (size_of plan) w
          → IsPushed w v × ((r : Answer) × (answer_to plan.claims.cells w (Store v) ≡ Some r))
      pushed Counter v e word = absurd word
      pushed (Head q) v e word = (
        λ f. no_mark (Head q) (subst (λ (i : ℕ). push_store p lane ≡ Some (Head q, i)) f e) tt,
        (answer_to_link v, refl),
      )
      pushed (Link k) v e word = (
        λ f. no_mark (Link k) (subst (λ (i : ℕ). push_store p lane ≡ Some (Link k, i)) f e) tt,
        (answer_to_link v, refl),
      )
      pushed (Item k) v e word = (tt, (answer.Pushed (push.Item k), refl))

      -- a push is refused or made, by whether the producer's place names a store
      by_push : (z : Option (Word × ℕ)) → push_store p lane ≡ z → IsRefusedOrMade plan (event.Push p) h
      by_push None e = inl (answer.Pushed push.Idle, inr (ps, (lane, here, e, refl)))
      by_push (Some (w, v)) e =
          let is = pushed w v e (within w v e) in
          inr (
            is.1.0,
            ToCells (store p w v),
            ((w, v, is.0, refl), is.1.1, goes (store p w v) refl (fits w v e) tt (next (w, v) e)),
          )

      -- each push is refused or made
      pub push_made : IsRefusedOrMade plan (event.Push p) h
      push_made = by_push (push_store p lane) refl

    -- ---- a finish that is not refused has an access
    module _ (next : finish_refusal lane ≡ None
        → IsLanePrefix plan.claims.cells p (store p (next_link p lane) END ∷ done))
      where
        -- the end mark goes to a head or a link, and the store of it has an answer
        link : (last : Option ℕ) → IsLinkWord (link_after p last)
            × (answer_to plan.claims.cells (link_after p last) (Store END) ≡ Some (answer.Finished finish.Ended))
        link None = (tt, refl)
        link (Some k) = (tt, refl)

        -- a finish is refused or made, by whether the producer's place refuses it
        by_finish : (z : Option _) → finish_refusal lane ≡ z → IsRefusedOrMade plan (event.Finish p) h
        by_finish (Some why) e = inl (answer.Finished why, inr (ps, (lane, why, here, e, refl)))
        by_finish None e =
            let is = link lane.last in
            inr (
              answer.Finished finish.Ended,
              ToCells (store p (next_link p lane) END),
              (
                (next_link p lane, is.0, refl),
                is.1,
                goes (store p (next_link p lane) END) refl (omega arith) tt (next e),
              ),
            )

        -- each finish is refused or made
        pub finish_made : IsRefusedOrMade plan (event.Finish p) h
        finish_made = by_finish (finish_refusal lane) refl
