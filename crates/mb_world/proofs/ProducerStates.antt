-- How a call of the pool for a producer changes the state of a world.
use Rattle.std.proofs.Common.{◌≡◌, ◌≢◌, ◌↔◌, ℕ, ◌+◌, ◌-◌, ◌<◌, cond, ◌∷◌, Option, Some, None, refl, sym, ◌∙◌, ap, subst, subst₂, inr, arith, is_some, unwrap_or, slice_index_or}
use Rattle.std.specs.Option.{option_map_or}
use Rattle.std.proofs.lemmas.Bool.{ne_eqb}
use Rattle.mb_cells.specs.declared.answer.{Finish.Finish, Offer.Offer, Push.Push}
use Rattle.mb_cells.specs.declared.answer.Finish.TheVariants as finish
use Rattle.mb_cells.specs.declared.answer.Push.TheVariants as push
use Rattle.mb_cells.specs.declared.lane.{Lane.Lane, LaneStage.LaneStage}
use Rattle.mb_cells.specs.declared.lane.LaneStage.TheVariants as lane
use Rattle.mb_cells.specs.Vocabulary.{FinishMeets, OfferMeets, PushMeets, fetch, store, value_in, Phase, PhaseFits, IsLaneAfter, finish_refusal, link_after, new_lane, next_link}
use Rattle.mb_cells.specs.Vocabulary.{offer_by_found, offer_refusal, push_store, stage_of, stage_push_answer, stage_push_store, IsAfter, PoolState, SameSize, cell_count, lane_count}
use Rattle.mb_cells.specs.Place as phase
use Rattle.mb_world.specs.declared.event.Answer.TheVariants as answer
use Rattle.mb_world.specs.declared.event.Event.TheVariants as event
use Rattle.mb_world.specs.Vocabulary.{Note, Counter, END, History, IsLinkWord, IsPoolLawful, Item, PoolAccess, Process, Producer, Reader, Store, Word, is_same_process, part, pool_size}
use Rattle.mb_world.specs.Vocabulary.{consumers_of, size_of, HasRead, ToCells, WorldHistory, pool_accesses, ConsumerPath, ProducerAdds, IsLaneOf, IsPushed, answer_to, answer_to_link}
use Rattle.mb_world.specs.Vocabulary.{IsNoteAfter, IsPlaceAfter, IsWorldAfter, WorldState, EventAdds, with_pool, Took, Lost, Undecided}
use Rattle.mb_world.proofs.StateEnds.{Ends}
use Rattle.mb_world.proofs.Grids.{all_kept}
use Rattle.mb_world.proofs.StateSteps.{plan}

module _ (s : WorldState) (h : WorldHistory) (is : IsWorldAfter h s) (p : ℕ) (ps : p < (plan s h is).lanes)
    (goes : (a : PoolAccess) → a.process ≡ Producer p
    → IsPoolLawful (size_of (plan s h is)) (a ∷ pool_accesses h) → ProducerAdds (plan s h is) a h)
    (pool : PoolState) (same : SameSize s.pool pool) where
  -- the new pool has as many lanes as the plan says
  lanes_now : lane_count pool ≡ (plan s h is).lanes
  lanes_now = same.0 ∙ is.lanes

  -- the new pool has as many cells as the plan says
  cells_now : cell_count pool ≡ (plan s h is).claims.cells
  cells_now = same.1 ∙ is.cells

  -- ---- the state after a call
  -- if the call made no access, the same history leaves the state with the new pool
  after_none : IsAfter (pool_accesses h) pool → IsWorldAfter h (with_pool pool s)
  after_none after = record {
    lawful = is.lawful;
    lanes = lanes_now;
    cells = cells_now;
    pool = after;
    words = is.words;
    places_count = is.places_count;
    place = is.place;
    notes_count = is.notes_count;
    note = is.note;
  }

  -- what holds if the call made this access of the producer
  module _ (a : PoolAccess) (maker : a.process ≡ Producer p) (after : IsAfter (a ∷ pool_accesses h) pool) where
    -- the history with the access is lawful, and the parts of all consumers stay as they are
    pub adds : ProducerAdds (plan s h is) a h
    adds =
        goes a maker (subst₂ (λ l m. IsPoolLawful (pool_size l m) (a ∷ pool_accesses h)) lanes_now
        cells_now after.lawful)

    -- the access adds nothing to what consumers loaded
    loads_stay : (d : ℕ) → part (Reader d) (a ∷ pool_accesses h) ≡ part (Reader d) (pool_accesses h)
    loads_stay d =
        ap (λ (who : Process). cond (is_same_process (Reader d) who) (a ∷ part (Reader d) (pool_accesses h))
        (part (Reader d) (pool_accesses h))) maker

    -- after the access each claim has ended as just the same notes say as before
    ends_stay : (d j : ℕ) (n : Note) → Ends (plan s h is).claims h d j n
        ↔ Ends (plan s h is).claims (ToCells a ∷ h) d j n
    ends_stay d j (Took v) = (
      λ e. (e.0, subst (λ (l : History). HasRead (Item j) v l) (sym (loads_stay d)) e.1),
      λ e. (e.0, subst (λ (l : History). HasRead (Item j) v l) (loads_stay d) e.1),
    )
    ends_stay d j (Lost w) = ((λ e. e), (λ e. e))
    ends_stay d j Undecided = ((λ e. e), (λ e. e))

    -- the longer history leaves the state with the new pool
    after_access : IsWorldAfter (ToCells a ∷ h) (with_pool pool s)
    after_access = record {
      lawful = adds.lawful;
      lanes = lanes_now;
      cells = cells_now;
      pool = after;
      words = is.words;
      places_count = is.places_count;
      place = all_kept (consumers_of (plan s h is)) (plan s h is).lanes (λ e q x. IsPlaceAfter s.setup e q h x)
          (λ e q x. IsPlaceAfter s.setup e q (ToCells a ∷ h) x) s.places is.place
          (λ e q x _ _ _ y. record {
            cells = y.cells;
            notes = y.notes;
            held = y.held;
            path = subst (λ (l : WorldHistory). ConsumerPath (plan s h is).claims e q l y.cells y.notes y.held)
                (sym (adds.others e q)) y.path;
            is = y.is;
          });
      notes_count = is.notes_count;
      note = all_kept (consumers_of (plan s h is)) (plan s h is).claims.cells (λ e j o. IsNoteAfter s.setup e j h o)
          (λ e j o. IsNoteAfter s.setup e j (ToCells a ∷ h) o) s.notes is.note
          (λ e j o _ _ _ old n.
          ((λ f. (ends_stay e j n).0 ((old n).0 f)), (λ f. (old n).1 ((ends_stay e j n).1 f))));
    }

  -- ---- the producer's place
  -- the place of the producer, as the pool has it
  abbrev lane_here : Lane
  lane_here = slice_index_or s.pool.lanes p new_lane

  -- this place is the one to which the producer's part leads
  at : IsLaneAfter (cell_count s.pool) p lane_here (part (Producer p) (pool_accesses h))
  at = is.pool.lanes p new_lane (omega (arith, ps, is.lanes))

  -- this place is the producer's after the history
  lane_of : IsLaneOf (plan s h is) p lane_here h
  lane_of =
      subst (λ (n : ℕ). IsLaneAfter n p lane_here (part (Producer p) (pool_accesses h))) is.cells at

  -- ---- how offers change the world
  -- the number that the counter holds
  abbrev n : ℕ
  n = value_in Counter (pool_accesses h)

  -- the fetch-add for an item, which finds that number
  abbrev taken : ℕ → PoolAccess
  taken x = fetch p (record { cell = n; value = x })

  -- if the pool's offer returns z and leaves this pool, the event has that answer and leaves the state with the pool
  pub offered : (x : ℕ) (z : Offer) → OfferMeets s.pool p x z pool
      → EventAdds (event.Offer p x) (answer.Offered z) (with_pool pool s) h
  offered x z meets =
      let m = meets (pool_accesses h) lane_here is.pool at in by (offer_refusal lane_here) refl m.0 m.1
    where
      by : (o : Option Offer) → offer_refusal lane_here ≡ o
          → z ≡ unwrap_or o (offer_by_found (cell_count s.pool) n)
          → IsAfter (cond (is_some o) (pool_accesses h) (taken x ∷ pool_accesses h)) pool
          → EventAdds (event.Offer p x) (answer.Offered z) (with_pool pool s) h
      by None e t later = record {
        access = Some (ToCells (taken x));
        entry = (
          (n, refl),
          ap (λ (y : Offer). Some (answer.Offered y))
              (ap (λ (m : ℕ). offer_by_found m n) (sym is.cells) ∙ sym t),
          (adds (taken x) refl later).lawful,
        );
        left = after_access (taken x) refl later;
      }
      by (Some why) e t later = record {
        access = None;
        entry = inr (ps, (lane_here, why, lane_of, e, ap answer.Offered t));
        left = after_none later;
      }

  -- ---- how pushes change the world
  -- if an item is stored in a cell that is not linked yet, the link to that cell is no end mark
  link_is_no_mark : (cell : ℕ) (done : Phase) → PhaseFits (plan s h is).claims.cells done
      → lane.Stored cell ≡ stage_of done → cell + 1 ≢ END
  link_is_no_mark cell phase.Open fits e = absurd (cc)
  link_is_no_mark cell (phase.Offered x) fits e = absurd (cc)
  link_is_no_mark cell (phase.Stored x) fits e =
      let f : cell ≡ x.cell = cc in λ g. omega (arith, f, g, fits, is.lawful.sized)
  link_is_no_mark cell (phase.Full x) fits e = absurd (cc)
  link_is_no_mark cell (phase.Ended None) fits e = absurd (cc)
  link_is_no_mark cell (phase.Ended (Some x)) fits e = absurd (cc)

  -- a store of v in word w is one that a push makes, and the push's answer z names it
  pub record IsPush (w : Word) (v : ℕ) (z : Push) : Type 0 where
    -- the store is of an item, or of a link that is no end mark
    pub pushed : IsPushed w v
    pub named : answer_to (plan s h is).claims.cells w (Store v) ≡ Some (answer.Pushed z)

  -- a push may store a cell's number plus one, no end mark, in the link past `last`, and `push.Link` names that store
  pushes_link : (last : Option ℕ) (cell : ℕ) → cell + 1 ≢ END → IsPush (link_after p last) (cell + 1) (push.Link cell)
  pushes_link last cell other = by last
    where
      told : Some (answer_to_link (cell + 1)) ≡ Some (answer.Pushed (push.Link cell))
      told =
          let less : cell + 1 - 1 ≡ cell = omega arith in
          rw (ne_eqb (cell + 1) END other) (ap (λ (i : ℕ). Some (answer.Pushed (push.Link i))) less)

      by : (o : Option ℕ) → IsPush (link_after p o) (cell + 1) (push.Link cell)
      by None = record { pushed = other; named = told }
      by (Some k) = record { pushed = other; named = told }

  -- if the pool's push returns z and leaves this pool, the event has that answer and leaves the state with the pool
  pub pushed : (z : Push) → PushMeets s.pool p z pool
      → EventAdds (event.Push p) (answer.Pushed z) (with_pool pool s) h
  pushed z meets =
      let m = meets (pool_accesses h) lane_here is.pool at in by lane_here.stage refl m.0 m.1
    where
      -- if the push made a store, the history with that store leaves the state with the new pool
      stores : (w : Word) (v : ℕ) → IsPush w v z → IsAfter (store p w v ∷ pool_accesses h) pool
          → EventAdds (event.Push p) (answer.Pushed z) (with_pool pool s) h
      stores w v is_push later = record {
        access = Some (ToCells (store p w v));
        entry = ((w, v, is_push.pushed, refl), is_push.named, (adds (store p w v) refl later).lawful);
        left = after_access (store p w v) refl later;
      }

      -- if the push made no store, the same history leaves the state with the new pool
      rests : push_store p lane_here ≡ None → z ≡ push.Idle → IsAfter (pool_accesses h) pool
          → EventAdds (event.Push p) (answer.Pushed z) (with_pool pool s) h
      rests idle t later = record {
        access = None;
        entry = inr (ps, (lane_here, lane_of, idle, ap answer.Pushed t));
        left = after_none later;
      }

      by : (l : LaneStage) → lane_here.stage ≡ l → z ≡ stage_push_answer l
          → IsAfter (option_map_or (λ q. store p q.0 q.1 ∷ pool_accesses h)
          (stage_push_store (next_link p lane_here) l) (pool_accesses h)) pool
          → EventAdds (event.Push p) (answer.Pushed z) (with_pool pool s) h
      by (lane.Offered cell item) e t later =
          stores (Item cell) item
          (record { pushed = tt; named = ap (λ (y : Push). Some (answer.Pushed y)) (sym t) }) later
      by (lane.Stored cell) e t later =
          stores (next_link p lane_here) (cell + 1)
          (subst (λ (y : Push). IsPush (next_link p lane_here) (cell + 1) y) (sym t)
          (pushes_link lane_here.last cell
          (link_is_no_mark cell lane_of.phase lane_of.at.fits (sym e ∙ lane_of.stage)))) later
      by (lane.Ended full) e t later = rests (ap (stage_push_store (next_link p lane_here)) e) t later
      by lane.Full e t later = rests (ap (stage_push_store (next_link p lane_here)) e) t later
      by lane.Open e t later = rests (ap (stage_push_store (next_link p lane_here)) e) t later

  -- ---- how finishes change the world
  -- word w is a head or a link, and the answer to a store of the end mark there says that the lane has ended
  record IsMark (w : Word) : Type 0 where
    pub link : IsLinkWord w
    pub named : answer_to (plan s h is).claims.cells w (Store END) ≡ Some (answer.Finished finish.Ended)

  -- the lane's next link is a head or a link, and the answer to a store of the end mark there says that the lane has
  -- ended
  marks : (last : Option ℕ) → IsMark (link_after p last)
  marks last = by last
    where
      told : Some (answer_to_link END) ≡ Some (answer.Finished finish.Ended)
      told = refl

      by : (o : Option ℕ) → IsMark (link_after p o)
      by None = record { link = tt; named = told }
      by (Some k) = record { link = tt; named = told }

  -- the store of the end mark in the lane's next link
  abbrev marked : PoolAccess
  marked = store p (next_link p lane_here) END

  -- if the pool's finish returns z and leaves this pool, the event has that answer and leaves the state with the pool
  pub finished : (z : Finish) → FinishMeets s.pool p z pool
      → EventAdds (event.Finish p) (answer.Finished z) (with_pool pool s) h
  finished z meets =
      let m = meets (pool_accesses h) lane_here is.pool at in by (finish_refusal lane_here) refl m.0 m.1
    where
      by : (o : Option Finish) → finish_refusal lane_here ≡ o → z ≡ unwrap_or o finish.Ended
          → IsAfter (cond (is_some o) (pool_accesses h) (marked ∷ pool_accesses h)) pool
          → EventAdds (event.Finish p) (answer.Finished z) (with_pool pool s) h
      by None e t later =
          let mark = marks lane_here.last in
          record {
            access = Some (ToCells marked);
            entry = (
              (next_link p lane_here, mark.link, refl),
              mark.named ∙ ap (λ (y : Finish). Some (answer.Finished y)) (sym t),
              (adds marked refl later).lawful,
            );
            left = after_access marked refl later;
          }
      by (Some why) e t later = record {
        access = None;
        entry = inr (ps, (lane_here, why, lane_of, e, ap answer.Finished t));
        left = after_none later;
      }
