-- What a producer is after an offer that returned `Full`, and what a finish does.
use Rattle.std.proofs.Common.{◌≡◌, ℕ, ◌≤◌, Bool, true, false, cond, List, [], ◌∷◌, map, refl, sym, ap, ◌∙◌, subst, inl, inr}
use Rattle.std.specs.Prelude.{Option, Some, None, nat_lt}
use Rattle.std.proofs.lemmas.Bool.{eq-eqb, ltb-false}
use Rattle.mb_cells.specs.declared.answer.Finish.{Finish}
use Rattle.mb_cells.specs.declared.answer.Finish.TheVariants as finish
use Rattle.mb_cells.specs.declared.answer.Offer.{Offer}
use Rattle.mb_cells.specs.declared.answer.Offer.TheVariants as offer
use Rattle.mb_cells.specs.declared.lane.LaneStage.{LaneStage}
use Rattle.mb_cells.specs.declared.lane.LaneStage.TheVariants as stage
use Rattle.mb_cells.specs.Vocabulary.{Entry, HasFoundNone, IsLaneAfter, IsLinkWord, fetch, finish_refusal, lane_after_finish, next_link, offer_refusal}
use Rattle.mb_cells.specs.Vocabulary.{stage_finish_refusal, stage_offer_refusal, stage_push_store, store}
use Rattle.mb_shared_cells.specs.Vocabulary.{FinishBy, FinishMakes, IsAccessAfter, LaneMakes, LaneSeatView, OfferBy, OfferMakes}
use Rattle.mb_mailbox.specs.Imports.{Counter, END, Has, Head, History, Item, Link, Producer, Word, has_ended, part}
use Rattle.mb_mailbox.specs.PartPlaces.{HasPart, with_seat}
use Rattle.mb_mailbox.specs.Producers.{FoundNoCell, HasNoCellFor, IsEndOfLane, IsProducer, IsSameLane, ProducerView, is_over}
use Rattle.mb_mailbox.specs.PutLaws.{PutLaws}
use Rattle.mb_mailbox.proofs.Putting.{fetch_keeps, link_word, refused_by}
use Rattle.mb_mailbox.proofs.Lists.{some_same}

-- the producer stands at the place to which its part of the whole history leads
there : (s : ProducerView) (h : HasPart s.seat)
    → IsLaneAfter s.seat.table.size.cells s.seat.lane s.seat.place
    (part (Producer s.seat.lane) h.history.0)
there s h = subst (λ d. IsLaneAfter s.seat.table.size.cells s.seat.lane s.seat.place d) (sym h.history.2) h.place

-- a fetch-add of the producer that found no cell is in the whole history, too
in_all : PutLaws → (s : ProducerView) (h : HasPart s.seat) → FoundNoCell s
    → HasFoundNone s.seat.table.size.cells s.seat.lane h.history.0
in_all laws s h none = record {
  entry = none.entry;
  offered = (laws.only h.history.0 (Producer s.seat.lane) (fetch s.seat.lane none.entry)
      (subst (λ d. Has d (fetch s.seat.lane none.entry)) (sym h.history.2) none.offered)).0;
  past = none.past;
}

-- if the producer's place refuses an offer with `Full`, a fetch-add of its own found no cell
none_by : PutLaws → (s : ProducerView) (h : HasPart s.seat) → offer_refusal s.seat.place
    ≡ Some offer.Full → FoundNoCell s
none_by laws s h e =
    let p = s.seat.lane in
    let none = ((laws.full s.seat.table.size h.history.0 p s.seat.place h.history.1 (there s h)).0 e).1 in
    record {
      entry = none.entry;
      offered = subst (λ d. Has d (fetch p none.entry)) h.history.2
          (laws.all h.history.0 (Producer p) (fetch p none.entry) none.offered refl);
      past = none.past;
    }

-- after a fetch-add that found no cell, the producer's place refuses an offer
refused_one : PutLaws → (s : ProducerView) (h : HasPart s.seat) → FoundNoCell s → offer_refusal s.seat.place ≡ None → ⊥
refused_one laws s h none unrefused = by (has_ended s.seat.lane h.history.0) refl
  where
    by : (b : Bool) → has_ended s.seat.lane h.history.0 ≡ b → ⊥
    by true e =
        let closed = (laws.closed s.seat.table.size h.history.0 s.seat.lane s.seat.place h.history.1 (there s h)).1 e in
        let f : None ≡ Some offer.Closed = sym unrefused ∙ closed in absurd (cc)
    by false e =
        let full = (laws.full s.seat.table.size h.history.0 s.seat.lane s.seat.place h.history.1
        (there s h)).1 (e, in_all laws s h none) in
        let f : None ≡ Some offer.Full = sym unrefused ∙ full in absurd (cc)

-- an offer that returned `Full`: the producer's place refused it, or its fetch-add found no cell
data Found (old : LaneSeatView) (x : ℕ) (now : LaneSeatView) : Type 0 where
  was : old.place.stage ≡ stage.Full → now ≡ old → Found old x now
  finds : (n : ℕ) → stage_offer_refusal old.place.stage ≡ None → old.table.size.cells ≤ n
      → IsAccessAfter old.table.size [] (fetch old.lane (record { cell = n; value = x })) old.part
      → now ≡ record old {
        place = record { last = old.place.last; stage = stage.Full };
        part = fetch old.lane (record { cell = n; value = x }) ∷ old.part;
      }
      → Found old x now

-- `Found` holds if a fetch-add was made and the offer returned `Full`: the number found is no number of a cell
found_by : (old : LaneSeatView) (x n : ℕ) (now : LaneSeatView) (b : Bool)
    → stage_offer_refusal old.place.stage ≡ None → nat_lt n old.table.size.cells ≡ b
    → offer.Full ≡ cond b (offer.Cell n) offer.Full
    → LaneMakes (fetch old.lane (record { cell = n; value = x })) (record {
      last = old.place.last;
      stage = cond b (stage.Offered n x) stage.Full;
    }) old now
    → Found old x now
found_by old x n now true unrefused low told m = absurd (cc)
found_by old x n now false unrefused low told m = finds n unrefused (ltb-false n old.table.size.cells low) m.0 m.1

-- `Found` holds of an offer that returned `Full`, if it was made from this stage of the producer's place
found_at : (old : LaneSeatView) (x : ℕ) (now : LaneSeatView) (at : LaneStage) → old.place.stage ≡ at
    → OfferBy (stage_offer_refusal at) old x offer.Full now → Found old x now
found_at old x now stage.Open e m = found_by old x m.0 now (nat_lt m.0 old.table.size.cells)
    (ap stage_offer_refusal e) refl m.1 m.2
found_at old x now (stage.Offered c i) e m = absurd (cc)
found_at old x now (stage.Stored c) e m = absurd (cc)
found_at old x now stage.Full e m = was e m.1
found_at old x now (stage.Ended f) e m = absurd (cc)

-- `Found` holds of an offer that returned `Full`
found : (s : ProducerView) (x : ℕ) (now : LaneSeatView) → OfferMakes s.seat x offer.Full now → Found s.seat x now
found s x now m = found_at s.seat x now s.seat.place.stage refl m

-- if an offer returned `Full`, there was no cell for the item
pub is_full : PutLaws → (s : ProducerView) (x : ℕ) (now : LaneSeatView) → HasPart s.seat
    → OfferMakes s.seat x offer.Full now → HasNoCellFor x s (with_seat now s)
is_full laws s x now h m = by (found s x now m)
  where
    by : Found s.seat x now → HasNoCellFor x s (with_seat now s)
    by (was e is) = inr (record {
      before = none_by laws s h (ap stage_offer_refusal e);
      same = ap (λ (v : LaneSeatView). with_seat v s) is;
    })
    by (finds n unrefused past after is) = inl (record {
      first = λ none. refused_one laws s h none unrefused;
      same = record { table = ap (λ (v : LaneSeatView). v.table) is; lane = ap (λ (v : LaneSeatView). v.lane) is };
      found = n;
      past = past;
      part = ap (λ (v : LaneSeatView). v.part) is;
      items = refl;
    })

-- after an offer that returned `Full`, a fetch-add of the producer has found no cell
pub found_none : PutLaws → (s : ProducerView) (x : ℕ) (now : LaneSeatView) → HasPart s.seat
    → OfferMakes s.seat x offer.Full now → FoundNoCell (with_seat now s)
found_none laws s x now h m = by (found s x now m)
  where
    by : Found s.seat x now → FoundNoCell (with_seat now s)
    by (was e is) = subst (λ v. FoundNoCell (with_seat v s)) (sym is) (none_by laws s h (ap stage_offer_refusal e))
    by (finds n unrefused past after is) = subst (λ v. FoundNoCell (with_seat v s)) (sym is) (record {
      entry = record { cell = n; value = x };
      offered = inl refl;
      past = past;
    })

-- an offer that returned `Full` leaves the table and the lane as they were
pub full_lane : (s : ProducerView) (x : ℕ) (now : LaneSeatView) → OfferMakes s.seat x offer.Full now
    → IsSameLane s (with_seat now s)
full_lane s x now m = by (found s x now m)
  where
    by : Found s.seat x now → IsSameLane s (with_seat now s)
    by (was e is) = record {
      table = ap (λ (v : LaneSeatView). v.table) is;
      lane = ap (λ (v : LaneSeatView). v.lane) is;
    }
    by (finds n unrefused past after is) = record {
      table = ap (λ (v : LaneSeatView). v.table) is;
      lane = ap (λ (v : LaneSeatView). v.lane) is;
    }

-- if a fetch-add of the producer found no cell, an offer returns `Full` as long as the lane has not ended
pub stays_full : PutLaws → (s : ProducerView) (x : ℕ) (answer : Offer) (now : LaneSeatView)
    → HasPart s.seat → OfferMakes s.seat x answer now
    → FoundNoCell s → is_over s ≡ false → answer ≡ offer.Full
stays_full laws s x answer now h m none going =
    let place = there s h in
    refused_by (offer_refusal s.seat.place) offer.Full s.seat x answer now
    ((laws.full s.seat.table.size h.history.0 s.seat.lane s.seat.place h.history.1 place).1
    (laws.ended h.history.0 s.seat.lane ∙ ap (has_ended s.seat.lane) h.history.2 ∙ going, in_all laws s h none)) m

-- an offer that returned `Full` does not end the lane
pub full_stays : (s : ProducerView) (x : ℕ) (now : LaneSeatView)
    → OfferMakes s.seat x offer.Full now → is_over (with_seat now s) ≡ is_over s
full_stays s x now m = by (found s x now m)
  where
    by : Found s.seat x now → is_over (with_seat now s) ≡ is_over s
    by (was e is) = ap (λ (v : LaneSeatView). has_ended v.lane v.part) is
    by (finds n unrefused past after is) = ap (λ (v : LaneSeatView). has_ended v.lane v.part) is
        ∙ rw (eq-eqb s.seat.lane s.seat.lane refl) refl

-- after an offer that returned `Full`, `IsProducer` still holds of the producer
pub full_still : PutLaws → (s : ProducerView) (x : ℕ) (now : LaneSeatView) → IsProducer s
    → OfferMakes s.seat x offer.Full now → IsProducer (with_seat now s)
full_still laws s x now i m = by (found s x now m)
  where
    by : Found s.seat x now → IsProducer (with_seat now s)
    by (was e is) = subst (λ v. IsProducer (with_seat v s)) (sym is) i
    by (finds n unrefused past after is) = subst (λ v. IsProducer (with_seat v s)) (sym is) (record {
      items = i.items ∙ ap (λ (l : List Entry). map (λ (z : Entry). z.value) l)
          (sym (fetch_keeps laws s.seat (record { cell = n; value = x }) after));
      idle = refl;
    })

-- ---- what a finish does
-- a finish that returned `Ended` stored the end mark, and did nothing else
pub is_end : (s : ProducerView) (now : LaneSeatView) → FinishMakes s.seat finish.Ended now
    → IsEndOfLane s (with_seat now s)
is_end s now m = by s.seat.place.stage m
  where
    made : LaneMakes (store s.seat.lane (next_link s.seat.lane s.seat.place) END)
        (lane_after_finish s.seat.place) s.seat now → IsEndOfLane s (with_seat now s)
    made l = record {
      same = record { table = ap (λ (v : LaneSeatView). v.table) l.1; lane = ap (λ (v : LaneSeatView). v.lane) l.1 };
      part = ap (λ (v : LaneSeatView). v.part) l.1;
      items = refl;
    }

    by : (at : LaneStage) → FinishBy (stage_finish_refusal at) s.seat finish.Ended now → IsEndOfLane s (with_seat now s)
    by stage.Open m = made m.1
    by stage.Full m = made m.1
    by (stage.Offered c i) m = absurd (cc)
    by (stage.Stored c) m = absurd (cc)
    by (stage.Ended f) m = absurd (cc)

-- after a finish `IsProducer` still holds of the producer
pub finish_still : PutLaws → (s : ProducerView) (answer : Finish) (now : LaneSeatView)
    → IsProducer s → FinishMakes s.seat answer now → IsProducer (with_seat now s)
finish_still laws s answer now i m = by s.seat.place.stage m
  where
    same : now ≡ s.seat → IsProducer (with_seat now s)
    same is = subst (λ v. IsProducer (with_seat v s)) (sym is) i

    made : LaneMakes (store s.seat.lane (next_link s.seat.lane s.seat.place) END)
        (lane_after_finish s.seat.place) s.seat now → IsProducer (with_seat now s)
    made l = subst (λ v. IsProducer (with_seat v s)) (sym l.1) (record {
      items = i.items ∙ ap (λ (z : List Entry). map (λ (y : Entry). y.value) z)
          (sym (laws.end s.seat.part s.seat.lane s.seat.lane (next_link s.seat.lane s.seat.place)
          (link_word s.seat.lane s.seat.place.last)));
      idle = refl;
    })

    by : (at : LaneStage) → FinishBy (stage_finish_refusal at) s.seat answer now → IsProducer (with_seat now s)
    by stage.Open m = made m.1
    by stage.Full m = made m.1
    by (stage.Offered c i) m = same m.1
    by (stage.Stored c) m = same m.1
    by (stage.Ended f) m = same m.1

-- a finish never returns `Busy`, since no item of the producer is pending
pub finish_not_busy : (s : ProducerView) (now : LaneSeatView) → IsProducer s → FinishMakes s.seat finish.Busy now → ⊥
finish_not_busy s now i m = by s.seat.place.stage m i.idle
  where
    by : (at : LaneStage) → FinishBy (stage_finish_refusal at) s.seat finish.Busy now
        → stage_push_store (next_link s.seat.lane s.seat.place) at ≡ None → ⊥
    by stage.Open m e = absurd (cc)
    by stage.Full m e = absurd (cc)
    by (stage.Offered c j) m e = absurd (cc)
    by (stage.Stored c) m e = absurd (cc)
    by (stage.Ended f) m e = absurd (cc)

-- after its producer has stored the end mark in a head or a link, a lane has ended
marks : (p : ℕ) (w : Word) (h : History) → IsLinkWord w → has_ended p (store p w END ∷ h) ≡ true
marks p (Head q) h l = rw (eq-eqb p p refl) refl
marks p (Link q) h l = rw (eq-eqb p p refl) refl
marks p (Item q) h l = absurd l
marks p Counter h l = absurd l

-- after a finish the lane has ended
pub ends_over : PutLaws → (s : ProducerView) (answer : Finish) (now : LaneSeatView) → IsProducer s
    → HasPart s.seat → FinishMakes s.seat answer now
    → is_over (with_seat now s) ≡ true
ends_over laws s answer now i h m = by s.seat.place.stage refl m i.idle
  where
    made : LaneMakes (store s.seat.lane (next_link s.seat.lane s.seat.place) END)
        (lane_after_finish s.seat.place) s.seat now
        → is_over (with_seat now s) ≡ true
    made l = ap (λ (v : LaneSeatView). has_ended v.lane v.part) l.1
        ∙ marks s.seat.lane (next_link s.seat.lane s.seat.place) s.seat.part (link_word s.seat.lane s.seat.place.last)

    by : (at : LaneStage) → s.seat.place.stage ≡ at → FinishBy (stage_finish_refusal at) s.seat answer now
        → stage_push_store (next_link s.seat.lane s.seat.place) at ≡ None → is_over (with_seat now s) ≡ true
    by stage.Open e m idle = made m.1
    by stage.Full e m idle = made m.1
    by (stage.Offered c j) e m idle = absurd (cc)
    by (stage.Stored c) e m idle = absurd (cc)
    by (stage.Ended f) e m idle =
        ap (λ (v : LaneSeatView). has_ended v.lane v.part) m.1
        ∙ ap (has_ended s.seat.lane) (sym h.history.2) ∙ sym (laws.ended h.history.0 s.seat.lane)
        ∙ (laws.over s.seat.table.size h.history.0 s.seat.lane s.seat.place h.history.1
        (there s h)).0 (ap stage_finish_refusal e)

-- a finish leaves the table and the lane as they were
pub finish_lane : (s : ProducerView) (answer : Finish) (now : LaneSeatView)
    → FinishMakes s.seat answer now → IsSameLane s (with_seat now s)
finish_lane s answer now m = by s.seat.place.stage m
  where
    is : (old : LaneSeatView) → now ≡ old → old.table ≡ s.seat.table → old.lane ≡ s.seat.lane
        → IsSameLane s (with_seat now s)
    is old e t l = record {
      table = ap (λ (v : LaneSeatView). v.table) e ∙ t;
      lane = ap (λ (v : LaneSeatView). v.lane) e ∙ l;
    }

    by : (at : LaneStage) → FinishBy (stage_finish_refusal at) s.seat answer now → IsSameLane s (with_seat now s)
    by stage.Open m = is _ m.1.1 refl refl
    by stage.Full m = is _ m.1.1 refl refl
    by (stage.Offered c i) m = is _ m.1 refl refl
    by (stage.Stored c) m = is _ m.1 refl refl
    by (stage.Ended f) m = is _ m.1 refl refl

-- a finish that returned `Closed` did nothing, and the stage of the producer's place refused it
finish_by : (old now : LaneSeatView) (at : LaneStage) → FinishBy (stage_finish_refusal at) old finish.Closed now
    → (now ≡ old) × (stage_finish_refusal at ≡ Some finish.Closed)
finish_by old now stage.Open m = absurd (cc)
finish_by old now stage.Full m = absurd (cc)
finish_by old now (stage.Offered c i) m = absurd (cc)
finish_by old now (stage.Stored c) m = absurd (cc)
finish_by old now (stage.Ended f) m = (m.1, refl)

-- a finish that returned `Closed` did nothing
pub finish_same : (s : ProducerView) (now : LaneSeatView) → FinishMakes s.seat finish.Closed now → now ≡ s.seat
finish_same s now m = (finish_by s.seat now s.seat.place.stage m).0

-- if a finish returned `Closed`, the lane had ended
pub finish_is_closed : PutLaws → (s : ProducerView) (now : LaneSeatView) → HasPart s.seat
    → FinishMakes s.seat finish.Closed now → has_ended s.seat.lane s.seat.part ≡ true
finish_is_closed laws s now h m =
    let p = s.seat.lane in
    let g = h.history.0 in
    let place = subst (λ d. IsLaneAfter s.seat.table.size.cells p s.seat.place d) (sym h.history.2) h.place in
    ap (has_ended p) (sym h.history.2) ∙ sym (laws.ended g p)
    ∙ (laws.over s.seat.table.size g p s.seat.place h.history.1 place).0 (finish_by s.seat now s.seat.place.stage m).1

-- a finish that is refused returns the refusal
answered : (o : Option Finish) (r : Finish) (old : LaneSeatView) (answer : Finish)
    (now : LaneSeatView) → o ≡ Some r → FinishBy o old answer now → answer ≡ r
answered (Some q) r old answer now e m = m.0 ∙ some_same q r e
answered None r old answer now e m = absurd (cc)

-- if the lane has ended, a finish returns `Closed`
pub finish_is_over : PutLaws → (s : ProducerView) (answer : Finish) (now : LaneSeatView)
    → HasPart s.seat → FinishMakes s.seat answer now
    → has_ended s.seat.lane s.seat.part ≡ true → answer ≡ finish.Closed
finish_is_over laws s answer now h m over =
    let p = s.seat.lane in
    let g = h.history.0 in
    let place = subst (λ d. IsLaneAfter s.seat.table.size.cells p s.seat.place d) (sym h.history.2) h.place in
    answered (finish_refusal s.seat.place) finish.Closed s.seat answer now
    ((laws.over s.seat.table.size g p s.seat.place h.history.1 place).1
    (laws.ended g p ∙ ap (has_ended p) h.history.2 ∙ over)) m
