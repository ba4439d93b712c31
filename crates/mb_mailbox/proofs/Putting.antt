-- What a producer is after an offer and two pushes, and what an offer does that is refused.
use Rattle.std.proofs.Common.{◌≡◌, ◌≢◌, ℕ, ◌+◌, ◌<◌, Bool, true, false, cond, List, [], ◌∷◌, ◌++◌, length, map, refl, sym, ap, ◌∙◌, subst, arith}
use Rattle.std.specs.Prelude.{Option, Some, None, nat_lt}
use Rattle.std.proofs.lemmas.Bool.{ltb-true, eq-eqb, ne_eqb}
use Rattle.std.proofs.lemmas.List.{length-append, length-map, map-append}
use Rattle.mb_cells.specs.declared.answer.Offer.{Offer}
use Rattle.mb_cells.specs.declared.answer.Offer.TheVariants as offer
use Rattle.mb_cells.specs.declared.answer.Push.{Push}
use Rattle.mb_cells.specs.declared.lane.LaneStage.{LaneStage}
use Rattle.mb_cells.specs.declared.lane.LaneStage.TheVariants as stage
use Rattle.mb_cells.specs.Vocabulary.{Entry, IsLaneAfter, entry_at, fetch, item_of, next_link, offer_refusal, push_store, put_list, stage_offer_refusal, stage_push_store, store}
use Rattle.mb_shared_cells.specs.Vocabulary.{IsAccessAfter, LaneMakes, LaneSeatView, OfferBy, OfferMakes, PushMakes}
pub use Rattle.mb_shared_cells.proofs.PutMoves.{link_word}
use Rattle.mb_world.specs.Reporting.{values_put}
use Rattle.mb_mailbox.specs.Imports.{Counter, END, Head, History, Item, Link, Word, has_ended}
use Rattle.mb_cells.specs.Vocabulary.{IsLinkWord}
use Rattle.mb_mailbox.specs.PartPlaces.{HasPart}
use Rattle.mb_mailbox.specs.Producers.{IsProducer, IsPutInto, ProducerView, is_over}
use Rattle.mb_mailbox.specs.PutLaws.{PutLaws}
use Rattle.mb_mailbox.proofs.Lists.{some_same}

-- the producer with this seat and these items
abbrev pub producer_at : LaneSeatView → List ℕ → ProducerView
producer_at seat items = record { seat = seat; items = items }

-- to store a link to a cell does not end a lane
no_mark : (p k : ℕ) (w : Word) (h : History) → IsLinkWord w → k + 1 ≢ END
    → has_ended p (store p w (k + 1) ∷ h) ≡ has_ended p h
no_mark p k (Head q) h l ne = rw (eq-eqb p p refl) (rw (ne_eqb (k + 1) END ne) refl)
no_mark p k (Link q) h l ne = rw (eq-eqb p p refl) (rw (ne_eqb (k + 1) END ne) refl)
no_mark p k (Item q) h l ne = absurd l
no_mark p k Counter h l ne = absurd l

-- an offer that returned cell k made a fetch-add that found this cell
record Took (old : LaneSeatView) (x k : ℕ) (new : LaneSeatView) : Type 0 where
  pub low : k < old.table.size.cells
  pub is : new ≡ record old {
    place = record { last = old.place.last; stage = stage.Offered k x };
    part = fetch old.lane (record { cell = k; value = x }) ∷ old.part;
  }
  pub after : IsAccessAfter old.table.size [] (fetch old.lane (record { cell = k; value = x })) old.part

-- if a fetch-add was made and the offer returned a cell, the number found is that cell's
took_by : (old : LaneSeatView) (x k n : ℕ) (new : LaneSeatView) (b : Bool) → nat_lt n old.table.size.cells ≡ b
    → offer.Cell k ≡ cond b (offer.Cell n) offer.Full
    → LaneMakes (fetch old.lane (record { cell = n; value = x })) (record {
      last = old.place.last;
      stage = cond b (stage.Offered n x) stage.Full;
    }) old new
    → Took old x k new
took_by old x k n new true low told m =
    let same : n ≡ k = cc in
    subst (λ (z : ℕ). Took old x z new) same (record {
      low = ltb-true n old.table.size.cells low;
      is = m.1;
      after = m.0;
    })
took_by old x k n new false low told m = absurd (cc)

-- `Took` holds of an offer that returned a cell, if it was made from this stage of the producer's place
took_at : (old : LaneSeatView) (x k : ℕ) (new : LaneSeatView) (at : LaneStage)
    → OfferBy (stage_offer_refusal at) old x (offer.Cell k) new → Took old x k new
took_at old x k new stage.Open m = took_by old x k m.0 new (nat_lt m.0 old.table.size.cells) refl m.1 m.2
took_at old x k new (stage.Offered c i) m = absurd (cc)
took_at old x k new (stage.Stored c) m = absurd (cc)
took_at old x k new stage.Full m = absurd (cc)
took_at old x k new (stage.Ended f) m = absurd (cc)

-- a fetch-add leaves the put list of its lane as it is
pub fetch_keeps : PutLaws → (old : LaneSeatView) (e : Entry)
    → IsAccessAfter old.table.size [] (fetch old.lane e) old.part
    → put_list old.lane (fetch old.lane e ∷ old.part) ≡ put_list old.lane old.part
fetch_keeps laws old e a =
    let p = old.lane in
    let size = old.table.size in
    let h = a.older in
    let was = laws.older size (fetch p e ∷ []) h a.lawful in
    ap (λ l. put_list p (fetch p e ∷ l)) (sym a.own)
    ∙ ap (put_list p) (sym (laws.own h (fetch p e)))
    ∙ sym (laws.put size (fetch p e ∷ h) p a.lawful)
    ∙ laws.fetched size h p p e a.lawful
    ∙ laws.put size h p was
    ∙ ap (put_list p) a.own

module _ (laws : PutLaws) (s : ProducerView) (x k : ℕ) (one two : Push) (a b now : LaneSeatView) (i : IsProducer s)
    (o : OfferMakes s.seat x (offer.Cell k) a) (f : PushMakes a one b) (g : PushMakes b two now) where
  -- p is the lane, e the entry, h the part with the item stored, and `linked_part` the part with the cell linked, too
  abbrev p : ℕ
  p = s.seat.lane

  abbrev e : Entry
  e = record { cell = k; value = x }

  abbrev h : History
  h = store p (Item k) x ∷ fetch p e ∷ s.seat.part

  abbrev linked_part : History
  linked_part = store p (next_link p s.seat.place) (k + 1) ∷ h

  -- the offer made a fetch-add that found cell k
  took : Took s.seat x k a
  took = took_at s.seat x k a s.seat.place.stage o

  -- the first push stored the item
  first : LaneMakes (store p (Item k) x) (record { last = s.seat.place.last; stage = stage.Stored k })
      (record s.seat {
        place = record { last = s.seat.place.last; stage = stage.Offered k x };
        part = fetch p e ∷ s.seat.part;
      }) b
  first = (subst (λ v. PushMakes v one b) took.is f).1

  -- the second push stored the link
  second : LaneMakes (store p (next_link p s.seat.place) (k + 1)) (record { last = Some k; stage = stage.Open })
      (record s.seat { place = record { last = s.seat.place.last; stage = stage.Stored k }; part = h }) now
  second = (subst (λ v. PushMakes v two now) first.1 g).1

  -- the item was put into the cell
  pub is_put : IsPutInto k x s (record { seat = now; items = s.items ++ x ∷ [] })
  is_put = record {
    same = record {
      table = ap (λ (v : LaneSeatView). v.table) second.1;
      lane = ap (λ (v : LaneSeatView). v.lane) second.1;
    };
    within = took.low;
    part = ap (λ (v : LaneSeatView). v.part) second.1;
    items = refl;
  }

  -- after the put, the lane's put list has entry e at its end
  grown : put_list p linked_part ≡ put_list p s.seat.part ++ e ∷ []
  grown =
      let size = s.seat.table.size in
      let no_end : k + 1 ≢ END = let low = took.low in let few = first.0.lawful.sized in λ z. omega arith in
      let item : item_of k h ≡ x = rw (eq-eqb k k refl) refl in
      let entry : entry_at k h ≡ e = ap (λ (v : ℕ). record { cell = k; value = v }) item in
      laws.link h p k (next_link p s.seat.place) (link_word p s.seat.place.last) no_end
      ∙ (λ j. (laws.item (fetch p e ∷ s.seat.part) p p k x ∙ fetch_keeps laws s.seat e took.after) j ++ entry j ∷ [])

  -- after the put, the values put are the producer's items before, and x
  values : values_put p linked_part ≡ s.items ++ x ∷ []
  values = ap (λ (l : List Entry). map (λ (z : Entry). z.value) l) grown
      ∙ map-append (λ (z : Entry). z.value) (put_list p s.seat.part) (e ∷ [])
      ∙ ap (λ (l : List ℕ). l ++ x ∷ []) (sym i.items)

  -- after the put `IsProducer` still holds of the producer
  pub still : IsProducer (record { seat = now; items = s.items ++ x ∷ [] })
  still = record {
    items = sym values ∙ ap (λ (v : LaneSeatView). values_put v.lane v.part) (sym second.1);
    idle = ap (λ (v : LaneSeatView). push_store v.lane v.place) second.1;
  }

  -- there was room for the item: the lane has no more entries than the pool has cells
  pub room : length s.items < s.seat.table.size.cells
  room =
      let size = s.seat.table.size in
      let t = second.0 in
      let longer = store p (next_link p s.seat.place) (k + 1) ∷ t.older in
      let same : put_list p longer ≡ put_list p s.seat.part ++ e ∷ [] =
      laws.put size longer p t.lawful ∙ ap (put_list p) (laws.own t.older (store p (next_link p s.seat.place) (k + 1)))
      ∙ ap (λ l. put_list p (store p (next_link p s.seat.place) (k + 1) ∷ l)) t.own ∙ grown in
      let few = laws.few size longer p t.lawful in
      let long : length (put_list p longer) ≡ length (put_list p s.seat.part) + 1 = ap length same
      ∙ length-append (put_list p s.seat.part) (e ∷ []) in
      let count : length s.items ≡ length (put_list p s.seat.part) = ap length i.items
      ∙ length-map (put_list p s.seat.part) (λ (z : Entry). z.value) in
      omega arith

  -- the lane has ended after the put exactly if it had before: none of the three accesses stores an end mark
  pub over_stays : is_over (record { seat = now; items = s.items ++ x ∷ [] }) ≡ is_over s
  over_stays =
      let no_end : k + 1 ≢ END = let low = took.low in let few = first.0.lawful.sized in λ z. omega arith in
      ap (λ (v : LaneSeatView). has_ended v.lane v.part) second.1
      ∙ no_mark p k (next_link p s.seat.place) h (link_word p s.seat.place.last) no_end
      ∙ rw (eq-eqb p p refl) refl

-- ---- an offer that returned `Closed` or `Busy`
-- an offer that returned `Closed` did nothing, and the stage of the producer's place refused it
refused_closed : (old : LaneSeatView) (x : ℕ) (now : LaneSeatView) (at : LaneStage)
    → OfferBy (stage_offer_refusal at) old x offer.Closed now
    → (now ≡ old) × (stage_offer_refusal at ≡ Some offer.Closed)
refused_closed old x now stage.Open m = absurd (by (nat_lt m.0 old.table.size.cells) m.1)
  where
    by : (b : Bool) → offer.Closed ≡ cond b (offer.Cell m.0) offer.Full → ⊥
    by true f = absurd (cc)
    by false f = absurd (cc)
refused_closed old x now (stage.Offered c i) m = absurd (cc)
refused_closed old x now (stage.Stored c) m = absurd (cc)
refused_closed old x now stage.Full m = absurd (cc)
refused_closed old x now (stage.Ended f) m = (m.1, refl)

-- an offer that returned `Closed` did nothing
pub is_refused : (s : ProducerView) (x : ℕ) (now : LaneSeatView) → OfferMakes s.seat x offer.Closed now → now ≡ s.seat
is_refused s x now m = (refused_closed s.seat x now s.seat.place.stage m).0

-- if an offer returned `Closed`, the lane had ended
pub is_closed : PutLaws → (s : ProducerView) (x : ℕ) (now : LaneSeatView) → HasPart s.seat
    → OfferMakes s.seat x offer.Closed now
    → has_ended s.seat.lane s.seat.part ≡ true
is_closed laws s x now h m =
    let p = s.seat.lane in
    let g = h.history.0 in
    let place = subst (λ d. IsLaneAfter s.seat.table.size.cells p s.seat.place d) (sym h.history.2) h.place in
    ap (has_ended p) (sym h.history.2) ∙ sym (laws.ended g p)
    ∙ (laws.closed s.seat.table.size g p s.seat.place h.history.1 place).0
    (refused_closed s.seat x now s.seat.place.stage m).1

pub refused_by : (o : Option Offer) (r : Offer) (old : LaneSeatView) (x : ℕ) (answer : Offer)
    (now : LaneSeatView) → o ≡ Some r → OfferBy o old x answer now → answer ≡ r
refused_by (Some q) r old x answer now e m = m.0 ∙ some_same q r e
refused_by None r old x answer now e m = absurd (cc)

-- if the lane has ended, an offer returns `Closed`
pub offer_is_over : PutLaws → (s : ProducerView) (x : ℕ) (answer : Offer) (now : LaneSeatView)
    → HasPart s.seat → OfferMakes s.seat x answer now
    → has_ended s.seat.lane s.seat.part ≡ true → answer ≡ offer.Closed
offer_is_over laws s x answer now h m over =
    let p = s.seat.lane in
    let g = h.history.0 in
    let place = subst (λ d. IsLaneAfter s.seat.table.size.cells p s.seat.place d) (sym h.history.2) h.place in
    refused_by (offer_refusal s.seat.place) offer.Closed s.seat x answer now
    ((laws.closed s.seat.table.size g p s.seat.place h.history.1 place).1
    (laws.ended g p ∙ ap (has_ended p) h.history.2 ∙ over)) m

-- an offer never returns `Busy`, since no item of the producer is pending
pub not_busy : (s : ProducerView) (x : ℕ) (now : LaneSeatView) → IsProducer s → OfferMakes s.seat x offer.Busy now → ⊥
not_busy s x now i m = by s.seat.place.stage m i.idle
  where
    found : (n : ℕ) (b : Bool) → offer.Busy ≡ cond b (offer.Cell n) offer.Full → ⊥
    found n true f = absurd (cc)
    found n false f = absurd (cc)

    by : (at : LaneStage) → OfferBy (stage_offer_refusal at) s.seat x offer.Busy now
        → stage_push_store (next_link s.seat.lane s.seat.place) at ≡ None → ⊥
    by stage.Open m e = found m.0 (nat_lt m.0 s.seat.table.size.cells) m.1
    by (stage.Offered c j) m e = absurd (cc)
    by (stage.Stored c) m e = absurd (cc)
    by stage.Full m e = absurd (cc)
    by (stage.Ended f) m e = absurd (cc)
