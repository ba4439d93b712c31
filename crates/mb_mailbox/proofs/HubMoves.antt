-- `IsHub` still holds of a hub after it issues a producer or a consumer, and after it takes one back.
use Rattle.std.proofs.Common.{◌≡◌, ◌≢◌, ◌⊎◌, ℕ, ◌<◌, ◌≤◌, List, [], ◌∷◌, ◌++◌, length, refl, sym, ap, ◌∙◌, subst, inl, inr, ⊎_elim, arith}
use Rattle.std.specs.Prelude.{Option, Some, None, slice_get, slice_set}
use Rattle.std.proofs.lemmas.List.{length-append, length-set}
use Rattle.std.proofs.lemmas.Option.{slice_get_within}
use Rattle.mb_world.proofs.Positions.{get-front, get-snoc}
use Rattle.mb_cells.specs.Vocabulary.{Entry, fetch}
use Rattle.mb_shared_cells.specs.Vocabulary.{CellHubView, empty_roll}
use Rattle.mb_shared_cells.specs.declared.views.Roll.{Roll}
use Rattle.mb_shared_claims.specs.Vocabulary.{HubView as ClaimHubView}
use Rattle.mb_mailbox.specs.Imports.{CellsName, ClaimAccess, ClaimTable, Has, History, claims_at, linked_cells}
use Rattle.mb_mailbox.specs.Hubs.{HubView, IsHub, IsConsumerRecord, IsPutList, ConsumerRecordView, PutListView, put_list_of, with_consumer, with_producer, with_taken_consumer, with_taken_producer}
use Rattle.mb_mailbox.specs.Consumers.{ConsumerView, IsConsumer}
use Rattle.mb_mailbox.specs.Producers.{IsProducer, ProducerView}
use Rattle.mb_mailbox.proofs.Lists.{get_some, set_else, set_get, set_here, some_same}

-- ---- lists with one more at their end
-- an element of `xs ++ x ∷ []` is the element of xs at that place, or is x
get_older : {X : Type 0} (xs : List X) (x : X) (p : ℕ) (a : X) → slice_get (xs ++ x ∷ []) p ≡ Some a
    → (slice_get xs p ≡ Some a) ⊎ (x ≡ a)
get_older xs x p a e = ⊎_elim (λ h. inl h) (λ h. inr h.1) (get-snoc xs x p a e)

-- two lists of one length still have one length if each gets one element more
longer : {X Y : Type 0} (xs : List X) (ys : List Y) (x : X) (y : Y) → length xs ≡ length ys
    → length (xs ++ x ∷ []) ≡ length (ys ++ y ∷ [])
longer xs ys x y e =
    let a = length-append xs (x ∷ []) in
    let b = length-append ys (y ∷ []) in
    omega arith

-- an empty list has no element at any place
none_there : {X : Type 0} (p : ℕ) (x : X) → slice_get [] p ≡ Some x → ⊥
none_there p x e = cc

none_at : {X : Type 0} (xs : List X) (p : ℕ) (x : X) → xs ≡ [] → slice_get xs p ≡ Some x → ⊥
none_at {X} xs p x none e = none_there p x (subst (λ (ys : List X). slice_get ys p ≡ Some x) none e)

-- ---- a new hub, and producers
-- `IsHub` holds of a hub that has issued nothing
pub new_hub : (cells : CellHubView) (claims : ClaimHubView) (puts : List (Option PutListView))
    (records : List (Option ConsumerRecordView))
    → cells.roll ≡ empty_roll → claims.roll ≡ [] → puts ≡ [] → records ≡ []
    → IsHub (record { cells = cells; claims = claims; puts = puts; records = records })
new_hub cells claims puts records roll seats no_puts no_records =
    let lanes : length puts ≡ 0 = ap length no_puts in
    let readers : length records ≡ 0 = ap length no_records in
    record {
      lanes = ap length no_puts ∙ sym (ap (λ (r : Roll). length r.lanes) roll);
      readers = ap length no_records ∙ sym (ap (λ (r : Roll). length r.readers) roll);
      seats = ap length no_records ∙ sym (ap length seats);
      few_lanes = omega (arith, lanes);
      few_consumers = omega (arith, readers);
      put = λ p l e. absurd (none_at puts p (Some l) no_puts e);
      taken = λ c l e. absurd (none_at records c (Some l) no_records e);
    }

-- `IsHub` still holds after the hub has issued one more producer
pub issued_producer : (h : HubView) → IsHub h → length h.puts < h.cells.table.size.lanes → IsHub (with_producer h)
issued_producer h i low = record {
  lanes = longer h.puts h.cells.roll.lanes None None i.lanes;
  readers = i.readers;
  seats = i.seats;
  few_lanes = let n = length-append h.puts (None ∷ []) in omega arith;
  few_consumers = i.few_consumers;
  put = λ p l e. ⊎_elim
      (λ (old : slice_get h.puts p ≡ Some (Some l)).
      let t = i.put p l old in (t.0, get-front h.cells.roll.lanes (None ∷ []) p (Some t.0) t.1, t.2))
      (λ (new : None ≡ Some l). absurd (cc))
      (get_older h.puts None p (Some l) e);
  taken = i.taken;
}

-- if producer p was issued and its part was not returned, the hub has no put list of it
pub is_out : (h : HubView) (p : ℕ) → IsHub h → slice_get h.cells.roll.lanes p ≡ Some None
    → slice_get h.puts p ≡ Some None
is_out h p i out =
    let t = get_some h.puts p (subst (λ n. p < n) (sym i.lanes) (slice_get_within h.cells.roll.lanes p None out)) in
    by t.0 t.1
  where
    by : (o : Option PutListView) → slice_get h.puts p ≡ Some o → slice_get h.puts p ≡ Some None
    by None e = e
    by (Some l) e =
        let t = i.put p l e in
        let f : None ≡ Some t.0 = some_same None (Some t.0) (sym out ∙ t.1) in
        absurd (cc)

-- if a producer has linked each cell that it got, the put list that the hub records of it agrees with its part
pub kept_list : (s : ProducerView) → IsProducer s
    → ((e : Entry) → Has s.seat.part (fetch s.seat.lane e) → e.cell < s.seat.table.size.cells
    → Has (linked_cells s.seat.lane s.seat.part) e.cell)
    → IsPutList s.seat.table.size.cells s.seat.lane s.seat.part (put_list_of s)
kept_list s own linked = record { items = own.items; ended = refl; linked = linked }

-- `IsHub` still holds after the hub has taken back a producer
pub took_producer : (h : HubView) (s : ProducerView) → IsHub h
    → IsPutList h.cells.table.size.cells s.seat.lane s.seat.part (put_list_of s)
    → slice_get h.cells.roll.lanes s.seat.lane ≡ Some None
    → IsHub (with_taken_producer s h)
took_producer h s i own out =
    let size = h.cells.table.size in
    let n = length-set h.puts s.seat.lane (Some (put_list_of s)) in
    record {
      lanes = n ∙ i.lanes ∙ sym (length-set h.cells.roll.lanes s.seat.lane (Some s.seat.part));
      readers = i.readers;
      seats = i.seats;
      few_lanes = subst (λ k. k ≤ size.lanes) (sym n) i.few_lanes;
      few_consumers = i.few_consumers;
      put = λ p l e. ⊎_elim
          (λ (t : (p ≡ s.seat.lane) × (Some (put_list_of s) ≡ Some l)).
          subst (λ (z : ℕ × PutListView). (done : History)
          × (slice_get (slice_set h.cells.roll.lanes s.seat.lane (Some s.seat.part)) z.0 ≡ Some (Some done))
          × IsPutList size.cells z.0 done z.1)
          (λ j. (sym t.0 j, some_same (put_list_of s) l t.1 j))
          (s.seat.part, set_here h.cells.roll.lanes s.seat.lane (Some s.seat.part) None out, own))
          (λ (t : (p ≢ s.seat.lane) × (slice_get h.puts p ≡ Some (Some l))).
          let x = i.put p l t.1 in
          (x.0, set_else h.cells.roll.lanes s.seat.lane p (Some s.seat.part) t.0 ∙ x.1, x.2))
          (set_get h.puts s.seat.lane p (Some (put_list_of s)) (Some l) e);
      taken = i.taken;
    }

-- ---- consumers
-- `IsHub` still holds after the hub has issued one more consumer
pub issued_consumer : (h : HubView) → IsHub h
    → length h.records < (claims_at h.claims.table).table.values → IsHub (with_consumer h)
issued_consumer h i low = record {
  lanes = i.lanes;
  readers = longer h.records h.cells.roll.readers None None i.readers;
  seats = longer h.records h.claims.roll None None i.seats;
  few_lanes = i.few_lanes;
  few_consumers = let n = length-append h.records (None ∷ []) in omega arith;
  taken = λ c kept e. ⊎_elim
      (λ (old : slice_get h.records c ≡ Some (Some kept)).
      let t = i.taken c kept old in (
        t.0,
        get-front h.cells.roll.readers (None ∷ []) c (Some t.0) t.1,
        (t.2.0, get-front h.claims.roll (None ∷ []) c (Some t.2.0) t.2.1, t.2.2),
      ))
      (λ (new : None ≡ Some kept). absurd (cc))
      (get_older h.records None c (Some kept) e);
  put = i.put;
}

-- if consumer c was issued and its part at the claims was not returned, the hub has no record of it
pub seat_is_out : (h : HubView) (c : ℕ) → IsHub h → slice_get h.claims.roll c ≡ Some None
    → slice_get h.records c ≡ Some None
seat_is_out h c i out =
    let t = get_some h.records c (subst (λ n. c < n) (sym i.seats) (slice_get_within h.claims.roll c None out)) in
    by t.0 t.1
  where
    by : (o : Option ConsumerRecordView) → slice_get h.records c ≡ Some o → slice_get h.records c ≡ Some None
    by None e = e
    by (Some kept) e =
        let t = i.taken c kept e in
        let f : None ≡ Some t.2.0 = some_same None (Some t.2.0) (sym out ∙ t.2.1) in
        absurd (cc)

-- `IsHub` still holds after the hub has taken back a consumer
pub took_consumer : (h : HubView) (s : ConsumerView) → IsHub h → IsConsumer s → s.seat.table ≡ h.claims.table
    → s.reader.table ≡ h.cells.table → slice_get h.cells.roll.readers s.reader.reader ≡ Some None
    → slice_get h.claims.roll s.seat.consumer ≡ Some None
    → IsHub (with_taken_consumer s h)
took_consumer h s i own table cells reader_out seat_out =
    let c = s.seat.consumer in
    let l : ConsumerRecordView = record { places = s.places; notes = s.notes } in
    let out : slice_get h.cells.roll.readers c
    ≡ Some None = subst (λ (r : ℕ). slice_get h.cells.roll.readers r ≡ Some None) own.same
    reader_out in
    let here : slice_get (slice_set h.cells.roll.readers s.reader.reader (Some s.reader.part)) c
    ≡ Some (Some s.reader.part) =
    subst (λ (r : ℕ). slice_get (slice_set h.cells.roll.readers r (Some s.reader.part)) c
    ≡ Some (Some s.reader.part)) (sym own.same)
    (set_here h.cells.roll.readers c (Some s.reader.part) None out) in
    let lanes : s.reader.table.size.lanes ≡ h.cells.table.size.lanes = ap (λ (t : CellsName). t.size.lanes) cells in
    let n = length-set h.records c (Some l) in
    let its : IsConsumerRecord h.claims.table h.cells.table.size.lanes c s.reader.part s.seat.part l = record {
      size = own.size;
      sized = ap (λ (t : ClaimTable). t.size) (sym table) ∙ own.table;
      fit = own.fit;
      places_count = own.places_count ∙ lanes;
      notes_count = own.notes_count ∙ lanes;
      lanes = own.lanes;
    } in
    record {
      lanes = i.lanes;
      readers = n ∙ i.readers ∙ sym (length-set h.cells.roll.readers s.reader.reader (Some s.reader.part));
      seats = n ∙ i.seats ∙ sym (length-set h.claims.roll c (Some s.seat.part));
      few_lanes = i.few_lanes;
      few_consumers = subst (λ k. k ≤ (claims_at h.claims.table).table.values) (sym n) i.few_consumers;
      taken = λ d kept e. ⊎_elim
          (λ (t : (d ≡ c) × (Some l ≡ Some kept)).
          subst (λ (z : ℕ × ConsumerRecordView). (reads : History)
          × (slice_get (slice_set h.cells.roll.readers s.reader.reader (Some s.reader.part)) z.0 ≡ Some (Some reads))
          × ((done : List ClaimAccess) × (slice_get (slice_set h.claims.roll c (Some s.seat.part))
          z.0 ≡ Some (Some done))
          × IsConsumerRecord h.claims.table h.cells.table.size.lanes z.0 reads done z.1))
          (λ j. (sym t.0 j, some_same l kept t.1 j))
          (s.reader.part, here, (s.seat.part, set_here h.claims.roll c (Some s.seat.part) None seat_out, its)))
          (λ (t : (d ≢ c) × (slice_get h.records d ≡ Some (Some kept))).
          let x = i.taken d kept t.1 in (
            x.0,
            set_else h.cells.roll.readers s.reader.reader d (Some s.reader.part) (λ f. t.0 (f ∙ own.same)) ∙ x.1,
            (x.2.0, set_else h.claims.roll c d (Some s.seat.part) t.0 ∙ x.2.1, x.2.2),
          ))
          (set_get h.records c d (Some l) (Some kept) e);
      put = i.put;
    }
