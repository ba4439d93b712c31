-- What the ends of a run's jobs say, and what the hub has after it took back all producers and consumers.
use Rattle.std.proofs.Common.{◌≡◌, ◌≢◌, ℕ, suc, ◌+◌, ◌-◌, ◌<◌, ◌≤◌, Bool, true, false, List, [], ◌∷◌, ◌++◌, length, map, refl, sym, ap, ◌∙◌, subst, arith}
use Rattle.std.specs.Prelude.{Some, Vec}
use Rattle.std.specs.List.{All, AllZip, sum_by}
use Rattle.std.proofs.lemmas.List.{length-map}
use Rattle.std.proofs.lemmas.List.Sums.{sum_by-cons}
use Rattle.std.proofs.lemmas.List.Elements.{All-cons, All-head, All-tail}
use Rattle.mb_cells.specs.Vocabulary.{HasFoundNone}
use Rattle.mb_shared_cells.specs.Vocabulary.{CellsName}
use Rattle.mb_mailbox.specs.Imports.{Stream}
use Rattle.mb_mailbox.specs.ConsumerWords.{ConsumerView}
use Rattle.mb_mailbox.specs.HubRuns.{with_producers}
use Rattle.mb_mailbox.specs.Vocabulary.{WasPassed, WerePassed, WerePolled, ArePassed, ArePollJobs, ArePutJobs, HubView, IsHub, new_producer, put_list_of, HasReadEnds, HasReadToEnd, IsFront, IsOnLanes}
use Rattle.mb_mailbox.specs.Vocabulary.{IsPollEnd, IsPutEnd, IsStopBefore, IsStoppedPoll, accesses_made, ends_met, MailboxView, FoundNoCell, ProducerView, is_over, AreCutByCells, AreStoppedPolls}
use Rattle.mb_mailbox.specs.Vocabulary.{AreStoppedPuts, ConsumerEnd, HaveMetEnds, IsRunOf, IsStoppedPut, ProducerEnd, ended_list, items_beyond, lists_in, Who}
use Rattle.mb_mailbox.specs.Vocabulary.{IsHubOf, PollDone, PollJob, PutDone, PutJob}
use Rattle.mb_mailbox.specs.declared.gate.Who.TheVariants as who
use Rattle.mb_mailbox.proofs.HubRuns.{CountFrom, after, run_claimed, run_records, run_parts, run_puts, run_readers}
use Rattle.mb_mailbox.proofs.RunEnds.{behind, consumer_end, met_at, producer_end}
use Rattle.mb_mailbox.proofs.{Given.{count_by_producers, new_number, of_by_producers, one_more, still_of}, Zips.{zip_length}}

module _ {Z : Type 0} (m : MailboxView) (may_stop may_pass : Who → ℕ → Type 0) where
  -- ---- producers
  -- the producers of these ends, and by `lanes_of` what they came to
  abbrev pub producers : List (PutDone Z) → List ProducerView
  producers ds = map (λ d. d.producer) ds

  abbrev pub lanes_of : List (PutDone Z) → List ProducerEnd
  lanes_of ds = map (λ d. producer_end d.producer d.stopped) ds

  -- `d` is the end of a job of a new producer of lane p, whose list is `v`
  pub record IsPutEndAt (p : ℕ) (v : Vec ℕ Z) (d : PutDone Z) : Type 0 where
    pub lane : d.producer.seat.lane ≡ p
    pub table : d.producer.seat.table ≡ m.cells
    pub over : is_over d.producer ≡ true
    pub front : IsFront d.producer.items v.items
    pub full : d.stopped ≡ false → length d.producer.items + d.full ≡ length v.items
    pub found : d.stopped ≡ false → d.full ≢ 0 → HasFoundNone m.cells.size.cells p d.producer.seat.part
    pub none : d.stopped ≡ true → d.full ≡ 0
    pub stop : d.stopped ≡ true → d.aborted ≡ false
        → IsStoppedPut may_stop m.cells.size.cells p v.items (producer_end d.producer d.stopped)
    pub passed : d.aborted ≡ false → WasPassed may_pass p v.items (producer_end d.producer d.stopped)

  -- these are the ends of the jobs of these lists, on the lanes from p on
  abbrev pub AreAt : ℕ → List (Vec ℕ Z) → List (PutDone Z) → Type 0
  AreAt p [] [] = Unit {0}
  AreAt p (v ∷ vs) (d ∷ ds) = IsPutEndAt p v d × AreAt (suc p) vs ds
  AreAt p _ _ = ⊥

  -- `IsPutEndAt` holds of the end of the job of a new producer
  end_at : (p : ℕ) (v : Vec ℕ Z) (j : PutJob Z) (d : PutDone Z) → j.producer ≡ new_producer m p → j.list ≡ v
      → IsPutEnd may_stop may_pass j d → IsPutEndAt p v d
  end_at p v j d is list e =
      let at = ap (λ (s : ProducerView). s.seat.lane) is in
      let lane : d.producer.seat.lane ≡ p = e.same.lane ∙ at in
      let table : d.producer.seat.table ≡ m.cells = e.same.table ∙ ap (λ (s : ProducerView). s.seat.table) is in
      record {
        lane = lane;
        table = table;
        over = e.over;
        front = subst (λ (w : Vec ℕ Z). IsFront d.producer.items w.items) list e.front;
        full = λ f. e.full f ∙ ap (λ (w : Vec ℕ Z). length w.items) list;
        found = λ f ne. subst (λ (z : CellsName × ℕ). HasFoundNone z.0.size.cells z.1 d.producer.seat.part)
            (λ i. (table i, lane i)) (e.found f ne);
        none = e.none;
        stop = λ t o. record {
          short = subst (λ (w : Vec ℕ Z). length d.producer.items < length w.items) list (e.short t o);
          had_cells = λ none.
              let mine : FoundNoCell d.producer =
              subst (λ (z : CellsName × ℕ). HasFoundNone z.0.size.cells z.1 d.producer.seat.part)
              (λ i. (sym table i, sym lane i)) none in
              absurd ((subst FoundNoCell is (e.had_cells t o mine)).offered);
          stop = subst (λ (q : ℕ). IsStopBefore may_stop (who.Producer q) (suc (length d.producer.items))) at
              (e.stop t o);
        };
        passed = λ o. record {
          put = subst (λ (q : ℕ). ArePassed may_pass (who.Producer q) (length d.producer.items)) at (e.passed o);
          full = λ f short.
              let here = e.full f ∙ ap (λ (w : Vec ℕ Z). length w.items) list in
              subst (λ (q : ℕ). may_pass (who.Producer q) (suc (length d.producer.items))) at
              (e.passed_full o f (λ z. omega (arith, here, z, short)));
        };
      }

  -- `AreAt` holds of the ends of the jobs of new producers
  are_at : (p : ℕ) (vs : List (Vec ℕ Z)) (js : List (PutJob Z)) (ds : List (PutDone Z)) → ArePutJobs m p vs js
      → AllZip (IsPutEnd may_stop may_pass) js ds → AreAt p vs ds
  are_at p [] [] [] a z = tt
  are_at p [] [] (d ∷ ds) a z = absurd z
  are_at p [] (j ∷ js) ds a z = absurd a
  are_at p (v ∷ vs) [] ds a z = absurd a
  are_at p (v ∷ vs) (j ∷ js) [] a z = absurd z
  are_at p (v ∷ vs) (j ∷ js) (d ∷ ds) a z = (end_at p v j d a.0 a.1 z.0, are_at (suc p) vs js ds a.2 z.1)

  -- the producers of these ends are those of the lanes from p on
  count_lanes : (p : ℕ) (vs : List (Vec ℕ Z)) (ds : List (PutDone Z)) → AreAt p vs ds
      → CountFrom (λ (s : ProducerView). s.seat.lane) p (producers ds)
  count_lanes p [] [] a = tt
  count_lanes p [] (d ∷ ds) a = absurd a
  count_lanes p (v ∷ vs) [] a = absurd a
  count_lanes p (v ∷ vs) (d ∷ ds) a = (a.0.lane, count_lanes (suc p) vs ds a.1)

  -- each of these producers put a beginning of its list
  fronts_of : (p : ℕ) (vs : List (Vec ℕ Z)) (ds : List (PutDone Z)) → AreAt p vs ds
      → AllZip (λ list l. IsFront l.put list) (lists_in vs) (lanes_of ds)
  fronts_of p [] [] a = tt
  fronts_of p [] (d ∷ ds) a = absurd a
  fronts_of p (v ∷ vs) [] a = absurd a
  fronts_of p (v ∷ vs) (d ∷ ds) a = (a.0.front, fronts_of (suc p) vs ds a.1)

  -- what the hub records of each of these producers has its items, and says that its lane has ended
  ended_of : (p : ℕ) (vs : List (Vec ℕ Z)) (ds : List (PutDone Z)) → AreAt p vs ds
      → map (λ (s : ProducerView). Some (put_list_of s)) (producers ds)
      ≡ map (λ (l : ProducerEnd). Some (ended_list l)) (lanes_of ds)
  ended_of p [] [] a = refl
  ended_of p [] (d ∷ ds) a = absurd a
  ended_of p (v ∷ vs) [] a = absurd a
  ended_of p (v ∷ vs) (d ∷ ds) a =
      λ i. Some (record { items = d.producer.items; ended = a.0.over i }) ∷ ended_of (suc p) vs ds a.1 i

  -- `lanes_of` has the parts of these producers
  parts_of_lanes : (ds : List (PutDone Z))
      → map (λ (s : ProducerView). Some s.seat.part) (producers ds) ≡ map (λ (l : ProducerEnd). Some l.part)
      (lanes_of ds)
  parts_of_lanes [] = refl
  parts_of_lanes (d ∷ ds) = ap (λ l. Some d.producer.seat.part ∷ l) (parts_of_lanes ds)

  -- the fields `full` of the ends add up to the items not put by producers that were not stopped
  beyond_of : (p : ℕ) (vs : List (Vec ℕ Z)) (ds : List (PutDone Z)) → AreAt p vs ds
      → sum_by (λ (d : PutDone Z). d.full) ds ≡ items_beyond (lists_in vs) (lanes_of ds)
  beyond_of p [] [] a = refl
  beyond_of p [] (d ∷ ds) a = absurd a
  beyond_of p (v ∷ vs) [] a = absurd a
  beyond_of p (v ∷ vs) (d ∷ ds) a =
      let one = behind d.stopped v.items d.producer.items d.full a.0.full a.0.none in
      sum_by-cons (λ (d : PutDone Z). d.full) d ds ∙ (λ i. one i + beyond_of (suc p) vs ds a.1 i)

  -- if one of these producers was not stopped and put less than its list, a fetch-add of it found no cell
  cut_of : (p : ℕ) (vs : List (Vec ℕ Z)) (ds : List (PutDone Z)) → AreAt p vs ds
      → AreCutByCells m.cells.size.cells p (lists_in vs) (lanes_of ds)
  cut_of p [] [] a = tt
  cut_of p [] (d ∷ ds) a = absurd a
  cut_of p (v ∷ vs) [] a = absurd a
  cut_of p (v ∷ vs) (d ∷ ds) a =
      (λ f short. let here = a.0.full f in a.0.found f (λ z. omega (arith, here, z, short)), cut_of (suc p) vs ds a.1)

  -- if the run is not aborted, each producer that was stopped was stopped before the put of its list's next item
  stops_of : (p : ℕ) (vs : List (Vec ℕ Z)) (ds : List (PutDone Z)) → AreAt p vs ds
      → All (λ (d : PutDone Z). d.aborted ≡ false) ds
      → AreStoppedPuts may_stop m.cells.size.cells p (lists_in vs) (lanes_of ds)
  stops_of p [] [] a on = tt
  stops_of p [] (d ∷ ds) a on = absurd a
  stops_of p (v ∷ vs) [] a on = absurd a
  stops_of p (v ∷ vs) (d ∷ ds) a on =
      let F = λ (d : PutDone Z). d.aborted ≡ false in
      (λ t. a.0.stop t (All-head F d ds on), stops_of (suc p) vs ds a.1 (All-tail F d ds on))

  -- if the run is not aborted, the gate let each of these producers through before each of its calls
  passes_of : (p : ℕ) (vs : List (Vec ℕ Z)) (ds : List (PutDone Z)) → AreAt p vs ds
      → All (λ (d : PutDone Z). d.aborted ≡ false) ds → WerePassed may_pass p (lists_in vs) (lanes_of ds)
  passes_of p [] [] a on = tt
  passes_of p [] (d ∷ ds) a on = absurd a
  passes_of p (v ∷ vs) [] a on = absurd a
  passes_of p (v ∷ vs) (d ∷ ds) a on =
      let F = λ (d : PutDone Z). d.aborted ≡ false in
      (a.0.passed (All-head F d ds on), passes_of (suc p) vs ds a.1 (All-tail F d ds on))

  -- ---- consumers
  -- the consumers of these ends, and by `consumer_ends` below what they came to
  abbrev pub consumers : List (PollDone Z) → List ConsumerView
  consumers ds = map (λ d. d.consumer) ds

  -- `d` is the end of the job of a new consumer c, which polls the lanes from `from` on and below `end`
  pub record IsPollEndAt (from end budget c : ℕ) (d : PollDone Z) : Type 0 where
    pub reader : d.consumer.reader.reader ≡ c
    pub consumer : d.consumer.seat.consumer ≡ c
    pub read : d.stopped ≡ false → (p : ℕ) → from ≤ p → p < end → HasReadToEnd p d.consumer
    pub ends : d.stopped ≡ false → ends_met d.consumer.reader.part ≡ end - from
    pub marked : HasReadEnds from end d.consumer
    pub stop : d.stopped ≡ true → d.aborted ≡ false → IsStoppedPoll may_stop budget c (accesses_made d.consumer)
    pub unread : d.stopped ≡ true → d.aborted ≡ false → ends_met d.consumer.reader.part < end - from
    pub only : d.aborted ≡ false → IsOnLanes from end d.consumer.reader.part

  -- these are the ends of the jobs of new consumers, with the numbers from c on
  abbrev pub AreNumbered : ℕ → ℕ → ℕ → ℕ → List (PollDone Z) → Type 0
  AreNumbered from end budget c [] = Unit {0}
  AreNumbered from end budget c (d ∷ ds) = IsPollEndAt from end budget c d × AreNumbered from end budget (suc c) ds

  -- `AreNumbered` holds of the ends of the jobs of new consumers
  numbered : {R : Type 0} (stream : R → Stream) (h : HubView) (from end budget c : ℕ) (js : List (PollJob R Z))
      (ds : List (PollDone Z)) → length h.records ≡ c → ArePollJobs m h js
      → AllZip (λ j d. IsPollEnd may_stop may_pass from end budget (stream j.rng) j.consumer d) js ds
      → AreNumbered from end budget c ds
  numbered stream h from end budget c [] [] e a z = tt
  numbered stream h from end budget c [] (d ∷ ds) e a z = absurd z
  numbered stream h from end budget c (j ∷ js) [] e a z = absurd z
  numbered stream h from end budget c (j ∷ js) (d ∷ ds) e a z =
      let has = new_number m h c j.consumer e a.0 in (
        record {
          reader = z.0.same.reader ∙ has.reader;
          consumer = z.0.same.consumer ∙ has.consumer;
          read = z.0.read;
          ends = λ f. z.0.ends f has.none;
          marked = z.0.marked has.none;
          stop = λ t o. subst (λ (c : ℕ). IsStoppedPoll may_stop budget c (accesses_made d.consumer)) has.consumer
              (z.0.stop t o has.none);
          unread = λ t o. z.0.unread t o has.none;
          only = λ o. z.0.only o has.none;
        },
        numbered stream _ from end budget (suc c) js ds (one_more h c e) a.1 z.1,
      )

  -- the seats of these consumers at the claims have the numbers from c on. The next lemma says so of the readers' seats
  count_seats : (from end budget c : ℕ) (ds : List (PollDone Z)) → AreNumbered from end budget c ds
      → CountFrom (λ (s : ConsumerView). s.seat.consumer) c (consumers ds)
  count_seats from end budget c [] a = tt
  count_seats from end budget c (d ∷ ds) a = (a.0.consumer, count_seats from end budget (suc c) ds a.1)

  count_readers : (from end budget c : ℕ) (ds : List (PollDone Z)) → AreNumbered from end budget c ds
      → CountFrom (λ (s : ConsumerView). s.reader.reader) c (consumers ds)
  count_readers from end budget c [] a = tt
  count_readers from end budget c (d ∷ ds) a = (a.0.reader, count_readers from end budget (suc c) ds a.1)

  abbrev pub consumer_ends : List (PollDone Z) → List ConsumerEnd
  consumer_ends ds = map (λ d. consumer_end d.consumer d.stopped) ds

  -- if the run is not aborted, each consumer that was stopped was stopped before a call, as `IsStoppedPoll` says
  poll_stops_of : (from end budget c : ℕ) (ds : List (PollDone Z)) → AreNumbered from end budget c ds
      → All (λ (d : PollDone Z). d.aborted ≡ false) ds
      → AreStoppedPolls may_stop budget c (consumer_ends ds)
  poll_stops_of from end budget c [] a on = tt
  poll_stops_of from end budget c (d ∷ ds) a on =
      let F = λ (d : PollDone Z). d.aborted ≡ false in
      (λ t. a.0.stop t (All-head F d ds on), poll_stops_of from end budget (suc c) ds a.1 (All-tail F d ds on))

  -- the random words of each of these jobs, as a stream
  abbrev pub sources_of : {R : Type 0} → (R → Stream) → List (PollJob R Z) → List Stream
  sources_of stream js = map (λ j. stream j.rng) js

  -- if the run is not aborted, each consumer made its calls with the words of its own source
  polled_of : {R : Type 0} (stream : R → Stream) (h : HubView) (from end budget c : ℕ) (js : List (PollJob R Z))
      (ds : List (PollDone Z)) → IsHubOf m h → length h.records ≡ c → ArePollJobs m h js
      → AllZip (λ j d. IsPollEnd may_stop may_pass from end budget (stream j.rng) j.consumer d) js ds
      → All (λ (d : PollDone Z). d.aborted ≡ false) ds
      → WerePolled may_stop may_pass h from end budget c (sources_of stream js) (consumer_ends ds)
  polled_of stream h from end budget c [] [] belongs e a z on = tt
  polled_of stream h from end budget c [] (d ∷ ds) belongs e a z on = absurd z
  polled_of stream h from end budget c (j ∷ js) [] belongs e a z on = absurd z
  polled_of stream h from end budget c (j ∷ js) (d ∷ ds) belongs e a z on =
      let has = new_number m h c j.consumer e a.0 in
      let F = λ (d : PollDone Z). d.aborted ≡ false in (
        record {
          mailbox = m;
          belongs = belongs;
          first = j.consumer;
          last = d.consumer;
          new = a.0;
          reader = has.reader;
          consumer = has.consumer;
          none = has.none;
          polled = z.0.polled (All-head F d ds on);
          reads = refl;
          claimed = refl;
          kept = refl;
        },
        polled_of stream _ from end budget (suc c) js ds (still_of m h belongs) (one_more h c e) a.1 z.1
            (All-tail F d ds on),
      )

  -- if the run is not aborted, each consumer has loaded no head of another lane than of these
  only_of : (from end budget c : ℕ) (ds : List (PollDone Z)) → AreNumbered from end budget c ds
      → All (λ (d : PollDone Z). d.aborted ≡ false) ds
      → All (λ (x : ConsumerEnd). IsOnLanes from end x.reads) (consumer_ends ds)
  only_of from end budget c [] a on = λ k d low. absurd (omega (arith, low))
  only_of from end budget c (d ∷ ds) a on =
      let F = λ (d : PollDone Z). d.aborted ≡ false in
      All-cons (λ (x : ConsumerEnd). IsOnLanes from end x.reads) (consumer_end d.consumer d.stopped)
      (consumer_ends ds) (a.0.only (All-head F d ds on))
      (only_of from end budget (suc c) ds a.1 (All-tail F d ds on))

  -- a consumer that was not stopped has loaded as many end marks as there are lanes in the run
  ends_of : (from end budget c : ℕ) (ds : List (PollDone Z)) → AreNumbered from end budget c ds
      → All (λ (x : ConsumerEnd). x.stopped ≡ false → ends_met x.reads ≡ end - from) (consumer_ends ds)
  ends_of from end budget c [] a = λ k d low. absurd (omega (arith, low))
  ends_of from end budget c (d ∷ ds) a =
      All-cons (λ (x : ConsumerEnd). x.stopped ≡ false → ends_met x.reads ≡ end - from)
      (consumer_end d.consumer d.stopped) (consumer_ends ds) a.0.ends
      (ends_of from end budget (suc c) ds a.1)

  -- each consumer has loaded the end mark of each lane that it has read to its end once, and no other end mark
  mets_of : (from end budget c : ℕ) (ds : List (PollDone Z)) → AreNumbered from end budget c ds
      → HaveMetEnds from end c (consumer_ends ds)
  mets_of from end budget c [] a = tt
  mets_of from end budget c (d ∷ ds) a =
      let rest = mets_of from end budget (suc c) ds a.1 in (met_at from end c d.consumer a.0.reader a.0.marked, rest)

  -- if the run is not aborted, a consumer that was stopped has loaded fewer end marks than there are lanes
  unread_of : (from end budget c : ℕ) (ds : List (PollDone Z)) → AreNumbered from end budget c ds
      → All (λ (d : PollDone Z). d.aborted ≡ false) ds
      → All (λ (x : ConsumerEnd). x.stopped ≡ true → ends_met x.reads < end - from) (consumer_ends ds)
  unread_of from end budget c [] a on = λ k d low. absurd (omega (arith, low))
  unread_of from end budget c (d ∷ ds) a on =
      let F = λ (d : PollDone Z). d.aborted ≡ false in
      All-cons (λ (x : ConsumerEnd). x.stopped ≡ true → ends_met x.reads < end - from)
      (consumer_end d.consumer d.stopped) (consumer_ends ds)
      (λ t. a.0.unread t (All-head F d ds on)) (unread_of from end budget (suc c) ds a.1 (All-tail F d ds on))

  -- ---- a whole run: each lemma `run_X` below but `run_of` is `X_of` above (`run_met` is `mets_of`), over all ends
  module _ {R : Type 0} (stream : R → Stream) (h : HubView) (from end budget : ℕ) (vs : List (Vec ℕ Z))
      (js : List (PutJob Z)) (ds : List (PutDone Z)) (ks : List (PollJob R Z)) (es : List (PollDone Z))
      (i : IsHub h) (putting : ArePutJobs m (length h.puts) vs js)
      (polling : ArePollJobs m (with_producers js h) ks) (put : AllZip (IsPutEnd may_stop may_pass) js ds)
      (polled : AllZip (λ j d. IsPollEnd may_stop may_pass from end budget (stream j.rng) j.consumer d) ks es) where
    abbrev pub now : HubView
    now = after js ks (producers ds) (consumers es) h

    ats : AreAt (length h.puts) vs ds
    ats = are_at (length h.puts) vs js ds putting put

    pub nums : AreNumbered from end budget (length h.records) es
    nums = numbered stream _ from end budget (length h.records) ks es (count_by_producers js h) polling polled

    puts_count : length js ≡ length (producers ds)
    puts_count = zip_length (IsPutEnd may_stop may_pass) js ds put ∙ sym (length-map ds (λ (d : PutDone Z). d.producer))

    polls_count : length ks ≡ length (consumers es)
    polls_count =
        zip_length (λ j d. IsPollEnd may_stop may_pass from end budget (stream j.rng) j.consumer d) ks es polled
        ∙ sym (length-map es (λ (d : PollDone Z). d.consumer))

    -- `IsRunOf` holds for these lists, with as many sources as there are consumers' jobs
    pub run_of : IsRunOf (lists_in vs) (length ks) (lanes_of ds) (consumer_ends es) h now
    run_of = record {
      puts = run_puts js ks (producers ds) (consumers es) h puts_count (count_lanes (length h.puts) vs ds ats)
          ∙ ap (λ l. h.puts ++ l) (ended_of (length h.puts) vs ds ats);
      parts = run_parts js ks (producers ds) (consumers es) h puts_count (count_lanes (length h.puts) vs ds ats) i.lanes
          ∙ ap (λ l. h.cells.roll.lanes ++ l) (parts_of_lanes ds);
      fronts = fronts_of (length h.puts) vs ds ats;
      records = run_records js ks (producers ds) (consumers es) h polls_count
          (count_seats from end budget (length h.records) es nums)
          ∙ ap (λ l. h.records ++ l) (turned (λ (x : ConsumerEnd). Some x.kept) (λ s b. refl) es);
      reads = run_readers js ks (producers ds) (consumers es) h polls_count i.readers
          (count_readers from end budget (length h.records) es nums)
          ∙ ap (λ l. h.cells.roll.readers ++ l) (turned (λ (x : ConsumerEnd). Some x.reads) (λ s b. refl) es);
      claimed = run_claimed js ks (producers ds) (consumers es) h polls_count i.seats
          (count_seats from end budget (length h.records) es nums)
          ∙ ap (λ l. h.claims.roll ++ l) (turned (λ (x : ConsumerEnd). Some x.claimed) (λ s b. refl) es);
      count = length-map es (λ (d : PollDone Z). consumer_end d.consumer d.stopped)
          ∙ sym (length-map es (λ (d : PollDone Z). d.consumer)) ∙ sym polls_count;
    }
      where
        turned : {Y : Type 0} (r : ConsumerEnd → Y)
            → ((s : ConsumerView) (b : Bool) → r (consumer_end s true) ≡ r (consumer_end s b))
            → (es : List (PollDone Z))
            → map (λ (s : ConsumerView). r (consumer_end s true)) (consumers es) ≡ map r (consumer_ends es)
        turned r same [] = refl
        turned r same (d ∷ ds) = λ i. same d.consumer d.stopped i ∷ turned r same ds i

    pub run_beyond : sum_by (λ (d : PutDone Z). d.full) ds ≡ items_beyond (lists_in vs) (lanes_of ds)
    run_beyond = beyond_of (length h.puts) vs ds ats

    pub run_cut : AreCutByCells m.cells.size.cells (length h.puts) (lists_in vs) (lanes_of ds)
    run_cut = cut_of (length h.puts) vs ds ats

    pub run_stops : All (λ (d : PutDone Z). d.aborted ≡ false) ds
        → AreStoppedPuts may_stop m.cells.size.cells (length h.puts) (lists_in vs) (lanes_of ds)
    run_stops on = stops_of (length h.puts) vs ds ats on

    pub run_passes : All (λ (d : PutDone Z). d.aborted ≡ false) ds
        → WerePassed may_pass (length h.puts) (lists_in vs) (lanes_of ds)
    run_passes on = passes_of (length h.puts) vs ds ats on

    pub run_polled : IsHubOf m h → All (λ (d : PollDone Z). d.aborted ≡ false) es
        → WerePolled may_stop may_pass (with_producers js h) from end budget (length h.records)
        (sources_of stream ks) (consumer_ends es)
    run_polled belongs on = polled_of stream _ from end budget (length h.records) ks es
        (of_by_producers m js h belongs) (count_by_producers js h) polling polled on

    pub run_poll_stops : All (λ (d : PollDone Z). d.aborted ≡ false) es
        → AreStoppedPolls may_stop budget (length h.records) (consumer_ends es)
    run_poll_stops on = poll_stops_of from end budget (length h.records) es nums on

    pub run_only : All (λ (d : PollDone Z). d.aborted ≡ false) es
        → All (λ (x : ConsumerEnd). IsOnLanes from end x.reads) (consumer_ends es)
    run_only on = only_of from end budget (length h.records) es nums on

    pub run_ends : All (λ (x : ConsumerEnd). x.stopped ≡ false → ends_met x.reads ≡ end - from) (consumer_ends es)
    run_ends = ends_of from end budget (length h.records) es nums

    pub run_met : HaveMetEnds from end (length h.records) (consumer_ends es)
    run_met = mets_of from end budget (length h.records) es nums

    pub run_unread : All (λ (d : PollDone Z). d.aborted ≡ false) es
        → All (λ (x : ConsumerEnd). x.stopped ≡ true → ends_met x.reads < end - from) (consumer_ends es)
    run_unread on = unread_of from end budget (length h.records) es nums on
