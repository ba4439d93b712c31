-- What a run of workers comes to. It follows from what the hub issued, from the ends of the workers, and from what was
-- returned to the hub.
use Rattle.std.proofs.Common.{◌≡◌, ℕ, suc, Bool, true, ◌+◌, ◌-◌, ◌^◌, ◌≤◌, List, [], ◌∷◌, length, map, min, refl, sym, ap, ◌∙◌, subst, false, arith, ◌<◌, Vec, Some, slice_get, All, sum_by}
use Rattle.std.specs.{Int.{from_bool}, List.{AllZip}, Prelude.{Err, IfOk, Ok, Result}}
use Rattle.std.proofs.lemmas.List.{append-nil, length-append, length-map, map-append, Sums.{sum_by-cons}}
use Rattle.std.proofs.lemmas.Simd.{map-map}
use Rattle.mb_shared_cells.specs.Vocabulary.{IsRollOf}
use Rattle.mb_shared_cells.specs.declared.views.Roll.{Roll}
use Rattle.mb_world.specs.Reporting.{values_put}
use Rattle.mb_mailbox.specs.Imports.{History, PoolSize, Stream}
use Rattle.mb_mailbox.specs.ConsumerWords.{ConsumerView, notes_on}
use Rattle.mb_mailbox.specs.Vocabulary.{AreIssuedEarly, Done, IsCalled, IsEnd, Job, Lanes, WerePolled, AreGiven, ArePutJobs, HubView, IsHub, IsHubOf, HasReadToEnd, IsOnLanes, ends_met}
use Rattle.mb_mailbox.specs.Vocabulary.{full_of, is_aborted, is_stopped, MailboxView, with_taken, AreCutByCells, AreStoppedPuts, ConsumerEnd, HaveMetEnds}
use Rattle.mb_mailbox.specs.Vocabulary.{IsRunOf, IsWorked, ProducerEnd, WereTakenIn, WereTakenInEarly, lists_in, Who, WorkFault, Worked, PollDone, PollJob, PutDone, PutJob}
use Rattle.mb_mailbox.specs.declared.crew.jobs.Job.TheVariants as job
use Rattle.mb_mailbox.specs.HubRuns.{with_taken_consumers, with_taken_producers}
use Rattle.mb_mailbox.proofs.{Given.{producers_alike}, Noted.{all_noted}, RunEnds.{consumer_end, producer_end}, Zips.{zip_length}}
use Rattle.mb_mailbox.proofs.Parted.{Parted, all_parted, full_parted, parted, stopped_parted, sum_same, taken_parted}
use Rattle.mb_mailbox.proofs.Runs.{lanes_of, consumer_ends, consumers, nums, producers, run_beyond, run_cut, run_ends}
use Rattle.mb_mailbox.proofs.Runs.{run_met, run_of, run_only, run_passes, run_poll_stops, run_polled, run_stops, run_unread}

-- there are as many producers' jobs as lists
pub put_count : {Z : Type 0} (m : MailboxView) (p : ℕ) (vs : List (Vec ℕ Z)) (js : List (PutJob Z))
    → ArePutJobs m p vs js → length vs ≡ length js
put_count m p [] [] a = refl
put_count m p [] (j ∷ js) a = absurd a
put_count m p (v ∷ vs) [] a = absurd a
put_count m p (v ∷ vs) (j ∷ js) a = ap suc (put_count m (suc p) vs js a.2)

-- there are as many jobs as lists and consumers issued
job_count : {R Z : Type 0} (m : MailboxView) (items : List (Vec ℕ Z)) (jobs : List (Job R Z)) (h mid : HubView)
    (given : AreGiven m items jobs h mid) → length jobs ≡ length items + length given.polls
job_count {R} {Z} m items jobs h mid given =
    let each = ap length given.whole ∙ length-append (map job.Put given.puts) (map job.Poll given.polls) in
    let first = length-map {B = Job R Z} given.puts job.Put in
    let last = length-map {B = Job R Z} given.polls job.Poll in
    let lists = put_count m (length h.puts) items given.puts given.are_puts in
    omega (arith, each, first, last, lists)

-- ---- if nothing was issued
-- if the hub is as before, the run issued nothing, so all that it issued were returned
pub nothing_taken : (lists : List (List ℕ)) (sources : ℕ) (h : HubView) → WereTakenInEarly lists sources h h
nothing_taken lists sources h = record {
  front = [];
  rest = lists;
  whole = refl;
  given = 0;
  few = omega arith;
  fewer = λ some. some;
  taken = record {
    lanes = [];
    consumers = [];
    run = record {
      puts = sym (append-nil h.puts);
      parts = sym (append-nil h.cells.roll.lanes);
      fronts = tt;
      records = sym (append-nil h.records);
      reads = sym (append-nil h.cells.roll.readers);
      claimed = sym (append-nil h.claims.roll);
      count = refl;
    };
  };
}

-- ---- how many elements of a list pass a test
at_most_one : (b : Bool) → from_bool b ≤ 1
at_most_one true = omega arith
at_most_one false = omega arith

-- no more elements of a list pass a test than the list has
at_most_each : {X : Type 0} (f : X → Bool) (xs : List X) → sum_by (λ x. from_bool (f x)) xs ≤ length xs
at_most_each f [] = omega arith
at_most_each f (x ∷ xs) =
    let all = sum_by-cons (λ x. from_bool (f x)) x xs in
    let one = at_most_one (f x) in
    let rest = at_most_each f xs in
    omega (arith, all, one, rest)

-- ---- how many sources a run has
-- a run with n sources is a run with k sources, if n is k
sourced : {may_stop : Who → ℕ → Type 0} {budget n k : ℕ} {lists : List (List ℕ)} {w : Worked} {old now : HubView}
    → n ≡ k → IsWorked may_stop budget lists n w old now → IsWorked may_stop budget lists k w old now
sourced same is = record {
  lanes = is.lanes;
  consumers = is.consumers;
  run = record {
    puts = is.run.puts;
    parts = is.run.parts;
    fronts = is.run.fronts;
    records = is.run.records;
    reads = is.run.reads;
    claimed = is.run.claimed;
    count = is.run.count ∙ same;
  };
  stopped = is.stopped;
  stopped_puts = is.stopped_puts;
  stopped_polls = is.stopped_polls;
  ends = is.ends;
  unread = is.unread;
  met = is.met;
  only = is.only;
  full = is.full;
  cut = is.cut;
  noted = is.noted;
}

-- if `IsCalled` holds of a run, then so does `IsWorked`
pub worked_of : (may_stop may_pass : Who → ℕ → Type 0) (budget k : ℕ) (lists : List (List ℕ)) (sources : List Stream)
    (old now : HubView) (r : Result Worked WorkFault) → length sources ≡ k
    → IfOk r (λ w. IsCalled may_stop may_pass budget lists sources w old now)
    → IfOk r (λ w. IsWorked may_stop budget lists k w old now)
worked_of may_stop may_pass budget k lists sources old now (Ok w) same is = sourced same is.worked
worked_of may_stop may_pass budget k lists sources old now (Err fault) same is = is

-- ---- the end of a run
module _ {R Z : Type 0} (m : MailboxView) (may_stop may_pass : Who → ℕ → Type 0)
    (stream : R → Stream) (items : List (Vec ℕ Z)) (lanes : Lanes) (jobs : List (Job R Z))
    (ends : List (Done Z)) (h mid now : HubView)
    (hub : IsHub h) (given : AreGiven m items jobs h mid)
    (came : AllZip (IsEnd may_stop may_pass stream lanes) jobs ends)
    (is : now ≡ with_taken ends mid) where
  -- the ends of the producers' jobs come first, and then those of the consumers' jobs
  pub split : Parted may_stop may_pass stream lanes given.puts given.polls ends
  split = parted may_stop may_pass stream lanes given.puts given.polls ends
      (subst (λ (l : List (Job R Z)). AllZip (IsEnd may_stop may_pass stream lanes) l ends) given.whole came)

  abbrev puts : List ProducerEnd
  puts = lanes_of m may_stop may_pass split.puts

  abbrev polls : List ConsumerEnd
  polls = consumer_ends m may_stop may_pass split.polls

  -- `IsRunOf` holds for these lists
  run : IsRunOf (lists_in items) (length given.polls) puts polls h now
  run = subst (λ (n : HubView). IsRunOf (lists_in items) (length given.polls) puts polls h n)
      (sym (is ∙ ap (λ (l : List (Done Z)). with_taken l mid) split.whole
      ∙ taken_parted split.puts split.polls mid
      ∙ ap (λ (u : HubView). with_taken_consumers (consumers m may_stop may_pass split.polls)
      (with_taken_producers (producers m may_stop may_pass split.puts) u)) given.hub))
      (run_of m may_stop may_pass stream h lanes.from lanes.end lanes.budget items given.puts split.puts
      given.polls split.polls hub given.are_puts given.are_polls split.put split.polled)

  -- all producers and consumers that were issued were returned
  pub taken : WereTakenIn (lists_in items) (length given.polls) h now
  taken = record { lanes = puts; consumers = polls; run = run }

  -- there are as many producers' ends as lists
  few : length puts ≡ length items
  few = sym (zip_length _ (lists_in items) puts run.fronts) ∙ length-map items (λ (v : Vec ℕ Z). v.items)

  -- if there is an end of a worker, there is a list or a consumer's job
  pub some_worker : 0 < length ends → 0 < length items + length given.polls
  some_worker some =
      let all = zip_length _ jobs ends came in
      let count = job_count m items jobs h mid given in
      omega (arith, some, all, count)

  module _ (rngs : List R) (sources : map (λ (j : PollJob R Z). j.rng) given.polls ≡ rngs)
      (w : Worked) (full : w.full ≡ min (2 ^ 64 - 1) (sum_by full_of ends))
      (stopped : w.stopped ≡ min (2 ^ 64 - 1) (sum_by (λ d. from_bool (is_stopped d)) ends))
      (on : All (λ (d : Done Z). is_aborted d ≡ false) ends)
      (small : length items + length rngs < 2 ^ 64) (later : IsHub now) (belongs : IsHubOf m now)
      (pool : History) (roll : IsRollOf now.cells.table.size now.cells.roll pool)
      (first : lanes.from ≡ length h.puts) (last : lanes.end ≡ length h.puts + length items)
      (tell : (size : PoolSize) (roll : Roll) (h : History) (p : ℕ) (done : History)
      (s : ConsumerView) → IsRollOf size roll h
      → slice_get roll.lanes p ≡ Some (Some done) → slice_get roll.readers s.reader.reader ≡ Some (Some s.reader.part)
      → HasReadToEnd p s → length (notes_on p s.notes) ≡ length (values_put p done)) where
    -- the jobs' streams of random words are those of the sources that were passed in
    streams : map (λ (j : PollJob R Z). stream j.rng) given.polls ≡ map stream rngs
    streams = sym (map-map stream (λ (j : PollJob R Z). j.rng) given.polls)
        ∙ ap (λ (l : List R). map stream l) sources

    count : length given.polls ≡ length (map stream rngs)
    count = sym (length-map given.polls (λ (j : PollJob R Z). stream j.rng)) ∙ ap length streams

    -- no end says that the run is aborted
    abbrev all_on : All (λ (d : PutDone Z). d.aborted ≡ false) split.puts
        × All (λ (d : PollDone Z). d.aborted ≡ false) split.polls
    all_on = all_parted (λ d. is_aborted d ≡ false) split.puts split.polls
        (subst (λ (l : List (Done Z)). All (λ d. is_aborted d ≡ false) l) split.whole on)

    -- `stopped` is the number of workers that were stopped. It is below 2^64, since there are no more workers than
    -- lists and sources
    total : w.stopped ≡ sum_by (λ (l : ProducerEnd). from_bool l.stopped) puts
        + sum_by (λ (c : ConsumerEnd). from_bool c.stopped) polls
    total =
        let all = ap (λ (l : List (Done Z)). sum_by (λ d. from_bool (is_stopped d)) l) split.whole
        ∙ stopped_parted split.puts split.polls in
        let putting = sum_same (λ (d : PutDone Z). from_bool d.stopped) (λ (l : ProducerEnd). from_bool l.stopped)
        (λ (d : PutDone Z). producer_end d.producer d.stopped) (λ d. refl) split.puts in
        let polling = sum_same (λ (d : PollDone Z). from_bool d.stopped) (λ (c : ConsumerEnd). from_bool c.stopped)
        (λ (d : PollDone Z). consumer_end d.consumer d.stopped) (λ d. refl) split.polls in
        let most = at_most_each (λ (l : ProducerEnd). l.stopped) puts in
        let others = at_most_each (λ (c : ConsumerEnd). c.stopped) polls in
        let each = run.count ∙ count ∙ length-map rngs stream in
        let lists = few in
        omega (arith, stopped, all, putting, polling, most, others, lists, each, small)

    -- `lanes.end` is the number of lanes issued before the run, plus the number of lists
    far : lanes.end ≡ length h.puts + length (lists_in items)
    far = last ∙ ap (λ (n : ℕ). length h.puts + n) (sym (length-map items (λ (v : Vec ℕ Z). v.items)))

    cells : m.cells.size.cells ≡ now.cells.table.size.cells
    cells = ap (λ t. t.size.cells) (sym belongs.cells)

    -- if the run is not aborted, `IsWorked` holds of it
    worked : IsWorked may_stop lanes.budget (lists_in items) (length (map stream rngs)) w h now
    worked = record {
      lanes = puts;
      consumers = polls;
      run = subst (λ (n : ℕ). IsRunOf (lists_in items) n puts polls h now) count run;
      stopped = total;
      stopped_puts = subst (λ (n : ℕ). AreStoppedPuts may_stop n (length h.puts) (lists_in items) puts) cells
          (run_stops m may_stop may_pass stream h lanes.from lanes.end lanes.budget items given.puts split.puts
          given.polls split.polls hub given.are_puts given.are_polls split.put split.polled all_on.0);
      stopped_polls =
          run_poll_stops m may_stop may_pass stream h lanes.from lanes.end lanes.budget items given.puts split.puts
          given.polls split.polls hub given.are_puts given.are_polls split.put split.polled all_on.1;
      ends = subst (λ (n : ℕ). All (λ (x : ConsumerEnd). x.stopped ≡ false → ends_met x.reads ≡ n) polls)
          (omega (arith, first, far))
          (run_ends m may_stop may_pass stream h lanes.from lanes.end lanes.budget items given.puts split.puts
          given.polls split.polls hub given.are_puts given.are_polls split.put split.polled);
      met = subst (λ (z : ℕ × ℕ). HaveMetEnds z.0 z.1 (length h.records) polls) (λ i. (first i, far i))
          (run_met m may_stop may_pass stream h lanes.from lanes.end lanes.budget items given.puts split.puts
          given.polls split.polls hub given.are_puts given.are_polls split.put split.polled);
      unread = subst (λ (n : ℕ). All (λ (x : ConsumerEnd). x.stopped ≡ true → ends_met x.reads < n) polls)
          (omega (arith, first, far))
          (run_unread m may_stop may_pass stream h lanes.from lanes.end lanes.budget items given.puts split.puts
          given.polls split.polls hub given.are_puts given.are_polls split.put split.polled all_on.1);
      only = subst (λ (z : ℕ × ℕ). All (λ (x : ConsumerEnd). IsOnLanes z.0 z.1 x.reads) polls) (λ i. (first i, far i))
          (run_only m may_stop may_pass stream h lanes.from lanes.end lanes.budget items given.puts split.puts
          given.polls split.polls hub given.are_puts given.are_polls split.put split.polled all_on.1);
      full = full ∙ ap (λ (n : ℕ). min (2 ^ 64 - 1) n)
          (ap (λ (l : List (Done Z)). sum_by full_of l) split.whole ∙ full_parted split.puts split.polls
          ∙ run_beyond m may_stop may_pass stream h lanes.from lanes.end lanes.budget items given.puts split.puts
          given.polls split.polls hub given.are_puts given.are_polls split.put split.polled);
      cut = subst (λ (n : ℕ). AreCutByCells n (length h.puts) (lists_in items) puts) cells
          (run_cut m may_stop may_pass stream h lanes.from lanes.end lanes.budget items given.puts split.puts
          given.polls split.polls hub given.are_puts given.are_polls split.put split.polled);
      noted = all_noted now later pool roll tell m may_stop may_pass h.puts puts run.puts lanes.from lanes.end
          lanes.budget first (last ∙ ap (λ (n : ℕ). length h.puts + n) (sym few)) split.polls
          h.cells.roll.readers (length h.records) (sym hub.readers) run.reads
          (nums m may_stop may_pass stream h lanes.from lanes.end lanes.budget items given.puts split.puts
          given.polls split.polls hub given.are_puts given.are_polls split.put split.polled);
    }

    -- the hub issued as many producers as there are lists
    gave : length given.puts ≡ length (lists_in items)
    gave = sym (put_count m (length h.puts) items given.puts given.are_puts)
        ∙ sym (length-map items (λ (v : Vec ℕ Z). v.items))

    -- if the run is not aborted, `IsCalled` holds of it, too, with the workers of `worked`
    pub called : IsHubOf m h → IsCalled may_stop may_pass lanes.budget (lists_in items) (map stream rngs) w h now
    unfolding worked
    called was = record {
      worked = worked;
      puts = run_passes m may_stop may_pass stream h lanes.from lanes.end lanes.budget items given.puts split.puts
          given.polls split.polls hub given.are_puts given.are_polls split.put split.polled all_on.0;
      polls = subst (λ (z : (ℕ × ℕ) × (List Stream × HubView)). WerePolled may_stop may_pass z.1.1 z.0.0 z.0.1
          lanes.budget (length h.records) z.1.0 polls)
          (λ i. ((first i, far i), (streams i, producers_alike given.puts (lists_in items) h gave i)))
          (run_polled m may_stop may_pass stream h lanes.from lanes.end lanes.budget items given.puts split.puts
          given.polls split.polls hub given.are_puts given.are_polls split.put split.polled was all_on.1);
    }

-- all that were issued were returned, also if the hub could not issue a producer for each list and all consumers. Then
-- there are fewer jobs than lists and sources
pub early : {R Z : Type 0} (m : MailboxView) (may_stop may_pass : Who → ℕ → Type 0) (stream : R → Stream)
    (items : List (Vec ℕ Z)) (lanes : Lanes) (jobs : List (Job R Z)) (ends : List (Done Z)) (h mid now : HubView)
    (hub : IsHub h) (sources : ℕ) (g : AreIssuedEarly m items sources jobs h mid)
    → length jobs < length items + sources
    → AllZip (IsEnd may_stop may_pass stream lanes) jobs ends → now ≡ with_taken ends mid
    → WereTakenInEarly (lists_in items) sources h now
early m may_stop may_pass stream items lanes jobs ends h mid now hub sources g fewer came is = record {
  front = lists_in g.front;
  rest = lists_in g.rest;
  whole = sym (map-append (λ (v : Vec ℕ _). v.items) g.front g.rest) ∙ ap lists_in g.whole;
  given = length g.given.polls;
  few = g.few;
  fewer = λ _.
      let count = job_count m g.front jobs h mid g.given in
      let issued = length-map g.front (λ (v : Vec ℕ _). v.items) in
      let asked = length-map items (λ (v : Vec ℕ _). v.items) in
      omega (arith, fewer, count, issued, asked);
  taken = taken m may_stop may_pass stream g.front lanes jobs ends h mid now hub g.given came is;
}
