-- The report of a run, from what its workers left to the hub.
use Rattle.std.proofs.Common.{◌≡◌, ◌+◌, ◌*◌, ◌++◌, ◌<◌, ◌≤◌, ℕ, zero, suc, List, [], ◌∷◌, Option, Some, None, inl, inr, length, map, slice_get, false, refl, sym, ap, ◌∙◌, subst, arith}
use Rattle.std.proofs.Common.{IsSomeAnd, MatchOption, All, Result, Ok, Err}
use Rattle.std.specs.Prelude.{Bool, IfOk, IsOk, true}
use Rattle.std.specs.List.{AllZip, range_with_len}
use Rattle.std.proofs.lemmas.List.FromFn.{length-map-range_with_len}
use Rattle.std.proofs.lemmas.Option.{slice_get-map, slice_get_within}
use Rattle.std.proofs.lemmas.Slice.Zip.{AllZip-left}
use Rattle.mb_world.specs.Vocabulary.{LaneView, ReportView, consumers_of, size_of, IsReportOf, AreSound}
use Rattle.mb_world.specs.Imports.{PoolSize}
use Rattle.mb_mailbox.specs.Vocabulary.{CellsName, consumer_count, HubView, IsHubOf, MailboxView, plan_at, IsFront, AreCutByCells, AreStoppedPolls, AreStoppedPuts, HasNoteAtEach, IsWorked}
use Rattle.mb_mailbox.specs.Vocabulary.{ProducerEnd, ended_list}
use Rattle.mb_mailbox.specs.Gathering.{FullTakesAll, IsGathered, IsReportIn, count_missing, kept_at, lane_in, put_count}
use Rattle.mb_mailbox.specs.declared.gather.GatherFault.{GatherFault, TheVariants.Missing, TheVariants.NoMemory}
use Rattle.mb_mailbox.specs.declared.{gate.Who.Who, crew.Worked.Worked}
use Rattle.mb_mailbox.specs.Hubs.{hub_empty}
use Rattle.mb_mailbox.specs.ReportedRuns.{IsReportedRun}
use Rattle.mb_mailbox.specs.Worked.{AsksTooMany}
use Rattle.mb_program.specs.Vocabulary.{AreFew, HasNotedAll, IsLaneOf, IsRunReport, item_lists, items_of, plan_asked, terms_asked, Options}
use Rattle.mb_program.proofs.RunLanes.{found_none, front_whole, front_within, sum_short}
use Rattle.mb_program.proofs.RunNotes.{notes_told, same_some}

-- if each entry of a list is there, none is missing
pub none_missing : {X Y : Type 0} (f : X → Y) (xs : List X) → count_missing (map (λ x. Some (f x)) xs) ≡ 0
none_missing f [] = refl
none_missing f (x ∷ xs) = none_missing f xs

-- the value at place p of a list made of numbers
pub place_of : {X : Type 0} (f : ℕ → X) (a n p : ℕ) → p < n
    → slice_get (map f (range_with_len a n)) p ≡ Some (f (a + p))
place_of f a zero p low = absurd (omega (arith, low))
place_of f a (suc n) zero low = let e : a + 0 ≡ a = omega arith in rw e refl
place_of f a (suc n) (suc p) low =
    let e : a + 1 + p ≡ a + suc p = omega arith in place_of f (a + 1) n p (omega (arith, low)) ∙ ap (λ k. Some (f k)) e

-- the list of producer p stands at place p of all lists
list_of : (producers count p : ℕ) → p < producers → slice_get (item_lists producers count) p ≡ Some (items_of p count)
list_of producers count p low =
    let same : 0 + p ≡ p = omega arith in place_of (λ p. items_of p count) 0 producers p low
    ∙ ap (λ k. Some (items_of k count)) same

-- if two lists are related place by place, an element of the first has one beside it in the second
pub beside : {X Y : Type 0} (R : X → Y → Type 0) (xs : List X) (ys : List Y) (p : ℕ) (x : X)
    → AllZip R xs ys → slice_get xs p ≡ Some x
    → (y : Y) × (slice_get ys p ≡ Some y) × R x y
beside {X} {Y} R xs ys p x zip at = go (slice_get ys p) refl
    (subst (λ o. MatchOption o (Unit {0}) (λ x. IsSomeAnd (slice_get ys p) (R x))) at
    (AllZip-left R xs ys zip p))
  where
    go : (o : Option Y) → slice_get ys p ≡ o → IsSomeAnd (slice_get ys p) (R x) → (y : Y)
        × (slice_get ys p ≡ Some y) × R x y
    go None none is = absurd (subst (λ o. IsSomeAnd o (R x)) none is)
    go (Some y) some is = (y, some, subst (λ o. IsSomeAnd o (R x)) some is)

-- ---- the lanes of the report
-- lane p of the report tells what the producer of that lane left
record IsTold (count lanes consumers : ℕ) (h : HubView) (left : List ProducerEnd) (r : ReportView)
    (p : ℕ) : Type 0 where
  -- what producer p left, and that this stands at place p of what all producers left
  one : ProducerEnd
  there : slice_get left p ≡ Some one
  -- the items that were put are a beginning of those of producer p
  front : IsFront one.put (items_of p count)
  -- the report has at place p the lane as the hub has it, and the hub kept what producer p left
  told : slice_get r.lanes p ≡ Some (lane_in consumers p h)
  kept : kept_at h.puts p ≡ Some (ended_list one)

-- each lane of the report is as its producer left it
is_told : (producers count lanes consumers : ℕ) (h : HubView) (left : List ProducerEnd) (r : ReportView)
    → producers ≡ lanes → IsReportIn lanes consumers h r → h.puts ≡ map (λ l. Some (ended_list l)) left
    → AllZip (λ list l. IsFront l.put list) (item_lists producers count) left
    → (p : ℕ) → p < producers → IsTold count lanes consumers h left r p
is_told producers count lanes consumers h left r same told puts fronts p low =
    let one = beside (λ list l. IsFront l.put list) (item_lists producers count) left p
    (items_of p count) fronts (list_of producers count p low) in
    record {
      one = one.0;
      there = one.1;
      front = one.2;
      told = told.lane p (omega (arith, low, same));
      kept = ap (λ xs. kept_at xs p) puts ∙ kept_of left p one.0 one.1;
    }
  where
    -- what the hub kept at place p is what stands at place p of what producers left
    kept_of : (left : List ProducerEnd) (p : ℕ) (l : ProducerEnd) → slice_get left p ≡ Some l
        → kept_at (map (λ l. Some (ended_list l)) left) p ≡ Some (ended_list l)
    kept_of left p l at = rw (slice_get-map (λ l. Some (ended_list l)) left p, at) refl

-- each lane of the report has ended and has its whole list, if one with fewer items would mean that all items are put
pub lanes_told : (producers count lanes consumers : ℕ) (h : HubView) (left : List ProducerEnd) (r : ReportView)
    → producers ≡ lanes → IsReportIn lanes consumers h r → h.puts ≡ map (λ l. Some (ended_list l)) left
    → AllZip (λ list l. IsFront l.put list) (item_lists producers count) left
    → ((p : ℕ) (l : ProducerEnd) → p < producers → slice_get left p ≡ Some l
    → length l.put < length (items_of p count) → put_count r ≡ producers * count)
    → (p : ℕ) → p < producers → (l : LaneView) × (slice_get r.lanes p ≡ Some l) × IsLaneOf p count l
lanes_told producers count lanes consumers h left r same told puts fronts full p low =
    let t = at p low in
    let put : (lane_in consumers p h).put ≡ t.one.put = rw (t.kept) refl in
    let long_enough : length t.one.put < length (items_of p count) → ⊥ = λ short.
    let all = full p t.one low t.there short in
    let long = long_of p in
    let less : length (lane_in consumers p h).put < count = rw put (omega (arith, short, long)) in
    let under : put_count r < length r.lanes * count = sum_short (λ l. length l.put) count r.lanes p
    (lane_in consumers p h) few t.told less in
    let many : length r.lanes * count ≡ producers * count = ap (λ n. n * count) (told.lanes_count ∙ sym same) in
    omega (arith, all, under, many) in (
      lane_in consumers p h,
      t.told,
      record { ended = rw (t.kept) refl; whole = put ∙ front_whole t.one.put (items_of p count) t.front long_enough },
    )
  where
    -- what `IsTold` says holds of each lane
    at : (p : ℕ) → p < producers → IsTold count lanes consumers h left r p
    at = is_told producers count lanes consumers h left r same told puts fronts

    -- each producer's list has `count` items
    long_of : (p : ℕ) → length (items_of p count) ≡ count
    long_of p = length-map-range_with_len (λ i. 1000 * p + i) 0 count

    -- no lane of the report has more than `count` items
    few : (q : ℕ) (l : LaneView) → slice_get r.lanes q ≡ Some l → length l.put ≤ count
    few q l there =
        let within = slice_get_within r.lanes q l there in
        let count_is = told.lanes_count in
        let t = at q (omega (arith, within, count_is, same)) in
        let is : lane_in consumers q h ≡ l = same_some (sym t.told ∙ there) in
        let put : (lane_in consumers q h).put ≡ t.one.put = rw (t.kept) refl in
        let front = front_within t.one.put (items_of q count) t.front in
        let long = long_of q in
        let size : length l.put ≡ length t.one.put = ap (λ (v : LaneView). length v.put) (sym is) ∙ ap length put in
        omega (arith, front, long, size)

-- ---- the report is that of a run
-- if the gate stops nobody, the report is that of a run
pub run_report : {budget : ℕ} (may_stop : Who → ℕ → Type 0) → ((w : Who) (n : ℕ) → may_stop w n → ⊥)
    → (o : Options) (m : MailboxView) (old h : HubView) (r : ReportView) (lists : List (List ℕ))
    (n : ℕ) (w : Worked)
    → AreFew o → budget ≡ o.budget → plan_at m ≡ plan_asked o → m.cells.size
    ≡ size_of (plan_asked o) → old ≡ hub_empty m → lists ≡ item_lists o.producers o.items → n
    ≡ o.consumers
    → IsWorked may_stop budget lists n w old h → IsHubOf m h
    → IsReportIn m.cells.size.lanes (consumer_count m.claims.layout) h r
    → (gathered : IsGathered m h r) → FullTakesAll m h r
    → IsReportedRun (λ _ _. ⊥) (λ _ _. Unit {0}) (terms_asked o)
    (item_lists o.producers o.items) w gathered.histories r
    → IsRunReport o r
run_report {budget} may_stop never o m old h r lists n w few asked plan size empty are sources
    worked belongs told gathered full run = record {
      histories = gathered.histories;
      reader = gathered.reader;
      sound = subst (λ p. AreSound p gathered.histories) plan gathered.sound;
      report = subst (λ p. IsReportOf p gathered.histories r) plan gathered.report;
      main_theorem = gathered.main_theorem;
      counts = w;
      run = run;
      lanes = lanes_told o.producers o.items m.cells.size.lanes (consumer_count m.claims.layout) h
          worked.lanes r same told puts
          (subst (λ ls. AllZip (λ list l. IsFront l.put list) ls worked.lanes) are worked.run.fronts) all_put;
      noted = λ c p low_c low_p. subst (λ (b : ℕ). HasNotedAll o.items b c p gathered.histories r) asked
          (notes_told may_stop budget never o.items m h r worked.lanes worked.consumers gathered told
          records readers claims many
          polls noted whole c p (omega (arith, low_c, consumers)) (omega (arith, low_p, same)));
    }
  where
    -- there are as many lanes as producers
    same : o.producers ≡ m.cells.size.lanes
    same = sym (ap (λ p. p.lanes) plan)

    -- the hub has the items put and the part of each producer as the workers left them
    puts : h.puts ≡ map (λ l. Some (ended_list l)) worked.lanes
    puts = worked.run.puts ∙ ap (λ (g : HubView). g.puts ++ map (λ l. Some (ended_list l)) worked.lanes) empty

    parts : h.cells.roll.lanes ≡ map (λ l. Some l.part) worked.lanes
    parts = worked.run.parts ∙ ap (λ (g : HubView). g.cells.roll.lanes ++ map (λ l. Some l.part) worked.lanes) empty

    -- the hub's table has as many cells as the mailbox
    cells : h.cells.table.size.cells ≡ m.cells.size.cells
    cells = ap (λ (t : CellsName). t.size.cells) belongs.cells

    -- what the run says of stopped producers, and of those that found no cell, is said of the lists asked for
    stopped : AreStoppedPuts may_stop m.cells.size.cells 0 (item_lists o.producers o.items) worked.lanes
    stopped = subst (λ (k : ℕ). AreStoppedPuts may_stop k 0 (item_lists o.producers o.items) worked.lanes) cells
        (subst (λ (g : HubView). AreStoppedPuts may_stop h.cells.table.size.cells (length g.puts)
        (item_lists o.producers o.items) worked.lanes) empty
        (subst (λ (ls : List (List ℕ)). AreStoppedPuts may_stop h.cells.table.size.cells
        (length old.puts) ls worked.lanes) are worked.stopped_puts))

    cut : AreCutByCells m.cells.size.cells 0 (item_lists o.producers o.items) worked.lanes
    cut = subst (λ (k : ℕ). AreCutByCells k 0 (item_lists o.producers o.items) worked.lanes) cells
        (subst (λ (g : HubView). AreCutByCells h.cells.table.size.cells (length g.puts)
        (item_lists o.producers o.items) worked.lanes) empty
        (subst (λ (ls : List (List ℕ)). AreCutByCells h.cells.table.size.cells (length old.puts) ls
        worked.lanes) are worked.cut))

    -- the part of lane p is the part that its producer left
    part_at : (left : List ProducerEnd) (p : ℕ) (l : ProducerEnd) → slice_get left p ≡ Some l
        → slice_get (map (λ l. Some l.part) left) p ≡ Some (Some l.part)
    part_at left p l at = rw (slice_get-map (λ l. Some l.part) left p, at) refl

    -- if a producer put less than its list, as many items were put as there are cells
    all_put : (p : ℕ) (l : ProducerEnd) → p < o.producers → slice_get worked.lanes p ≡ Some l
        → length l.put < length (items_of p o.items)
        → put_count r ≡ o.producers * o.items
    all_put p l low there short =
        let long : length (items_of p o.items) ≡ o.items = length-map-range_with_len (λ i. 1000 * p + i) 0 o.items in
        let items = few.items in
        let none = found_none may_stop never m.cells.size.cells (item_lists o.producers o.items)
        worked.lanes stopped cut p (items_of p o.items) l
        (list_of o.producers o.items p low) there (omega (arith, long, items)) short in
        let part : slice_get h.cells.roll.lanes p ≡ Some (Some l.part) =
        ap (λ xs. slice_get xs p) parts ∙ part_at worked.lanes p l there in
        full p l.part part none ∙ ap (λ (s : PoolSize). s.cells) size

    -- there are as many consumers as the layout has
    consumers : o.consumers ≡ consumer_count m.claims.layout
    consumers = sym (ap consumers_of plan)

    -- the hub has the record and both parts of each consumer as the workers left them
    records : h.records ≡ map (λ x. Some x.kept) worked.consumers
    records = worked.run.records ∙ ap (λ (g : HubView). g.records ++ map (λ x. Some x.kept) worked.consumers) empty

    readers : h.cells.roll.readers ≡ map (λ x. Some x.reads) worked.consumers
    readers = worked.run.reads ∙ ap (λ (g : HubView). g.cells.roll.readers
        ++ map (λ x. Some x.reads) worked.consumers) empty

    claims : h.claims.roll ≡ map (λ x. Some x.claimed) worked.consumers
    claims = worked.run.claimed ∙ ap (λ (g : HubView). g.claims.roll
        ++ map (λ x. Some x.claimed) worked.consumers) empty

    -- as many consumers worked as the layout has
    many : length worked.consumers ≡ consumer_count m.claims.layout
    many = worked.run.count ∙ sources ∙ consumers

    -- what the run says of stopped consumers, and of the notes of the others, is said from number 0 on
    polls : AreStoppedPolls may_stop budget 0 worked.consumers
    polls = subst (λ (g : HubView). AreStoppedPolls may_stop budget (length g.records)
        worked.consumers) empty worked.stopped_polls

    noted : All (λ x. x.stopped ≡ false → HasNoteAtEach 0 worked.lanes x.kept) worked.consumers
    noted = subst (λ (g : HubView).
        All (λ x. x.stopped ≡ false → HasNoteAtEach (length g.puts) worked.lanes x.kept)
        worked.consumers) empty worked.noted

    -- each producer has left as many items as are asked for
    whole : (p : ℕ) → p < m.cells.size.lanes → (l : ProducerEnd) × (slice_get worked.lanes p ≡ Some l)
        × (length l.put ≡ o.items)
    whole p low =
        let fronts = subst (λ ls. AllZip (λ list l. IsFront l.put list) ls worked.lanes) are worked.run.fronts in
        let inside : p < o.producers = omega (arith, low, same) in
        let t = is_told o.producers o.items m.cells.size.lanes (consumer_count m.claims.layout) h
        worked.lanes r same told puts fronts p inside in
        let lane = lanes_told o.producers o.items m.cells.size.lanes
        (consumer_count m.claims.layout) h worked.lanes r same told puts fronts all_put p
        inside in
        let put : (lane_in (consumer_count m.claims.layout) p h).put ≡ t.one.put = rw (t.kept) refl in
        let is = same_some (sym lane.1 ∙ t.told) in
        let long : length (items_of p o.items) ≡ o.items = length-map-range_with_len (λ i. 1000 * p + i) 0 o.items in
        (t.one, t.there, ap length (sym (ap (λ (v : LaneView). v.put) is ∙ put) ∙ lane.2.whole) ∙ long)

-- what follows from the value of a result follows from the result, if it is `Ok`
pub ok_value : {X E : Type 0} (P : X → Type 0) (Q : Type 0) (r : Result X E) → IsOk r → IfOk r P
    → ((x : X) → P x → Q) → Q
ok_value P Q (Ok x) ok holds f = f x holds
ok_value P Q (Err e) ok holds f = let both : ◌≡◌ {A = Bool} false true = ok in absurd (cc)

-- after a run all that the hub issued was returned
pub nothing_missing : {may_stop : Who → ℕ → Type 0} {budget : ℕ} (m : MailboxView) (old h : HubView)
    (lists : List (List ℕ)) (n : ℕ) (w : Worked)
    → old ≡ hub_empty m → IsWorked may_stop budget lists n w old h → count_missing h.puts + count_missing h.records ≡ 0
nothing_missing m old h lists n w empty worked =
    let puts = worked.run.puts ∙ ap (λ (g : HubView). g.puts ++ map (λ l. Some (ended_list l)) worked.lanes) empty in
    let records = worked.run.records ∙
    ap (λ (g : HubView). g.records ++ map (λ c. Some c.kept) worked.consumers) empty in
    let no_put = ap count_missing puts ∙ none_missing ended_list worked.lanes in
    let no_record = ap count_missing records ∙ none_missing (λ c. c.kept) worked.consumers in
    omega (arith, no_put, no_record)

-- a gathering that fails for what is missing does not fail for memory
pub not_missing : (f : GatherFault) (a b : ℕ) → f ≡ Missing a b → f ≡ NoMemory → ⊥
not_missing f a b e g = let both : Missing a b ≡ NoMemory = sym e ∙ g in cc

-- ---- what a run's workers cannot come to
-- a new hub has as many numbers as the options ask for, so a run does not ask for too many
pub asks_enough : (o : Options) (m : MailboxView) (old : HubView) (lists sources : ℕ) → plan_at m
    ≡ plan_asked o → old ≡ hub_empty m
    → lists ≡ o.producers → sources ≡ o.consumers → AsksTooMany m lists sources old → ⊥
asks_enough o m old lists sources plan empty all each asks =
    let lanes : m.cells.size.lanes ≡ o.producers = ap (λ p. p.lanes) plan in
    let consumers : consumer_count m.claims.layout ≡ o.consumers = ap consumers_of plan in
    let none = ap (λ (g : HubView). length g.puts) empty in
    let nobody = ap (λ (g : HubView). length g.records) empty in
    elim asks [
      | inl more ↦ omega (arith, more, lanes, all, none)
      | inr more ↦ omega (arith, more, consumers, each, nobody)
    ]
