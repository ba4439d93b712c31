-- Each consumer of a run that was not stopped has a note on each item of the run's lanes.
use Rattle.std.proofs.Common.{◌≡◌, ℕ, zero, suc, ◌+◌, ◌<◌, ◌≤◌, false, List, [], ◌∷◌, ◌++◌, length, map, refl, sym, ap, ◌∙◌, append_assoc, arith}
use Rattle.std.specs.Prelude.{Option, Some, slice_get}
use Rattle.std.specs.List.{All}
use Rattle.std.proofs.lemmas.List.{length-append}
use Rattle.std.proofs.lemmas.List.Elements.{All-cons}
use Rattle.mb_cells.specs.declared.size.PoolSize.{PoolSize}
use Rattle.mb_shared_cells.specs.Vocabulary.{IsRollOf}
use Rattle.mb_shared_cells.specs.declared.views.Roll.{Roll}
use Rattle.mb_world.specs.Reporting.{values_put}
use Rattle.mb_mailbox.specs.Imports.{History}
use Rattle.mb_mailbox.specs.Consumers.{ConsumerView}
use Rattle.mb_mailbox.specs.Hubs.{HubView, IsHub, PutListView}
use Rattle.mb_mailbox.specs.Jobs.{HasReadToEnd}
use Rattle.mb_mailbox.specs.Mailboxes.{MailboxView}
use Rattle.mb_mailbox.specs.Steps.{notes_on}
use Rattle.mb_mailbox.specs.Worked.{ConsumerEnd, HasNoteAtEach, ProducerEnd, ended_list}
use Rattle.mb_mailbox.specs.declared.gate.Who.{Who}
use Rattle.mb_mailbox.specs.declared.crew.jobs.PollDone.{PollDone}
use Rattle.mb_mailbox.proofs.RunEnds.{consumer_end}
use Rattle.mb_mailbox.proofs.Runs.{AreNumbered, consumer_ends}

-- the element after the first n has place n
get_next : {X : Type 0} (base rest : List X) (x : X) (n : ℕ) → length base ≡ n → slice_get (base ++ x ∷ rest) n ≡ Some x
get_next [] rest x zero e = refl
get_next [] rest x (suc n) e = absurd (cc)
get_next (b ∷ base) rest x zero e = absurd (cc)
get_next (b ∷ base) rest x (suc n) e = get_next base rest x n (omega (arith, e))

longer : {X : Type 0} (base : List X) (x : X) (n : ℕ) → length base ≡ n → length (base ++ x ∷ []) ≡ suc n
longer base x n e = length-append base (x ∷ []) ∙ omega (arith, e)

module _ (now : HubView) (hub : IsHub now) (pool : History) (roll : IsRollOf now.cells.table.size now.cells.roll pool)
    (tell : (size : PoolSize) (roll : Roll) (h : History) (p : ℕ) (done : History)
    (s : ConsumerView) → IsRollOf size roll h
    → slice_get roll.lanes p ≡ Some (Some done) → slice_get roll.readers s.reader.reader ≡ Some (Some s.reader.part)
    → HasReadToEnd p s → length (notes_on p s.notes) ≡ length (values_put p done)) where
  -- a consumer that has read these lanes to their ends has a note on each of their items
  noted_by : (s : ConsumerView) → slice_get now.cells.roll.readers s.reader.reader ≡ Some (Some s.reader.part)
      → (ls : List ProducerEnd) (base : List (Option PutListView)) (p : ℕ) → length base ≡ p
      → now.puts ≡ base ++ map (λ (l : ProducerEnd). Some (ended_list l)) ls
      → ((q : ℕ) → p ≤ q → q < p + length ls → HasReadToEnd q s)
      → HasNoteAtEach p ls (record { places = s.places; notes = s.notes })
  noted_by s mine [] base p e is read = tt
  noted_by s mine (l ∷ ls) base p e is read =
      let rest = map (λ (l : ProducerEnd). Some (ended_list l)) ls in
      let here : slice_get now.puts p ≡ Some (Some (ended_list l)) =
      ap (λ (xs : List (Option PutListView)). slice_get xs p) is ∙ get_next base rest (Some (ended_list l)) p e in
      let put = hub.put p (ended_list l) here in
      let there : now.puts ≡ (base ++ Some (ended_list l) ∷ []) ++ rest = is
      ∙ sym (append_assoc base (Some (ended_list l) ∷ []) rest) in (
        tell now.cells.table.size now.cells.roll pool p put.0 s roll put.1 mine (read p (omega arith) (omega arith))
            ∙ ap length (sym put.2.items),
        noted_by s mine ls (base ++ Some (ended_list l) ∷ []) (suc p) (longer base (Some (ended_list l)) p e) there
            (λ q low high. read q (omega (arith, low)) (omega (arith, high))),
      )

  module _ {Z : Type 0} (m : MailboxView) (may_stop may_pass : Who → ℕ → Type 0)
      (old : List (Option PutListView)) (ls : List ProducerEnd)
      (is : now.puts ≡ old ++ map (λ (l : ProducerEnd). Some (ended_list l)) ls)
      (from end budget : ℕ) (first : from ≡ length old) (last : end ≡ length old + length ls) where
    -- each consumer of the run that was not stopped has a note on each item of the run's lanes
    pub all_noted : (es : List (PollDone Z)) (base : List (Option History)) (c : ℕ) → length base ≡ c
        → now.cells.roll.readers ≡ base ++ map (λ (x : ConsumerEnd). Some x.reads)
        (consumer_ends m may_stop may_pass es) → AreNumbered m may_stop may_pass from end budget c es
        → All (λ (x : ConsumerEnd). x.stopped ≡ false → HasNoteAtEach (length old) ls x.kept)
        (consumer_ends m may_stop may_pass es)
    all_noted [] base c e there a = λ k d low. absurd (omega (arith, low))
    all_noted (d ∷ es) base c e there a =
        let P = λ (x : ConsumerEnd). x.stopped ≡ false → HasNoteAtEach (length old) ls x.kept in
        let s = d.consumer in
        let rest = map (λ (x : ConsumerEnd). Some x.reads) (consumer_ends m may_stop may_pass es) in
        let here : slice_get now.cells.roll.readers s.reader.reader ≡ Some (Some s.reader.part) =
        ap (λ (n : ℕ). slice_get now.cells.roll.readers n) a.0.reader
        ∙ ap (λ (xs : List (Option History)). slice_get xs c) there ∙ get_next base rest (Some s.reader.part) c e in
        let one : P (consumer_end s d.stopped) = λ f. noted_by s here ls old (length old) refl is
        (λ q low high. a.0.read f q (omega (arith, low, first)) (omega (arith, high, last))) in
        All-cons P (consumer_end s d.stopped) (consumer_ends m may_stop may_pass es) one
        (all_noted es (base ++ Some s.reader.part ∷ []) (suc c) (longer base (Some s.reader.part) c e)
        (there ∙ sym (append_assoc base (Some s.reader.part ∷ []) rest)) a.1)
