-- What a poll leaves as it was, when a consumer has read a lane to its end, and how many notes it has there then.
use Rattle.std.proofs.Common.{◌≡◌, ◌≢◌, ℕ, List, [], ◌∷◌, ◌++◌, length, refl, sym, ap, ◌∙◌, subst, inr}
use Rattle.std.specs.Prelude.{Option, Some, None, slice_get}
use Rattle.std.specs.Option.{option_map_or}
use Rattle.mb_world.proofs.Diaries.{values_length}
use Rattle.mb_cells.proofs.ReaderChains.{HasMet-more}
use Rattle.mb_cells.specs.Vocabulary.{HasLoaded}
use Rattle.mb_cells.specs.declared.access.Process.{Process}
use Rattle.mb_shared_cells.specs.Vocabulary.{IsRollOf}
use Rattle.mb_shared_cells.specs.declared.views.Roll.{Roll}
use Rattle.mb_world.specs.Reporting.{values_put}
use Rattle.mb_mailbox.specs.Imports.{END, Has, HasMet, History, IsPoolLawful, Note, PoolAccess, PoolSize, Producer, Reader, Stream}
use Rattle.mb_mailbox.specs.Imports.{cells_met, linked_cells, load, part, place_past, pool_accesses}
use Rattle.mb_mailbox.specs.Consumers.{ConsumerView}
use Rattle.mb_mailbox.specs.Jobs.{HasReadToEnd, IsSameConsumer}
use Rattle.mb_mailbox.specs.Moves.{HasLoads}
use Rattle.mb_mailbox.specs.Steps.{HasLoadedEnd, HasNoteOnEach, IsPollOf, note_with, notes_on, outcome, with_note}
use Rattle.mb_mailbox.specs.declared.consumer.Poll.{Poll}
use Rattle.mb_mailbox.proofs.Lists.{set_else}

-- ---- what a part has, it still has after later accesses
-- each access of a part is in the part with later accesses added
has_more : (later : History) (h : History) (a : PoolAccess) → Has h a → Has (later ++ h) a
has_more [] h a has = has
has_more (b ∷ later) h a has = inr (has_more later h a has)

-- the loads by which cells were met are in the part with later accesses added
met_more : (r p : ℕ) (later : History) (ks : List ℕ) (h : History) → HasMet r p ks h → HasMet r p ks (later ++ h)
met_more r p later ks h met = HasMet-more r p h (later ++ h) ks (has_more later h) met

-- ---- what a poll of a lane does not change
-- a note on another lane leaves the notes on this one as they are
notes_kept : (p q : ℕ) (o : Option Note) (notes : List (List Note)) → q ≢ p
    → notes_on q (with_note p o notes) ≡ notes_on q notes
notes_kept p q None notes ne = refl
notes_kept p q (Some n) notes ne =
    ap (λ (o : Option (List Note)). option_map_or (λ (l : List Note). l) o [])
    (set_else notes p q (notes_on p notes ++ n ∷ []) ne)

-- a poll leaves the consumer's tables and numbers as they are
pub same_by : (p budget : ℕ) (answer : Poll) (s t : Stream) (old new : ConsumerView)
    → IsPollOf p budget answer s t old new → IsSameConsumer old new
same_by p budget answer s t old new i = record {
  cells = ap (λ r. r.table) i.done.reader;
  reader = ap (λ r. r.reader) i.done.reader;
  claims = ap (λ r. r.table) i.done.seat;
  consumer = ap (λ r. r.consumer) i.done.seat;
}

-- if a consumer had read a lane to its end, it still has after a poll of another lane
pub kept_by : (p q budget : ℕ) (answer : Poll) (s t : Stream) (old new : ConsumerView)
    → IsPollOf p budget answer s t old new → q ≢ p
    → HasReadToEnd q old → HasReadToEnd q new
kept_by p q budget answer s t old new i ne o =
    let later = pool_accesses i.accesses in
    record {
      cells = o.cells;
      met = subst (λ r. HasMet r.reader q o.cells r.part) (sym i.done.reader)
          (met_more old.reader.reader q later o.cells old.reader.part o.met);
      end = subst (λ r. HasLoaded r.reader (place_past q o.cells) END r.part) (sym i.done.reader)
          (has_more later old.reader.part (load old.reader.reader (place_past q o.cells) END) o.end);
      notes = ap (λ (l : List (List Note)). length (notes_on q l)) i.done.notes
          ∙ ap (λ (l : List Note). length l) (notes_kept p q (note_with (outcome answer)) old.notes ne) ∙ o.notes;
    }

-- ---- a lane that a consumer has read to its end
module _ (met : (q p : ℕ) (h : History) → HasMet q p (cells_met p (part (Reader q) h)) h)
    (own : (h : History) (r p : ℕ) (ks : List ℕ) → HasMet r p ks h → HasMet r p ks (part (Reader r) h))
    (only : (h : History) (who : Process) (a : PoolAccess) → Has (part who h) a → Has h a × (a.process ≡ who)) where
  -- if a consumer has loaded the end mark past all cells that it met, with a note on each, it has read the lane to
  -- its end
  pub read_by : (s : ConsumerView) (p : ℕ) → HasLoads s → HasLoadedEnd p s → HasNoteOnEach p s → HasReadToEnd p s
  read_by s p loads end noted =
      let r = s.reader.reader in
      let h = loads.0 in
      let a = end.0 in
      let who : a.process ≡ Reader r = (only h (Reader r) a (subst (λ d. Has d a) (sym loads.2) end.1)).1 in
      let is : a ≡ load r (place_past p (cells_met p s.reader.part)) END = λ i.
      record { process = who i; word = end.2 i; act = end.3 i } in
      record {
        cells = cells_met p s.reader.part;
        met = subst (λ d. HasMet r p (cells_met p d) d) loads.2
            (own h r p (cells_met p (part (Reader r) h)) (met r p h));
        end = subst (λ b. Has s.reader.part b) is end.1;
        notes = noted;
      }

-- ---- a lane whose producer was returned, and a consumer that was returned
module _ (whole : (h : History) (r p : ℕ) (ks : List ℕ) → HasMet r p ks (part (Reader r) h) → HasMet r p ks h)
    (only : (h : History) (who : Process) (a : PoolAccess) → Has (part who h) a → Has h a × (a.process ≡ who))
    (last : (size : PoolSize) (h : History) (r p : ℕ) (ks : List ℕ) → IsPoolLawful size h
    → HasMet r p ks h → HasLoaded r (place_past p ks) END h → ks ≡ linked_cells p h)
    (linked : (h : History) (p : ℕ) → linked_cells p h ≡ linked_cells p (part (Producer p) h)) where
  -- a consumer that has read the lane to its end has as many notes there as the lane has items
  pub notes_by : (size : PoolSize) (roll : Roll) (h : History) (p : ℕ) (done : History)
      (s : ConsumerView) → IsRollOf size roll h
      → slice_get roll.lanes p ≡ Some (Some done) → slice_get roll.readers s.reader.reader ≡ Some (Some s.reader.part)
      → HasReadToEnd p s → length (notes_on p s.notes) ≡ length (values_put p done)
  notes_by size roll h p done s i theirs mine o =
      let r = s.reader.reader in
      let ks = o.cells in
      let is : part (Reader r) h ≡ s.reader.part = i.parts (Reader r) s.reader.part mine in
      let lane : part (Producer p) h ≡ done = i.parts (Producer p) done theirs in
      let met : HasMet r p ks h = whole h r p ks (subst (λ d. HasMet r p ks d) (sym is) o.met) in
      let end : HasLoaded r (place_past p ks) END h =
      (only h (Reader r) (load r (place_past p ks) END)
      (subst (λ d. Has d (load r (place_past p ks) END)) (sym is) o.end)).0 in
      let all : ks ≡ linked_cells p done = last size h r p ks i.lawful met end ∙ linked h p
      ∙ ap (linked_cells p) lane in
      o.notes ∙ ap length all ∙ sym (values_length p done)
