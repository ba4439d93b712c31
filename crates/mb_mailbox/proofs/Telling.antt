-- What the answers of a consumer's accesses say of their lane.
use Rattle.std.proofs.Common.{◌≡◌, ◌⊎◌, ◌++◌, ℕ, Bool, true, false, List, [], ◌∷◌, length, reverse, refl, sym, ap, ◌∙◌, subst, inl, inr}
use Rattle.std.specs.Prelude.{Option, Some, None, slice_get}
use Rattle.std.specs.Option.{option_map_or}
use Rattle.std.proofs.lemmas.List.{length-reverse}
use Rattle.mb_world.proofs.Diaries.{values_length}
use Rattle.mb_cells.specs.declared.answer.Look.TheVariants as look
use Rattle.mb_shared_cells.specs.Vocabulary.{LookMakes}
use Rattle.mb_mailbox.specs.Imports.{Cursor, END, HasMet, History, Note, Has, Load, ReaderSeatView, Reader, cells_met, claims_in, has_ended, linked_cells, load, look_of}
use Rattle.mb_mailbox.specs.Imports.{IsPoolLawful, PoolSize, part, place_past, word_of}
use Rattle.mb_mailbox.specs.ConsumerWords.{ConsumerView, IsConsumer, parts_of, Laws, HasLoads, HasPlace, AnswerTells, HasLoadedEnd, HasNoteOnEach, HasReadWhole, notes_on}
use Rattle.mb_mailbox.specs.Emptiness.{HasFoundEmpty}
use Rattle.mb_mailbox.specs.declared.consumer.Poll.TheVariants as poll
use Rattle.mb_world.specs.declared.place.Place.TheVariants.{Before}
use Rattle.mb_mailbox.proofs.Moving.{before}
use Rattle.mb_mailbox.proofs.Standings.{same_length}

-- a consumer that stands before a link of a lane has a note on each cell that it met there
pub noted : (s : ConsumerView) (p : ℕ) (at : Cursor) → IsConsumer s → HasPlace p (Before at) s → HasNoteOnEach p s
noted s p at i e =
    let b = before s p at i e in
    let on : notes_on p s.notes ≡ b.0 =
    ap (λ (z : Option (List Note)). option_map_or (λ (l : List Note). l) z []) b.1 in
    ap length on ∙ sym (length-reverse b.0)
    ∙ same_length (claims_in i.size.layout i.size.cells) s.seat.consumer (cells_met p s.reader.part)
    (reverse b.0) (parts_of s.reader s.seat) b.2.ended

-- the consumer's own part has the loads by which it met its cells
met_by_part : Laws → (s : ConsumerView) (p : ℕ) → HasLoads s
    → HasMet s.reader.reader p (cells_met p s.reader.part) s.reader.part
met_by_part laws s p h =
    subst (λ (d : History). HasMet s.reader.reader p (cells_met p d) d) h.2
    (laws.own_met h.0 s.reader.reader p (cells_met p (part (Reader s.reader.reader) h.0))
    (laws.met s.reader.reader p h.0))

module _ (laws : Laws) (s : ConsumerView) (p : ℕ) (at : Cursor) (now : ReaderSeatView)
    (i : IsConsumer s) (h : HasLoads s) (e : HasPlace p (Before at) s)
    (v : ℕ) (none : (v ≡ 0) ⊎ (v ≡ END))
    (is : now ≡ record s.reader {
      part = load s.reader.reader (word_of at) v
          ∷ s.reader.part;
    }) where
  -- the consumer stands before the link past the cells met
  pub word : word_of at ≡ place_past p (cells_met p s.reader.part)
  word = (before s p at i e).2.word

  -- a load that finds no cell leaves the cells met as they are
  met_still : cells_met p now.part ≡ cells_met p s.reader.part
  met_still =
      ap (λ (r : ReaderSeatView). cells_met p r.part) is
      ∙ ap (λ w. cells_met p (load s.reader.reader w v ∷ s.reader.part)) word
      ∙ laws.none s.reader.reader p v s.reader.part none

  -- after the load the consumer has a note on each cell that it met
  pub noted_still : HasNoteOnEach p (record s { reader = now })
  noted_still = noted s p at i e ∙ ap length (sym met_still)

  -- if the cells met are all cells of the lane, the consumer has read the whole lane
  pub read_whole : (theirs : History) (over : Bool)
      → (cells_met p s.reader.part ≡ linked_cells p theirs) × (has_ended p theirs ≡ over)
      → HasReadWhole p theirs over (record s { reader = now })
  read_whole theirs over so = record {
    cells = met_still ∙ so.0;
    notes = noted s p at i e ∙ ap length so.0 ∙ sym (values_length p theirs);
    ended = so.1;
  }

  -- if the load found the end mark, the consumer has loaded the end mark of the lane
  pub loaded_end : v ≡ END → HasLoadedEnd p (record s { reader = now })
  loaded_end end = (
    load s.reader.reader (word_of at) v,
    subst (λ (r : ReaderSeatView). Has r.part (load s.reader.reader (word_of at) v)) (sym is) (inl refl),
    word ∙ ap (place_past p) (sym met_still),
    ap Load end,
  )

-- ---- the moment of a load that found nothing
-- a law of `mb_shared_cells`: past the cells that a reader met, such a load comes when the lane has no other cell
abbrev pub EmptyLaw : Type 0
EmptyLaw = (size : PoolSize) (later before : History) (r p : ℕ) (ks : List ℕ)
    → IsPoolLawful size (later ++ load r (place_past p ks) 0 ∷ before) → HasMet r p ks (part (Reader r) before)
    → (linked_cells p before ≡ ks) × (has_ended p before ≡ false)

-- a load that found nothing came at a moment at which no other cell was linked
found_empty : Laws → EmptyLaw → (s : ConsumerView) (p : ℕ) (at : Cursor) (now : ReaderSeatView) → IsConsumer s
    → HasPlace p (Before at) s → (m : LookMakes s.reader at look.Nothing now) → m.0 ≡ 0
    → HasFoundEmpty p s (record s { reader = now })
found_empty laws empty s p at now i e m zero =
    let r = s.reader.reader in
    let reads = s.reader.part in
    let ks = cells_met p reads in
    let new : ConsumerView = record s { reader = record s.reader { part = load r (place_past p ks) 0 ∷ reads } } in
    let is : word_of at ≡ place_past p ks = (before s p at i e).2.word in
    let same : cells_met p new.reader.part ≡ ks = laws.none r p 0 reads (inl refl) in
    let found : HasFoundEmpty p s new = record {
      made = [];
      newest = ap (λ js. load r (place_past p js) 0 ∷ reads) (sym same);
      moment = λ later was lawful own. empty s.reader.table.size later was r p (cells_met p new.reader.part) lawful
          (subst (λ js. HasMet r p js (part (Reader r) was)) (sym same)
          (subst (λ d. HasMet r p (cells_met p d) (part (Reader r) was)) own
          (laws.own_met was r p (cells_met p (part (Reader r) was)) (laws.met r p was))));
    } in
    subst (λ (q : ReaderSeatView). HasFoundEmpty p s (record s { reader = q }))
    (sym (m.2.1 ∙ (λ i. record s.reader { part = load r (is i) (zero i) ∷ reads }))) found

-- ---- what each answer says
-- `AnswerTells` holds after a load of a link that found nothing
pub tells_nothing : Laws → EmptyLaw → ((v : ℕ) → look_of v ≡ look.Nothing → v ≡ 0)
    → (s : ConsumerView) (p : ℕ) (at : Cursor) (now : ReaderSeatView) → IsConsumer s → HasLoads s
    → HasPlace p (Before at) s
    → LookMakes s.reader at look.Nothing now
    → ((theirs : History) → slice_get s.reader.known p ≡ Some (Some theirs)
    → HasMet s.reader.reader p (cells_met p s.reader.part) s.reader.part
    → word_of at ≡ place_past p (cells_met p s.reader.part)
    → (cells_met p s.reader.part ≡ linked_cells p theirs) × (has_ended p theirs ≡ false))
    → AnswerTells p (Some poll.Nothing) s (record s { reader = now })
tells_nothing laws empty zero_by s p at now i h e m whole =
    let zero = zero_by m.0 (sym m.1) in
    let none = inl zero in record {
      noted = λ _. noted_still laws s p at now i h e m.0 none m.2.1;
      ended = λ f. absurd (cc);
      empty = λ f. found_empty laws empty s p at now i e m zero;
      known_nothing = λ theirs k f. read_whole laws s p at now i h e m.0 none m.2.1 theirs false
          (whole theirs k (met_by_part laws s p h) (word laws s p at now i h e m.0 none m.2.1));
      known_ended = λ theirs k f. absurd (cc);
    }

-- `AnswerTells` holds after a load of a link that found the end mark
pub tells_end : Laws → ((v : ℕ) → look_of v ≡ look.Ended → v ≡ END)
    → (s : ConsumerView) (p : ℕ) (at : Cursor) (now : ReaderSeatView) → IsConsumer s → HasLoads s
    → HasPlace p (Before at) s
    → LookMakes s.reader at look.Ended now
    → ((theirs : History) → slice_get s.reader.known p ≡ Some (Some theirs)
    → HasMet s.reader.reader p (cells_met p s.reader.part) s.reader.part
    → word_of at ≡ place_past p (cells_met p s.reader.part)
    → (cells_met p s.reader.part ≡ linked_cells p theirs) × (has_ended p theirs ≡ true))
    → AnswerTells p (Some poll.Ended) s (record s { reader = now })
tells_end laws end_by s p at now i h e m whole =
    let end = end_by m.0 (sym m.1) in
    let none = inr end in record {
      noted = λ _. noted_still laws s p at now i h e m.0 none m.2.1;
      ended = λ f. loaded_end laws s p at now i h e m.0 none m.2.1 end;
      empty = λ f. absurd (cc);
      known_nothing = λ theirs k f. absurd (cc);
      known_ended = λ theirs k f. read_whole laws s p at now i h e m.0 none m.2.1 theirs true
          (whole theirs k (met_by_part laws s p h) (word laws s p at now i h e m.0 none m.2.1));
    }

-- `AnswerTells` holds after a step that comes to no answer, of which it says nothing
pub tells_none : (p : ℕ) (old new : ConsumerView) → AnswerTells p None old new
tells_none p old new = record {
  noted = λ some. absurd (some refl);
  ended = λ f. absurd (cc);
  empty = λ f. absurd (cc);
  known_nothing = λ theirs k f. absurd (cc);
  known_ended = λ theirs k f. absurd (cc);
}

-- `AnswerTells` holds after the load of an item, if the consumer then has a note on each cell that it met
pub tells_item : (p v : ℕ) (old new : ConsumerView) → HasNoteOnEach p new → AnswerTells p (Some (poll.Took v)) old new
tells_item p v old new has = record {
  noted = λ _. has;
  ended = λ f. absurd (cc);
  empty = λ f. absurd (cc);
  known_nothing = λ theirs k f. absurd (cc);
  known_ended = λ theirs k f. absurd (cc);
}
