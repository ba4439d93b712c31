-- A poll makes few accesses: the load of a link, the accesses of one claim, and the load of an item.
use Rattle.std.proofs.Common.{◌≡◌, ◌≢◌, ◌⊎◌, ◌+◌, ◌<◌, ◌≤◌, ℕ, suc, Bool, true, false, List, [], ◌∷◌, ◌++◌, length, reverse, cond, refl, sym, ap, ◌∙◌, subst, inl, inr, arith}
use Rattle.std.specs.Prelude.{Option, Some, None, slice_get}
use Rattle.std.specs.Option.{option_map_or}
use Rattle.std.proofs.lemmas.List.{length-append, length-reverse}
use Rattle.mb_quorum.specs.Vocabulary.{IsQuorumTable}
use Rattle.mb_cells.specs.declared.answer.Look.TheVariants as look
use Rattle.mb_claim.specs.declared.access.Stage.TheVariants as stage
use Rattle.mb_world.specs.{ConsumerPath.claim_access, Fitting.cell_given, Imports.{is_same_word, push_if}}
use Rattle.mb_world.specs.declared.place.Place.{Place, TheVariants.{At, Before}}
use Rattle.mb_mailbox.specs.Imports.{Claims, END, History, IsClaimPrefix, IsDoneWith, Look, MayLookPast, Note, ObjectTurn, Parts, ReaderSeatView, Stage, Stream, ToCells, ToClaims}
use Rattle.mb_mailbox.specs.Imports.{WorldAccess, WorldHistory, cells_met, claim_accesses, claim_step, claims_at, claims_in, link_load, load, look_of, place_past}
use Rattle.mb_mailbox.specs.ConsumerWords.{ConsumerStep, ConsumerView, HasNoteOnEach, IsConsumer, IsPollOf, LeadTo, Poll, link_answer, notes_on, parts_of, stage_answer}
use Rattle.mb_mailbox.specs.ConsumerStep.{IsLastMet, competes, looks, takes}
use Rattle.mb_mailbox.specs.Steps.{note_with, outcome, parts_after, with_note}
use Rattle.mb_mailbox.proofs.Lists.{get_some, set_here}
use Rattle.mb_mailbox.proofs.Moving.{holds}
use Rattle.mb_mailbox.proofs.Standings.{same_length}
use Rattle.mb_mailbox.proofs.Straight.{OwnCell}
use Rattle.mb_mailbox.proofs.Telling.{noted}

-- laws of mb_claim, mb_world and mb_cells, each as a type of its own, to be a premise of the lemmas below
abbrev pub OneStage : Type 0
OneStage = (cs : Claims) (c : ℕ) (xs : List ObjectTurn) (s r : Stage)
    → IsQuorumTable cs.table → IsClaimPrefix cs c xs s → IsClaimPrefix cs c xs r → s ≡ r

abbrev pub MeetsCell : Type 0
MeetsCell = (q p k : ℕ) (reads : History) → k + 1 ≢ END
    → cells_met p (load q (place_past p (cells_met p reads)) (k + 1) ∷ reads) ≡ k ∷ cells_met p reads

abbrev pub TellsCell : Type 0
TellsCell = (v k : ℕ) → look_of v ≡ look.Cell k → (v ≡ k + 1) × (v ≢ END)

-- ---- cells met
-- after one more load a consumer has met no fewer cells
pub pushed : (b : Bool) (given : Option ℕ) (ks : List ℕ) → length ks ≤ length (cond b (push_if given ks) ks)
pushed true None ks = omega arith
pushed true (Some k) ks = omega arith
pushed false given ks = omega arith

-- if the load of a link comes to no answer, it found a cell k, so the link is k + 1
pub found : TellsCell → (v : ℕ) (l : Look) → look_of v ≡ l → None ≡ link_answer l
    → (k : ℕ) × (v ≡ k + 1) × (k + 1 ≢ END)
found tells v look.Nothing is none = absurd (cc)
found tells v look.Ended is none = absurd (cc)
found tells v (look.Cell k) is none =
    let t = tells v k is in (k, t.0, λ e. t.1 (t.0 ∙ e))

-- ---- accesses that come to no answer, and then one more
module _ (own : OwnCell) (one : OneStage) (meets : MeetsCell) (tells : TellsCell) (p : ℕ) (old : ConsumerView)
    (sound : IsQuorumTable (claims_at old.seat.table).table) where
  -- the claims of the consumer's table, its number, its parts after accesses, and the cells that it met then
  abbrev cs : Claims
  cs = claims_at old.seat.table

  abbrev c : ℕ
  c = old.seat.consumer

  abbrev x : WorldHistory → Parts
  x done = parts_after done old

  abbrev met : WorldHistory → List ℕ
  met done = cells_met p (x done).reads

  -- each of these accesses is a load of a link, or of the head, that found a cell
  abbrev AreLooks : WorldHistory → Type 0
  AreLooks done = length (met done) ≡ length done + length (met [])

  -- these accesses are no more than the cells that they met and all accesses of the claim on cell k together
  abbrev AreFew : ℕ → WorldHistory → Type 0
  AreFew k done = length done + length (met []) ≤ length (met done) + length ((x done).claimed k)

  -- `AreFew` holds of these accesses, and after them the consumer is not done with the last cell that it met
  record IsOnClaim (done : WorldHistory) : Type 0 where
    pub cell : ℕ
    pub cells : List ℕ
    pub last : met done ≡ cell ∷ cells
    pub few : AreFew cell done
    pub held : IsDoneWith cs c cell (x done) → ⊥

  grown : (a : WorldAccess) (done : WorldHistory) → length (met done) ≤ length (met (a ∷ done))
  grown (ToClaims a) done = omega arith
  grown (ToCells a) done =
      pushed (is_same_word a.word (place_past p (met done))) (cell_given a.act) (met done)

  -- if `AreLooks` or `IsOnClaim` holds of some accesses, `AreFew` holds with one access of the claim on cell k more
  counted : (k : ℕ) (t : ObjectTurn) (done : WorldHistory) → IsLastMet p k (x done)
      → AreLooks done ⊎ IsOnClaim done → AreFew k (claim_step c k t ∷ done)
  counted k t done last (inl were) =
      let more = ap length (own (claim_access c k t) (claim_accesses done ++ old.seat.part)) in
      omega (arith, were, more)
  counted k t done last (inr on) =
      let same : on.cell ∷ on.cells ≡ k ∷ last.cells = sym on.last ∙ last.met in
      let cell : on.cell ≡ k = cc in
      let few = subst (λ j. AreFew j done) cell on.few in
      let more = ap length (own (claim_access c k t) (claim_accesses done ++ old.seat.part)) in
      omega (arith, few, more)

  -- if the claim then goes on or is won, the consumer is not done with the cell
  still : (k : ℕ) (t : ObjectTurn) (now : Stage) (done : WorldHistory) → IsLastMet p k (x done)
      → IsClaimPrefix cs c (t ∷ (x done).claimed k) now → None ≡ stage_answer now
      → IsDoneWith cs c k (x (claim_step c k t ∷ done)) → ⊥
  still k t now done last after none over =
      let longer = own (claim_access c k t) (claim_accesses done ++ old.seat.part) in
      let is : over.ended.0 ≡ now = one cs c (t ∷ (x done).claimed k) over.ended.0 now sound
      (subst (λ xs. IsClaimPrefix cs c xs over.ended.0) longer over.ended.1) after in
      by now is none (λ won.
      let taken = over.taken (subst (λ xs. IsClaimPrefix cs c xs stage.Won) (sym longer)
      (subst (λ s. IsClaimPrefix cs c (t ∷ (x done).claimed k) s) won after)) in
      last.left.0 taken.0 taken.1)
    where
      by : (s : Stage) → over.ended.0 ≡ s → None ≡ stage_answer s → (s ≡ stage.Won → ⊥) → ⊥
      by stage.Going is none won = over.ended.2 is
      by stage.Won is none won = won refl
      by (stage.Lost w) is none won = absurd (cc)
      by stage.Undecided is none won = absurd (cc)

  -- if `AreLooks` or `IsOnClaim` holds of some accesses, one of both holds with one access more that comes to no answer
  one_more : (a : WorldAccess) (done : WorldHistory) → ConsumerStep cs c p (x done) a None
      → AreLooks done ⊎ IsOnClaim done → AreLooks (a ∷ done) ⊎ IsOnClaim (a ∷ done)
  one_more a done (looks v past e none) (inl were) =
      let cell = found tells v (look_of v) refl none in
      let is : length (met (a ∷ done)) ≡ suc (length (met done)) =
      ap (λ (b : WorldAccess). length (met (b ∷ done))) (e ∙ ap (link_load c p (met done)) cell.1)
      ∙ ap length (meets c p cell.0 (x done).reads cell.2) in
      inl (omega (arith, were, is))
  one_more a done (looks v past e none) (inr held) =
      absurd (held.held (subst (λ ks. MayLookPast cs c ks (x done)) held.last past))
  one_more a done (competes k t now last going after e none) were =
      inr (subst (λ (b : WorldAccess). IsOnClaim (b ∷ done)) (sym e) (record {
        cell = k;
        cells = last.cells;
        last = last.met;
        few = counted k t done last were;
        held = still k t now done last after none;
      }))
  one_more a done (takes k v last won e none) were = absurd (cc)

  all : (done : WorldHistory) → LeadTo p None done old → AreLooks done ⊎ IsOnClaim done
  all [] lead = inl (omega arith)
  all (a ∷ done) lead = one_more a done lead.0 (all done lead.1)

  -- if these accesses met at most one cell, and no claim has made more than `most`, they are at most `most + 2`
  pub few_made : (most : ℕ) (answer : Option Poll) (done : WorldHistory) → LeadTo p answer done old
      → length (met done) ≤ suc (length (met [])) → ((k : ℕ) → length ((x done).claimed k) ≤ most)
      → length done ≤ most + 2
  few_made most answer [] lead once bound = omega arith
  few_made most answer (a ∷ done) lead once bound = last lead.0 (all done lead.1)
    where
      last : ConsumerStep cs c p (x done) a answer → AreLooks done ⊎ IsOnClaim done → suc (length done) ≤ most + 2
      last step (inl were) =
          let more = grown a done in omega (arith, were, more, once)
      last (looks v past e told) (inr held) =
          absurd (held.held (subst (λ ks. MayLookPast cs c ks (x done)) held.last past))
      last (competes k t now at going after e told) (inr held) =
          let few = subst (λ (b : WorldAccess). AreFew k (b ∷ done)) (sym e) (counted k t done at (inr held)) in
          let most-here = bound k in
          omega (arith, few, most-here, once)
      last (takes k v at won e told) (inr held) =
          let few = held.few in
          let more = grown a done in
          let most-here = subst (λ (b : WorldAccess). length ((x (b ∷ done)).claimed held.cell) ≤ most) e
          (bound held.cell) in
          omega (arith, few, more, most-here, once)

-- ---- cells met and notes
-- on each lane a consumer has a note on each cell that it met, or on all but the last
record AreNoted (p : ℕ) (s : ConsumerView) : Type 0 where
  pub low : length (notes_on p s.notes) ≤ length (cells_met p s.reader.part)
  pub high : length (cells_met p s.reader.part) ≤ suc (length (notes_on p s.notes))

are_noted : (p : ℕ) (s : ConsumerView) → IsConsumer s → p < length s.places → AreNoted p s
are_noted p s i low = let there = get_some s.places p low in by there.0 there.1
  where
    by : (place : Place) → slice_get s.places p ≡ Some place → AreNoted p s
    by (Before at) e =
        let same = noted s p at i e in record { low = omega (arith, same); high = omega (arith, same) }
    by (At k claim) e =
        let h = holds s p k claim i e in
        let on = ap (λ (z : Option (List Note)). length (option_map_or (λ (l : List Note). l) z [])) h.1 in
        let count = on ∙ sym (length-reverse h.0)
        ∙ same_length (claims_in i.size.layout i.size.cells) s.seat.consumer h.2.cells (reverse h.0)
        (parts_of s.reader s.seat) h.2.ended in
        let cells = ap length h.2.met in
        record { low = omega (arith, count, cells); high = omega (arith, count, cells) }

-- after a note is added on lane p, if there is one to add, this lane has at most one note more
one_note : (p : ℕ) (o : Option Note) (notes : List (List Note)) → p < length notes
    → length (notes_on p (with_note p o notes)) ≤ suc (length (notes_on p notes))
one_note p None notes low = omega arith
one_note p (Some n) notes low =
    let was = get_some notes p low in
    let now = ap (λ (z : Option (List Note)). length (option_map_or (λ (l : List Note). l) z []))
    (set_here notes p (notes_on p notes ++ n ∷ []) was.0 was.1) in
    let long = length-append (notes_on p notes) (n ∷ []) in
    omega (arith, now, long)

module _ (p budget : ℕ) (answer : Poll) (s t : Stream) (old new : ConsumerView)
    (i : IsPollOf p budget answer s t old new) (was : IsConsumer old) (is : IsConsumer new)
    (noted_on : outcome answer ≢ None → HasNoteOnEach p new) (low : p < old.reader.table.size.lanes) where
  -- in a poll of a lane a consumer meets at most one cell more
  pub one_met : length (cells_met p new.reader.part) ≤ suc (length (cells_met p old.reader.part))
  one_met = by (outcome answer) refl
    where
      before : AreNoted p old
      before = are_noted p old was (subst (λ n. p < n) (sym was.places_count) low)

      after : AreNoted p new
      after = are_noted p new is (subst (λ n. p < n) (sym is.places_count)
          (subst (λ (r : ReaderSeatView). p < r.table.size.lanes) (sym i.done.reader) low))

      by : (o : Option Poll) → outcome answer ≡ o
          → length (cells_met p new.reader.part) ≤ suc (length (cells_met p old.reader.part))
      by None e =
          let same = ap (λ (l : List (List Note)). length (notes_on p l))
          (i.done.notes ∙ ap (λ z. with_note p (note_with z) old.notes) e) in
          omega (arith, same, before.low, after.high)
      by (Some r) e =
          let all = noted_on (λ f. let g : Some r ≡ None = sym e ∙ f in absurd (cc)) in
          let more = one_note p (note_with (outcome answer)) old.notes
          (subst (λ n. p < n) (sym was.notes_count) low) in
          let same = ap (λ (l : List (List Note)). length (notes_on p l)) i.done.notes in
          omega (arith, all, more, same, before.low)
