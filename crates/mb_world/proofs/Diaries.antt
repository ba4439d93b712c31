-- What the diary of one consumer on one lane shows.
use Rattle.std.proofs.Common.{◌≡◌, ◌≢◌, ◌⊎◌, ℕ, suc, ◌<◌, ◌≤◌, true, List, [], length, Some, refl, sym, ◌∙◌, ap, subst, inl, inr, arith, get_or}
use Rattle.std.proofs.lemmas.Bool.{cases_lt}
use Rattle.std.proofs.lemmas.List.{length-append, length-map, length-reverse}
use Rattle.std.proofs.lemmas.Option.{slice_get-map, slice_get-get_or}
use Rattle.std.specs.Option.{option_map}
use Rattle.std.specs.Prelude.{map, slice_get}
use Rattle.mb_claim.specs.declared.access.Stage.TheVariants as stage
use Rattle.mb_world.specs.declared.report.Note.{Note}
use Rattle.mb_world.specs.declared.report.Note.TheVariants.{Took, Lost, Undecided}
use Rattle.mb_world.specs.Imports.{Entry, Gave, HasLoaded, History, Item, Link, Reader, Stage, claim_part, entry_of, item_of, linked_cells, part, put_list}
use Rattle.mb_world.specs.Plan.{Histories, Plan, consumers_of}
use Rattle.mb_world.specs.Theorem.{DiaryView}
use Rattle.mb_world.specs.Fitting.{EndsAs, Fits, HasStageIn, HasRead, parts_of}
use Rattle.mb_world.specs.Reporting.{IsDiaryOf, values_put}
use Rattle.mb_world.specs.Known.{Known}
use Rattle.mb_world.proofs.Positions.{HasPosition, at_has, at_once, at_one, at_reverse, at_some, at_start, at_within, has_at, mapped_at, reverse_at}
use Rattle.mb_world.proofs.Loads.{met_link, read_or_not}
use Rattle.mb_world.proofs.ReaderParts.{loaded-read, read-loaded}

-- as many items are put on a lane as cells are linked there
pub values_length : (p : ℕ) (pool : History) → length (values_put p pool) ≡ length (linked_cells p pool)
values_length p pool =
    let items : ℕ → ℕ = λ k. item_of k pool in
    length-map (put_list p pool) (λ (e : Entry). e.value)
    ∙ (length-reverse (map (entry_of items) (linked_cells p pool)) ∙ length-map (linked_cells p pool) (entry_of items))

-- the item put at position j is the item of the cell linked at position j
value_at : (p j k : ℕ) (pool : History) → HasPosition (linked_cells p pool) j k
    → slice_get (values_put p pool) j ≡ Some (item_of k pool)
value_at p j k pool at =
    slice_get-map (λ (e : Entry). e.value) (put_list p pool) j
    ∙ ap (option_map (λ (e : Entry). e.value)) (mapped_at (entry_of (λ i. item_of i pool)) (linked_cells p pool) j k at)

module _ (plan : Plan) (hs : Histories) (known : Known plan hs) where
  -- the claim of consumer c on cell k has ended as the note says
  abbrev Ends : ℕ → ℕ → Note → Type 0
  Ends c k n = EndsAs plan.claims c k n (parts_of c hs)

  -- the claim of consumer c on cell k has this stage
  abbrev Comes : ℕ → ℕ → Stage → Type 0
  Comes c k s = HasStageIn plan.claims c k s (parts_of c hs)

  -- a claim has at most one stage
  one_stage : (c k : ℕ) (s r : Stage) → Comes c k s → Comes c k r → s ≡ r
  one_stage c k s r = known.stage c (claim_part c k hs.claims) s r

  -- no note says how a claim that goes on has ended
  going_on : (c k : ℕ) → Comes c k stage.Going → (n : Note) → Ends c k n → ⊥
  going_on c k going (Took v) end = let e = one_stage c k stage.Going stage.Won going end.0 in cc
  going_on c k going (Lost w) end = let e = one_stage c k stage.Going (stage.Lost w) going end in cc
  going_on c k going Undecided end = let e = one_stage c k stage.Going stage.Undecided going end in cc

  -- no note says how a claim that is won has ended, if its consumer has not loaded the item
  not_taken : (c k : ℕ) → Comes c k stage.Won → ((v : ℕ) → HasRead (Item k) v (parts_of c hs).reads → ⊥)
      → (n : Note) → Ends c k n → ⊥
  not_taken c k won never (Took v) end = never v end.1
  not_taken c k won never (Lost w) end = let e = one_stage c k stage.Won (stage.Lost w) won end in cc
  not_taken c k won never Undecided end = let e = one_stage c k stage.Won stage.Undecided won end in cc

  -- either some note says how a claim with a step has ended, or none does
  ended_or_not : (c k : ℕ) → claim_part c k hs.claims ≢ [] → ((n : Note) × Ends c k n) ⊎ ((n : Note) → Ends c k n → ⊥)
  ended_or_not c k some = let q = (known.claimant c k some).1 in by_stage q.0 q.1
    where
      -- either some note says how a claim of this stage has ended, or none does
      by_stage : (s : Stage) → Comes c k s → ((n : Note) × Ends c k n) ⊎ ((n : Note) → Ends c k n → ⊥)
      by_stage stage.Going q = inr (going_on c k q)
      by_stage stage.Won q = elim (read_or_not (parts_of c hs).reads (Item k)) [
        | inl h ↦ inl (Took h.0, (q, h.1))
        | inr n ↦ inr (not_taken c k q n)
      ]
      by_stage (stage.Lost w) q = inl (Lost w, q)
      by_stage stage.Undecided q = inl (Undecided, q)

  -- if a consumer loaded a cell's link, its claim there has ended as some note says
  ended_past : (c k v : ℕ) → c < consumers_of plan → HasLoaded (hs.reader_of c) (Link k) v hs.pool
      → (n : Note) × Ends c k n
  ended_past c k v cs loaded = by_stage (fit.ended k v read).0 (fit.ended k v read).1 (fit.ended k v read).2
    where
      fit : Fits plan.claims c (parts_of c hs)
      fit = known.fit c cs

      read : HasRead (Link k) v (parts_of c hs).reads
      read = read-loaded (hs.reader_of c) hs.pool (Link k) v loaded

      -- a claim of this stage, which is not `Going`, has ended as some note says, if its cell's link was loaded
      by_stage : (s : Stage) → Comes c k s → s ≢ stage.Going → (n : Note) × Ends c k n
      by_stage stage.Going q over = absurd (over refl)
      by_stage stage.Won q over = let item = fit.taken k v read q in (Took item.0, (q, item.1))
      by_stage (stage.Lost w) q over = (Lost w, q)
      by_stage stage.Undecided q over = (Undecided, q)

  module _ (c p : ℕ) (cs : c < consumers_of plan) (d : DiaryView) (diary : IsDiaryOf plan c p hs d) where
    -- a cell at position j of the cells that the consumer met is at position j of the cells linked on the lane
    pub placed : (j k : ℕ) → HasPosition diary.cells j k → HasPosition (linked_cells p hs.pool) j k
    placed j k at =
        let s = known.start (hs.reader_of c) p diary.cells diary.met.met in
        subst (λ (ls : List ℕ). HasPosition ls j k) s.1 (at_start s.0 diary.cells j k at)

    -- a cell at position j of the lane, if it was given to the consumer, is at position j of the cells that it met
    pub met_at : (j k : ℕ) → HasPosition (linked_cells p hs.pool) j k → Gave k (part (Reader (hs.reader_of c)) hs.pool)
        → HasPosition diary.cells j k
    met_at j k at gave =
        let has = has_at diary.cells k (diary.met.all k gave (at_has (linked_cells p hs.pool) j k at)) in
        subst (λ (i : ℕ). HasPosition diary.cells i k)
        (at_once (linked_cells p hs.pool) has.0 j k (known.once p) (placed has.0 k has.1) at) has.1

    -- no more cells were met than are linked
    cells_within : length diary.cells ≤ length (linked_cells p hs.pool)
    cells_within =
        let s = known.start (hs.reader_of c) p diary.cells diary.met.met in
        omega (arith, ap length s.1, length-append s.0 diary.cells)

    -- note j says how the claim on the cell that was met at position j has ended
    pub note_at : (j : ℕ) (n : Note) → slice_get d.notes j ≡ Some n → (k : ℕ) × HasPosition diary.cells j k × Ends c k n
    note_at j n e = let q = diary.notes j n e in (q.0, at_reverse diary.cells j q.0 q.1, q.2)

    -- a claim on a cell met that has ended as a note says has a note in the diary
    noted : (j k : ℕ) (n : Note) → HasPosition diary.cells j k → Ends c k n → j < length d.notes
    noted j k n at end = diary.all j k n (reverse_at diary.cells j k at) end

    -- if a cell's link was loaded, the claim there has a note
    pub passed : (j k v : ℕ) → HasPosition diary.cells j k
        → HasLoaded (hs.reader_of c) (Link k) v hs.pool → j < length d.notes
    passed j k v at loaded = let q = ended_past c k v cs loaded in noted j k q.0 at q.1

    -- the claims on all cells met but the last have notes
    before_last : (j : ℕ) → suc j < length diary.cells → j < length d.notes
    before_last j less =
        let q = at_some diary.cells j (omega arith) in
        let l = met_link (hs.reader_of c) p hs.pool diary.cells j q.0 diary.met.met q.1 less in
        passed j q.0 l.0 q.1 l.1

    -- there are no more notes than cells met
    notes_within : length d.notes ≤ length diary.cells
    notes_within = elim (cases_lt (length diary.cells) (length d.notes)) [
      | inl more ↦ absurd (too_many more)
      | inr fits ↦ fits
    ]
      where
        too_many : length diary.cells < length d.notes → ⊥
        too_many more =
            let n = get_or d.notes (length diary.cells) Undecided in
            let q = note_at (length diary.cells) n (slice_get-get_or d.notes (length diary.cells) Undecided more) in
            omega (arith, at_within diary.cells (length diary.cells) q.0 q.1)

    -- if no note says how the claim on a cell met has ended, it is the last cell met, and those before it have notes
    pub open_last : (j k : ℕ) → HasPosition diary.cells j k → ((n : Note) → Ends c k n → ⊥)
        → (length d.notes ≡ j) × (suc j ≡ length diary.cells)
    open_last j k at none = (omega (arith, not_more, no_less, last), last)
      where
        not_noted : j < length d.notes → ⊥
        not_noted inside =
            let n = get_or d.notes j Undecided in
            let q = note_at j n (slice_get-get_or d.notes j Undecided inside) in
            none n (subst (λ (i : ℕ). Ends c i n) (at_one diary.cells j q.0 k q.1 at) q.2)

        not_more : length d.notes ≤ j
        not_more = elim (cases_lt j (length d.notes)) [ inl h ↦ absurd (not_noted h) | inr h ↦ h ]

        last : suc j ≡ length diary.cells
        last = elim (cases_lt (suc j) (length diary.cells)) [
          | inl h ↦ absurd (not_noted (before_last j h))
          | inr h ↦ omega (arith, at_within diary.cells j k at)
        ]

        no_less : j ≤ length d.notes
        no_less = elim (cases_lt (length d.notes) j) [
          | inl h ↦ absurd (omega (arith, before_last (length d.notes) (omega (arith, at_within diary.cells j k at))))
          | inr h ↦ h
        ]

    -- a consumer with a claim on a cell that it met competed for the item there
    pub competes_at : (j k : ℕ) → HasPosition diary.cells j k → claim_part c k hs.claims ≢ []
        → (j < length d.notes) ⊎ ((length d.notes ≡ j) × (d.begun ≡ true))
    competes_at j k at some = elim (ended_or_not c k some) [
      | inl end ↦ inl (noted j k end.0 at end.1)
      | inr none ↦ inr ((open_last j k at none).0, diary.begun.1 (k, at_has diary.cells j k at, some, none))
    ]

    -- a note that an item was taken has the item that was put at its position
    pub value_of : (j x : ℕ) → slice_get d.notes j ≡ Some (Took x) → slice_get (values_put p hs.pool) j ≡ Some x
    value_of j x e =
        let q = note_at j (Took x) e in
        let v = known.item (hs.reader_of c) q.0 x (loaded-read (hs.reader_of c) hs.pool (Item q.0) x q.2.1) in
        value_at p j q.0 hs.pool (placed j q.0 q.1) ∙ ap Some (sym v)

    -- there are no more notes than items put
    pub within : length d.notes ≤ length (values_put p hs.pool)
    within = omega (arith, notes_within, cells_within, values_length p hs.pool)

    -- a begun claim is on an item that was put
    pub begun_within : d.begun ≡ true → length d.notes < length (values_put p hs.pool)
    begun_within begun =
        let q = diary.begun.0 begun in
        let at = has_at diary.cells q.0 q.1 in
        let l = open_last at.0 q.0 at.1 q.3 in
        omega (arith, l.0, l.1, cells_within, values_length p hs.pool)
