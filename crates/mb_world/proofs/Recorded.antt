-- The notes of a report of lawful histories whose consumers' parts fit are right.
use Rattle.std.proofs.Common.{◌≡◌, ◌≢◌, ◌⊎◌, ℕ, ◌<◌, ◌≤◌, true, false, not, length, Some, None, refl, subst, inl, inr, arith}
use Rattle.std.specs.Prelude.{slice_get, IsSome}
use Rattle.std.proofs.lemmas.Bool.{cases_lt}
use Rattle.std.proofs.lemmas.Option.{slice_get-get_or}
use Rattle.mb_claim.specs.declared.access.Stage.TheVariants as stage
use Rattle.mb_claim.specs.Claiming.{HasStage}
use Rattle.mb_claim.specs.Winner.{StageNames}
use Rattle.mb_world.specs.Vocabulary.{Note, Stage, linked_cells, Histories, Plan, consumers_of, DiaryView, ReportView, diary, is_begun, items_left, items_put, note, notes, items_where, HasCompeted}
use Rattle.mb_world.specs.Vocabulary.{EndsAs, parts_of, IsDiaryOf, IsReportOf, is_taken, HasMetEnd, Known}
use Rattle.mb_world.specs.declared.report.Note.TheVariants.{Took, Lost, Undecided}
use Rattle.mb_world.proofs.Assigned.{AreNotesRight, winner_named}
use Rattle.mb_world.proofs.Diaries.{begun_within, competes_at, met_at, note_at, placed, value_of, within}
use Rattle.mb_world.proofs.LaneEnds.{ends_noted}
use Rattle.mb_world.proofs.Positions.{at_one}
use Rattle.mb_world.proofs.ReportPositions.{IsInside, begun_is, diary_none, inside, left_is, no_lane, note_in, notes_is, put_is}

module _ (plan : Plan) (hs : Histories) (known : Known plan hs) where
  -- this is the diary of consumer c on lane p
  abbrev Diary : ℕ → ℕ → DiaryView → Type 0
  Diary c p d = IsDiaryOf plan c p hs d

  -- if a claim has ended as a note says, its stage names the winner that the note names
  end_named : (c k : ℕ) (n : Note) (w : ℕ) → c < consumers_of plan → EndsAs plan.claims c k n (parts_of c hs)
      → winner_named c n ≡ Some w
      → (s : Stage) × HasStage plan.claims c k s hs.claims × StageNames c s w
  end_named c k (Took x) w cs end e = (stage.Won, (cs, end.0), cc)
  end_named c k (Lost u) w cs end e = (stage.Lost u, (cs, end), cc)
  end_named c k Undecided w cs end e = absurd (cc)

  -- if two notes at one position of a lane both name a winner, they name the same one
  one_winner : (c d p j : ℕ) (x y : DiaryView) (n m : Note) (v w : ℕ) → c < consumers_of plan → d < consumers_of plan
      → Diary c p x → Diary d p y → slice_get x.notes j ≡ Some n → slice_get y.notes j ≡ Some m
      → winner_named c n ≡ Some v → winner_named d m ≡ Some w → v ≡ w
  one_winner c d p j x y n m v w cs ds dx dy e f en fm =
      let a = note_at plan hs known c p cs x dx j n e in
      let b = note_at plan hs known d p ds y dy j m f in
      let pa = placed plan hs known c p cs x dx j a.0 a.1 in
      let pb = placed plan hs known d p ds y dy j b.0 b.1 in
      let same : b.0 ≡ a.0 = at_one (linked_cells p hs.pool) j b.0 a.0 pb pa in
      let l = end_named c a.0 n v cs a.2 en in
      let r = end_named d b.0 m w ds b.2 fm in
      let there = subst (λ (k : ℕ). HasStage plan.claims d k r.0 hs.claims) same r.1 in
      (known.winner a.0).same c d v w l.0 r.0 l.1 there l.2 r.2

  -- the winner that a loss names is another consumer, which competed for that item
  lost_to : (c w p j : ℕ) (x y : DiaryView) → c < consumers_of plan → Diary c p x
      → (w < consumers_of plan → Diary w p y)
      → slice_get x.notes j ≡ Some (Lost w)
      → (w ≢ c) × (w < consumers_of plan) × ((j < length y.notes) ⊎ ((length y.notes ≡ j) × (y.begun ≡ true)))
  lost_to c w p j x y cs dx dy e =
      let a = note_at plan hs known c p cs x dx j (Lost w) e in
      let at = placed plan hs known c p cs x dx j a.0 a.1 in
      let some = (known.winner a.0).competed c w (stage.Lost w) (cs, a.2) refl in
      let ws = (known.claimant w a.0 some).0 in
      let there = met_at plan hs known w p ws y (dy ws) j a.0 at ((known.fit w ws).met a.0 some) in (
        (known.winner a.0).other c w (cs, a.2),
        ws,
        competes_at plan hs known w p ws y (dy ws) j a.0 there some,
      )

  -- ---- the whole report
  module _ (r : ReportView) (is : IsReportOf plan hs r) where
    -- a consumer that competed by its diary has competed by the report
    pub competed_in : (c p j : ℕ) (cs : c < consumers_of plan) (ps : p < plan.lanes) →
        let d = (is.diary c p cs ps).0 in
        (j < length d.notes) ⊎ ((length d.notes ≡ j) × (d.begun ≡ true)) → HasCompeted c p j r
    competed_in c p j cs ps (inl before) = inl (rw (notes_is plan hs r is c p cs ps) before)
    competed_in c p j cs ps (inr next) = inr
        (rw (notes_is plan hs r is c p cs ps) next.0, rw (begun_is plan hs r is c p cs ps) next.1)

    -- a note that an item was taken has the item that was put at its position
    value : (c p j x : ℕ) → note c p j r ≡ Some (Took x) → slice_get (items_put p r) j ≡ Some x
    value c p j x e =
        let i = note_in plan hs r is c p j (Took x) e in
        let d = is.diary c p i.0 i.1 in
        rw (put_is plan hs r is p i.1) (value_of plan hs known c p i.0 d.0 d.2 j x i.2)

    -- there are no more notes than items
    notes_within : (c p : ℕ) → length (notes c p r) ≤ length (items_put p r)
    notes_within c p = by_cases (cases_lt p plan.lanes) (cases_lt c (consumers_of plan))
      where
        -- there are no more notes than items, whether or not the mailbox has the consumer and the lane
        by_cases : (p < plan.lanes) ⊎ (plan.lanes ≤ p) → (c < consumers_of plan) ⊎ (consumers_of plan ≤ c)
            → length (notes c p r) ≤ length (items_put p r)
        by_cases (inl ps) (inl cs) =
            let d = is.diary c p cs ps in
            rw (notes_is plan hs r is c p cs ps, put_is plan hs r is p ps) (within plan hs known c p cs d.0 d.2)
        by_cases (inr past) o = rw (diary_none plan hs r is c p (inl past)) (omega arith)
        by_cases (inl ps) (inr past) = rw (diary_none plan hs r is c p (inr past)) (omega arith)

    -- a begun claim is on an item that was put
    claims_within : (c p : ℕ) → is_begun c p r ≡ true → length (notes c p r) < length (items_put p r)
    claims_within c p b =
        let d = is.diary c p there.0 there.1 in
        rw (notes_is plan hs r is c p there.0 there.1, put_is plan hs r is p there.1)
        (begun_within plan hs known c p there.0 d.0 d.2 (rw (begun_is plan hs r is c p there.0 there.1) at b))
      where
        there : IsInside plan c p
        there = inside plan hs r is c p (λ none. let q : false ≡ true = rw none at b in cc)

    -- a loss names another consumer, which competed
    lost : (c w p j : ℕ) → note c p j r ≡ Some (Lost w) → (w ≢ c) × HasCompeted w p j r
    lost c w p j e = by_winner (cases_lt w (consumers_of plan))
      where
        i : (cs : c < consumers_of plan) × (ps : p < plan.lanes)
            × (slice_get (is.diary c p cs ps).0.notes j ≡ Some (Lost w))
        i = note_in plan hs r is c p j (Lost w) e

        -- a loss names another consumer, which competed, whether or not the mailbox has the consumer named
        by_winner : (w < consumers_of plan) ⊎ (consumers_of plan ≤ w) → (w ≢ c) × HasCompeted w p j r
        by_winner (inl ws) =
            let d = is.diary c p i.0 i.1 in
            let y = is.diary w p ws i.1 in
            let l = lost_to c w p j d.0 y.0 i.0 d.2 (λ _. y.2) i.2 in
            (l.0, competed_in w p j ws i.1 l.2)
        by_winner (inr past) =
            let d = is.diary c p i.0 i.1 in
            let a = note_at plan hs known c p i.0 d.0 d.2 j (Lost w) i.2 in
            let some = (known.winner a.0).competed c w (stage.Lost w) (i.0, a.2) refl in
            absurd (omega (arith, (known.claimant w a.0 some).0))

    -- if two notes at one position of a lane both name a winner, they name the same one
    one : (c d p j : ℕ) (n m : Note) (u w : ℕ) → note c p j r ≡ Some n → note d p j r ≡ Some m
        → winner_named c n ≡ Some u → winner_named d m ≡ Some w → u ≡ w
    one c d p j n m u w e f en fm =
        let i = note_in plan hs r is c p j n e in
        let k = note_in plan hs r is d p j m f in
        let x = is.diary c p i.0 i.1 in
        let y = is.diary d p k.0 k.1 in
        one_winner c d p j x.0 y.0 n m u w i.0 k.0 x.2 y.2 i.2 k.2 en fm

    -- the items left are those of which no note says that they were taken
    left_all : (p : ℕ) → items_left p r ≡ items_where (λ j. not (is_taken (consumers_of plan) p j r)) (items_put p r)
    left_all p = by_lane (cases_lt p plan.lanes)
      where
        -- the items left are those of which no note says that they were taken, whether or not the mailbox has the lane
        by_lane : (p < plan.lanes) ⊎ (plan.lanes ≤ p)
            → items_left p r ≡ items_where (λ j. not (is_taken (consumers_of plan) p j r)) (items_put p r)
        by_lane (inl ps) = rw (put_is plan hs r is p ps) (left_is plan hs r is p ps)
        by_lane (inr past) = rw (no_lane plan hs r is p past) refl

    -- the notes of the report are right
    pub right : AreNotesRight (consumers_of plan) r
    right = record {
      value = value;
      within = notes_within;
      begun_within = claims_within;
      one = one;
      lost = lost;
      left = left_all;
      below = λ c p j n e. (note_in plan hs r is c p j n e).0;
    }

    -- a consumer that loaded the lane's end mark has a note on each item put there
    pub noted : (c p j : ℕ) → IsSome (diary c p r) → HasMetEnd (hs.reader_of c) p hs.pool
        → j < length (items_put p r) → IsSome (note c p j r)
    noted c p j some end before =
        let there = inside plan hs r is c p (λ none. let q : false ≡ true = rw none at some in cc) in
        let cs = there.0 in
        let ps = there.1 in
        let d = is.diary c p cs ps in
        let less = ends_noted plan hs known c p cs d.0 d.2 j end (rw (put_is plan hs r is p ps) at before) in
        rw (notes_is plan hs r is c p cs ps, slice_get-get_or d.0.notes j Undecided less) refl
