-- The report that the state of a world tells is the report of each history that leaves this state.
use Rattle.std.proofs.Common.{◌≡◌, ◌≢◌, ℕ, ◌*◌, ◌<◌, ◌++◌, Bool, false, not, List, [], length, Option, Some, None, refl, sym, ◌∙◌, ap, subst, arith, reverse, slice_get, filter_map}
use Rattle.std.specs.Option.{option_map_or}
use Rattle.std.proofs.lemmas.Bool.{lt-ltb}
use Rattle.std.proofs.lemmas.List.{append-nil, length-reverse, reverse-append}
use Rattle.std.proofs.lemmas.List.Elements.{filter_map-append}
use Rattle.mb_claim.specs.declared.access.Stage.TheVariants as stage
use Rattle.mb_cells.specs.Vocabulary.{item_in}
use Rattle.mb_world.specs.Vocabulary.{Note, Place, Has, IsClaimPrefix, IsOnceEach, claim_part, linked_cells, Plan, consumers_of, DiaryView, LaneView, ReportView, diary, note, notes, items_where}
use Rattle.mb_world.specs.Vocabulary.{EndsAs, parts_of, IsDiaryOf, IsReportOf, is_taken, is_took, lane_view, plan_in, AreSound, WorldHistory, claim_accesses, histories_of, lane_part, pool_accesses}
use Rattle.mb_world.specs.Vocabulary.{has_begun, IsOnPath, IsPlaceAfter, IsWorldAfter, WorldState, has_begun_at, AreDiariesTold, AreLanesTold, IsDiaryTold, IsLaneTold, IsWalked, begun_on}
use Rattle.mb_world.specs.Vocabulary.{is_taken_on, note_on, note_there, WorldKnown, Took, Lost, Undecided}
use Rattle.mb_world.proofs.Cells.{has_cell-true}
use Rattle.mb_world.proofs.PathDiaries.{ends_length}
use Rattle.mb_world.proofs.Positions.{has_at, reverse_at}
use Rattle.mb_world.proofs.StateNotes.{any_below-same, items_chosen, none_noted, note_by, note_placed, noted, put_cells}
use Rattle.mb_world.proofs.ReportParts.{has_front, has_of_reverse, once_apart, closed_has, closed_at, closed_cut, place_begun, lane_same, grid_within}
use Rattle.mb_world.proofs.Tracks.{AreEnds, EndsIn, closed, ends_more, ends_some}
use Rattle.mb_world.proofs.WorldClaims.{end_here, met_all, on_lane, tracks}
use Rattle.mb_world.proofs.WorldDiaries.{diary_is, ended_within, no_other}

-- ---- a state, and a history that leaves it
module _ (s : WorldState) (h : WorldHistory) (is : IsWorldAfter h s) (known : WorldKnown (plan_in s.setup) h)
    (sound : AreSound (plan_in s.setup) (histories_of h))
    (fresh : (c : ℕ) → c < consumers_of (plan_in s.setup) → IsClaimPrefix (plan_in s.setup).claims c [] stage.Going)
  where
    abbrev plan : Plan
    plan = plan_in s.setup

    -- the claim of consumer c on cell k has ended as the note says
    abbrev Ends : ℕ → ℕ → Note → Type 0
    Ends c k n = EndsAs plan.claims c k n (parts_of c (histories_of h))

    -- the cells linked on lane p, the last first
    abbrev linked : ℕ → List ℕ
    linked p = linked_cells p (pool_accesses h)

    -- if by the pool's state lane p has these cells, they are those linked there, the first linked first
    walk_is : (p : ℕ) (ks : List ℕ) (over : Bool) → IsWalked s.pool p ks over → ks ≡ reverse (linked p)
    walk_is p ks over w = sym (w (pool_accesses h) is.pool).cells ∙ put_cells p (pool_accesses h)

    -- ---- the state's note on a cell says how the claim there has ended
    -- if a claim has ended as a note says, the state has this note
    note_of_end : (c k : ℕ) (n : Note) → c < consumers_of plan → k < plan.claims.cells → Ends c k n
        → note_on s c k ≡ Some n
    note_of_end c k n cs less e = let q = is.note c k cs less in ap note_there q.1 ∙ (q.2 n).1 e

    -- each note of the state says how the claim there has ended
    end_of_note : (c k : ℕ) (n : Note) → c < consumers_of plan → k < plan.claims.cells → note_on s c k ≡ Some n
        → Ends c k n
    end_of_note c k n cs less e = let q = is.note c k cs less in (q.2 n).0 (sym (ap note_there q.1) ∙ e)

    -- a claim that has ended as a note says has an access
    end_some : (c k : ℕ) (n : Note) → c < consumers_of plan → Ends c k n → claim_part c k (claim_accesses h) ≢ []
    end_some c k n cs e none = by n e
      where
        -- the claim has no access, so its one stage would be `Going`
        same : (z : _) → IsClaimPrefix plan.claims c (claim_part c k (claim_accesses h)) z → stage.Going ≡ z
        same z w =
            known.stage c [] stage.Going z (fresh c cs) (subst (λ xs. IsClaimPrefix plan.claims c xs z) none w)

        by : (m : Note) → Ends c k m → ⊥
        by (Took v) w = let d = same stage.Won w.0 in cc
        by (Lost u) w = let d = same (stage.Lost u) w in cc
        by Undecided w = let d = same stage.Undecided w in cc

    -- ---- the diary of one consumer on one lane
    module _ (c p : ℕ) (cs : c < consumers_of plan) (ps : p < plan.lanes) where
      -- the state's place of consumer c on lane p is its place after the history
      abbrev at : IsPlaceAfter s.setup c p h (is.place c p cs ps).0
      at = (is.place c p cs ps).2

      -- what consumer c did on lane p is a prefix of a consumer path
      abbrev here : IsOnPath plan c p h
      here = record { cells = at.cells; notes = at.notes; held = at.held; path = at.path }

      -- the cells that the consumer met and whose claims have notes
      abbrev with_notes : List ℕ
      with_notes = closed at.cells at.held

      -- the diary with the notes and the claim of the path is the diary of consumer c on lane p
      own : IsDiaryOf plan c p (histories_of h)
          (record { consumer = c; lane = p; notes = reverse at.notes; begun = has_begun at.held })
      own = diary_is plan h is.lawful known c p at.cells at.notes at.held at.path

      -- on the cells in `with_notes` the state has the notes of the path
      noted_here : AreEnds (λ k n. note_on s c k ≡ Some n) with_notes at.notes
      noted_here =
          ends_more (EndsIn plan.claims c (lane_part c p h)) (λ k n. note_on s c k ≡ Some n) with_notes at.notes
          (λ k n has e.
          let stands = on_lane plan h is.lawful known c p k here (closed_has at.cells at.held k has) in
          note_of_end c k n cs (known.within p k stands)
          (end_here plan h is.lawful known c p k n (has_cell-true (linked p) k stands) e))
          (tracks plan h is.lawful known c p here).ended

      -- the cells in `with_notes` are the first of the lane, and later cells follow
      late : (ks : List ℕ) × (ks ++ with_notes ≡ linked p)
      late =
          let start = known.start c p at.cells (met_all plan h is.lawful known c p here) in
          closed_cut at.cells at.held start.0 (linked p) start.1

      -- a cell of the lane on which the consumer's claim has ended as a note says is in `with_notes`
      ended_here : (k : ℕ) (n : Note) → Has (linked p) k → Ends c k n → Has with_notes k
      ended_here k n has e =
          let gave = (sound.fit c cs).met k (end_some c k n cs e) in
          let position = has_at at.cells k (no_other plan h is.lawful known c p k here gave has) in
          let less : position.0 < length (reverse at.notes) =
          ended_within plan h is.lawful known c p at.cells at.notes at.held at.path position.0 k n
          (reverse_at at.cells position.0 k position.1) e in
          closed_at at.cells at.held position.0 k position.1
          (omega (
            arith,
            less,
            length-reverse at.notes,
            ends_length (λ k n. note_on s c k ≡ Some n) with_notes at.notes noted_here,
          ))

      -- on the later cells the state has no note of the consumer
      none_late : (k : ℕ) → Has (late.0) k → note_on s c k ≡ None
      none_late k has = by (note_on s c k) refl
        where
          stands : Has (linked p) k
          stands = subst (λ (ls : List ℕ). Has ls k) late.1 (has_front late.0 with_notes k has)

          by : (o : Option Note) → note_on s c k ≡ o → note_on s c k ≡ None
          by None e = e
          by (Some n) e =
              absurd (once_apart late.0 with_notes k (subst IsOnceEach (sym late.1) (known.once p)) has
              (ended_here k n stands (end_of_note c k n cs (known.within p k stands) e)))

      -- the lane's cells in the order of linking: first those in `with_notes`, then the later ones
      lane_order : reverse (linked p) ≡ reverse with_notes ++ reverse late.0
      lane_order = ap reverse (sym late.1) ∙ reverse-append late.0 with_notes

      -- the state's notes on the lane's cells, in the order of linking, are those of the path, the first first
      notes_along : filter_map (note_on s c) (reverse (linked p)) ≡ reverse at.notes
      notes_along =
          ap (filter_map (note_on s c)) lane_order
          ∙ (filter_map-append (note_on s c) (reverse with_notes) (reverse late.0)
          ∙ (ap (λ (ms : List Note). ms ++ filter_map (note_on s c) (reverse late.0))
          (noted (note_on s c) with_notes at.notes noted_here)
          ∙ (ap (λ (ms : List Note). reverse at.notes ++ ms)
          (none_noted (note_on s c) (reverse late.0) (λ k has. none_late k (has_of_reverse late.0 k has)))
          ∙ append-nil (reverse at.notes))))

      -- the note at position j along the lane is that on the cell at position j
      note_at_position : (j : ℕ)
          → slice_get (filter_map (note_on s c) (reverse (linked p))) j
          ≡ note_by (note_on s c) (slice_get (reverse (linked p)) j)
      note_at_position j =
          subst (λ (ls : List ℕ). slice_get (filter_map (note_on s c) ls) j ≡ note_by (note_on s c) (slice_get ls j))
          (sym lane_order)
          (note_placed (note_on s c) (reverse with_notes) (reverse late.0) j
          (λ k has. ends_some (λ k n. note_on s c k ≡ Some n) with_notes at.notes k noted_here
          (has_of_reverse with_notes k has))
          (λ k has. none_late k (has_of_reverse late.0 k has)))

      -- the state says that a claim is begun exactly if the path does
      begun_here : begun_on s c p ≡ has_begun at.held
      begun_here =
          ap (λ (o : Option Place). option_map_or has_begun_at o false) (is.place c p cs ps).1
          ∙ place_begun s.setup.layout c p at.cells at.held (is.place c p cs ps).0 at.is

      -- a diary that the state tells has the state's notes on the lane's cells, in the order of linking
      told_notes : (d : DiaryView) → IsDiaryTold s c p d → d.notes ≡ filter_map (note_on s c) (reverse (linked p))
      told_notes d t = t.notes ∙ ap (filter_map (note_on s c)) (walk_is p t.cells t.ended t.walked)

      -- a diary that the state tells is the diary of consumer c on lane p
      diary_told : (d : DiaryView) → IsDiaryTold s c p d → IsDiaryOf plan c p (histories_of h) d
      diary_told d t =
          let same : d.notes ≡ reverse at.notes = told_notes d t ∙ notes_along in
          let begun : d.begun ≡ has_begun at.held = t.begun ∙ begun_here in
          record {
            consumer = t.consumer;
            lane = t.lane;
            cells = own.cells;
            met = own.met;
            notes = λ j n e. own.notes j n (subst (λ (ms : List Note). slice_get ms j ≡ Some n) same e);
            all = λ j k n at_j e.
                subst (λ (ms : List Note). j < length ms) (sym same) (own.all j k n at_j e);
            begun = ((λ b. own.begun.0 (sym begun ∙ b)), (λ z. begun ∙ own.begun.1 z));
          }

    -- ---- the whole report
    module _ (r : ReportView) (lanes : AreLanesTold s plan.lanes r.lanes)
        (diaries : AreDiariesTold s (consumers_of plan * plan.lanes) r.diaries) where
      -- the report's note on an item is the state's note on the item's cell
      note_is : (c p j k : ℕ) → c < consumers_of plan → p < plan.lanes → slice_get (reverse (linked p)) j ≡ Some k
          → note c p j r ≡ note_on s c k
      note_is c p j k cs ps e =
          let t = diaries.each c p ps (grid_within (consumers_of plan) plan.lanes c p cs ps) in
          let there : diary c p r ≡ Some t.0 = rw (lanes.count, lt-ltb p plan.lanes ps) t.1 in
          let same : notes c p r ≡ t.0.notes =
          ap (λ (o : Option DiaryView). option_map_or (λ d. d.notes) o []) there in
          ap (λ (ns : List Note). slice_get ns j) (same ∙ told_notes c p cs ps t.0 t.2)
          ∙ (note_at_position c p cs ps j ∙ ap (note_by (note_on s c)) e)

      -- the report says that an item was taken exactly if the state does
      taken_is : (p j k : ℕ) → p < plan.lanes → slice_get (reverse (linked p)) j ≡ Some k
          → not (is_taken (consumers_of plan) p j r) ≡ not (is_taken_on s k)
      taken_is p j k ps e =
          ap not (any_below-same (consumers_of plan) (λ c. is_took (note c p j r)) (λ c. is_took (note_on s c k))
          (λ c cs. ap is_took (note_is c p j k cs ps e)))

      -- what the state tells of lane p is what the report of the history must say of it
      lane_told : (p : ℕ) (l : LaneView) → p < plan.lanes → IsLaneTold s p l → l ≡ lane_view plan p (histories_of h) r
      lane_told p l ps t =
          let w = t.walked (pool_accesses h) is.pool in
          let order : t.cells ≡ reverse (linked p) = walk_is p t.cells l.ended t.walked in
          lane_same l (lane_view plan p (histories_of h) r) (t.put ∙ sym w.values) (sym w.ended)
          (t.left
          ∙ (items_chosen (λ k. item_in k s.pool) (λ j. not (is_taken (consumers_of plan) p j r))
          (λ k. not (is_taken_on s k)) t.cells
          (λ j k e. taken_is p j k ps (subst (λ (ls : List ℕ). slice_get ls j ≡ Some k) order e))
          ∙ ap (items_where (λ j. not (is_taken (consumers_of plan) p j r))) (sym w.values)))

      -- the report that the state tells is the report of the history
      pub report_is : IsReportOf plan (histories_of h) r
      report_is = record {
        lanes_count = lanes.count;
        diaries_count = diaries.count;
        lane = λ p ps. let t = lanes.each p ps in t.1 ∙ ap Some (lane_told p t.0 ps t.2);
        diary = λ c p cs ps.
            let t = diaries.each c p ps (grid_within (consumers_of plan) plan.lanes c p cs ps) in
            (t.0, t.1, diary_told c p cs ps t.0 t.2);
      }
