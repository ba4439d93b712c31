-- The report of what was done to the words of a mailbox, position by position.
use Rattle.std.specs.Prelude.{ℕ, zero, suc, ◌≡◌, ◌≢◌, ◌↔◌, ◌+◌, ◌*◌, ◌<◌, Bool, true, false, not, ◌||◌, Option, Some, None, List, [], map, reverse, length, slice_get}
use Rattle.mb_world.specs.Imports.{Gave, Has, HasMet, History, Reader, has_ended, linked_cells, part, put_list}
use Rattle.mb_world.specs.declared.report.Note.{Note}
use Rattle.mb_world.specs.declared.report.Note.TheVariants.{Took, Lost, Undecided}
use Rattle.mb_world.specs.Plan.{Histories, Plan, consumers_of}
use Rattle.mb_world.specs.Theorem.{DiaryView, LaneView, ReportView, items_where, note}
use Rattle.mb_world.specs.Fitting.{EndsAs, parts_of}

-- ---- what is reported of a lane
-- the items put into lane p, the first linked first
abbrev pub values_put : ℕ → History → List ℕ
values_put p pool = map (λ e. e.value) (put_list p pool)

-- whether there is a note, and it says that the item was taken
abbrev pub is_took : Option Note → Bool
is_took None = false
is_took (Some (Took x)) = true
is_took (Some (Lost w)) = false
is_took (Some Undecided) = false

-- whether a number below n passes the test
abbrev pub any_below : ℕ → (ℕ → Bool) → Bool
any_below zero test = false
any_below (suc n) test = test n || any_below n test

-- whether one of the first n consumers has a note that it took the item at position j of lane p
abbrev pub is_taken : ℕ → ℕ → ℕ → ReportView → Bool
is_taken n p j r = any_below n (λ c. is_took (note c p j r))

-- lane p as it is reported: the items put, whether the end mark was stored, and those of the items put that no diary
-- says were taken, in their order
abbrev pub lane_view : Plan → ℕ → Histories → ReportView → LaneView
lane_view plan p hs r = record {
  put = values_put p hs.pool;
  ended = has_ended p hs.pool;
  left = items_where (λ j. not (is_taken (consumers_of plan) p j r)) (values_put p hs.pool);
}

-- ---- what the diary of a consumer on a lane has
-- these are the cells that reader q met on lane p (the last first). Links that q loaded lead from the head to each of
-- them, and q was given no other cell of the lane
pub record HasMetAll (q p : ℕ) (ks : List ℕ) (pool : History) : Type 0 where
  pub met : HasMet q p ks pool
  pub all : (k : ℕ) → Gave k (part (Reader q) pool) → Has (linked_cells p pool) k → Has ks k

-- the diary is that of consumer c on lane p, by what was done to the words of the mailbox
pub record IsDiaryOf (plan : Plan) (c p : ℕ) (hs : Histories) (d : DiaryView) : Type 0 where
  pub consumer : d.consumer ≡ c
  pub lane : d.lane ≡ p
  -- the cells that consumer c met on lane p, the last first
  pub cells : List ℕ
  pub met : HasMetAll (hs.reader_of c) p cells hs.pool
  -- note j is the end of c's claim on the cell at position j of them, the first met first
  pub notes : (j : ℕ) (n : Note) → slice_get d.notes j ≡ Some n →
      (k : ℕ) × (slice_get (reverse cells) j ≡ Some k) × EndsAs plan.claims c k n (parts_of c hs)
  -- each claim of c on these cells that has ended as a note says has its note
  pub all : (j k : ℕ) (n : Note) → slice_get (reverse cells) j ≡ Some k →
      EndsAs plan.claims c k n (parts_of c hs) → j < length d.notes
  -- the diary says that a claim is begun exactly if c's claim on one of these cells has an access, but no end with a note
  pub begun : (d.begun ≡ true) ↔
      ((k : ℕ) × Has cells k × ((parts_of c hs).claimed k ≢ [])
      × ((n : Note) → EndsAs plan.claims c k n (parts_of c hs) → ⊥))

-- ---- the whole report
-- the report is that of the histories: each lane and each diary is at its position, and there are no others
pub record IsReportOf (plan : Plan) (hs : Histories) (r : ReportView) : Type 0 where
  pub lanes_count : length r.lanes ≡ plan.lanes
  pub diaries_count : length r.diaries ≡ consumers_of plan * plan.lanes
  pub lane : (p : ℕ) → p < plan.lanes → slice_get r.lanes p ≡ Some (lane_view plan p hs r)
  pub diary : (c p : ℕ) → c < consumers_of plan → p < plan.lanes →
      (d : DiaryView) × (slice_get r.diaries (c * plan.lanes + p) ≡ Some d) × IsDiaryOf plan c p hs d
