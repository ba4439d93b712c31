-- What a tally counts.
use Rattle.std.specs.Prelude.{ℕ, ◌≡◌, ◌+◌, ◌%◌, ◌^◌, ◌≤◌, length}
use Rattle.std.specs.List.{All, sum_by}
use Rattle.mb_world.specs.Theorem.{LaneView, ReportView}
use Rattle.test_audit.specs.declared.rules.Tally.{Tally}

-- the tally with these counts, in this order: put, took, left, lost, undecided, under way
abbrev pub counts : ℕ → ℕ → ℕ → ℕ → ℕ → ℕ → Tally
counts put took left lost undecided under_way =
    record { put = put; took = took; left = left; lost = lost; undecided = undecided; under_way = under_way }

-- the sum of two tallies, count by count, modulo 2^64
abbrev pub both : Tally → Tally → Tally
both a b = counts ((a.put + b.put) % 2 ^ 64) ((a.took + b.took) % 2 ^ 64) ((a.left + b.left) % 2 ^ 64)
    ((a.lost + b.lost) % 2 ^ 64) ((a.undecided + b.undecided) % 2 ^ 64) ((a.under_way + b.under_way) % 2 ^ 64)

-- a tally counts the items put on a lane, and those left. It counts the others as taken
pub record IsLaneCount (lane : LaneView) (t : Tally) : Type 0 where
  pub put : t.put ≡ length lane.put
  pub left : t.left ≡ length lane.left
  pub took : t.took + t.left ≡ t.put

-- no lane has more items left than put. A tally counts both over all lanes, and the other items as taken, modulo 2^64
pub record IsReportCount (report : ReportView) (t : Tally) : Type 0 where
  pub put : t.put ≡ sum_by (λ (l : LaneView). length l.put) report.lanes % 2 ^ 64
  pub left : t.left ≡ sum_by (λ (l : LaneView). length l.left) report.lanes % 2 ^ 64
  pub took : (t.took + t.left) % 2 ^ 64 ≡ t.put
  pub few : All (λ (l : LaneView). length l.left ≤ length l.put) report.lanes
