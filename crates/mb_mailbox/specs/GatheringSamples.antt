-- Small diaries, and reports of one lane with one item that nobody took.
use Rattle.std.specs.Prelude.{ℕ, false, List, [], ◌∷◌}
use Rattle.mb_world.specs.Theorem.{DiaryView, ReportView}
use Rattle.mb_mailbox.specs.Imports.{Note, Undecided}

-- the diary of consumer c on lane 0, which holds no claim
abbrev pub diary_of : ℕ → List Note → DiaryView
diary_of c notes = record { consumer = c; lane = 0; notes = notes; begun = false }

-- the report of one item on lane 0, which is left, with these diaries
abbrev pub one_left : List DiaryView → ReportView
one_left diaries = record {
  lanes = record { put = 7 ∷ []; ended = false; left = 7 ∷ [] } ∷ [];
  diaries = diaries;
}

-- in this report one of two consumers has an undecided note, and the other did nothing
abbrev pub alone_undecided : ReportView
alone_undecided = one_left (diary_of 0 (Undecided ∷ []) ∷ diary_of 1 [] ∷ [])

-- in this report both consumers have an undecided note
abbrev pub two_undecided : ReportView
two_undecided = one_left (diary_of 0 (Undecided ∷ []) ∷ diary_of 1 (Undecided ∷ []) ∷ [])
