-- Reports of one lane or two: some with which an assignment agrees, and some with which none does.
use Rattle.std.specs.Prelude.{ℕ, zero, suc, Bool, true, false, Some, None, List, [], ◌∷◌}
use Rattle.mb_world.specs.declared.report.Note.{Note}
use Rattle.mb_world.specs.declared.report.Note.TheVariants.{Took, Lost, Undecided}
use Rattle.mb_world.specs.Theorem.{Assignment, DiaryView, ReportView}

-- the diary of consumer c on lane 0 with these notes, and with a begun claim after them if `begun` is true
abbrev pub diary_of : ℕ → List Note → Bool → DiaryView
diary_of c ns begun = record { consumer = c; lane = 0; notes = ns; begun = begun }

-- the report of one lane, with these items put and these left, and with these diaries
abbrev pub report_of : List ℕ → List ℕ → List DiaryView → ReportView
report_of items left ds = record { lanes = record { put = items; ended = false; left = left } ∷ []; diaries = ds }

-- the first item of lane 0 is given to c, and all others to nobody
abbrev pub first_to : ℕ → Assignment
first_to c zero zero = Some c
first_to c zero (suc j) = None
first_to c (suc p) j = None

-- ---- reports with which an assignment agrees
-- consumer 0 has taken the item, and consumer 1 has lost it to 0
abbrev pub taken_and_lost : ReportView
taken_and_lost = report_of (5 ∷ []) [] (diary_of 0 (Took 5 ∷ []) false ∷ diary_of 1 (Lost 0 ∷ []) false ∷ [])

-- the diary of consumer c on lane p, in a report of two lanes
abbrev pub diary_on : ℕ → ℕ → List Note → DiaryView
diary_on c p ns = record { consumer = c; lane = p; notes = ns; begun = false }

-- the report of two lanes with one item each, of which none is left, and with these diaries
abbrev pub two_lanes : List DiaryView → ReportView
two_lanes ds = record {
  lanes = record { put = 5 ∷ []; ended = false; left = [] } ∷ record { put = 6 ∷ []; ended = false; left = [] } ∷ [];
  diaries = ds;
}

-- consumer 0 has taken both items, and consumer 1 has lost the item of lane 0. The diaries stand consumer by consumer,
-- and of each consumer lane by lane
abbrev pub taken_on_both : ReportView
taken_on_both = two_lanes
    (diary_on 0 0 (Took 5 ∷ []) ∷ diary_on 0 1 (Took 6 ∷ []) ∷ diary_on 1 0 (Lost 0 ∷ []) ∷ diary_on 1 1 [] ∷ [])

-- ---- reports with which no assignment agrees
-- `taken_on_both`, but its diaries stand lane by lane
abbrev pub diaries_by_lane : ReportView
diaries_by_lane = two_lanes
    (diary_on 0 0 (Took 5 ∷ []) ∷ diary_on 1 0 (Lost 0 ∷ []) ∷ diary_on 0 1 (Took 6 ∷ []) ∷ diary_on 1 1 [] ∷ [])

-- an item that nobody competed for is not reported as left
abbrev pub left_omitted : ReportView
left_omitted = report_of (10 ∷ []) [] (diary_of 0 [] false ∷ [])

-- two consumers have taken the first of two equal items
abbrev pub two_takers : ReportView
two_takers = report_of (5 ∷ 5 ∷ []) []
    (diary_of 0 (Took 5 ∷ Undecided ∷ []) false ∷ diary_of 1 (Took 5 ∷ Undecided ∷ []) false ∷ [])

-- another value was taken than was put
abbrev pub other_value : ReportView
other_value = report_of (5 ∷ []) [] (diary_of 0 (Took 6 ∷ []) false ∷ [])

-- a consumer has lost to itself
abbrev pub lost_to_itself : ReportView
lost_to_itself = report_of (5 ∷ []) (5 ∷ []) (diary_of 0 (Lost 0 ∷ []) false ∷ [])

-- a consumer has lost to one that did not compete
abbrev pub winner_stayed_away : ReportView
winner_stayed_away = report_of (5 ∷ []) (5 ∷ []) (diary_of 0 (Lost 1 ∷ []) false ∷ diary_of 1 [] false ∷ [])

-- the item that was lost to consumer 2 was taken by consumer 0
abbrev pub lost_to_a_third : ReportView
lost_to_a_third = report_of (5 ∷ []) []
    (diary_of 0 (Took 5 ∷ []) false ∷ diary_of 1 (Lost 2 ∷ []) false ∷ diary_of 2 [] true ∷ [])

-- two consumers have lost one item to each other
abbrev pub lost_to_each_other : ReportView
lost_to_each_other = report_of (5 ∷ []) (5 ∷ []) (diary_of 0 (Lost 1 ∷ []) false ∷ diary_of 1 (Lost 0 ∷ []) false ∷ [])

-- a claim is begun after the last item
abbrev pub begun_beyond : ReportView
begun_beyond = report_of (5 ∷ []) [] (diary_of 0 (Took 5 ∷ []) true ∷ [])

-- there are more notes than items
abbrev pub noted_beyond : ReportView
noted_beyond = report_of (5 ∷ []) [] (diary_of 0 (Took 5 ∷ Undecided ∷ []) false ∷ [])
