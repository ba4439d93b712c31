-- A world of two lanes, two consumers and two cells, with one pair of objects over the unary table. Below are what was
-- done in it, its report, and a report and diaries that are not its own.
use Rattle.std.specs.Prelude.{ℕ, true, false, List, [], ◌∷◌, ◌++◌, map}
use Rattle.mb_cells.specs.LanePath.{fetch, store}
use Rattle.mb_claim.specs.Samples.{won_and_lost}
use Rattle.mb_world.specs.declared.report.Note.{Note, TheVariants.Took, TheVariants.Lost}
use Rattle.mb_world.specs.Imports.{END, Entry, Head, Item, Link, ObjectTurn, Word, claim_part}
use Rattle.mb_world.specs.Plan.{Histories, Plan}
use Rattle.mb_world.specs.Theorem.{DiaryView, ReportView}
use Rattle.mb_world.specs.World.{ToCells, WorldAccess, WorldHistory, histories_of}
use Rattle.mb_world.specs.ConsumerPath.{claim_step, item_load, link_load}
use Rattle.mb_world.specs.PathSamples.{first_step, two_cells, won_steps}

-- the world: two lanes, and the claims of two consumers on two cells
abbrev pub two_by_two : Plan
two_by_two = record { claims = two_cells; lanes = 2 }

-- the entry of the item 5, in cell 0
abbrev pub five : Entry
five = record { cell = 0; value = 5 }

-- the entry of the item 6, in cell 1
abbrev pub six : Entry
six = record { cell = 1; value = 6 }

-- a store of v in word w by producer p
abbrev pub stores : ℕ → Word → ℕ → WorldAccess
stores p w v = ToCells (store p w v)

-- ---- what was done
-- producer 0 has taken a cell for the item 5
abbrev pub one_taken : WorldHistory
one_taken = ToCells (fetch 0 five) ∷ []

-- then consumer 0 has found nothing on lane 0
abbrev pub offered : WorldHistory
offered = link_load 0 0 [] 0 ∷ one_taken

-- then producer 0 has stored the item in its cell
abbrev pub one_stored : WorldHistory
one_stored = stores 0 (Item 0) 5 ∷ offered

-- then producer 0 has linked the cell, so the item is put
abbrev pub one_put : WorldHistory
one_put = stores 0 (Head 0) 1 ∷ one_stored

-- then producer 1 has put the item 6
abbrev pub both_put : WorldHistory
both_put = stores 1 (Head 1) 2 ∷ stores 1 (Item 1) 6 ∷ ToCells (fetch 1 six) ∷ one_put

-- then consumer 0 has found the item 5
abbrev pub first_found : WorldHistory
first_found = link_load 0 0 [] 1 ∷ both_put

-- then consumer 0 has won the claim on the item 5
abbrev pub first_won : WorldHistory
first_won = map (claim_step 0 0) won_steps ++ first_found

-- then consumer 0 has taken the item 5
abbrev pub first_taken : WorldHistory
first_taken = item_load 0 0 5 ∷ first_won

-- the steps with which consumer 1 loses the item 5
abbrev pub lost_steps : List ObjectTurn
lost_steps = claim_part 1 0 won_and_lost

-- then consumer 1 has found the item 5 and lost it
abbrev pub first_lost : WorldHistory
first_lost = map (claim_step 1 0) lost_steps ++ link_load 1 0 [] 1 ∷ first_taken

-- then consumer 1 has found the item 6
abbrev pub second_met : WorldHistory
second_met = link_load 1 1 [] 2 ∷ first_lost

-- then consumer 1 has begun a claim on the item 6
abbrev pub second_begun : WorldHistory
second_begun = claim_step 1 1 first_step ∷ second_met

-- then producer 0 has stored its end mark, and consumer 1 has loaded it
abbrev pub all_done : WorldHistory
all_done = link_load 1 0 (0 ∷ []) END ∷ stores 0 (Link 0) END ∷ second_begun

-- what was done in all, as two histories with no order between them
abbrev pub all_histories : Histories
all_histories = histories_of all_done

-- a fetch-add of producer 0, which would come after its end mark
abbrev pub offered_late : WorldAccess
offered_late = ToCells (fetch 0 (record { cell = 2; value = 7 }))

-- ---- what is reported
-- the diary of consumer c on lane p with these notes, and no claim begun
abbrev pub diary_with : ℕ → ℕ → List Note → DiaryView
diary_with c p ns = record { consumer = c; lane = p; notes = ns; begun = false }

-- a report with these items left on lane 1, and with this diary of consumer 1 on lane 0
abbrev pub report_with : List ℕ → DiaryView → ReportView
report_with left d = record {
  lanes = record { put = 5 ∷ []; ended = true; left = [] } ∷ record { put = 6 ∷ []; ended = false; left = left } ∷ [];
  diaries =
      diary_with 0 0 (Took 5 ∷ []) ∷ diary_with 0 1 [] ∷ d
      ∷ record { consumer = 1; lane = 1; notes = []; begun = true } ∷ [];
}

-- the report of what was done in all
abbrev pub all_reported : ReportView
all_reported = report_with (6 ∷ []) (diary_with 1 0 (Lost 0 ∷ []))

-- ---- a report and diaries that are not of this world
-- an item that nobody took is left out of the items left
abbrev pub item_missing : ReportView
item_missing = report_with [] (diary_with 1 0 (Lost 0 ∷ []))

-- consumer 1 has no note on the item that it has lost
abbrev pub loss_unnoted : DiaryView
loss_unnoted = diary_with 1 0 []

-- consumer 1 says that it took the item that it has lost
abbrev pub loss_taken : DiaryView
loss_taken = diary_with 1 0 (Took 5 ∷ [])
