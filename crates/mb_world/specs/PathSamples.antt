-- The claims of two consumers on two cells, with one pair of objects over the unary table: steps of claims there, and
-- parts of consumer 0 that do not fit.
use Rattle.std.specs.Prelude.{ℕ, zero, suc, List, [], ◌∷◌, map}
use Rattle.mb_deciding.specs.declared.access.Act.TheVariants as act
use Rattle.mb_deciding.specs.declared.access.Reg.TheVariants.{Quorum, Value}
use Rattle.mb_claim.specs.Samples.{two_consumers, won_alone}
use Rattle.mb_claim.specs.AllClaims.{claims_of}
use Rattle.mb_world.specs.Imports.{Claims, Head, Item, Link, ObjectTurn, load}
use Rattle.mb_world.specs.Fitting.{Parts}

-- the claims of the two consumers on the two cells
abbrev pub two_cells : Claims
two_cells = claims_of two_consumers.table two_consumers.kinds 2

-- the first step of a claim: it finds 0 in the conciliator's word
abbrev pub first_step : ObjectTurn
first_step = record { object = 0; turn = record { act = act.Load Value 0; word = 0 } }

-- all steps of a claim on cell 0 that is won
abbrev pub won_steps : List ObjectTurn
won_steps = map (λ a. a.step) won_alone

-- the steps of a consumer that has won cell 0 and come to no other cell
abbrev pub won_first : ℕ → List ObjectTurn
won_first zero = won_steps
won_first (suc k) = []

-- the last step of the claim that is won: it finds that the register of consumer 1 is not set
abbrev pub won_last : ObjectTurn
won_last = record { object = 1; turn = record { act = act.Load (Quorum 1) 0; word = 0 } }

-- ---- parts that do not fit
-- the consumer loads the head again after it led to cell 0
abbrev pub read_head_again : Parts
read_head_again = record { reads = load 0 (Head 0) 1 ∷ load 0 (Head 0) 1 ∷ []; claimed = λ k. [] }

-- the consumer has made a step of a claim on each cell, and no load
abbrev pub claimed_unseen : Parts
claimed_unseen = record { reads = []; claimed = λ k. first_step ∷ [] }

-- the consumer loads the link of cell 0 without a claim there
abbrev pub passed_unclaimed : Parts
passed_unclaimed = record { reads = load 0 (Link 0) 0 ∷ load 0 (Head 0) 1 ∷ []; claimed = λ k. [] }

-- the consumer loads the link of cell 0, has won its claim there, and has not loaded the item
abbrev pub passed_unloaded : Parts
passed_unloaded = record passed_unclaimed { claimed = won_first }

-- the consumer loads the item of cell 0 without a claim there
abbrev pub read_unclaimed : Parts
read_unclaimed = record { reads = load 0 (Item 0) 5 ∷ load 0 (Head 0) 1 ∷ []; claimed = λ k. [] }
