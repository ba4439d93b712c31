-- Setups: what they are made of, and when they are refused.
use Rattle.std.specs.Prelude.{ℕ, ◌||◌, if◌then◌else◌, nat_lt, Option, Some, None}
use Rattle.mb_quorum.specs.declared.table.TableName.{TableName}
use Rattle.mb_quorum.specs.declared.values.TheConstants.{MAX_VALUES}
use Rattle.mb_quorum.specs.Tables.{table_of}
use Rattle.mb_deciding.specs.Spread.{spread}
use Rattle.mb_claim.specs.declared.layout.Layout.{Layout}
use Rattle.mb_claim.specs.declared.layout.TheConstants.{MAX_CELLS, MAX_LARGE_CELLS, MAX_PAIRS}
use Rattle.mb_claim.specs.AllClaims.{claims_of}
use Rattle.mb_claim.specs.Layouts.{claims_in, pair_count, plain, row_of, shape_of}
use Rattle.mb_claim.specs.declared.shape.Shape.{Shape}
use Rattle.mb_world.specs.declared.setup.Setup.{Setup}
use Rattle.mb_world.specs.declared.setup.SetupFault.{SetupFault}
use Rattle.mb_world.specs.declared.setup.SetupFault.TheVariants.{BadCells, BadConsumers, BadProducers, BadRounds}
use Rattle.mb_world.specs.declared.setup.TheConstants.{MAX_PRODUCERS}
use Rattle.mb_world.specs.Plan.{Plan}

-- the plan of these numbers of producers, consumers, cells and pairs over the quorum table of this name, if each cell
-- has this shape
abbrev pub shaped_plan : Shape → ℕ → ℕ → ℕ → ℕ → TableName → Plan
shaped_plan shape producers consumers cells pairs name = record {
  claims = claims_of (table_of name consumers) (row_of shape (spread consumers) pairs) cells;
  lanes = producers;
}

-- the plan of these numbers and this name, as in `shaped_plan`, if each cell has pairs alone
abbrev pub plan_of : ℕ → ℕ → ℕ → ℕ → TableName → Plan
plan_of = shaped_plan plain

abbrev pub layout_of : Setup → Layout
layout_of setup = setup.layout

-- the plan of a setup: the claims on its cells, and a lane for each producer
abbrev pub plan_in : Setup → Plan
plan_in setup = record { claims = claims_in setup.layout setup.cells; lanes = setup.producers }

-- how many pairs of deciding objects each cell has
abbrev pub pairs_in : Setup → ℕ
pairs_in setup = pair_count setup.layout

-- what each cell has beside its pairs
abbrev pub shape_in : Setup → Shape
shape_in setup = shape_of setup.layout

-- the first reason, if there is one, to refuse a setup of these numbers, which may have at most `most` cells
abbrev pub refusal_above : ℕ → ℕ → ℕ → ℕ → ℕ → Option SetupFault
refusal_above most producers consumers cells pairs =
    if nat_lt producers 1 || nat_lt MAX_PRODUCERS producers then Some BadProducers
    else if nat_lt consumers 1 || nat_lt MAX_VALUES consumers then Some BadConsumers
    else if nat_lt most cells then Some BadCells
    else if nat_lt pairs 1 || nat_lt MAX_PAIRS pairs then Some BadRounds
    else None

-- the first reason to refuse a script's setup, if there is one
abbrev pub setup_refusal : ℕ → ℕ → ℕ → ℕ → Option SetupFault
setup_refusal = refusal_above MAX_CELLS

-- the first reason to refuse a large setup, if there is one
abbrev pub large_refusal : ℕ → ℕ → ℕ → ℕ → Option SetupFault
large_refusal = refusal_above MAX_LARGE_CELLS
