-- One more access of a consumer, in terms of its two parts alone.
use Rattle.std.specs.Prelude.{ℕ, ◌≢◌, List, [], ◌∷◌, nat_eq, if◌then◌else◌}
use Rattle.mb_claim.specs.declared.access.Stage.TheVariants as stage
use Rattle.mb_world.specs.Imports.{Claims, Item, Link, ObjectTurn, PoolAccess, Stage}
use Rattle.mb_world.specs.Fitting.{HasRead, HasStageIn, Parts}

-- the parts of a consumer that has done nothing
abbrev pub no_parts : Parts
no_parts = record { reads = []; claimed = λ k. [] }

-- a consumer's parts with one more load
abbrev pub with_load : PoolAccess → Parts → Parts
with_load a x = record { reads = a ∷ x.reads; claimed = x.claimed }

-- a consumer's parts with one more step of its claim on cell k
abbrev pub with_step : ℕ → ObjectTurn → Parts → Parts
with_step k t x = record { reads = x.reads; claimed = λ j. if nat_eq j k then t ∷ x.claimed j else x.claimed j }

-- the claim of consumer c on cell k has ended, and if it is won, c loaded the item. So c may load the cell's link
pub record IsDoneWith (cs : Claims) (c k : ℕ) (x : Parts) : Type 0 where
  pub ended : (s : Stage) × HasStageIn cs c k s x × (s ≢ stage.Going)
  pub taken : HasStageIn cs c k stage.Won x → (v : ℕ) × HasRead (Item k) v x.reads

-- consumer c may load the link past these cells of a lane (the last first): c is done with the last, if there is one
abbrev pub MayLookPast : Claims → ℕ → List ℕ → Parts → Type 0
MayLookPast cs c [] x = Unit {0}
MayLookPast cs c (k ∷ ks) x = IsDoneWith cs c k x

-- a consumer with these parts has loaded neither the item nor the link of cell k
abbrev pub HasNotPassed : ℕ → Parts → Type 0
HasNotPassed k x = ((v : ℕ) → HasRead (Item k) v x.reads → ⊥) × ((v : ℕ) → HasRead (Link k) v x.reads → ⊥)
