-- What the laws of claims, of cells and of worlds give for a step of consumer c on lane p, in a state that a history
-- leaves.
use Rattle.std.specs.Prelude.{ℕ, List, ◌∷◌, Option}
use Rattle.mb_cells.specs.Calls.{LoadGoesOn}
use Rattle.mb_world.specs.declared.report.Note.{Note}
use Rattle.mb_world.specs.Imports.{ObjectTurn, Word}
use Rattle.mb_world.specs.Setups.{plan_in}
use Rattle.mb_world.specs.World.{WorldAccess, WorldHistory, lane_part}
use Rattle.mb_world.specs.ConsumerPath.{ConsumerPath}
use Rattle.mb_world.specs.Worlds.{ConsumerAdds, IsTrueTo}
use Rattle.mb_world.specs.WorldState.{WorldState}
use Rattle.mb_world.specs.WorldKnown.{WorldKnown}

pub record StepKnown (s : WorldState) (h : WorldHistory) (c p : ℕ) : Type 0 where
  pub world : WorldKnown (plan_in s.setup) h
  -- an access that is true to memory and with which the consumer's path goes on keeps the history lawful
  pub goes : (a : WorldAccess) (ks : List ℕ) (ns : List Note) (held : Option (List ObjectTurn)) → IsTrueTo a h
      → ConsumerPath (plan_in s.setup).claims c p (a ∷ lane_part c p h) ks ns held
      → ConsumerAdds (plan_in s.setup) c p a h
  -- a load that the reader may make leaves the pool as it is
  pub stays : (w : Word) → LoadGoesOn w s.pool
