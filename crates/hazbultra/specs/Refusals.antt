-- When a call is refused, and by which code.
use Rattle.std.specs.Prelude.{◌≢◌, ◌&&◌, ℕ, Bool, if◌then◌else◌, nat_eq, not, Option, None, Some}
use Rattle.mb_bound.specs.Bound.{BoundHubView}
use Rattle.mb_quorum.specs.declared.table.TableName.{TableName}
use Rattle.mb_quorum.specs.declared.table.TableName.TheVariants.{Bits}
use Rattle.mb_world.specs.Plan.{Plan}
use Rattle.mb_world.specs.Setups.{large_refusal, shaped_plan}
use Rattle.mb_world.specs.declared.setup.SetupFault.{SetupFault}
use Rattle.mb_world.specs.declared.setup.SetupFault.TheVariants as setup
use Rattle.hazbultra.specs.Calls.{table_numbered}
use Rattle.hazbultra.specs.declared.boundary.SetupIn.{SetupIn}
use Rattle.hazbultra.specs.declared.thing.Thing.{Thing}
use Rattle.hazbultra.specs.declared.thing.Thing.TheVariants.{OfConsumer, OfProducer}

-- ---- the setup that C asks for
-- whether C asks for cells that have a last object alone, so that each claim is one exchange
abbrev pub asks_exchanges : SetupIn → Bool
asks_exchanges s = nat_eq s.pairs 0 && s.last && not s.fast

-- the plan that C asks for with the table of this name. If each claim is one exchange, the plan has the bit table
abbrev pub plan_asked : SetupIn → TableName → Plan
plan_asked s name = shaped_plan (record { fast = s.fast; last = s.last }) s.producers s.consumers s.cells s.pairs
    (if asks_exchanges s then Bits else name)

-- ---- the refusals of a setup, by the numbers of `hazbultra.h`
-- the code of a fault of a setup
abbrev pub setup_code : SetupFault → ℕ
setup_code setup.BadProducers = 33
setup_code setup.BadConsumers = 34
setup_code setup.BadCells = 35
setup_code setup.BadRounds = 36

-- the code of the refusal, if there is one: 32 if the table's number names no table, else the code of this fault
abbrev pub first_refusal : Option TableName → Option SetupFault → Option ℕ
first_refusal None why = Some 32
first_refusal (Some name) None = None
first_refusal (Some name) (Some why) = Some (setup_code why)

-- the code of the first reason to refuse what C asks for, if there is one. If each claim is one exchange, the pairs do
-- not count. The table's number has to name a table even then
abbrev pub refusal_of : SetupIn → Option ℕ
refusal_of s = first_refusal (table_numbered s.table)
    (large_refusal s.producers s.consumers s.cells (if asks_exchanges s then 1 else s.pairs))

-- ---- the refusals of a handle that a hub takes back
-- a handle leads to a producer or a consumer
abbrev pub IsPart : Option Thing → Type 0
IsPart (Some (OfProducer p)) = Unit {0}
IsPart (Some (OfConsumer c)) = Unit {0}
IsPart _ = ⊥

-- a handle leads to a producer or a consumer whose mailbox has another id than the hub's
abbrev pub IsOfAnotherMailbox : BoundHubView → Option Thing → Type 0
IsOfAnotherMailbox h (Some (OfProducer p)) = h.id ≢ p.id
IsOfAnotherMailbox h (Some (OfConsumer c)) = h.id ≢ c.consumer.id
IsOfAnotherMailbox h _ = ⊥
