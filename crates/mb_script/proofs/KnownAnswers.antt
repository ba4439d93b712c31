-- In the replay of a script each lane and each consumer that an event names is there.
use Rattle.std.proofs.Common.{◌≡◌, ℕ, ◌-◌, ◌<◌, Bool, true, false, nat_eq, List, [], ◌∷◌, Option, Some, None, inl, inr, sym, subst, arith, if◌then◌else◌}
use Rattle.std.specs.List.{AllByRecursion}
use Rattle.mb_quorum.specs.declared.table.TableName.{TableName}
use Rattle.mb_quorum.specs.Vocabulary.{table_of}
use Rattle.mb_cells.specs.declared.access.PoolAct.{PoolAct}
use Rattle.mb_cells.specs.declared.access.PoolAct.TheVariants.{FetchAdd, Load, Store}
use Rattle.mb_cells.specs.declared.access.TheConstants.{END}
use Rattle.mb_cells.specs.declared.access.Word.{Word}
use Rattle.mb_cells.specs.declared.access.Word.TheVariants.{Counter, Head, Item, Link}
use Rattle.mb_cells.specs.declared.answer.Finish.TheVariants as finish
use Rattle.mb_cells.specs.declared.answer.Push.TheVariants as push
use Rattle.mb_world.specs.declared.event.Answer.{Answer}
use Rattle.mb_world.specs.declared.event.Answer.TheVariants as answer
use Rattle.mb_world.specs.declared.event.Event.{Event}
use Rattle.mb_world.specs.declared.event.Event.TheVariants as event
use Rattle.mb_world.specs.Vocabulary.{Plan, consumers_of, HasAnswer, IsRefused, IsReplay, AnswerNames, answer_to, with_access, ToCells, WorldAccess, WorldHistory}
use Rattle.mb_world.specs.World.{ToClaims}
use Rattle.mb_script.specs.Vocabulary.{IsAnswer, IsOfWorld, Script, IsEventOf, Sizes, script_in}
use Rattle.mb_script.proofs.ScriptBack.{script_takes}

-- ---- an answer that names an access does not say that a lane or a consumer is missing
-- an answer to a store in a link says nothing of missing lanes or consumers
linked : (b : Bool) (v : ℕ) (r : Answer)
    → Some (if b then answer.Finished finish.Ended else answer.Pushed (push.Link v)) ≡ Some r → IsOfWorld r
linked true v r is = (λ e. cc, λ e. cc)
linked false v r is = (λ e. cc, λ e. cc)

-- an answer to an access to the cells says nothing of missing lanes or consumers
cells_known : (cells : ℕ) (w : Word) (act : PoolAct) (r : Answer) → answer_to cells w act ≡ Some r → IsOfWorld r
cells_known cells Counter (FetchAdd x n) r is = (λ e. cc, λ e. cc)
cells_known cells Counter (Load v) r is = absurd (cc)
cells_known cells Counter (Store v) r is = absurd (cc)
cells_known cells (Head p) (FetchAdd x n) r is = absurd (cc)
cells_known cells (Head p) (Load v) r is = (λ e. cc, λ e. cc)
cells_known cells (Head p) (Store v) r is = linked (nat_eq v END) (v - 1) r is
cells_known cells (Link k) (FetchAdd x n) r is = absurd (cc)
cells_known cells (Link k) (Load v) r is = (λ e. cc, λ e. cc)
cells_known cells (Link k) (Store v) r is = linked (nat_eq v END) (v - 1) r is
cells_known cells (Item k) (FetchAdd x n) r is = absurd (cc)
cells_known cells (Item k) (Load v) r is = (λ e. cc, λ e. cc)
cells_known cells (Item k) (Store v) r is = (λ e. cc, λ e. cc)

-- an answer that names an access says nothing of missing lanes or consumers
named_known : (plan : Plan) (r : Answer) (a : WorldAccess) (h : WorldHistory) → AnswerNames plan r a h → IsOfWorld r
named_known plan r (ToCells a) h names = cells_known plan.claims.cells a.word a.act r names
named_known plan r (ToClaims a) h names = let is = names.2 in (λ e. cc, λ e. cc)

-- ---- if the lane and consumer of an event are there, its answer does not say that they are missing
-- the event's lane and consumer are there
abbrev IsEventIn : Plan → Event → Type 0
IsEventIn plan (event.Offer p x) = p < plan.lanes
IsEventIn plan (event.Push p) = p < plan.lanes
IsEventIn plan (event.Finish p) = p < plan.lanes
IsEventIn plan (event.Step c p word) = (p < plan.lanes) × (c < consumers_of plan)

-- if an event's lane and consumer are there, its refusal says nothing of missing lanes or consumers
refused_known : (plan : Plan) (e : Event) (r : Answer) (h : WorldHistory) → IsEventIn plan e
    → IsRefused plan e r h → IsOfWorld r
refused_known plan (event.Offer p x) r h there (inl none) = absurd (omega (arith, there, none.0))
refused_known plan (event.Offer p x) r h there (inr why) = let is = why.1.4 in (λ e. cc, λ e. cc)
refused_known plan (event.Push p) r h there (inl none) = absurd (omega (arith, there, none.0))
refused_known plan (event.Push p) r h there (inr why) = let is = why.1.3 in (λ e. cc, λ e. cc)
refused_known plan (event.Finish p) r h there (inl none) = absurd (omega (arith, there, none.0))
refused_known plan (event.Finish p) r h there (inr why) = let is = why.1.4 in (λ e. cc, λ e. cc)
refused_known plan (event.Step c p word) r h there (inl none) = absurd (omega (arith, there.0, none.0))
refused_known plan (event.Step c p word) r h there (inr why) = absurd (omega (arith, there.1, why.1))

-- if an event's lane and consumer are there, its answer says nothing of missing lanes or consumers
entry_known : (plan : Plan) (e : Event) (r : Answer) (a : Option WorldAccess) (h : WorldHistory) → IsEventIn plan e
    → HasAnswer plan e r a h → IsOfWorld r
entry_known plan e r None h there entry = refused_known plan e r h there entry
entry_known plan e r (Some a) h there entry = named_known plan r a h entry.1

-- if the lane and consumer of each event are there, no answer of a replay says that one is missing
replay_known : (plan : Plan) (es : List Event) (rs : List Answer) (was now : WorldHistory)
    → AllByRecursion (IsEventIn plan) es → IsReplay plan es rs was now → AllByRecursion IsOfWorld rs
replay_known plan [] [] was now there replay = tt
replay_known plan [] (r ∷ rs) was now there replay = absurd replay
replay_known plan (e ∷ es) [] was now there replay = absurd replay
replay_known plan (e ∷ es) (r ∷ rs) was now there replay = (
  entry_known plan e r replay.0 was there.0 replay.1,
  replay_known plan es rs
      (with_access replay.0 was) now there.1 replay.2,
)

-- ---- the lanes and consumers of a script's events are there
-- the tables have as many values as are asked for
abbrev pub TablesHaveTheirValues : Type 0
TablesHaveTheirValues = (name : TableName) (m : ℕ) → (table_of name m).values ≡ m

-- an event that names a lane and a consumer of these sizes has them in the world of a script of these sizes
event_there : TablesHaveTheirValues → (z : Sizes) (events : List Event) (e : Event) → IsEventOf z e
    → IsEventIn (script_in z events).plan e
event_there values z events (event.Offer p x) of = of.0
event_there values z events (event.Push p) of = of
event_there values z events (event.Finish p) of = of
event_there values z events (event.Step c p word) of =
    (of.0, subst (λ n. c < n) (sym (values z.table z.consumers)) of.1)

-- events that name lanes and consumers of these sizes have them in the world of a script of these sizes
all_there : TablesHaveTheirValues → (z : Sizes) (events es : List Event) → AllByRecursion (IsEventOf z) es
    → AllByRecursion (IsEventIn (script_in z events).plan) es
all_there values z events [] of = tt
all_there values z events (e ∷ es) of = (event_there values z events e of.0, all_there values z events es of.1)

-- no answer to a script says that a lane or a consumer is missing
pub answers_known : TablesHaveTheirValues → (bytes text : List ℕ) (a : IsAnswer bytes text)
    → AllByRecursion IsOfWorld a.replayed.answers
answers_known values bytes text a =
    let spelled = script_takes bytes a.script a.read in
    let there = all_there values spelled.0 a.script.events a.script.events spelled.1.known in
    replay_known a.script.plan a.script.events a.replayed.answers [] a.replayed.history
    (subst (λ (s : Script). AllByRecursion (IsEventIn s.plan) a.script.events) (sym spelled.3)
    there) a.replayed.replayed
