-- The replay of a list of events. It gives each event one answer, with one access or with none.
use Rattle.std.specs.Prelude.{ℕ, ◌≡◌, ◌≢◌, ◌-◌, ◌<◌, ◌≤◌, ◌⊎◌, true, if◌then◌else◌, nat_eq, Option, Some, None, List, [], ◌∷◌}
use Rattle.mb_cells.specs.declared.answer.Finish.{Finish}
use Rattle.mb_cells.specs.declared.answer.Finish.TheVariants as finish
use Rattle.mb_cells.specs.declared.answer.Offer.{Offer}
use Rattle.mb_cells.specs.declared.answer.Push.TheVariants as push
use Rattle.mb_cells.specs.declared.lane.Lane.{Lane}
use Rattle.mb_cells.specs.LanePath.{fetch, store}
use Rattle.mb_cells.specs.Reading.{look_of}
use Rattle.mb_cells.specs.Standing.{IsLaneAfter, finish_refusal, offer_by_found, offer_refusal, push_store}
use Rattle.mb_world.specs.declared.event.Answer.{Answer}
use Rattle.mb_world.specs.declared.event.Answer.TheVariants as answer
use Rattle.mb_world.specs.declared.event.Event.{Event}
use Rattle.mb_world.specs.declared.event.Event.TheVariants as event
use Rattle.mb_world.specs.Imports.{Counter, END, FetchAdd, Head, IsClaimPrefix, IsLinkWord, Item, Link, Load, PoolAct, Producer, Stage, Store, Word, claim_part, linked_cells, part}
use Rattle.mb_world.specs.Plan.{Plan, consumers_of}
use Rattle.mb_world.specs.World.{IsBy, ToCells, ToClaims, WorldAccess, WorldHistory, claim_accesses, is_on, pool_accesses}
use Rattle.mb_world.specs.Worlds.{IsWorldLawful}

-- ---- the access of an event
-- what a push stores: an item, or a link that is no end mark
abbrev pub IsPushed : Word → ℕ → Type 0
IsPushed Counter v = ⊥
IsPushed (Head p) v = v ≢ END
IsPushed (Link k) v = v ≢ END
IsPushed (Item k) v = Unit {0}

-- if the access is to a claim, it is made with this random word. Other accesses have none
abbrev pub HasRandom : ℕ → WorldAccess → Type 0
HasRandom word (ToCells a) = Unit {0}
HasRandom word (ToClaims a) = a.step.turn.word ≡ word

-- after a history, the access is one that the event asks for. An offer asks for a fetch-add with its item, a push for a
-- store of an item or a link, and a finish for a store of the end mark. A step asks for an access of that consumer on
-- that lane. If the access is to a claim, it is made with the step's random word
abbrev pub IsAccessOf : Event → WorldAccess → WorldHistory → Type 0
IsAccessOf (event.Offer p x) a h = (n : ℕ) × (a ≡ ToCells (fetch p (record { cell = n; value = x })))
IsAccessOf (event.Push p) a h = (w : Word) × (v : ℕ) × IsPushed w v × (a ≡ ToCells (store p w v))
IsAccessOf (event.Finish p) a h = (w : Word) × IsLinkWord w × (a ≡ ToCells (store p w END))
IsAccessOf (event.Step c p word) a h =
    IsBy c a × (is_on c p (linked_cells p (pool_accesses h)) a ≡ true) × HasRandom word a

-- ---- the answer that names an access
-- the answer that names a store of v in a head or a link: the store is of the end mark, or it links a cell
abbrev pub answer_to_link : ℕ → Answer
answer_to_link v = if nat_eq v END then answer.Finished finish.Ended else answer.Pushed (push.Link (v - 1))

-- the answer that names an access to a word of the cells, in a pool with this number of cells. It is `None` for an act
-- that no event asks for
abbrev pub answer_to : ℕ → Word → PoolAct → Option Answer
answer_to cells Counter (FetchAdd x n) = Some (answer.Offered (offer_by_found cells n))
answer_to cells (Head p) (Store v) = Some (answer_to_link v)
answer_to cells (Link k) (Store v) = Some (answer_to_link v)
answer_to cells (Item k) (Store v) = Some (answer.Pushed (push.Item k))
answer_to cells (Head p) (Load v) = Some (answer.Looked (look_of v))
answer_to cells (Link k) (Load v) = Some (answer.Looked (look_of v))
answer_to cells (Item k) (Load v) = Some (answer.Took k v)
answer_to cells _ _ = None

-- after a history, the answer names the access. For an access to a claim the answer also has the stage to which the
-- access leads
abbrev pub AnswerNames : Plan → Answer → WorldAccess → WorldHistory → Type 0
AnswerNames plan r (ToCells a) h = answer_to plan.claims.cells a.word a.act ≡ Some r
AnswerNames plan r (ToClaims a) h =
    (s : Stage) × IsClaimPrefix plan.claims a.consumer (a.step ∷ claim_part a.consumer a.cell (claim_accesses h)) s
    × (r ≡ answer.Claimed a.cell a.step.object a.step.turn.act s)

-- ---- the answers without an access
-- after a history, the value is the place of producer p
abbrev pub IsLaneOf : Plan → ℕ → Lane → WorldHistory → Type 0
IsLaneOf plan p lane h = IsLaneAfter plan.claims.cells p lane (part (Producer p) (pool_accesses h))

-- there is no lane p, and the answer says so
abbrev pub HasNoLane : Plan → ℕ → Answer → Type 0
HasNoLane plan p r = (plan.lanes ≤ p) × (r ≡ answer.NoLane)

-- after a history, the place of producer p refuses an offer with this answer
abbrev pub RefusesOffer : Plan → ℕ → Answer → WorldHistory → Type 0
RefusesOffer plan p r h =
    (lane : Lane) × (why : Offer) × IsLaneOf plan p lane h × (offer_refusal lane ≡ Some why) × (r ≡ answer.Offered why)

-- after a history, producer p has nothing to store, so its place refuses a push with this answer
abbrev pub RefusesPush : Plan → ℕ → Answer → WorldHistory → Type 0
RefusesPush plan p r h =
    (lane : Lane) × IsLaneOf plan p lane h × (push_store p lane ≡ None) × (r ≡ answer.Pushed push.Idle)

-- after a history, the place of producer p refuses a finish with this answer
abbrev pub RefusesFinish : Plan → ℕ → Answer → WorldHistory → Type 0
RefusesFinish plan p r h =
    (lane : Lane) × (why : Finish) × IsLaneOf plan p lane h × (finish_refusal lane ≡ Some why)
    × (r ≡ answer.Finished why)

-- after a history, the event is refused with this answer: there is no such lane, or else no such consumer, or the
-- place of the lane's producer refuses it
abbrev pub IsRefused : Plan → Event → Answer → WorldHistory → Type 0
IsRefused plan (event.Offer p x) r h = HasNoLane plan p r ⊎ ((p < plan.lanes) × RefusesOffer plan p r h)
IsRefused plan (event.Push p) r h = HasNoLane plan p r ⊎ ((p < plan.lanes) × RefusesPush plan p r h)
IsRefused plan (event.Finish p) r h = HasNoLane plan p r ⊎ ((p < plan.lanes) × RefusesFinish plan p r h)
IsRefused plan (event.Step c p word) r h =
    HasNoLane plan p r ⊎ ((p < plan.lanes) × (consumers_of plan ≤ c) × (r ≡ answer.NoConsumer))

-- ---- the replay of a list of events
-- after a history, the event has this answer: it has this access, which keeps the history lawful, or none and is refused
abbrev pub HasAnswer : Plan → Event → Answer → Option WorldAccess → WorldHistory → Type 0
HasAnswer plan e r None h = IsRefused plan e r h
HasAnswer plan e r (Some a) h = IsAccessOf e a h × AnswerNames plan r a h × IsWorldLawful plan (a ∷ h)

-- after a history, the event is refused, or has an access that keeps the history lawful
abbrev pub IsRefusedOrMade : Plan → Event → WorldHistory → Type 0
IsRefusedOrMade plan e h =
    ((r : Answer) × IsRefused plan e r h) ⊎ ((r : Answer) × (a : WorldAccess) × HasAnswer plan e r (Some a) h)

-- the history with the access, if there is one
abbrev pub with_access : Option WorldAccess → WorldHistory → WorldHistory
with_access None h = h
with_access (Some a) h = a ∷ h

-- after the history `was`, these events, in their order, have these answers and lead to the history `now`
abbrev pub IsReplay : Plan → List Event → List Answer → WorldHistory → WorldHistory → Type 0
IsReplay plan [] [] was now = now ≡ was
IsReplay plan [] (r ∷ rs) was now = ⊥
IsReplay plan (e ∷ es) [] was now = ⊥
IsReplay plan (e ∷ es) (r ∷ rs) was now =
    (a : Option WorldAccess) × HasAnswer plan e r a was × IsReplay plan es rs (with_access a was) now
