-- Passes and hubs as clauses see them.
use Rattle.std.specs.Prelude.{List, Option, [], ℕ, ◌≡◌}
use Rattle.mb_ring.specs.declared.ring.Hub.{Hub}
use Rattle.mb_ring.specs.declared.ring.Pass.{Pass}
use Rattle.mb_ring.specs.Types.{View}
use Rattle.mb_ring.specs.Moves.{IsCalm, uncounted}

abbrev pub view_in : {T : Type 0} → Pass T → View T
view_in p = p.seat.me.0

abbrev pub hub_view : {T : Type 0} → Hub T → View T
hub_view h = h.seat.me.0

-- the slots that the pass holds, the one taken last in front
abbrev pub held_by : {T : Type 0} → Pass T → List (ℕ × Option T)
held_by p = p.seat.me.1

-- the same pass, later
abbrev pub IsStill : {T : Type 0} → Pass T → Pass T → Type 0
IsStill p q = (q.seat.table_id ≡ p.seat.table_id) × (q.seat.id ≡ p.seat.id)

-- the same pass, with this view and the same slots
abbrev pub Becomes : {T : Type 0} → Pass T → Pass T → View T → Type 0
Becomes p q w = (q.seat.me.0 ≡ w) × (q.seat.me.1 ≡ p.seat.me.1)

-- the same, whatever tokens it gave and took
abbrev pub BecomesUncounted : {T : Type 0} → Pass T → Pass T → View T → Type 0
BecomesUncounted p q w = (uncounted q.seat.me.0 ≡ uncounted w) × (q.seat.me.1 ≡ p.seat.me.1)

-- the pass owes nothing, has nothing begun, holds no slot, and is not in the list
abbrev pub IsFree : {T : Type 0} → Pass T → Type 0
IsFree p = IsCalm p.seat.me.0 × (p.seat.me.1 ≡ [])
