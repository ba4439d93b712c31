-- What each call of a producer does to a pool, for every history that leaves the old state. Loads leave the pool as it
-- is.
use Rattle.std.specs.Prelude.{IsSome, ℕ, ◌∷◌, ◌≡◌}
use Rattle.mb_cells.specs.Types.{Counter, Finish, Lane, Offer, Producer, Push, Reader, Word}
use Rattle.mb_cells.specs.Memory.{History, part, value_in}
use Rattle.mb_cells.specs.ReaderPath.{MayRead}
use Rattle.mb_cells.specs.Met.{load}
use Rattle.mb_cells.specs.Standing.{IsLaneAfter, finish_answer, finish_refusal, history_after_finish, history_after_offer, history_after_push, offer_answer, offer_refusal, push_answer}
use Rattle.mb_cells.specs.State.{IsAfter, PoolState, cell_count, lane_count}

-- an offer of x by producer p: the answer is the one for this producer's place and the counter. The history with the
-- offer's access, if it makes one, leaves the new state
abbrev pub OfferMeets : PoolState → ℕ → ℕ → Offer → PoolState → Type 0
OfferMeets old p x answer new =
    (h : History) (lane : Lane) → IsAfter h old
    → IsLaneAfter (cell_count old) p lane (part (Producer p) h)
    → (answer ≡ offer_answer (cell_count old) (value_in Counter h) lane)
    × IsAfter (history_after_offer p x (value_in Counter h) lane h) new

-- a push by producer p: the answer is the one for this producer's place. The history with the push's access, if it
-- makes one, leaves the new state
abbrev pub PushMeets : PoolState → ℕ → Push → PoolState → Type 0
PushMeets old p answer new =
    (h : History) (lane : Lane) → IsAfter h old
    → IsLaneAfter (cell_count old) p lane (part (Producer p) h)
    → (answer ≡ push_answer lane) × IsAfter (history_after_push p lane h) new

-- a finish by producer p: the answer is the one for this producer's place. The history with the finish's access, if it
-- makes one, leaves the new state
abbrev pub FinishMeets : PoolState → ℕ → Finish → PoolState → Type 0
FinishMeets old p answer new =
    (h : History) (lane : Lane) → IsAfter h old
    → IsLaneAfter (cell_count old) p lane (part (Producer p) h)
    → (answer ≡ finish_answer lane) × IsAfter (history_after_finish p lane h) new

-- if producer p stands at a place that refuses an offer, the pool stays as it was
abbrev pub OfferKeeps : PoolState → ℕ → PoolState → Type 0
OfferKeeps old p new =
    (h : History) (lane : Lane) → IsAfter h old
    → IsLaneAfter (cell_count old) p lane (part (Producer p) h)
    → IsSome (offer_refusal lane) → new ≡ old

-- if producer p stands at a place that refuses a finish, the pool stays as it was
abbrev pub FinishKeeps : PoolState → ℕ → PoolState → Type 0
FinishKeeps old p new =
    (h : History) (lane : Lane) → IsAfter h old
    → IsLaneAfter (cell_count old) p lane (part (Producer p) h)
    → IsSome (finish_refusal lane) → new ≡ old

-- a load of the word by a reader that may load it leaves the pool as it is
abbrev pub LoadGoesOn : Word → PoolState → Type 0
LoadGoesOn w s =
    (h : History) (r : ℕ) → IsAfter h s → MayRead (lane_count s) w (part (Reader r) h)
    → IsAfter (load r w (value_in w h) ∷ h) s
