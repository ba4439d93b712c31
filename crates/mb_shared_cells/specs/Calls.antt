-- What each call of a seat does: the access that the same call of a pool makes, or none if that makes none.
use Rattle.std.specs.Prelude.{None, Option, Some, [], ℕ, ◌∷◌, ◌≡◌}
use Rattle.mb_cells.specs.Vocabulary.{fetch, finish_refusal, lane_after_finish, lane_after_offer}
use Rattle.mb_cells.specs.Vocabulary.{lane_after_push, load, look_of, next_link, offer_by_found}
use Rattle.mb_cells.specs.Vocabulary.{offer_refusal, push_answer, push_store, store, word_of}
use Rattle.mb_cells.specs.declared.access.PoolAccess.{PoolAccess}
use Rattle.mb_cells.specs.declared.access.TheConstants.{END}
use Rattle.mb_cells.specs.declared.access.Word.{Word}
use Rattle.mb_cells.specs.declared.access.Word.TheVariants.{Item}
use Rattle.mb_cells.specs.declared.answer.Finish.{Finish}
use Rattle.mb_cells.specs.declared.answer.Finish.TheVariants as finish
use Rattle.mb_cells.specs.declared.answer.Look.{Look}
use Rattle.mb_cells.specs.declared.answer.Offer.{Offer}
use Rattle.mb_cells.specs.declared.answer.Push.{Push}
use Rattle.mb_cells.specs.declared.answer.Push.TheVariants as push
use Rattle.mb_cells.specs.declared.cursor.Cursor.{Cursor}
use Rattle.mb_cells.specs.declared.lane.Lane.{Lane}
use Rattle.mb_shared_cells.specs.Shown.{LaneSeatView, ReaderSeatView}
use Rattle.mb_shared_cells.specs.Views.{IsAccessAfter}

-- a lane's seat makes the access after its part. The part then has the access, and the producer stands at this place
abbrev pub LaneMakes : PoolAccess → Lane → LaneSeatView → LaneSeatView → Type 0
LaneMakes a place old new =
    IsAccessAfter old.table.size [] a old.part
    × (new ≡ record old { place = place; part = a ∷ old.part })

-- a reader's seat makes the access after its part, which then has the access
abbrev pub ReaderMakes : PoolAccess → ReaderSeatView → ReaderSeatView → Type 0
ReaderMakes a old new =
    IsAccessAfter old.table.size old.known a old.part
    × (new ≡ record old { part = a ∷ old.part })

-- an offer of x. If the producer's place refuses it, it returns that refusal and makes no access. Else it makes a
-- fetch-add, and returns what the number found says (`offer_by_found`)
abbrev pub OfferBy : Option Offer → LaneSeatView → ℕ → Offer → LaneSeatView → Type 0
OfferBy (Some refusal) old x answer new = (answer ≡ refusal) × (new ≡ old)
OfferBy None old x answer new =
    (n : ℕ) × (answer ≡ offer_by_found old.table.size.cells n)
    × LaneMakes (fetch old.lane (record { cell = n; value = x }))
    (lane_after_offer old.table.size.cells x n old.place) old new

-- an offer of x, at the place of the seat's producer
abbrev pub OfferMakes : LaneSeatView → ℕ → Offer → LaneSeatView → Type 0
OfferMakes old x answer new = OfferBy (offer_refusal old.place) old x answer new

-- a push: it makes the store that its producer's place names, or no access if that names none
abbrev pub PushBy : Option (Word × ℕ) → LaneSeatView → Push → LaneSeatView → Type 0
PushBy None old answer new = (answer ≡ push.Idle) × (new ≡ old)
PushBy (Some s) old answer new =
    (answer ≡ push_answer old.place)
    × LaneMakes (store old.lane s.0 s.1) (lane_after_push old.place) old new

-- a push, at the place of the seat's producer
abbrev pub PushMakes : LaneSeatView → Push → LaneSeatView → Type 0
PushMakes old answer new = PushBy (push_store old.lane old.place) old answer new

-- a finish. If the producer's place refuses it, it returns that refusal, without access. Else it stores the end mark
abbrev pub FinishBy : Option Finish → LaneSeatView → Finish → LaneSeatView → Type 0
FinishBy (Some refusal) old answer new = (answer ≡ refusal) × (new ≡ old)
FinishBy None old answer new =
    (answer ≡ finish.Ended)
    × LaneMakes (store old.lane (next_link old.lane old.place) END) (lane_after_finish old.place) old new

-- a finish, at the place of the seat's producer
abbrev pub FinishMakes : LaneSeatView → Finish → LaneSeatView → Type 0
FinishMakes old answer new = FinishBy (finish_refusal old.place) old answer new

-- a look loads the word at the cursor, and returns what the value loaded says (`look_of`)
abbrev pub LookMakes : ReaderSeatView → Cursor → Look → ReaderSeatView → Type 0
LookMakes old at answer new =
    (n : ℕ) × (answer ≡ look_of n) × ReaderMakes (load old.reader (word_of at) n) old new

-- a load of the item of cell k returns the value found
abbrev pub ItemMakes : ReaderSeatView → ℕ → ℕ → ReaderSeatView → Type 0
ItemMakes old k answer new = ReaderMakes (load old.reader (Item k) answer) old new
