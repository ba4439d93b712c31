-- How the steps of a table change the views of its seats, and what they prove.
use Rattle.std.specs.Prelude.{ℕ, ◌≡◌, Some, None, List, [], ◌∷◌, ◌++◌, length, slice_set}
use Rattle.atomic_table.specs.Table.{Me}
use Rattle.mb_claim.specs.Vocabulary.{Claims, part, IsClaimLawful}
use Rattle.mb_shared_claims.specs.Types.{ClaimAccess, View, Issuing, Drawing, Standing, Taking, Spent}
use Rattle.mb_shared_claims.specs.Views.{claims_of_size, Roll, IsOut}

-- a seat with its view. It holds no slots, since the table has none
abbrev pub Seated : Type 0
Seated = Me (Unit {0}) View

-- the roll in the hub's view, and an empty one for any other view
abbrev pub roll_of : View → Roll
roll_of (Issuing size roll) = roll
roll_of (Drawing size roll) = roll
roll_of (Standing size own done) = []
roll_of (Taking size roll own done) = roll
roll_of Spent = []

-- the part in the view of a consumer's seat, and an empty one for any other view
abbrev pub part_of : View → List ClaimAccess
part_of (Standing size own done) = done
part_of _ = []

-- ---- an access of a consumer's seat
-- the view of a consumer's seat with one access more in its part
abbrev pub with_one_more : ClaimAccess → View → View
with_one_more a (Standing size own done) = Standing size own (a ∷ done)
with_one_more a v = v

-- the access, added to some history of all claims in which its consumer had this part, makes a lawful history
abbrev pub ComesAfter : Claims → ClaimAccess → List ClaimAccess → Type 0
ComesAfter cs a done =
    (h : List ClaimAccess) × IsClaimLawful cs (a ∷ h) × (part a.consumer h ≡ done)

-- the access came after a lawful history with the part of the view
abbrev pub ComesAfterView : ClaimAccess → View → Type 0
ComesAfterView a (Standing size own done) = ComesAfter (claims_of_size size) a done
ComesAfterView a v = Unit {0}

-- what an access of a claim proves, be it a load, a store or an exchange: it came after a lawful history with the
-- seat's part, and is then in that part
abbrev pub makes : ClaimAccess → Seated → Seated → Type 0
makes a me now = (now ≡ (with_one_more a me.0, me.1)) × ComesAfterView a me.0

-- ---- how a seat is issued
-- the view of the hub after it has drawn the next number
abbrev pub drawn : View → View
drawn (Issuing size roll) = Drawing size roll
drawn v = v

-- the view of the hub after it has issued that number: its place in the roll is empty
abbrev pub issued : View → View
issued (Drawing size roll) = Issuing size (roll ++ None ∷ [])
issued v = v

-- the view of the seat that gets that number, whose consumer has done nothing
abbrev pub newcomer : View → View
newcomer (Drawing size roll) = Standing size (length roll) []
newcomer v = Spent

-- what the hub's fetch-add proves: it found how many numbers were issued. The hub's view then says that one was drawn
abbrev pub draws : ℕ → Seated → Seated → Type 0
draws found me now = (found ≡ length (roll_of me.0)) × (now ≡ (drawn me.0, me.1))

-- ---- how a seat is returned
-- the view of the hub after a seat was joined to it: the seat's part is beside the roll
abbrev pub took_in : View → View → View
took_in (Issuing size roll) (Standing other own done) = Taking size roll own done
took_in v w = v

-- the view of the hub after that part was put in its place in the roll
abbrev pub settled : View → View
settled (Taking size roll own done) = Issuing size (slice_set roll own (Some done))
settled v = v

-- the seat that is being returned was out
abbrev pub WasOut : View → Type 0
WasOut (Taking size roll own done) = IsOut roll own
WasOut v = Unit {0}

-- what the load after the join proves: the seat was out, and its part is now in the roll
abbrev pub settles : Seated → Seated → Type 0
settles me now = WasOut me.0 × (now ≡ (settled me.0, me.1))
