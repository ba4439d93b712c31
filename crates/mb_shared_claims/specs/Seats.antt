-- What callers see of a table, its hub and its seats, and what always holds of each.
use Rattle.std.specs.Prelude.{ℕ, zero, suc, ◌≡◌, ◌+◌, ◌<◌, ◌≤◌, Option, Some, None, List, [], ◌∷◌, length}
use Rattle.mb_claim.specs.Vocabulary.{Claims, claims_of, part, consumer_count, IsClaimLawful}
use Rattle.mb_shared_claims.specs.Types.{TableId, ClaimAccess, Layout, MAX_LARGE_CELLS, TableSize, View, Issuing, Drawing}
use Rattle.mb_shared_claims.specs.Types.{Standing, Taking, Spent}
use Rattle.mb_shared_claims.specs.Views.{claims_of_size, Roll}
use Rattle.mb_shared_claims.specs.ViewSteps.{Seated, roll_of, part_of}
use Rattle.mb_shared_claims.specs.Rule.{roster}

-- ---- what callers see
-- a table as callers see it: which it is, the objects of each cell, and how many cells there are
pub record TableView : Type 0 where
  pub id : TableId
  pub layout : Layout
  pub cells : ℕ

-- the name of a table, which its hub and all its seats have: which it is, and its size. So two tables with one name
-- have one layout and one number of cells. The table of a hub or a seat always has a size
pub record ClaimTable : Type 0 where
  pub id : TableId
  pub size : Option TableSize

-- the name of this table
abbrev pub name_of : TableView → ClaimTable
name_of t = record { id = t.id; size = Some (record { layout = t.layout; cells = t.cells }) }

-- the claims on the cells of a table of this size, and no claims if there is no size
abbrev pub claims_at_size : Option TableSize → Claims
claims_at_size (Some size) = claims_of_size size
claims_at_size None = claims_of (record { registers = 0; values = 0; write = λ _. 0; read = λ _. 0 }) [] 0

-- the claims on the cells of the table with this name
abbrev pub claims_at : ClaimTable → Claims
claims_at table = claims_at_size table.size

-- a hub as callers see it: of which table it is, and its roll
pub record HubView : Type 0 where
  pub table : ClaimTable
  pub roll : Roll

-- a seat as callers see it: of which table it is, its consumer's number, and all that the consumer did
pub record SeatView : Type 0 where
  pub table : ClaimTable
  pub consumer : ℕ
  pub part : List ClaimAccess

-- how many seats are out, by the roll
abbrev pub count_out : Roll → ℕ
count_out [] = 0
count_out (Some done ∷ rest) = count_out rest
count_out (None ∷ rest) = suc (count_out rest)

-- the part of consumer c that was returned, or an empty part if none was
abbrev pub taken_part : Roll → ℕ → List ClaimAccess
taken_part [] c = []
taken_part (Some done ∷ rest) zero = done
taken_part (None ∷ rest) zero = []
taken_part (x ∷ rest) (suc c) = taken_part rest c

-- the parts of all consumers are those of one lawful history
abbrev pub AreOfOneHistory : Claims → (ℕ → List ClaimAccess) → Type 0
AreOfOneHistory cs parts = (h : List ClaimAccess) × IsClaimLawful cs h × ((c : ℕ) → part c h ≡ parts c)

-- some lawful history has this part of consumer c
abbrev pub IsLawfulPart : Claims → ℕ → List ClaimAccess → Type 0
IsLawfulPart cs c done = (h : List ClaimAccess) × IsClaimLawful cs h × (part c h ≡ done)

-- ---- what always holds of a table, a hub and a seat
-- the size of the table that a view has, if it has one
abbrev pub size_in : View → Option TableSize
size_in (Issuing size roll) = Some size
size_in (Drawing size roll) = Some size
size_in (Standing size own done) = Some size
size_in (Taking size roll own done) = Some size
size_in Spent = None

-- the name of the table of a seat, by its table's identity and its view
abbrev pub table_of : TableId → View → ClaimTable
table_of id v = record { id = id; size = size_in v }

-- a table has at most `MAX_LARGE_CELLS` cells. It has their words, then the roster, no slots, and a rule of its size
pub record IsTable (id : TableId) (key size : TableSize) : Type 0 where
  pub told : key ≡ size
  pub words : id.words ≡ roster size + 1
  pub slots : id.slots ≡ 0
  pub cells : size.cells ≤ MAX_LARGE_CELLS

-- what holds of each hub: its seat has the hub's view, and it counts the numbers issued and the seats that are out
pub record IsHubSeat (me : Seated) (given out : ℕ) : Type 0 where
  pub size : TableSize
  pub is : me ≡ (Issuing size (roll_of me.0), [])
  pub all : given ≡ length (roll_of me.0)
  pub absent : out ≡ count_out (roll_of me.0)

-- what holds of each consumer's seat: its number is one of the layout's, and some lawful history has its part
pub record IsClaimSeat (me : Seated) (consumer : ℕ) : Type 0 where
  pub size : TableSize
  pub is : me ≡ (Standing size consumer (part_of me.0), [])
  pub known : consumer < consumer_count size.layout
  pub lawful : IsLawfulPart (claims_of_size size) consumer (part_of me.0)
