-- The rows of objects: which objects a cell has, how many words these have, and where the words lie.
use Rattle.std.specs.Prelude.{ℕ, zero, suc, ◌≡◌, ◌+◌, ◌*◌, Bool, true, false, List, [], ◌∷◌, ◌++◌, length, slice_get, Some}
use Rattle.mb_deciding.specs.Vocabulary.{HasReg}
use Rattle.mb_claim.specs.ObjectTypes.{Reg, Value, Proposal, Quorum, Last, Kind, Conciliator, Ratifier, LastObject}
use Rattle.mb_claim.specs.declared.shape.Shape.{Shape}

-- ---- the objects of a cell
-- n pairs of a conciliator and a ratifier
abbrev pub pairs_of : ℕ → ℕ → List Kind
pairs_of s zero = []
pairs_of s (suc n) = Conciliator s ∷ Ratifier ∷ pairs_of s n

-- the objects before the pairs: two ratifiers, if there is a fast path
abbrev pub fast_row : Bool → List Kind
fast_row true = Ratifier ∷ Ratifier ∷ []
fast_row false = []

-- the objects after the pairs: the last object, if there is one
abbrev pub last_row : Bool → List Kind
last_row true = LastObject ∷ []
last_row false = []

-- the objects of a cell of this shape: the fast path if it has one, n pairs, and the last object if it has one
abbrev pub row_of : Shape → ℕ → ℕ → List Kind
row_of shape s n = fast_row shape.fast ++ (pairs_of s n ++ last_row shape.last)

-- the shape with pairs alone
abbrev pub plain : Shape
plain = record { fast = false; last = false }

-- the shape with a last object, and without a fast path
abbrev pub with_last : Shape
with_last = record { fast = false; last = true }

-- ---- the words of a cell: how many, and where
-- how many words an object has, with r quorum registers
abbrev pub width : ℕ → Kind → ℕ
width r (Conciliator s) = 1
width r Ratifier = 1 + r
width r LastObject = 1

-- where a word lies within its object
abbrev pub offset : Reg → ℕ
offset Value = 0
offset Proposal = 0
offset (Quorum i) = 1 + i
offset Last = 0

-- how many words the objects before object o have
abbrev pub words_before : ℕ → List Kind → ℕ → ℕ
words_before r [] o = 0
words_before r (kind ∷ kinds) zero = 0
words_before r (kind ∷ kinds) (suc o) = width r kind + words_before r kinds o

-- how many words a cell with these objects has
abbrev pub row_words : ℕ → List Kind → ℕ
row_words r [] = 0
row_words r (kind ∷ kinds) = width r kind + row_words r kinds

-- how many words a row of this shape has. On the fast path each ratifier has its proposal and registers. Then come the
-- words of n pairs, and the word of the last object, if there is one
abbrev pub shaped_words : ℕ → Shape → ℕ → ℕ
shaped_words r shape n =
    length (fast_row shape.fast) * (1 + r) + n * (2 + r) + length (last_row shape.last)

-- the address of a word of object o of cell k, if each cell has these kinds and r quorum registers
abbrev pub address_of : ℕ → List Kind → ℕ → ℕ → Reg → ℕ
address_of r kinds k o reg = k * row_words r kinds + (words_before r kinds o + offset reg)

-- the row has an object o, and that object has this word
abbrev pub IsWordOf : ℕ → List Kind → ℕ → Reg → Type 0
IsWordOf r kinds o reg = (kind : Kind) × (slice_get kinds o ≡ Some kind) × HasReg r kind reg
