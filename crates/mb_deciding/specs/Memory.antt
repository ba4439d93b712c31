-- The words of one object, as a run keeps them.
use Rattle.std.specs.Prelude.{◌≡◌, ℕ, ◌<◌, List, ◌∷◌, slice_index}
use Rattle.mb_deciding.specs.Types.{Reg, Value, Proposal, Quorum, Last, Op, Access, ObjectMemory}
use Rattle.mb_deciding.specs.History.{value_in, IsActInWords}
use Rattle.mb_deciding.specs.Place.{act_of, seen_by}

-- the memory of an object has a word of this name: it has room for 64 registers
abbrev pub IsReg : Reg → Type 0
IsReg Value = Unit {0}
IsReg Proposal = Unit {0}
IsReg (Quorum r) = r < 64
IsReg Last = Unit {0}

-- what the memory holds in the word of this name
abbrev pub held_in : ObjectMemory → Reg → ℕ
held_in words Value = words.value
held_in words Proposal = words.proposal
held_in words (Quorum r) = slice_index words.quorum r
held_in words Last = words.last

-- each word holds what the history leaves in it
abbrev pub IsMemory : ObjectMemory → List Access → Type 0
IsMemory words h = (reg : Reg) → IsReg reg → held_in words reg ≡ value_in reg h

-- The access was made to the words and found this value. If the words held what a history leaves, the value is what the
-- history leaves in the word of a load or an exchange, or 0 for a store. Afterwards the words hold what the history
-- with the access leaves. Values found and stored are below 2 ^ 64
pub record IsAccess (words : ObjectMemory) (op : Op) (seen : ℕ) (after : ObjectMemory) : Type 0 where
  pub memory :
      (h : List Access) → IsMemory words h → (p word : ℕ)
      → IsMemory after (record { process = p; turn = record { act = act_of op seen; word = word } } ∷ h)
  pub found : (h : List Access) → IsMemory words h → seen ≡ seen_by op h
  pub small : IsActInWords (act_of op seen)
