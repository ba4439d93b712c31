-- Histories of one object. A history is a list of accesses, the newest first: in `a ∷ older` the accesses of `older`
-- came before a.
use Rattle.std.specs.Prelude.{◌≡◌, ℕ, ◌^◌, ◌<◌, Bool, true, false, ◌==◌, if◌then◌else◌, Option, Some, None, IfSome}
use Rattle.std.specs.Prelude.{List, [], ◌∷◌, ◌⊎◌, map, filter_map}
use Rattle.std.specs.Option.{option_map_or}
use Rattle.mb_deciding.specs.Types.{Reg, Value, Proposal, Quorum, Last, Act, Load, Store, Exchange, Turn, Access}

-- whether two names name one word
abbrev pub is_same_reg : Reg → Reg → Bool
is_same_reg Value Value = true
is_same_reg Proposal Proposal = true
is_same_reg (Quorum i) (Quorum j) = i == j
is_same_reg Value Proposal = false
is_same_reg Value (Quorum j) = false
is_same_reg Proposal Value = false
is_same_reg Proposal (Quorum j) = false
is_same_reg (Quorum i) Value = false
is_same_reg (Quorum i) Proposal = false
is_same_reg Last Last = true
is_same_reg Last Value = false
is_same_reg Last Proposal = false
is_same_reg Last (Quorum j) = false
is_same_reg Value Last = false
is_same_reg Proposal Last = false
is_same_reg (Quorum i) Last = false

-- the word that an act went to
abbrev pub reg_of_act : Act → Reg
reg_of_act (Load reg value) = reg
reg_of_act (Store reg value) = reg
reg_of_act (Exchange reg value found) = reg

-- the value that an act loaded, if it loaded one
abbrev pub loaded_by : Act → Option ℕ
loaded_by (Load reg value) = Some value
loaded_by (Store reg value) = None
loaded_by (Exchange reg value found) = Some found

-- the value that an act stored, if it stored one: an exchange stores if it found 0
abbrev pub stored_by : Act → Option ℕ
stored_by (Load reg value) = None
stored_by (Store reg value) = Some value
stored_by (Exchange reg value found) = if found == 0 then Some value else None

-- ---- memory, by what acts load and store alone
-- what a word holds after an act, if it held n before
abbrev pub value_after : Reg → Act → ℕ → ℕ
value_after reg act n =
    option_map_or (λ value. if is_same_reg (reg_of_act act) reg then value else n) (stored_by act) n

-- what a history leaves in a word: the value of the last store to it, or 0 if there is none
abbrev pub value_in : Reg → List Access → ℕ
value_in reg [] = 0
value_in reg (a ∷ older) = value_after reg a.turn.act (value_in reg older)

-- if the act loads, it found the value that the older accesses left in its word
abbrev pub ReadsLast : Act → List Access → Type 0
ReadsLast act older = IfSome (loaded_by act) (λ value. value ≡ value_in (reg_of_act act) older)

-- each act of a history that loads found the value that the older accesses left in its word
abbrev pub IsMemoryTrue : List Access → Type 0
IsMemoryTrue [] = Unit {0}
IsMemoryTrue (a ∷ older) = ReadsLast a.turn.act older × IsMemoryTrue older

-- ---- acts of one op, and words of 64 bits
-- the acts are of one op: both load one word, or both store one value in one word, or both exchange one word for one
-- value. They can differ only in what they find
abbrev pub IsSameOp : Act → Act → Type 0
IsSameOp (Load reg x) (Load other y) = reg ≡ other
IsSameOp (Load reg x) (Store other y) = ⊥
IsSameOp (Store reg x) (Load other y) = ⊥
IsSameOp (Store reg x) (Store other y) = (reg ≡ other) × (x ≡ y)
IsSameOp (Exchange reg x found) (Exchange other y seen) = (reg ≡ other) × (x ≡ y)
IsSameOp (Exchange reg x found) (Load other y) = ⊥
IsSameOp (Exchange reg x found) (Store other y) = ⊥
IsSameOp (Load reg x) (Exchange other y seen) = ⊥
IsSameOp (Store reg x) (Exchange other y seen) = ⊥

-- what an act loads and stores is below 2 ^ 64
abbrev pub IsActInWords : Act → Type 0
IsActInWords act =
    IfSome (loaded_by act) (λ value. value < 2 ^ 64)
    × IfSome (stored_by act) (λ value. value < 2 ^ 64)

-- what a turn loads and stores, and its random word, are below 2 ^ 64
abbrev pub IsInWords : Turn → Type 0
IsInWords turn = IsActInWords turn.act × (turn.word < 2 ^ 64)

-- what each access of a history loads and stores, and its random word, are below 2 ^ 64
abbrev pub AreInWords : List Access → Type 0
AreInWords [] = Unit {0}
AreInWords (a ∷ older) = IsInWords a.turn × AreInWords older

-- ---- what one process did
-- the turn of the access, if the process made it
abbrev pub turn_by : ℕ → Access → Option Turn
turn_by process a = if a.process == process then Some a.turn else None

-- the part of one process: the turns that it made
abbrev pub part : ℕ → List Access → List Turn
part process h = filter_map (turn_by process) h

-- the acts of turns, without the random words
abbrev pub acts : List Turn → List Act
acts turns = map (λ turn. turn.act) turns

-- the act is in the list
abbrev pub Has : List Act → Act → Type 0
Has [] act = ⊥
Has (b ∷ older) act = (act ≡ b) ⊎ Has older act
