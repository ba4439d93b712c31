-- The paths of one process through a ratifier. Acts are the newest first: what is on the right came first.
use Rattle.std.specs.Prelude.{◌≡◌, ℕ, zero, suc, ◌+◌, ◌<◌, ◌==◌, if◌then◌else◌, Bool, true, false, List, [], ◌∷◌, ◌++◌}
use Rattle.std.specs.Prelude.{◌⊎◌}
use Rattle.std.specs.Int.{bit_at}
use Rattle.mb_quorum.specs.Quorum.{QuorumTable, IsMember}
use Rattle.mb_deciding.specs.Types.{Proposal, Quorum, Act, Load, Store}

-- a list with `act` of each register of the quorum below the bound. The acts of lower registers are older
abbrev pub acts_below : (ℕ → Act) → ℕ → ℕ → List Act
acts_below act zero mask = []
acts_below act (suc r) mask =
    if bit_at mask r == 1 then act r ∷ acts_below act r mask else acts_below act r mask

-- stores of 1 in the registers of the quorum below the bound
abbrev pub stores_below : ℕ → ℕ → List Act
stores_below bound mask = acts_below (λ r. Store (Quorum r) 1) bound mask

-- loads of 0 from the registers of the quorum below the bound
abbrev pub zeros_below : ℕ → ℕ → List Act
zeros_below bound mask = acts_below (λ r. Load (Quorum r) 0) bound mask

-- the acts that announce the value v: stores of 1 in all registers of its write quorum
abbrev pub announcement : QuorumTable → ℕ → List Act
announcement t v = stores_below t.registers (t.write v)

-- by these acts a process with input v announced it and has the preference u: it loaded 0 from the proposal and stored
-- v + 1 there, and u is v, or it loaded u + 1
abbrev pub Prefers : QuorumTable → ℕ → ℕ → List Act → Type 0
Prefers t v u acts =
    ((u ≡ v) × (acts ≡ Store Proposal (v + 1) ∷ Load Proposal 0 ∷ announcement t v))
    ⊎ (acts ≡ Load Proposal (u + 1) ∷ announcement t v)

-- by these acts a process with input v has the preference u, then loaded the registers of u's read quorum below the
-- bound, and found 0 in all
abbrev pub ReadsClear : QuorumTable → ℕ → ℕ → ℕ → List Act → Type 0
ReadsClear t v u bound acts =
    (begin : List Act) × Prefers t v u begin × (acts ≡ zeros_below bound (t.read u) ++ begin)

-- by these acts a process with input v has the preference u. It then loaded 0 from the registers of u's read quorum
-- below one of them, and 1 from that one
abbrev pub ReadsOne : QuorumTable → ℕ → ℕ → List Act → Type 0
ReadsOne t v u [] = ⊥
ReadsOne t v u (act ∷ older) =
    (r : ℕ) × (act ≡ Load (Quorum r) 1) × IsMember (t.read u) r × (r < t.registers)
    × ReadsClear t v u r older

-- the acts are a whole path of input v with the output (decided, u)
abbrev pub IsRatifierPath : QuorumTable → ℕ → List Act → Bool → ℕ → Type 0
IsRatifierPath t v acts true u = ReadsClear t v u t.registers acts
IsRatifierPath t v acts false u = ReadsOne t v u acts
