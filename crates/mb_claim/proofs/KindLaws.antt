-- Laws of the objects over a table, whatever the inputs of their processes, and of acts true to memory.
use Rattle.std.proofs.Common.{ℕ, ◌≡◌, List, ◌∷◌}
use Rattle.mb_quorum.specs.Vocabulary.{QuorumTable}
use Rattle.mb_deciding.specs.Vocabulary.{IsSameOp, ReadsLast, IsPrefix, object_of, IsDeciding, IsRatifying}
use Rattle.mb_claim.specs.{Access, Act, Kind, Ratifier, Turn}

-- objects of this kind keep the laws of deciding objects
abbrev pub OfKind : QuorumTable → Kind → Type 0
OfKind t kind = (inputs : ℕ → ℕ) → IsDeciding (object_of t kind inputs)

-- objects of each kind keep the laws of deciding objects
abbrev pub AreDeciding : QuorumTable → Type 0
AreDeciding t = (kind : Kind) → OfKind t kind

-- what a process has done determines its next op
abbrev pub OneOp : QuorumTable → Type 0
OneOp t = (kind : Kind) (v : ℕ) (turns : List Turn) (a b : Turn) → IsPrefix t kind v (a ∷ turns)
    → IsPrefix t kind v (b ∷ turns) → IsSameOp a.act b.act

-- two acts of one op, each true to memory after the same history, are equal
abbrev pub OneAct : Type 0
OneAct = (a b : Act) (h : List Access) → IsSameOp a b → ReadsLast a h → ReadsLast b h → a ≡ b

-- ratifiers keep the laws that hold of ratifiers alone (`IsRatifying`)
abbrev pub AreRatifying : QuorumTable → Type 0
AreRatifying t = (inputs : ℕ → ℕ) → IsRatifying (object_of t Ratifier inputs)
