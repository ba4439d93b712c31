-- Accesses of one process on one object, one after the other, in a memory with a source of random words.
use Rattle.std.specs.Prelude.{ℕ, zero, suc, ◌≡◌}
use Rattle.mb_quorum.specs.Quorum.{QuorumTable}
use Rattle.mb_deciding.specs.Types.{Op, Pc, Next}
use Rattle.mb_deciding.specs.declared.place.pc.Next.TheVariants as leads
use Rattle.mb_deciding.specs.OneStep.{IsStep}

module _ {M : Type 0} where
  -- a random word was drawn, and then an access to the object was made, which found this value
  abbrev pub DrawsAndMakes : (M → ℕ → M → Type 0) → (M → ℕ → Op → ℕ → M → Type 0) → ℕ → M → ℕ → Op → ℕ → M
      → Type 0
  DrawsAndMakes draws makes object before word op seen now =
      (mid : M) × draws before word mid × makes mid object op seen now

  -- from a place and a memory, this number of accesses led to what follows, and to the memory `now`. Each is the next
  -- access of its place, with a random word of its own
  abbrev pub AreSteps : QuorumTable → (M → ℕ → Op → ℕ → M → Type 0) → Pc → M → ℕ → Next → M → Type 0
  AreSteps t makes pc start zero follows now = (follows ≡ leads.Go pc) × (now ≡ start)
  AreSteps t makes pc start (suc n) follows now =
      (at : Pc) × (before : M) × (word : ℕ) × AreSteps t makes pc start n (leads.Go at) before
      × IsStep t at (λ op seen. makes before word op seen now) word follows
