-- Accesses of a claim, one after the other, in a memory with a source of random words.
use Rattle.std.specs.Prelude.{ℕ, zero, suc, ◌≡◌, Bool}
use Rattle.mb_claim.specs.ObjectTypes.{Pc}
use Rattle.mb_claim.specs.Types.{Claim, ClaimOp, Going, Layout}
use Rattle.mb_deciding.specs.declared.access.Op.{Op}
use Rattle.mb_claim.specs.OneClaim.{claim_stage, consumer_of, IsClaimStep}

-- the claim with this place on its object, and with this mark whether it is begun
abbrev pub stood_at : Pc → Bool → Claim → Claim
stood_at pc begun claim =
    record { consumer = claim.consumer; object = claim.object; place = pc; stage = claim.stage; begun = begun }

module _ {M : Type 0} where
  -- a random word was drawn, and then an access was made, which found this value
  abbrev pub DrawsAndMakesNext : (M → ℕ → M → Type 0) → (M → ℕ → Op → ℕ → M → Type 0) → M → ℕ → ClaimOp → ℕ → M → Type 0
  DrawsAndMakesNext draws makes before word next seen now =
      (mid : M) × draws before word mid × makes mid next.object next.op seen now

  -- from a claim and a memory, this number of accesses led to the claim that follows, and to the memory `now`. Each is
  -- the next access of a claim that is going, with a random word of its own. The claim keeps its consumer
  abbrev pub AreClaimSteps : Layout → (M → ℕ → ClaimOp → ℕ → M → Type 0) → Claim → M → ℕ → Claim → M → Type 0
  AreClaimSteps layout makes claim start zero follows now = (follows ≡ claim) × (now ≡ start)
  AreClaimSteps layout makes claim start (suc n) follows now =
      (at : Claim) × (before : M) × (word : ℕ) × AreClaimSteps layout makes claim start n at before
      × (claim_stage at ≡ Going) × (consumer_of follows ≡ consumer_of at)
      × IsClaimStep layout at (λ next seen. makes before word next seen now) word follows
