-- Accesses made one after the other (`AreSteps`): one more, two such lists joined, and a store of an announcement.
use Rattle.std.proofs.Common.{◌≡◌, ◌≢◌, ◌<◌, ◌+◌, ℕ, zero, suc, refl, sym, subst, arith}
use Rattle.mb_quorum.specs.Quorum.{IsQuorumTable, QuorumTable}
use Rattle.mb_deciding.specs.{Quorum, Op, Pc, Next, InRatifier, Announce, IsLeast, IsStep, AreSteps, DrawsAndMakes, acts}
use Rattle.mb_deciding.specs.declared.access.Op.TheVariants as to
use Rattle.mb_deciding.specs.declared.place.pc.Next.TheVariants as leads
use Rattle.mb_deciding.proofs.Advances.{IsTaken, announced_more}
use Rattle.mb_deciding.proofs.OneStep.{ratifier_step}

module _ {M : Type 0} where
  -- if n accesses lead to a place, its next access, with a random word drawn for it, makes them n + 1
  pub one_more :
      (t : QuorumTable) (draws : M → ℕ → M → Type 0) (makes : M → ℕ → Op → ℕ → M → Type 0) (object : ℕ) (pc : Pc)
      (start : M) (n : ℕ) (at : Pc) (before mid now : M) (word : ℕ) (follows : Next)
      → AreSteps t (DrawsAndMakes draws makes object) pc start n (leads.Go at) before
      → draws before word mid → IsStep t at (λ op seen. makes mid object op seen now) word follows
      → AreSteps t (DrawsAndMakes draws makes object) pc start (suc n) follows now
  one_more t draws makes object pc start n at before mid now word follows steps drawn step = (
    at,
    before,
    word,
    steps,
    record {
      op = step.op;
      seen = step.seen;
      is = step.is;
      made = (mid, drawn, step.made);
      reached = step.reached;
    },
  )

  -- if n accesses begin at the place and memory to which m others led, they are n + m from the first place on
  pub joined :
      (t : QuorumTable) (makes : M → ℕ → Op → ℕ → M → Type 0) (pc : Pc) (start : M) (m : ℕ) (between : Pc) (mid : M)
      → AreSteps t makes pc start m (leads.Go between) mid
      → (n : ℕ) (follows : Next) (now : M) → AreSteps t makes between mid n follows now
      → AreSteps t makes pc start (n + m) follows now
  joined t makes pc start m between mid first zero follows now (is, same) =
      let e : m ≡ 0 + m = omega arith in
      subst (λ k. AreSteps t makes pc start k follows now) e
      (subst (λ f. AreSteps t makes pc start m f now) (sym is)
      (subst (λ x. AreSteps t makes pc start m (leads.Go between) x) (sym same) first))
  joined t makes pc start m between mid first (suc n) follows now (at, before, word, older, step) =
      let e : suc (n + m) ≡ suc n + m = omega arith in
      subst (λ k. AreSteps t makes pc start k follows now) e
      (at, before, word, joined t makes pc start m between mid first n (leads.Go at) before older, step)

-- at a place of an announcement, a store of 1 in the least register left is a step to the place without that register
pub announce_step :
    (t : QuorumTable) → IsQuorumTable t → (input left r after seen word : ℕ) (makes : Op → ℕ → Type 0)
    → input < t.values → left ≢ 0 → IsLeast left r → IsTaken left r after → makes (to.Store (Quorum r) 1) seen
    → IsStep t (InRatifier (Announce input left)) makes word (leads.Go (InRatifier (Announce input after)))
announce_step t q input left r after seen word makes within some least taken made =
    ratifier_step t (Announce input left) makes (to.Store (Quorum r) 1) seen word
    (leads.Go (InRatifier (Announce input after))) (refl, least) made
    (λ v turns op w at is can. (
      within,
      announced_more t q v input left r after (acts turns) op seen (subst (λ n. n < t.values) at.1.0 within) at.1 is
          some least taken,
    ))
