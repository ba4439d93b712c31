-- Accesses that a process makes from the place of a claim on its object are accesses of the claim.
use Rattle.std.proofs.Common.{◌≡◌, ◌+◌, ◌∙◌, arith, ℕ, zero, suc, Bool, true, List, ◌∷◌, refl, sym, subst, ap}
use Rattle.mb_deciding.specs.declared.access.Op.{Op}
use Rattle.mb_deciding.specs.declared.place.pc.Next.TheVariants as leads
use Rattle.mb_deciding.specs.Vocabulary.{PcIsAt, IsReached, CanFind, IsOpAt}
use Rattle.mb_deciding.specs.OneStep.{IsStep}
use Rattle.mb_deciding.specs.ManySteps.{AreSteps, DrawsAndMakes}
use Rattle.mb_claim.specs.{Kind, Turn, Out, Pc, Claim, ClaimOp, Going, Layout, ObjectTurn, claim_stage, consumer_of, quorums_of, kinds_of}
use Rattle.mb_claim.specs.{IsClaimStep, IsClaimIn, step_of}
use Rattle.mb_claim.specs.ManyClaimSteps.{stood_at, AreClaimSteps, DrawsAndMakesNext}
use Rattle.mb_claim.proofs.ClaimSteps.{PlacesMakeParts, same_object, claim_going}

-- the claim after n accesses on its object, which led to this place
abbrev pub stood_after : ℕ → Pc → Claim → Claim
stood_after zero pc claim = claim
stood_after (suc n) pc claim = stood_at pc true claim

module _ {M : Type 0} (layout : Layout) (parts : PlacesMakeParts (quorums_of layout) (kinds_of layout))
    (draws : M → ℕ → M → Type 0) (makes : M → ℕ → Op → ℕ → M → Type 0) where
  -- an access at the claim's place that leads to another place is a step of the claim, which is then at that place
  goes_on :
      (claim : Claim) → claim_stage claim ≡ Going → (before now : M) (word : ℕ) (follows : Pc)
      → IsStep (quorums_of layout) claim.place
      (λ op seen. DrawsAndMakes draws makes claim.object before word op seen now) word
      (leads.Go follows)
      → IsClaimStep layout claim (λ next seen. DrawsAndMakesNext draws makes before word next seen now) word
      (stood_at follows true claim)
  goes_on claim going before now word follows step =
      let next : ClaimOp = record { object = claim.object; op = step.op } in
      record {
        next = next;
        seen = step.seen;
        is = record { object = refl; op = step.is };
        made = step.made;
        path = λ xs of can.
            let p = of.stands going in
            claim_going (quorums_of layout) (kinds_of layout) (stood_at follows true claim)
            (step_of claim.object step.op step.seen word) xs parts
            of.known going refl
            (same_object (quorums_of layout) (kinds_of layout) claim.consumer claim.object claim.place xs p _ follows
            (step.reached p.kind p.input p.turns p.place can));
      }

  module _ (claim : Claim) (going : claim_stage claim ≡ Going) (start : M) where
    -- after n accesses from its place the claim is at the place to which they led
    pub place_after :
        (n : ℕ) (at : Pc) (before : M)
        → AreSteps (quorums_of layout) (DrawsAndMakes draws makes claim.object) claim.place start n (leads.Go at) before
        → (stood_after n at claim).place ≡ at
    place_after zero at before steps = let is : leads.Go at ≡ leads.Go claim.place = steps.0 in cc
    place_after (suc n) at before steps = refl

    -- after n accesses on its object the claim is going
    pub stage_after : (n : ℕ) (at : Pc) → claim_stage (stood_after n at claim) ≡ Going
    stage_after zero at = going
    stage_after (suc n) at = going

    -- after n accesses on its object the claim is on the same object
    pub object_after : (n : ℕ) (at : Pc) → (stood_after n at claim).object ≡ claim.object
    object_after zero at = refl
    object_after (suc n) at = refl

    -- after n accesses on its object the claim is the same consumer's
    consumer_after : (n : ℕ) (at : Pc) → consumer_of (stood_after n at claim) ≡ consumer_of claim
    consumer_after zero at = refl
    consumer_after (suc n) at = refl

    -- the claim before n accesses and the claim after them are equal once both are put at one place and marked as begun
    moved_after : (n : ℕ) (at follows : Pc) → stood_at follows true (stood_after n at claim)
        ≡ stood_at follows true claim
    moved_after zero at follows = refl
    moved_after (suc n) at follows = refl

    -- accesses from the claim's place that led to a place are accesses of the claim
    pub all_go_on :
        (n : ℕ) (follows : Pc) (now : M)
        → AreSteps (quorums_of layout) (DrawsAndMakes draws makes claim.object) claim.place start n
        (leads.Go follows) now
        → AreClaimSteps layout (DrawsAndMakesNext draws makes) claim start n (stood_after n follows claim) now
    all_go_on zero follows now steps = (refl, steps.1)
    all_go_on (suc n) follows now (at, before, word, older, step) = (
      stood_after n at claim,
      before,
      word,
      all_go_on n at before older,
      stage_after n at,
      sym (consumer_after n at),
      subst (λ c. IsClaimStep layout (stood_after n at claim)
          (λ next seen. DrawsAndMakesNext draws makes before word next seen now) word c)
          (moved_after n at follows)
          (goes_on (stood_after n at claim) (stage_after n at) before now word follows
          (subst (λ o. IsStep (quorums_of layout) (stood_after n at claim).place
          (λ op seen. DrawsAndMakes draws makes o before word op seen now) word
          (leads.Go follows))
          (sym (object_after n at))
          (subst (λ pc. IsStep (quorums_of layout) pc
          (λ op seen. DrawsAndMakes draws makes claim.object before word op seen now) word
          (leads.Go follows))
          (sym (place_after n at before older)) step))),
    )

    -- the claim after n accesses is the first claim but for its place, to which they led, and for whether it is begun
    stands_there :
        (n : ℕ) (at : Pc) (before : M)
        → AreSteps (quorums_of layout) (DrawsAndMakes draws makes claim.object) claim.place start n (leads.Go at) before
        → stood_after n at claim ≡ stood_at at (stood_after n at claim).begun claim
    stands_there zero at before steps =
        ap (λ pc. stood_at pc claim.begun claim) (place_after zero at before steps)
    stands_there (suc n) at before steps = refl

    -- n accesses that led to an output are accesses of the claim, and lead to the claim that goes on with that output
    pub ended_on :
        (n : ℕ) (out : Out) (now : M) (follows : Claim) → consumer_of follows ≡ consumer_of claim
        → AreSteps (quorums_of layout) (DrawsAndMakes draws makes claim.object) claim.place start n (leads.Out out) now
        → ((pc : Pc) (begun : Bool) (xs : List ObjectTurn) (turn : Turn) → IsClaimIn layout (stood_at pc begun claim) xs
        → ((kind : Kind) (v : ℕ) (turns : List Turn) → PcIsAt (quorums_of layout) kind v pc turns
        → IsReached (quorums_of layout) kind v (leads.Out out) (turn ∷ turns))
        → IsClaimIn layout follows (record { object = claim.object; turn = turn } ∷ xs))
        → AreClaimSteps layout (DrawsAndMakesNext draws makes) claim start n follows now
    ended_on zero out now follows own steps path = let no : leads.Out out ≡ leads.Go claim.place = steps.0 in cc
    ended_on (suc n) out now follows own (at, before, word, older, step) path =
        let place : (stood_after n at claim).place ≡ at = place_after n at before older in
        let next : ClaimOp = record { object = claim.object; op = step.op } in (
          stood_after n at claim,
          before,
          word,
          all_go_on n at before older,
          stage_after n at,
          own ∙ sym (consumer_after n at),
          record {
            next = next;
            seen = step.seen;
            is = record {
              object = sym (object_after n at);
              op = subst (λ pc. IsOpAt (quorums_of layout) pc step.op) (sym place) step.is;
            };
            made = step.made;
            path = λ xs of can. path at (stood_after n at claim).begun xs _
                (subst (λ c. IsClaimIn layout c xs) (stands_there n at before older) of)
                (λ kind v turns p. step.reached kind v turns p
                (subst (λ pc. CanFind (quorums_of layout) pc step.op step.seen) place can));
          },
        )

-- ---- accesses of a claim, made one after the other
module _ {M : Type 0} (layout : Layout) (makes : M → ℕ → ClaimOp → ℕ → M → Type 0) (claim : Claim) (start : M) (m : ℕ)
    (between : Claim) (mid : M) (first : AreClaimSteps layout makes claim start m between mid) where
  -- m accesses of a claim, and then n accesses from where these ended, are n + m accesses of the claim
  pub joined :
      (n : ℕ) (follows : Claim) (now : M) → AreClaimSteps layout makes between mid n follows now
      → AreClaimSteps layout makes claim start (n + m) follows now
  joined zero follows now (is, same) =
      let e : m ≡ 0 + m = omega arith in
      subst (λ k. AreClaimSteps layout makes claim start k follows now) e
      (subst (λ c. AreClaimSteps layout makes claim start m c now) (sym is)
      (subst (λ x. AreClaimSteps layout makes claim start m between x) (sym same) first))
  joined (suc n) follows now (at, before, word, older, going, own, step) =
      let e : suc (n + m) ≡ suc n + m = omega arith in
      subst (λ k. AreClaimSteps layout makes claim start k follows now) e
      (at, before, word, joined n at before older, going, own, step)
