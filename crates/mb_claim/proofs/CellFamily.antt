-- The family of all consumers of one cell, from object 0 on, in a lawful history of claims.
use Rattle.std.proofs.Common.{◌≡◌, ◌≢◌, ◌<◌, ◌≤◌, ◌⊎◌, ℕ, List, [], ◌∷◌, refl, sym, subst, inl, inr, arith}
use Rattle.std.proofs.lemmas.Bool.{cases_lt}
use Rattle.mb_quorum.specs.Vocabulary.{QuorumTable}
use Rattle.mb_claim.specs.{Claims, Kind, ClaimAccess, Stage, Going, Undecided, part_on, object_history}
use Rattle.mb_claim.specs.{IsClaimPrefixFrom, IsClaimLawful, HasStage}
use Rattle.mb_claim.proofs.KindLaws.{AreDeciding}
use Rattle.mb_claim.proofs.Lists.{nil_or}
use Rattle.mb_claim.proofs.ObjectHistories.{part-object_history, IsMemoryTrue-object_history, AreInWords-object_history}
use Rattle.mb_claim.proofs.Parts.{Member}
use Rattle.mb_claim.proofs.Unique.{one_stage_lem}
use Rattle.mb_claim.proofs.Family.{Family}

-- the one stage of consumer c on cell k in the history. If the claims have no consumer c, it has no step there
pub record Start (cs : Claims) (h : List ClaimAccess) (k c : ℕ) : Type 0 where
  pub stage : Stage
  pub member : Member cs.table c cs.kinds 0 c (part_on c k h) stage
  pub below : part_on c k h ≢ [] → c < cs.table.values
  pub is : (s : Stage) → HasStage cs c k s h → stage ≡ s

-- a consumer without turns has a stage
pub idle :
    (t : QuorumTable) → AreDeciding t → (kinds : List Kind) (c : ℕ) → c < t.values
    → (s : Stage) × IsClaimPrefixFrom t c kinds 0 c [] s
idle t law [] c l = (Undecided, (refl, refl))
idle t law (k ∷ ks) c l =
    (Going, inl (record { turns = []; all = refl; going = (law k (λ p. p)).opens c l; is = refl }))

module _ (cs : Claims) (h : List ClaimAccess) (k : ℕ) (law : AreDeciding cs.table)
    (lawful : IsClaimLawful cs h) where
  -- a consumer of the claims, whose part is a prefix of a path, has one stage
  begun : (c : ℕ) → c < cs.table.values → (s : Stage) × IsClaimPrefixFrom cs.table c cs.kinds 0 c (part_on c k h) s
      → Start cs h k c
  begun c l p =
      record {
        stage = p.0;
        member = inr p.1;
        below = λ ne. l;
        is =
            λ s q. one_stage_lem cs.table law c cs.kinds 0 c (part_on c k h) p.0 s p.1 q.1;
      }

  -- each number c has one stage. Cases: whether it has a step, and whether it is below the number of consumers
  start_by : (c : ℕ) → (part_on c k h ≡ []) ⊎ (part_on c k h ≢ []) → (c < cs.table.values) ⊎ (cs.table.values ≤ c)
      → Start cs h k c
  start_by c (inr ne) below = let p = lawful.parts c k ne in begun c p.0 p.2
  start_by c (inl e) (inl l) =
      let p = idle cs.table law cs.kinds c l in
      begun c l (p.0, subst (λ xs. IsClaimPrefixFrom cs.table c cs.kinds 0 c xs p.0) (sym e) p.1)
  start_by c (inl e) (inr l) =
      record {
        stage = Going;
        member = inl (e, refl);
        below = λ ne. absurd (ne e);
        is = λ s q. let m = q.0 in
            absurd (omega arith);
      }

  -- each number c has one stage, also if it is no consumer's
  pub start : (c : ℕ) → Start cs h k c
  start c = start_by c (nil_or (part_on c k h)) (cases_lt c cs.table.values)

  -- consumer c has an access to this cell
  abbrev pub competes : ℕ → Type 0
  competes c = part_on c k h ≢ []

  -- the family of all consumers from object 0 on: each comes there with its own number
  abbrev pub family : Family cs.table cs.kinds 0 (λ o. object_history k o h) competes
  family =
      record {
        input = λ c. c;
        rest = λ c. part_on c k h;
        stage = λ c. (start c).stage;
        member = λ c. (start c).member;
        holds = λ c ne. ((start c).below ne, ne);
        turns = λ c n l. part-object_history c k n h;
        memory = λ n. IsMemoryTrue-object_history k n h lawful.memory;
        words = λ n. AreInWords-object_history k n h lawful.words;
      }
