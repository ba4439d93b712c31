-- What one more access adds to a history of claims.
use Rattle.std.proofs.Common.{◌≡◌, ◌≢◌, ◌⊎◌, ℕ, Bool, true, false, cond, eqb, Some, None, List, [], ◌∷◌, refl, sym, ◌∙◌}
use Rattle.std.proofs.Common.{ap₂, subst, subst₂, inl, inr, ⊎_elim}
use Rattle.std.specs.List.{cons_option}
use Rattle.std.proofs.lemmas.Bool.{eq-eqb, eqb-true, cases_eq}
use Rattle.mb_deciding.specs.Vocabulary.{value_in, value_after}
use Rattle.mb_claim.specs.{Claims, Reg, Access, ObjectTurn, ClaimAccess, part_on, object_history}
use Rattle.mb_claim.specs.{IsClaimPart, IsClaimLawful, MayFollow, Adds}

-- an access adds its step to the part of its consumer on its cell
pub own_part : (a : ClaimAccess) (h : List ClaimAccess) → part_on a.consumer a.cell
    (a ∷ h) ≡ a.step ∷ part_on a.consumer a.cell h
own_part a h =
    ap₂ (λ p q. cons_option (cond p (cond q (Some a.step) None) None) (part_on a.consumer a.cell h))
    (eq-eqb a.consumer a.consumer refl) (eq-eqb a.cell a.cell refl)

-- an access of another consumer, or on another cell, adds nothing to a part
other_by :
    (p q : Bool) (x : ObjectTurn) (xs : List ObjectTurn) → (p ≡ true → q ≡ true → ⊥)
    → cons_option (cond p (cond q (Some x) None) None) xs ≡ xs
other_by true true x xs ne = absurd (ne refl refl)
other_by true false x xs ne = refl
other_by false q x xs ne = refl

-- an access leaves every part but its own as it is
pub other_part :
    (c k : ℕ) (a : ClaimAccess) (h : List ClaimAccess) → (a.consumer ≡ c → a.cell ≡ k → ⊥)
    → part_on c k (a ∷ h) ≡ part_on c k h
other_part c k a h ne =
    other_by (eqb a.consumer c) (eqb a.cell k) a.step (part_on c k h)
    (λ p q. ne (eqb-true a.consumer c p) (eqb-true a.cell k q))

-- an access changes what a history leaves in a word only if it is on the word's cell (test q) and object (test r)
held_by :
    (q r : Bool) (x : Access) (reg : Reg) (xs : List Access)
    → value_in reg (cons_option (cond q (cond r (Some x) None) None) xs) ≡ cond q
    (cond r (value_after reg x.turn.act (value_in reg xs)) (value_in reg xs)) (value_in reg xs)
held_by true true x reg xs = refl
held_by true false x reg xs = refl
held_by false r x reg xs = refl

module _ (cs : Claims) (h : List ClaimAccess) (a : ClaimAccess)
    (law : IsClaimLawful cs h) (may : MayFollow cs a h) where
  -- the access is consumer c's on cell k, or it is not
  mine : (c k : ℕ) → ((a.consumer ≡ c) × (a.cell ≡ k)) ⊎ (a.consumer ≡ c → a.cell ≡ k → ⊥)
  mine c k =
      ⊎_elim (λ p. ⊎_elim (λ q. inl (p, q)) (λ q. inr (λ x y. q y)) (cases_eq a.cell k)) (λ p. inr (λ x y. p x))
      (cases_eq a.consumer c)

  -- each part of the longer history with a step belongs to a claim
  part_kept :
      (c k : ℕ) → part_on c k (a ∷ h) ≢ [] → ((a.consumer ≡ c) × (a.cell ≡ k)) ⊎ (a.consumer ≡ c → a.cell ≡ k → ⊥)
      → IsClaimPart cs c k (part_on c k (a ∷ h))
  part_kept c k some (inl p) =
      subst₂ (λ d j. IsClaimPart cs d j (part_on d j (a ∷ h))) p.0 p.1
      (subst (IsClaimPart cs a.consumer a.cell) (sym (own_part a h)) (may.consumer, may.cell, may.prefix))
  part_kept c k some (inr ne) =
      let same = other_part c k a h ne in subst (IsClaimPart cs c k) (sym same) (law.parts c k (λ e. some (same ∙ e)))

  -- an access that may follow adds one step to one part, and changes at most one word
  pub adds : Adds cs a h
  adds =
      record {
        lawful = record {
          memory = (may.reads, law.memory);
          words = (may.words, law.words);
          parts =
              λ c k some. part_kept c k some (mine c k);
        };
        own = own_part a h;
        others = λ c k ne. other_part c k a h ne;
        words = λ k o reg. held_by (eqb a.cell k) (eqb a.step.object o)
            (record { process = a.consumer; turn = a.step.turn }) reg (object_history k o h);
      }
