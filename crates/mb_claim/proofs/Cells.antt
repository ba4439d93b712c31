-- A history cut down to one cell.
use Rattle.std.proofs.Common.{◌≡◌, ◌≢◌, ◌⊎◌, ℕ, Bool, true, false, cond, eqb, Option, Some, None, List, [], ◌∷◌, refl}
use Rattle.std.proofs.Common.{sym, ◌∙◌, ap, subst, inl, inr, filter_map, option_and_then}
use Rattle.std.specs.List.{cons_option}
use Rattle.std.proofs.lemmas.Bool.{ne_eqb, eqb-true, cases_eq}
use Rattle.mb_deciding.specs.Vocabulary.{ReadsLast, IsInWords}
use Rattle.mb_claim.specs.{Claims, ClaimAccess, step_by, part_on, access_on, object_history}
use Rattle.mb_claim.specs.{IsMemoryTrue, AreInWords, on_cell, IsClaimPart, IsClaimLawful}
use Rattle.mb_claim.proofs.Lists.{filter_map-filter_map, filter_map_agree}

-- ---- picking after a test
-- if g picks nothing from an access that fails test b, g picks the same after the test as without it
picks :
    {B : Type 0} (g : ClaimAccess → Option B) (b : Bool) (a : ClaimAccess) → (b ≡ false → g a ≡ None)
    → option_and_then g (cond b (Some a) None) ≡ g a
picks g true a none = refl
picks g false a none = sym (none refl)

-- if g picks nothing from an access that passes test b, g picks nothing after the test
drops :
    {B : Type 0} (g : ClaimAccess → Option B) (b : Bool) (a : ClaimAccess) → (b ≡ true → g a ≡ None)
    → option_and_then g (cond b (Some a) None) ≡ None
drops g true a none = none refl
drops g false a none = refl

-- if each element gives nothing, nothing is picked
none_picked : {A B : Type 0} (h : List A) → filter_map {X = A} {Y = B} (λ a. None) h ≡ []
none_picked [] = refl
none_picked (a ∷ h) = none_picked h

-- picking by two tests gives nothing, if the second fails
cond_none : {B : Type 0} (p q : Bool) (x : B) → q ≡ false → cond p (cond q (Some x) None) None ≡ None
cond_none true q x e = ap (λ b. cond b (Some x) None) e
cond_none false q x e = refl

-- ---- what a history cut down to one cell keeps
-- a history cut down to cell k keeps each part on that cell
pub kept : (c k : ℕ) (h : List ClaimAccess) → part_on c k (on_cell k h) ≡ part_on c k h
kept c k h =
    filter_map-filter_map (step_by c k) (λ (a : ClaimAccess). cond (eqb a.cell k) (Some a) None) h
    ∙ filter_map_agree (λ (a : ClaimAccess). option_and_then (step_by c k) (cond (eqb a.cell k) (Some a) None))
    (step_by c k)
    (λ a. picks (step_by c k) (eqb a.cell k) a (λ e. cond_none (eqb a.consumer c) (eqb a.cell k) a.step e)) h

-- in a history cut down to cell k each part on another cell is empty
pub gone : (c k j : ℕ) (h : List ClaimAccess) → (j ≡ k → ⊥) → part_on c j (on_cell k h) ≡ []
gone c k j h ne =
    filter_map-filter_map (step_by c j) (λ (a : ClaimAccess). cond (eqb a.cell k) (Some a) None) h
    ∙ filter_map_agree (λ (a : ClaimAccess). option_and_then (step_by c j) (cond (eqb a.cell k) (Some a) None))
    (λ a. None)
    (λ a. drops (step_by c j) (eqb a.cell k) a
    (λ e. cond_none (eqb a.consumer c) (eqb a.cell j) a.step
    (ne_eqb a.cell j (λ f. ne (sym f ∙ eqb-true a.cell k e))))) h
    ∙ none_picked h

-- a history cut down to cell k keeps the history of each object of that cell
pub object_kept : (k o : ℕ) (h : List ClaimAccess) → object_history k o (on_cell k h) ≡ object_history k o h
object_kept k o h =
    filter_map-filter_map (access_on k o) (λ (a : ClaimAccess). cond (eqb a.cell k) (Some a) None) h
    ∙ filter_map_agree (λ (a : ClaimAccess). option_and_then (access_on k o) (cond (eqb a.cell k) (Some a) None))
    (access_on k o)
    (λ a. picks (access_on k o) (eqb a.cell k) a
    (λ e. ap (λ b. cond b (cond (eqb a.step.object o)
    (Some (record { process = a.consumer; turn = a.step.turn })) None) None) e)) h

-- ---- the cut history is lawful
-- an access true to memory keeps the cut history true to memory. Cases: whether it is on cell k
memory_by :
    (k : ℕ) (a : ClaimAccess) (h : List ClaimAccess) (q : Bool) → eqb a.cell k ≡ q
    → ReadsLast a.step.turn.act (object_history a.cell a.step.object h) → IsMemoryTrue (on_cell k h)
    → IsMemoryTrue (cons_option (cond q (Some a) None) (on_cell k h))
memory_by k a h true e reads older =
    let cell : a.cell ≡ k = eqb-true a.cell k e in (
      subst (λ j. ReadsLast a.step.turn.act (object_history j a.step.object (on_cell k h))) (sym cell)
          (subst (λ xs. ReadsLast a.step.turn.act xs) (sym (object_kept k a.step.object h))
          (subst (λ j. ReadsLast a.step.turn.act (object_history j a.step.object h)) cell reads)),
      older,
    )
memory_by k a h false e reads older = older

-- if a history is true to memory, so is the cut history
memory_cut : (k : ℕ) (h : List ClaimAccess) → IsMemoryTrue h → IsMemoryTrue (on_cell k h)
memory_cut k [] m = tt
memory_cut k (a ∷ h) m = memory_by k a h (eqb a.cell k) refl m.0 (memory_cut k h m.1)

-- if an access and a history have values and random words below 2 ^ 64, so has the history with the access, if kept
words_by :
    (a : ClaimAccess) (xs : List ClaimAccess) (q : Bool) → IsInWords a.step.turn → AreInWords xs
    → AreInWords (cons_option (cond q (Some a) None) xs)
words_by a xs true w older = (w, older)
words_by a xs false w older = older

-- if a history has values and random words below 2 ^ 64, so has the cut history
words_cut : (k : ℕ) (h : List ClaimAccess) → AreInWords h → AreInWords (on_cell k h)
words_cut k [] w = tt
words_cut k (a ∷ h) w = words_by a (on_cell k h) (eqb a.cell k) w.0 (words_cut k h w.1)

module _ (cs : Claims) (h : List ClaimAccess) (k : ℕ)
    (lawful : IsClaimLawful cs h) where
  -- each part of the cut history with a step belongs to a claim
  part_cut :
      (c j : ℕ) → part_on c j (on_cell k h) ≢ [] → (j ≡ k) ⊎ (j ≡ k → ⊥)
      → IsClaimPart cs c j (part_on c j (on_cell k h))
  part_cut c j some (inl e) =
      let same : part_on c j (on_cell k h) ≡ part_on c j h =
      subst (λ i. part_on c i (on_cell k h) ≡ part_on c i h) (sym e) (kept c k h) in
      subst (IsClaimPart cs c j) (sym same) (lawful.parts c j (λ none. some (same ∙ none)))
  part_cut c j some (inr ne) = absurd (some (gone c k j h ne))

  -- the cut history is lawful
  pub cut_lawful : IsClaimLawful cs (on_cell k h)
  cut_lawful =
      record {
        memory = memory_cut k h lawful.memory;
        words = words_cut k h lawful.words;
        parts =
            λ c j some. part_cut c j some (cases_eq j k);
      }
