-- A history of claims, cut down to one object of one cell.
use Rattle.std.proofs.Common.{◌≡◌, ℕ, Bool, true, false, cond, eqb, Option, Some, None, List, refl, sym, ◌∙◌, subst₂}
use Rattle.std.proofs.Common.{[], ◌∷◌, filter_map, option_and_then}
use Rattle.std.specs.List.{cons_option}
use Rattle.std.proofs.lemmas.Bool.{eqb-true}
use Rattle.mb_deciding.specs.Vocabulary.{ReadsLast, IsMemoryTrue as IsObjectMemoryTrue, turn_by, part, IsInWords}
use Rattle.mb_deciding.specs.Vocabulary.{AreInWords as AreObjectInWords}
use Rattle.mb_claim.specs.{Turn, Access, ObjectTurn, ClaimAccess, step_by, part_on, access_on, object_history}
use Rattle.mb_claim.specs.{IsMemoryTrue, AreInWords}
use Rattle.mb_claim.proofs.Lists.{filter_map-filter_map, filter_map_agree}

-- the turn of a step, if it went to object o
abbrev pub turn_at : ℕ → ObjectTurn → Option Turn
turn_at o x = cond (eqb x.object o) (Some x.turn) None

-- the turns of a part that went to object o
abbrev pub turns_at : ℕ → List ObjectTurn → List Turn
turns_at o xs = filter_map (turn_at o) xs

-- picking by the cell and the object, and then by the process, is picking by the process and the cell, and then by
-- the object
two_picks :
    {B C D : Type 0} (q r p : Bool) (x : B) (y : C) (z : D) (g : B → Option D) (g' : C → Option D)
    → g x ≡ cond p (Some z) None → g' y ≡ cond r (Some z) None
    → option_and_then g (cond q (cond r (Some x) None) None) ≡ option_and_then g' (cond p (cond q (Some y) None) None)
two_picks true true true x y z g g' e f = e ∙ sym f
two_picks true true false x y z g g' e f = e
two_picks true false true x y z g g' e f = sym f
two_picks true false false x y z g g' e f = refl
two_picks false true true x y z g g' e f = refl
two_picks false true false x y z g g' e f = refl
two_picks false false true x y z g g' e f = refl
two_picks false false false x y z g g' e f = refl

-- consumer c's turns in the history of object o of cell k are the turns on o in its part on the cell
pub part-object_history :
    (c k o : ℕ) (h : List ClaimAccess) → part c (object_history k o h) ≡ turns_at o (part_on c k h)
part-object_history c k o h =
    filter_map-filter_map (turn_by c) (access_on k o) h
    ∙ filter_map_agree (λ a. option_and_then (turn_by c) (access_on k o a))
    (λ a. option_and_then (turn_at o) (step_by c k a))
    (λ a. two_picks (eqb a.cell k) (eqb a.step.object o) (eqb a.consumer c)
    (record { process = a.consumer; turn = a.step.turn }) a.step a.step.turn (turn_by c) (turn_at o) refl refl) h
    ∙ sym (filter_map-filter_map (turn_at o) (step_by c k) h)

-- an access true to memory keeps the history of object o true to memory. Cases: whether it is on this cell and object
cut_by :
    (k o : ℕ) (a : ClaimAccess) (h : List ClaimAccess) (q r : Bool) → eqb a.cell k ≡ q → eqb a.step.object o ≡ r
    → ReadsLast a.step.turn.act (object_history a.cell a.step.object h) → IsObjectMemoryTrue (object_history k o h)
    → IsObjectMemoryTrue (cons_option
    (cond q (cond r (Some (record { process = a.consumer; turn = a.step.turn })) None) None) (object_history k o h))
cut_by k o a h true true e f reads older = (
  subst₂ (λ i j. ReadsLast a.step.turn.act (object_history i j h)) (eqb-true a.cell k e)
      (eqb-true a.step.object o f) reads,
  older,
)
cut_by k o a h true false e f reads older = older
cut_by k o a h false r e f reads older = older

-- if a history is true to memory, so is the history of each object
pub IsMemoryTrue-object_history :
    (k o : ℕ) (h : List ClaimAccess) → IsMemoryTrue h → IsObjectMemoryTrue (object_history k o h)
IsMemoryTrue-object_history k o [] m = tt
IsMemoryTrue-object_history k o (a ∷ h) m =
    cut_by k o a h (eqb a.cell k) (eqb a.step.object o) refl refl m.0 (IsMemoryTrue-object_history k o h m.1)

-- if an access and an object's history have values and random words below 2 ^ 64, so has the history with the access
words_by :
    (a : ClaimAccess) (xs : List Access) (q r : Bool) → IsInWords a.step.turn → AreObjectInWords xs
    → AreObjectInWords (cons_option
    (cond q (cond r (Some (record { process = a.consumer; turn = a.step.turn })) None) None) xs)
words_by a xs true true w older = (w, older)
words_by a xs true false w older = older
words_by a xs false r w older = older

-- if the values and random words of a history are below 2 ^ 64, so are those of each object's history
pub AreInWords-object_history :
    (k o : ℕ) (h : List ClaimAccess) → AreInWords h → AreObjectInWords (object_history k o h)
AreInWords-object_history k o [] w = tt
AreInWords-object_history k o (a ∷ h) w =
    words_by a (object_history k o h) (eqb a.cell k) (eqb a.step.object o) w.0 (AreInWords-object_history k o h w.1)
