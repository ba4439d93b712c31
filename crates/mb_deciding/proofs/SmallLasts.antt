-- Samples of a last object: which histories are lawful, which turns are a path, and with which outputs.
use Rattle.std.proofs.Common.{◌≡◌, ◌≢◌, ℕ, zero, suc, ◌+◌, ◌<◌, Bool, true, cond, Some, None, List, [], ◌∷◌}
use Rattle.std.proofs.Common.{inl, inr, refl, ap, ◌∙◌, arith}
use Rattle.std.specs.List.{cons_option}
use Rattle.std.proofs.lemmas.Bool.{ne_eqb}
use Rattle.mb_quorum.specs.Unary.{unary_table}
use Rattle.mb_deciding.specs.{Last, Load, Store, Exchange, Access, LastObject, part, IsPath, IsPrefix, answer}
use Rattle.mb_deciding.specs.{IsObjectLawful, small_last, first_decides, found_empty_twice, exchange_by, turn}
use Rattle.mb_deciding.specs.{loaded_then_stored}
use Rattle.mb_deciding.proofs.Lasts.{last_alone, same_value}

-- ---- a history that is lawful
-- an access of another process adds nothing to a part
skipped : (p q found : ℕ) (h : List Access) → q ≢ p → part p (exchange_by q found ∷ h) ≡ part p h
skipped p q found h other =
    ap (λ b. cons_option (cond b (Some (turn 0 (Exchange Last (q + 1) found))) None) (part p h)) (ne_eqb q p other)

-- each process with a turn in `first_decides` has one turn, which is a prefix of a path of its input
first_part : (p : ℕ) → part p first_decides ≢ [] → (p < 3)
    × IsPrefix (unary_table 3) LastObject p (part p first_decides)
first_part zero some = (omega arith, ([], answer true 0, (refl, inl (refl, refl))))
first_part (suc zero) some = (omega arith, ([], answer true 0, (refl, inr refl)))
first_part (suc (suc zero)) some = (omega arith, ([], answer true 0, (refl, inr refl)))
first_part (suc (suc (suc p))) some =
    let x = skipped (suc (suc (suc p))) 2 1 (exchange_by 1 1 ∷ exchange_by 0 0 ∷ []) (λ e. omega (arith, e)) in
    let y = skipped (suc (suc (suc p))) 1 1 (exchange_by 0 0 ∷ []) (λ e. omega (arith, e)) in
    let z = skipped (suc (suc (suc p))) 0 0 [] (λ e. omega (arith, e)) in
    absurd (some (x ∙ y ∙ z))

-- `first_decides`, in which process 0 comes first, is lawful
pub first_lawful : IsObjectLawful small_last first_decides
first_lawful =
    record {
      memory = (refl, (refl, (refl, tt)));
      words = (
        ((omega arith, tt), omega arith),
        (((omega arith, tt), omega arith), (((omega arith, omega arith), omega arith), tt)),
      );
      parts = first_part;
    }

-- ---- a history that is not lawful
-- `found_empty_twice` is not lawful: in a lawful history the second exchange finds the value of the first
pub empty_refused : IsObjectLawful small_last found_empty_twice → ⊥
empty_refused l = let none : ◌≡◌ {A = ℕ} 0 1 = l.memory.0 in absurd (omega (arith, none))

-- ---- turns that are not a prefix of a path
-- a load and then a store are not a prefix of a path, since a path is one exchange
pub torn_refused : IsPrefix (unary_table 3) LastObject 0 loaded_then_stored → ⊥
torn_refused p =
    let x = (last_alone (unary_table 3) 0 (turn 0 (Load Last 0) ∷ []) (turn 0 (Store Last 1)) p).1 in
    let same : Store Last 1 ≡ Exchange Last 1 x.0 = x.1 in cc

-- ---- a whole path and its output
-- if a process with input 1 found the value 0 in the word, its output is that value, decided
pub met_output :
    (d : Bool) (u : ℕ) → IsPath (unary_table 3) LastObject 1 (turn 0 (Exchange Last 2 1) ∷ []) (answer d u)
    → (d ≡ true) × (u ≡ 0)
met_output d u path = (path.0, same_value 1 (turn 0 (Exchange Last 2 1)) u 0 path.1 (inr refl))
