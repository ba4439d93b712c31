-- The first reason to refuse a schedule for a number of values that is in range.
use Rattle.std.proofs.Common.{◌≡◌, ◌≤◌, ℕ, List, length, Option, Some, None, refl, sym, ap, ◌∙◌}
use Rattle.std.specs.Option.{option_map_or}
use Rattle.std.proofs.lemmas.Bool.{cond_above}
use Rattle.mb_quorum.specs.declared.values.TheConstants.{MAX_VALUES}
use Rattle.mb_deciding.specs.{BadValues, BadInput, NoSuchProcess, first_from, refusal_in, refusal_of}

-- if the number of values is in range, the first reason to refuse is that of inputs and processes alone (`refusal_in`)
pub refusal_in-of :
    (m v : ℕ) (inputs processes others : List ℕ) → 1 ≤ m → m ≤ MAX_VALUES → v ≡ m → others ≡ processes
    → refusal_in v inputs others ≡ refusal_of m inputs processes
refusal_in-of m v inputs processes others least most same own =
    ap (λ n. refusal_in n inputs others) same ∙ (ap (λ xs. refusal_in m inputs xs) own
    ∙ (cond_above MAX_VALUES m (Some BadValues) (refusal_in m inputs processes)
    (refusal_in m inputs processes) most refl
    ∙ cond_above m 1 (Some BadValues) _ _ least refl))

-- x may be the position of a bad input, y that of an unknown process. If neither is a reason to refuse, both are none
none_of :
    (x y : Option ℕ)
    → option_map_or (λ i. Some (BadInput i)) x (option_map_or (λ i. Some (NoSuchProcess i)) y None) ≡ None
    → (None ≡ x) × (None ≡ y)
none_of None None e = (refl, refl)
none_of None (Some j) e = absurd (let f : Some (NoSuchProcess j) ≡ None = e in cc)
none_of (Some i) y e = absurd (let f : Some (BadInput i) ≡ None = e in cc)

-- if there is no reason to refuse, no input and no process is out of range
pub none_first :
    (m : ℕ) (inputs processes : List ℕ) → None ≡ refusal_in m inputs processes
    → (None ≡ first_from m inputs) × (None ≡ first_from (length inputs) processes)
none_first m inputs processes e = none_of (first_from m inputs) (first_from (length inputs) processes) (sym e)
