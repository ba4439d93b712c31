-- Known bytes to which pieces of a text were added, one after the other.
use Rattle.std.proofs.Common.{◌≡◌, ◌+◌, ◌-◌, ℕ, List, Option, sym, ◌∙◌, ap, subst, take, drop, length, length-drop}
use Rattle.std.proofs.Math.Seq.{take-add, take-length}
use Rattle.std.specs.Io.KnownBytes.{Appends}
use Rattle.std.proofs.KnownBytes.{Appends-trans}

-- if i bytes of a text are dropped, the first `length t - i` bytes of the rest are all of the rest
pub take-rest : (i : ℕ) (t : List ℕ) → take (length t - i) (drop i t) ≡ drop i t
take-rest i t = ap (λ n. take n (drop i t)) (sym (length-drop i t)) ∙ take-length (drop i t)

-- if the first i bytes of a text were added, and then the next n, the first i + n were added
pub Appends-more : (a b c : Option (List ℕ)) (i n : ℕ) (t : List ℕ) → Appends a b (take i t)
    → Appends b c (take n (drop i t)) → Appends a c (take (i + n) t)
Appends-more a b c i n t p q = subst (Appends a c) (sym (take-add i n t)) (Appends-trans a b c _ _ p q)
