-- The conciliators of a layout: after each comes a ratifier, and its last attempt is at most 7.
use Rattle.std.proofs.Common.{◌≡◌, ◌≤◌, ℕ, zero, suc, Bool, true, false, Some, List, ◌++◌, slice_get, refl, arith}
use Rattle.std.proofs.lemmas.Option.{none-some, same_Some}
use Rattle.mb_quorum.specs.Width.{width_of}
use Rattle.mb_quorum.specs.WidthLaw.{width_is_least}
use Rattle.mb_deciding.specs.Vocabulary.{spread}
use Rattle.mb_claim.specs.{Kind, Conciliator, Ratifier, LastObject, Layout, pairs_of, fast_row, last_row, quorums_of, kinds_of}
use Rattle.mb_claim.proofs.LayoutObjects.{quorums_lawful}

-- a conciliator at position o of these objects, with last attempt k: k is s, and the next object is a ratifier
abbrev IsPaired : ℕ → ℕ → ℕ → List Kind → Type 0
IsPaired s k o kinds = (k ≡ s) × (slice_get kinds (suc o) ≡ Some Ratifier)

-- a conciliator has one last attempt
same_attempt : (s k : ℕ) → Conciliator s ≡ Conciliator k → k ≡ s
same_attempt s k e = cc

-- a ratifier is no conciliator
no_ratifier : (k : ℕ) → Ratifier ≡ Conciliator k → ⊥
no_ratifier k e = cc

-- a last object is no conciliator
no_last_object : (k : ℕ) → LastObject ≡ Conciliator k → ⊥
no_last_object k e = cc

-- no conciliator comes after the pairs
none_after : (b : Bool) (o k : ℕ) → slice_get (last_row b) o ≡ Some (Conciliator k) → ⊥
none_after true zero k e = no_last_object k (same_Some LastObject (Conciliator k) e)
none_after true (suc o) k e = none-some (Conciliator k) e
none_after false o k e = none-some (Conciliator k) e

-- each conciliator among pairs and perhaps a last object has last attempt s, and a ratifier comes next
paired_in : (s n o k : ℕ) (b : Bool) → slice_get (pairs_of s n ++ last_row b) o ≡ Some (Conciliator k)
    → IsPaired s k o (pairs_of s n ++ last_row b)
paired_in s zero o k b e = absurd (none_after b o k e)
paired_in s (suc n) zero k b e = (same_attempt s k (same_Some (Conciliator s) (Conciliator k) e), refl)
paired_in s (suc n) (suc zero) k b e = absurd (no_ratifier k (same_Some Ratifier (Conciliator k) e))
paired_in s (suc n) (suc (suc o)) k b e = paired_in s n o k b e

-- with or without a fast path before the pairs, each conciliator has last attempt s, and a ratifier comes next
paired_behind : (f : Bool) (s n o k : ℕ) (b : Bool)
    → slice_get (fast_row f ++ (pairs_of s n ++ last_row b)) o ≡ Some (Conciliator k)
    → IsPaired s k o (fast_row f ++ (pairs_of s n ++ last_row b))
paired_behind true s n zero k b e = absurd (no_ratifier k (same_Some Ratifier (Conciliator k) e))
paired_behind true s n (suc zero) k b e = absurd (no_ratifier k (same_Some Ratifier (Conciliator k) e))
paired_behind true s n (suc (suc o)) k b e = paired_in s n o k b e
paired_behind false s n o k b e = paired_in s n o k b e

-- after a conciliator of a layout comes a ratifier
pub next_of_conciliator : (layout : Layout) (o k : ℕ) → slice_get (kinds_of layout) o ≡ Some (Conciliator k)
    → slice_get (kinds_of layout) (suc o) ≡ Some Ratifier
next_of_conciliator layout o k e =
    (paired_behind layout.shape.fast (spread (quorums_of layout).values) layout.pairs o k layout.shape.last e).1

-- the last attempt of a conciliator of a layout is at most 7
pub last_attempt_few : (layout : Layout) (o k : ℕ) → slice_get (kinds_of layout) o ≡ Some (Conciliator k) → k ≤ 7
last_attempt_few layout o k e =
    let m = (quorums_of layout).values in
    let same = (paired_behind layout.shape.fast (spread m) layout.pairs o k layout.shape.last e).0 in
    let quorum = quorums_lawful layout in
    let narrow : width_of m ≤ 6 = (width_is_least m).least 6 (omega (arith, quorum.few)) in
    omega (arith, narrow, same)
