-- A claim on a row that ends with a last object is never undecided. Conciliators come after the fast path, if any.
use Rattle.std.proofs.Common.{◌≡◌, ◌==◌, ◌≤◌, ℕ, zero, suc, true, Some, List, [], ◌∷◌, ◌++◌, inl, inr}
use Rattle.std.proofs.Common.{sym, ap, ◌∙◌, slice_get, append_assoc, true≢false, arith}
use Rattle.mb_quorum.specs.Vocabulary.{QuorumTable}
use Rattle.mb_claim.specs.{Kind, Conciliator, Ratifier, LastObject, ObjectTurn, Going, Undecided, pairs_of}
use Rattle.mb_claim.specs.{fast_row, last_row, row_of, Shape, IsClaimPrefixFrom}
use Rattle.mb_claim.proofs.Family.{decided_undecided}

-- ---- a row that ends with a last object
-- no prefix of a path through a row that ends with a last object is undecided
pub never_undecided :
    (t : QuorumTable) (c : ℕ) (front : List Kind) (o v : ℕ) (xs : List ObjectTurn)
    → IsClaimPrefixFrom t c (front ++ LastObject ∷ []) o v xs Undecided → ⊥
never_undecided t c [] o v xs (inl goes) = let e : Undecided ≡ Going = goes.is in cc
never_undecided t c [] o v xs (inr (inl decides)) = decided_undecided c decides.value (c == decides.value) decides.is
never_undecided t c [] o v xs (inr (inr (u, later, passes, rest))) = true≢false (sym passes.path.0)
never_undecided t c (kind ∷ front) o v xs (inl goes) = let e : Undecided ≡ Going = goes.is in cc
never_undecided t c (kind ∷ front) o v xs (inr (inl decides)) =
    decided_undecided c decides.value (c == decides.value) decides.is
never_undecided t c (kind ∷ front) o v xs (inr (inr (u, later, passes, rest))) =
    never_undecided t c front (suc o) u later rest

-- the row of a shape with a last object ends with that object
pub ends_with_last :
    (shape : Shape) (s n : ℕ) → shape.last ≡ true
    → row_of shape s n ≡ (fast_row shape.fast ++ pairs_of s n) ++ LastObject ∷ []
ends_with_last shape s n has =
    ap (λ b. fast_row shape.fast ++ (pairs_of s n ++ last_row b)) has
    ∙ sym (append_assoc (fast_row shape.fast) (pairs_of s n) (LastObject ∷ []))

-- ---- a row with a fast path
-- a row with a fast path begins with two ratifiers
pub begins_fast :
    (shape : Shape) (s n : ℕ) → shape.fast ≡ true
    → row_of shape s n ≡ Ratifier ∷ Ratifier ∷ (pairs_of s n ++ last_row shape.last)
begins_fast shape s n has = ap (λ b. fast_row b ++ (pairs_of s n ++ last_row shape.last)) has

-- in a row that begins with two ratifiers each conciliator comes after these
pub conciliator_behind :
    (ks : List Kind) (o s : ℕ) → slice_get (Ratifier ∷ Ratifier ∷ ks) o ≡ Some (Conciliator s) → 2 ≤ o
conciliator_behind ks zero s e = absurd (cc)
conciliator_behind ks (suc zero) s e = absurd (cc)
conciliator_behind ks (suc (suc o)) s e = omega arith
