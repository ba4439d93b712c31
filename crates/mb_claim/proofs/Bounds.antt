-- How many accesses a claim makes at most.
use Rattle.std.proofs.Common.{◌≡◌, ◌+◌, ◌≤◌, ℕ, zero, suc, Bool, true, false, List, [], ◌∷◌, ◌++◌, length, ap, inl, inr, suc-mul, arith}
use Rattle.mb_quorum.specs.Vocabulary.{QuorumTable}
use Rattle.mb_deciding.specs.Vocabulary.{largest_quorum, spread}
use Rattle.mb_claim.specs.{Claims, Access, Kind, ObjectTurn, ClaimAccess, Stage, part_on, object_history, IsClaimLawful}
use Rattle.mb_claim.specs.{Shape, pairs_of, fast_row, last_row, row_of, most_on_objects, max_steps, fast_steps, last_steps, shaped_steps}
use Rattle.mb_claim.proofs.KindLaws.{AreDeciding}
use Rattle.mb_claim.proofs.Parts.{Member}
use Rattle.mb_claim.proofs.Family.{Family, step, here, lawful_here, next}
use Rattle.mb_claim.proofs.CellFamily.{competes, family}

-- ---- a claim makes at most the accesses that its objects allow
-- with no object left there is no turn
none_left : (t : QuorumTable) (c o v : ℕ) (xs : List ObjectTurn) (s : Stage) → Member t c [] o v xs s → xs ≡ []
none_left t c o v xs s (inl p) = p.0
none_left t c o v xs s (inr p) = p.0

-- no consumer makes more turns on the objects that are left than they allow
rest_bounded :
    (t : QuorumTable) (hs : ℕ → List Access) → AreDeciding t
    → (ks : List Kind) (o : ℕ) (P : ℕ → Type 0) (fam : Family t ks o hs P) (c : ℕ)
    → length (fam.rest c) ≤ most_on_objects t ks
rest_bounded t hs law [] o P fam c =
    omega (arith, ap length (none_left t c o (fam.input c) (fam.rest c) (fam.stage c) (fam.member c)))
rest_bounded t hs law (k ∷ ks) o P fam c =
    omega (
      arith,
      (step t k ks o hs P fam c).counted,
      ap length (here t k ks o hs P fam c),
      (law k fam.input).bounded (hs o) c (lawful_here t k ks o hs P fam),
      rest_bounded t hs law ks (suc o) P (next t k ks o hs P fam (law k)) c,
    )

-- no claim makes more accesses than its objects allow
pub claim_bounded :
    (cs : Claims) → AreDeciding cs.table → (h : List ClaimAccess) (c k : ℕ) → IsClaimLawful cs h
    → length (part_on c k h) ≤ most_on_objects cs.table cs.kinds
claim_bounded cs law h c k lawful =
    rest_bounded cs.table (λ n. object_history k n h) law cs.kinds 0 (competes cs h k law lawful)
    (family cs h k law lawful) c

-- ---- how many accesses a row of a shape allows
-- n pairs allow `max_steps` accesses: n times as many as one pair
pub pairs_steps : (t : QuorumTable) (n : ℕ) → most_on_objects t (pairs_of (spread t.values) n) ≡ max_steps t n
pairs_steps t zero = omega arith
pairs_steps t (suc n) =
    omega (
      arith,
      pairs_steps t n,
      suc-mul n (spread t.values + 3 + largest_quorum t.write t.values + 2 + largest_quorum t.read t.values),
    )

-- two rows joined allow as many accesses as both together
pub most-append :
    (t : QuorumTable) (xs ys : List Kind)
    → most_on_objects t (xs ++ ys) ≡ most_on_objects t xs + most_on_objects t ys
most-append t [] ys = omega arith
most-append t (kind ∷ xs) ys = omega (arith, most-append t xs ys)

-- a fast path, if there is one, allows `fast_steps` accesses. Without one both numbers are 0
fast_most : (t : QuorumTable) (b : Bool) → most_on_objects t (fast_row b) ≡ fast_steps t b
fast_most t true = omega arith
fast_most t false = omega arith

-- a last object, if there is one, allows `last_steps` accesses. Without one both numbers are 0
last_most : (t : QuorumTable) (b : Bool) → most_on_objects t (last_row b) ≡ last_steps b
last_most t true = omega arith
last_most t false = omega arith

-- a row of any shape allows `shaped_steps` accesses
pub row_steps :
    (t : QuorumTable) (shape : Shape) (n : ℕ)
    → most_on_objects t (row_of shape (spread t.values) n) ≡ shaped_steps t shape n
row_steps t shape n =
    let s = spread t.values in
    omega (
      arith,
      most-append t (fast_row shape.fast) (pairs_of s n ++ last_row shape.last),
      most-append t (pairs_of s n) (last_row shape.last),
      fast_most t shape.fast,
      last_most t shape.last,
      pairs_steps t n,
    )
