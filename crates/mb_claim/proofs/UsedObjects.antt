-- Each object of a cell by itself: its history is lawful, and each consumer with an access there has one input to it.
use Rattle.std.proofs.Common.{◌≡◌, ◌≢◌, ◌+◌, ◌<◌, ◌≤◌, ℕ, zero, suc, false, Some, List, [], ◌∷◌, ◌++◌, refl, sym, ◌∙◌}
use Rattle.std.proofs.Common.{ap, subst, subst₂, inl, inr, slice_get, arith}
use Rattle.std.proofs.lemmas.Option.{none-some, same_Some}
use Rattle.mb_quorum.specs.Vocabulary.{QuorumTable}
use Rattle.mb_deciding.specs.Vocabulary.{object_of, part, answer, IsPrefix, IsObjectLawful}
use Rattle.mb_claim.specs.{Claims, Access, Kind, ObjectTurn, ClaimAccess, turns_on, Passes, Enters, part_on, part_at}
use Rattle.mb_claim.specs.{object_history, IsClaimLawful, IsUsedWith}
use Rattle.mb_claim.proofs.KindLaws.{OfKind, AreDeciding}
use Rattle.mb_claim.proofs.ObjectHistories.{turns_at}
use Rattle.mb_claim.proofs.Parts.{turns_at-append, turns_at-turns_on}
use Rattle.mb_claim.proofs.Unique.{used_once}
use Rattle.mb_claim.proofs.Family.{Family, step, acted, lawful_here, next}
use Rattle.mb_claim.proofs.PassedObjects.{step_passes}
use Rattle.mb_claim.proofs.CellFamily.{competes, family}

-- ---- the input with which a part comes to an object
-- a part that begins on object o comes to no object before o
comes_from :
    (t : QuorumTable) (ks : List Kind) (o v n w : ℕ) (xs : List ObjectTurn) → Enters t ks o v xs n w → o ≤ n
comes_from t [] o v n w xs q = absurd q
comes_from t (k ∷ ks) o v n w xs (inl x) = omega (arith, x.0)
comes_from t (k ∷ ks) o v n w xs (inr (u, later, x, q)) = omega (arith, comes_from t ks (suc o) u n w later q)

-- an object to which a part comes, m objects after the one on which it begins, has a kind in the row
pub kind_of :
    (t : QuorumTable) (ks : List Kind) (o m v n w : ℕ) (xs : List ObjectTurn) → n ≡ o + m → Enters t ks o v xs n w
    → (kind : Kind) × (slice_get ks m ≡ Some kind)
kind_of t [] o m v n w xs e q = absurd q
kind_of t (k ∷ ks) o zero v n w xs e q = (k, refl)
kind_of t (k ∷ ks) o (suc m) v n w xs e (inl x) = absurd (omega (arith, e, x.0))
kind_of t (k ∷ ks) o (suc m) v n w xs e (inr (u, later, x, q)) =
    kind_of t ks (suc o) m u n w later (omega (arith, e)) q

-- a part comes with its first input to the object on which it begins
pub first_input :
    (t : QuorumTable) (ks : List Kind) (o v n w : ℕ) (xs : List ObjectTurn) → n ≡ o → Enters t ks o v xs n w → v ≡ w
first_input t [] o v n w xs e q = absurd q
first_input t (k ∷ ks) o v n w xs e (inl x) = sym x.1
first_input t (k ∷ ks) o v n w xs e (inr (u, later, x, q)) =
    absurd (omega (arith, e, comes_from t ks (suc o) u n w later q))

module _ (t : QuorumTable) (k : Kind) (ks : List Kind) (o : ℕ) (hs : ℕ → List Access) (P : ℕ → Type 0)
    (fam : Family t (k ∷ ks) o hs P) (law : OfKind t k) (c : ℕ) (l : fam.input c < t.values) where
  -- a consumer that has passed object o has no turn there later
  none_more :
      (u : ℕ) (later : List ObjectTurn) → Passes t k o (fam.input c) (fam.rest c) u later → turns_at o later ≡ []
  none_more u later x =
      used_once t k law (fam.input c) (turns_at o later) x.turns (turns_at o (fam.rest c)) (answer false u) x.path
      (ap (turns_at o) x.all ∙ turns_at-append o later (turns_on o x.turns)
      ∙ ap (λ ts. turns_at o later ++ ts) (turns_at-turns_on o x.turns)) (step t k ks o hs P fam c).here

  -- a consumer that comes from object o to a later object comes there from the next object on, with the same input
  comes_on :
      (n w : ℕ) → o < n → Enters t (k ∷ ks) o (fam.input c) (fam.rest c) n w
      → Enters t ks (suc o) (step t k ks o hs P fam c).value (step t k ks o hs P fam c).rest n w
  comes_on n w after (inl x) = absurd (omega (arith, after, x.0))
  comes_on n w after (inr (u, later, x, q)) =
      let at = step_passes t k ks o hs P fam law c l u later x (none_more u later x) in
      subst₂ (λ v xs. Enters t ks (suc o) v xs n w) (sym at.0) (sym at.1) q

-- ---- each object has a lawful history
-- object n has a lawful history with some inputs. E says of each consumer with an access there that it comes with its
-- input, and with no other
pub record Used (t : QuorumTable) (kind : Kind) (hs : ℕ → List Access) (E : ℕ → ℕ → Type 0) (n : ℕ) : Type 0 where
  pub inputs : ℕ → ℕ
  pub lawful : IsObjectLawful (object_of t kind inputs) (hs n)
  pub enters : (c : ℕ) → part c (hs n) ≢ [] → E c (inputs c)
  pub only : (c w : ℕ) → part c (hs n) ≢ [] → E c w → inputs c ≡ w

-- object m, which is n after o, has a lawful history, if E says exactly with which input each consumer comes to it
used :
    (t : QuorumTable) (hs : ℕ → List Access) → AreDeciding t → (m : ℕ) (E : ℕ → ℕ → Type 0) (kind : Kind)
    (ks : List Kind) (o : ℕ) (P : ℕ → Type 0) (fam : Family t ks o hs P)
    → ((c w : ℕ) → fam.rest c ≢ [] → Enters t ks o (fam.input c) (fam.rest c) m w → E c w)
    → ((c w : ℕ) → fam.rest c ≢ [] → E c w → Enters t ks o (fam.input c) (fam.rest c) m w)
    → (n : ℕ) → m ≡ o + n → slice_get ks n ≡ Some kind → Used t kind hs E m
used t hs law m E kind [] o P fam enter leave n e r = absurd (none-some kind r)
used t hs law m E kind (k ∷ ks) o P fam enter leave zero e r =
    let here : m ≡ o = omega (arith, e) in
    subst₂ (λ j i. Used t j hs E i) (same_Some k kind r) (sym here)
    (record {
      inputs = fam.input;
      lawful = lawful_here t k ks o hs P fam;
      enters = λ c ne. enter c (fam.input c) (acted t k ks o hs P fam c ne) (inl (here, refl));
      only = λ c w ne q. first_input t (k ∷ ks) o (fam.input c) m w (fam.rest c) here
          (leave c w (acted t k ks o hs P fam c ne) q);
    })
used t hs law m E kind (k ∷ ks) o P fam enter leave (suc n) e r =
    used t hs law m E kind ks (suc o) P (next t k ks o hs P fam (law k))
    (λ c w ne q. let came = (step t k ks o hs P fam c).came ne in enter c w came.nonempty (came.enters m w q))
    (λ c w ne q. let came = (step t k ks o hs P fam c).came ne in
    comes_on t k ks o hs P fam (law k) c (fam.holds c came.nonempty).0 m w (omega (arith, e))
    (leave c w came.nonempty q)) n (omega (arith, e)) r

-- ---- the objects of a cell
module _ (cs : Claims) (law : AreDeciding cs.table) (h : List ClaimAccess) (lawful : IsClaimLawful cs h)
    (k o : ℕ) (kind : Kind) (is : slice_get cs.kinds o ≡ Some kind) where
  -- in a lawful history of claims, object o of cell k has a lawful history with the inputs that claim paths give
  object_used :
      Used cs.table kind (λ n. object_history k n h) (λ c w. Enters cs.table cs.kinds 0 c (part_on c k h) o w) o
  object_used =
      used cs.table (λ n. object_history k n h) law o (λ c w. Enters cs.table cs.kinds 0 c (part_on c k h) o w) kind
      cs.kinds 0 (competes cs h k law lawful) (family cs h k law lawful) (λ c w ne q. q) (λ c w ne q. q) o
      (omega arith) is

  -- consumers use object o of cell k with some inputs (`IsUsedWith`)
  pub some_inputs : (inputs : ℕ → ℕ) × IsUsedWith cs k o kind inputs h
  some_inputs = (object_used.inputs, record { is = is; lawful = object_used.lawful; enters = object_used.enters })

  -- a consumer with an access to object o of cell k comes to it with one input
  pub one_input :
      (c u w : ℕ) → part_at c k o h ≢ [] → Enters cs.table cs.kinds 0 c (part_on c k h) o u
      → Enters cs.table cs.kinds 0 c (part_on c k h) o w → u ≡ w
  one_input c u w ne p q = sym (object_used.only c u ne p) ∙ object_used.only c w ne q
