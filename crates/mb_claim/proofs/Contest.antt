-- A claim is undecided only if two different values were announced to each ratifier of its row.
use Rattle.std.proofs.Common.{◌≡◌, ◌≢◌, ◌+◌, ℕ, zero, suc, false, Some, List, [], ◌∷◌, refl, sym, ◌∙◌, ap, subst, inl}
use Rattle.std.proofs.Common.{slice_get, arith}
use Rattle.std.proofs.lemmas.Option.{none-some, same_Some}
use Rattle.mb_quorum.specs.Vocabulary.{QuorumTable, IsMember}
use Rattle.mb_deciding.specs.Vocabulary.{object_of, part, acts, Has, IsObjectLawful, HasOutput, IsAnnounced}
use Rattle.mb_claim.specs.{Access, Store, Kind, Quorum, Ratifier, Undecided, Enters}
use Rattle.mb_claim.proofs.KindLaws.{OfKind, AreDeciding, AreRatifying}
use Rattle.mb_claim.proofs.Turns.{has_turns}
use Rattle.mb_claim.proofs.Family.{Family, step, acted, lawful_here, next, passed}

-- E says that a process comes to object n with input u, and it has stored in a register of u's write quorum
pub record Shown (t : QuorumTable) (hs : ℕ → List Access) (E : ℕ → ℕ → ℕ → Type 0) (n u : ℕ) : Type 0 where
  pub process : ℕ
  pub register : ℕ
  pub enters : E process n u
  pub member : IsMember (t.write u) register
  pub stored : Has (acts (part process (hs n))) (Store (Quorum register) 1)

-- two processes have come to object n with different inputs, and each has announced its input
pub record Contest (t : QuorumTable) (hs : ℕ → List Access) (E : ℕ → ℕ → ℕ → Type 0) (n : ℕ) : Type 0 where
  pub first : ℕ
  pub second : ℕ
  pub apart : first ≢ second
  pub one : Shown t hs E n first
  pub other : Shown t hs E n second
  pub two : one.process ≢ other.process

module _
    (t : QuorumTable) (k : Kind) (ks : List Kind) (o : ℕ) (hs : ℕ → List Access) (P : ℕ → Type 0)
    (fam : Family t (k ∷ ks) o hs P) (law : AreDeciding t) (ratifying : AreRatifying t)
    (E : ℕ → ℕ → ℕ → Type 0) (enter : (c n w : ℕ) → fam.rest c ≢ []
    → Enters t (k ∷ ks) o (fam.input c) (fam.rest c) n w → E c n w) where
  -- if u was announced to object o, some process came there with u and stored in a register of u's write quorum
  abbrev shown : (u : ℕ) → IsAnnounced (object_of t Ratifier fam.input) u (hs o) → Shown t hs E o u
  shown u a =
      record {
        process = a.0;
        register = a.1;
        enters = enter a.0 o u (acted t k ks o hs P fam a.0 (has_turns (part a.0 (hs o)) (Store (Quorum a.1) 1) a.4))
            (inl (refl, sym a.2));
        member = a.3;
        stored = a.4;
      }

  -- if object o is a ratifier with an undecided output, two processes have announced different values to it
  contest_here : k ≡ Ratifier → (c u : ℕ) → HasOutput (object_of t k fam.input) c false u (hs o) → Contest t hs E o
  contest_here e c u out =
      let found =
      (ratifying fam.input).contested (hs o)
      (subst (λ j. IsObjectLawful (object_of t j fam.input) (hs o)) e (lawful_here t k ks o hs P fam)) c u
      (subst (λ j. HasOutput (object_of t j fam.input) c false u (hs o)) e out) in
      let other = found.1 in
      record {
        first = u;
        second = other.0;
        apart = λ q. other.1 (sym q);
        one = shown u found.0;
        other = shown other.0 other.2;
        two = λ q. other.1 (sym other.2.2 ∙ ap fam.input (sym q) ∙ found.0.2);
      }

  -- if consumer c comes from object o + 1 on to object n with input w, E says that it comes there with w
  pub enter_next :
      (law' : OfKind t k) (c n w : ℕ) → (next t k ks o hs P fam law').rest c ≢ []
      → Enters t ks (suc o) ((next t k ks o hs P fam law').input c) ((next t k ks o hs P fam law').rest c) n w
      → E c n w
  enter_next law' c n w ne q =
      let came = (step t k ks o hs P fam c).came ne in enter c n w came.nonempty (came.enters n w q)

-- if a claim is undecided, two different values were announced to each ratifier from object o on
pub contention :
    (t : QuorumTable) (hs : ℕ → List Access) → AreDeciding t → AreRatifying t
    → (E : ℕ → ℕ → ℕ → Type 0) (ks : List Kind) (o : ℕ) (P : ℕ → Type 0) (fam : Family t ks o hs P)
    → ((c n w : ℕ) → fam.rest c ≢ [] → Enters t ks o (fam.input c) (fam.rest c) n w → E c n w)
    → (c n : ℕ) → fam.stage c ≡ Undecided → slice_get ks n ≡ Some Ratifier → Contest t hs E (o + n)
contention t hs law ratifying E [] o P fam enter c n e r = absurd (none-some Ratifier r)
contention t hs law ratifying E (k ∷ ks) o P fam enter c zero e r =
    subst (Contest t hs E) (omega arith)
    (contest_here t k ks o hs P fam law ratifying E enter (same_Some k Ratifier r) c (step t k ks o hs P fam c).value
    (passed t k ks o hs P fam c e).0)
contention t hs law ratifying E (k ∷ ks) o P fam enter c (suc n) e r =
    subst (Contest t hs E) (omega arith)
    (contention t hs law ratifying E ks (suc o) P (next t k ks o hs P fam (law k))
    (enter_next t k ks o hs P fam law ratifying E enter (law k)) c n (passed t k ks o hs P fam c e).1 r)
