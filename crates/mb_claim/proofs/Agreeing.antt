-- All who have won or lost name one winner.
use Rattle.std.proofs.Common.{◌≡◌, ℕ, suc, true, List, [], ◌∷◌, sym, inl, inr, ⊎_elim}
use Rattle.mb_quorum.specs.Vocabulary.{QuorumTable}
use Rattle.mb_deciding.specs.Vocabulary.{object_of, HasOutput}
use Rattle.mb_claim.specs.{Access, Kind, StageNames}
use Rattle.mb_claim.proofs.KindLaws.{AreDeciding}
use Rattle.mb_claim.proofs.Family.{Family, step, ended, lawful_here, output_holds, next, next_decided, none_named}
use Rattle.mb_claim.proofs.Family.{Ended}

-- P, which holds of the inputs of a family, holds of each winner that a stage names
pub winner_holds :
    (t : QuorumTable) (hs : ℕ → List Access) → AreDeciding t
    → (ks : List Kind) (o : ℕ) (P : ℕ → Type 0) (fam : Family t ks o hs P)
    → (c u : ℕ) → StageNames c (fam.stage c) u → P u
winner_holds t hs law [] o P fam c u n =
    absurd (none_named t c o (fam.input c) u (fam.rest c) (fam.stage c) (fam.member c) n)
winner_holds t hs law (k ∷ ks) o P fam c u n =
    ⊎_elim (λ out. (output_holds t k ks o hs P fam (law k) c true u out).1)
    (λ x. winner_holds t hs law ks (suc o) P (next t k ks o hs P fam (law k)) c u x.1) (ended t k ks o hs P fam c u n)

module _ (t : QuorumTable) (k : Kind) (ks : List Kind) (o : ℕ) (hs : ℕ → List Access) (P : ℕ → Type 0)
    (fam : Family t (k ∷ ks) o hs P) (law : AreDeciding t) where
  -- if object o decided u for consumer c, each winner that is named from the next object on is u
  late : (c d u w : ℕ) → HasOutput (object_of t k fam.input) c true u (hs o)
      → StageNames d (step t k ks o hs P fam d).stage w → w ≡ u
  late c d u w p n = winner_holds t hs law ks (suc o) (λ a. a ≡ u) (next_decided t k ks o hs P fam (law k) c u p) d w n

  -- if any two winners that c and d name from the next object on are equal, so are any two from object o on (`Ended`)
  agree_by :
      (c d u w : ℕ) → ((a b : ℕ) → StageNames c (step t k ks o hs P fam c).stage a
      → StageNames d (step t k ks o hs P fam d).stage b → a ≡ b)
      → Ended t k ks o hs P fam c u → Ended t k ks o hs P fam d w → u ≡ w
  agree_by c d u w ih (inl p) (inl q) =
      sym ((law k fam.input).coherence (hs o) (lawful_here t k ks o hs P fam) c d true u w p q)
  agree_by c d u w ih (inl p) (inr q) = sym (late c d u w p q.1)
  agree_by c d u w ih (inr p) (inl q) = late d c w u q p.1
  agree_by c d u w ih (inr p) (inr q) = ih u w p.1 q.1

-- all stages that name a winner name the same one
pub agree :
    (t : QuorumTable) (hs : ℕ → List Access) → AreDeciding t
    → (ks : List Kind) (o : ℕ) (P : ℕ → Type 0) (fam : Family t ks o hs P)
    → (c d u w : ℕ) → StageNames c (fam.stage c) u → StageNames d (fam.stage d) w → u ≡ w
agree t hs law [] o P fam c d u w n m =
    absurd (none_named t c o (fam.input c) u (fam.rest c) (fam.stage c) (fam.member c) n)
agree t hs law (k ∷ ks) o P fam c d u w n m =
    agree_by t k ks o hs P fam law c d u w
    (λ a b x y. agree t hs law ks (suc o) P (next t k ks o hs P fam (law k)) c d a b x y)
    (ended t k ks o hs P fam c u n) (ended t k ks o hs P fam d w m)
