-- In every lawful history, all claims on a cell that are won or lost name one winner. Also when a claim is undecided.
use Rattle.std.proofs.Common.{suc, Bool, true, false, cond, eqb, ◌∷◌, inl, inr, ◌≡◌, ◌≢◌, ◌⊎◌, ℕ, Some, List, [], refl}
use Rattle.std.proofs.Common.{sym, ◌∙◌, ap, subst, slice_get, arith}
use Rattle.std.proofs.lemmas.Bool.{cases_eq, eqb-false}
use Rattle.mb_quorum.specs.Vocabulary.{QuorumTable}
use Rattle.mb_deciding.specs.Vocabulary.{part}
use Rattle.mb_claim.specs.{Claims, Kind, Ratifier, ObjectTurn, ClaimAccess, Stage, Going, Won, Lost}
use Rattle.mb_claim.specs.{Undecided, part_on, object_history, IsClaimPrefixFrom, Enters, IsClaimLawful, HasStage}
use Rattle.mb_claim.specs.{StageNames, IsClaimAnnounced, HasOneWinner}
use Rattle.mb_claim.proofs.KindLaws.{AreDeciding, AreRatifying}
use Rattle.mb_claim.proofs.Turns.{has_turns}
use Rattle.mb_claim.proofs.ObjectHistories.{turns_at, part-object_history}
use Rattle.mb_claim.proofs.CellFamily.{start, competes, family}
use Rattle.mb_claim.proofs.Agreeing.{winner_holds, agree}
use Rattle.mb_claim.proofs.Contest.{Shown, Contest, contention}

-- ---- who has lost names another consumer
-- the consumer to which a claim with this stage is lost, or 0 if it is not lost
abbrev lost_to : Stage → ℕ
lost_to Going = 0
lost_to Won = 0
lost_to (Lost u) = u
lost_to Undecided = 0

-- if consumer c has lost to w because u was decided, w is not c
lost_by : (c u w : ℕ) (b : Bool) → eqb c u ≡ b → Lost w ≡ cond b Won (Lost u) → w ≢ c
lost_by c u w true e is same = let h : Lost w ≡ Won = is in cc
lost_by c u w false e is same =
    let named : w ≡ u = ap lost_to is in eqb-false c u e (sym same ∙ named)

-- a prefix of consumer c's path with the stage `Lost w` names another consumer: w is not c
lost_other :
    (t : QuorumTable) (c : ℕ) (ks : List Kind) (o v : ℕ) (xs : List ObjectTurn) (w : ℕ)
    → IsClaimPrefixFrom t c ks o v xs (Lost w) → w ≢ c
lost_other t c [] o v xs w p same = let h : Lost w ≡ Undecided = p.1 in cc
lost_other t c (k ∷ ks) o v xs w (inl x) same = let h : Lost w ≡ Going = x.is in cc
lost_other t c (k ∷ ks) o v xs w (inr (inl x)) same = lost_by c x.value w (eqb c x.value) refl x.is same
lost_other t c (k ∷ ks) o v xs w (inr (inr (u, rest, x, p))) same = lost_other t c ks (suc o) u rest w p same

-- ---- the claims on cell k that are won or lost name one winner
module _ (cs : Claims) (h : List ClaimAccess) (k : ℕ) (law : AreDeciding cs.table)
    (ratifying : AreRatifying cs.table) (lawful : IsClaimLawful cs h) where
  -- if a stage that consumer c has on the cell names u, the stage of c in the family names u
  named :
      (c u : ℕ) (s : Stage) → HasStage cs c k s h → StageNames c s u
      → StageNames c (start cs h k law lawful c).stage u
  named c u s q n = subst (λ r. StageNames c r u) (sym ((start cs h k law lawful c).is s q)) n

  -- consumer c comes to object n with input w
  abbrev E : ℕ → ℕ → ℕ → Type 0
  E c n w = Enters cs.table cs.kinds 0 c (part_on c k h) n w

  -- if a claim is undecided, two processes have announced different values to each ratifier of the row
  contest :
      (c o : ℕ) → HasStage cs c k Undecided h → slice_get cs.kinds o ≡ Some Ratifier
      → Contest cs.table (λ n. object_history k n h) E o
  contest c o q r =
      subst (Contest cs.table (λ n. object_history k n h) E) (omega arith)
      (contention cs.table (λ n. object_history k n h) law ratifying E cs.kinds 0 (competes cs h k law lawful)
      (family cs h k law lawful) (λ d n w ne e. e) c o
      ((start cs h k law lawful c).is Undecided q) r)

  -- if a process has stored in a register of u's write quorum (`Shown`), u was announced to object o of the cell
  shown_announced : (o u : ℕ) → Shown cs.table (λ n. object_history k n h) E o u → IsClaimAnnounced cs k o u h
  shown_announced o u x = (x.process, x.register, x.enters, x.member, x.stored)

  -- a process that has stored in a write quorum of an object (`Shown`) has a step on the cell
  some_part : (o u : ℕ) (x : Shown cs.table (λ n. object_history k n h) E o u) → part_on x.process k h ≢ []
  some_part o u x e =
      has_turns (part x.process (object_history k o h)) _ x.stored
      (part-object_history x.process k o h ∙ ap (turns_at o) e)

  -- of two processes that have announced different values one is not consumer c, and it has a step on the cell
  company_by :
      (c o : ℕ) (x : Contest cs.table (λ n. object_history k n h) E o) → (x.one.process ≡ c) ⊎ (x.one.process ≡ c → ⊥)
      → (d : ℕ) × (d ≢ c) × (part_on d k h ≢ [])
  company_by c o x (inl e) = (x.other.process, λ f. x.two (e ∙ sym f), some_part o x.second x.other)
  company_by c o x (inr ne) = (x.one.process, ne, some_part o x.first x.one)

  -- all claims on the cell that are won or lost name one winner, and the rest of `HasOneWinner` holds
  pub has_one_winner : HasOneWinner cs k h
  has_one_winner =
      record {
        same = λ c d u w s r p q n m. agree cs.table (λ o. object_history k o h) law cs.kinds 0
            (competes cs h k law lawful) (family cs h k law lawful) c d u w (named c u s p n)
            (named d w r q m);
        other = λ c w p. lost_other cs.table c cs.kinds 0 c (part_on c k h) w p.1;
        competed = λ c u s p n. winner_holds cs.table (λ o. object_history k o h) law cs.kinds 0
            (competes cs h k law lawful) (family cs h k law lawful) c u (named c u s p n);
        contested = λ c o p r. let x = contest c o p r in
            (x.first, x.second, x.apart, shown_announced o x.first x.one, shown_announced o x.second x.other);
        company = λ c o p r. let x = contest c o p r in company_by c o x (cases_eq x.one.process c);
      }
