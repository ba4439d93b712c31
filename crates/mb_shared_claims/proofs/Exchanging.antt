-- The claim on a cell that has a last object alone: its only access, and how that ends it.
use Rattle.std.proofs.Common.{rules, ◌≡◌, ◌≢◌, ◌==◌, ◌+◌, ◌≤◌, ℕ, Bool, zero, suc, List, [], ◌∷◌, true, refl, inl, inr, ap, ◌∙◌, sym, subst, arith}
use Rattle.std.specs.Prelude.{MatchOption, false, if◌then◌else◌, slice_get}
use Rattle.std.proofs.lemmas.Bool.{ne_eqb}
use Rattle.mb_quorum.specs.Vocabulary.{IsQuorumTable, QuorumTable}
use Rattle.mb_deciding.specs.declared.access.Op.TheVariants as to
use Rattle.mb_deciding.specs.declared.access.Act.TheVariants.{Exchange}
use Rattle.mb_deciding.specs.declared.access.Reg.TheVariants.{Last}
use Rattle.mb_deciding.specs.declared.object.Kind.{Kind}
use Rattle.mb_deciding.specs.declared.object.Kind.TheVariants.{LastObject}
use Rattle.mb_deciding.specs.Vocabulary.{ReadsLast, object_of}
use Rattle.mb_deciding.proofs.Histories.{value_from}
use Rattle.mb_deciding.proofs.Lasts.{holds_inputs}
use Rattle.mb_claim.specs.declared.access.Stage.TheVariants.{Going, Lost, Undecided, Won}
use Rattle.mb_claim.specs.Vocabulary.{CanClaimFind, Claims, ClaimsAreSound, IsClaimIn, IsClaimLawful, IsClaimPrefix, IsClaimPrefixFrom, IsNextOp, IsStanding, IsUsedWith}
use Rattle.mb_claim.specs.Vocabulary.{claim_stage, claims_in, claims_of, consumer_count, consumer_of, held_at, kinds_of, object_history, part_at, part_on, quorums_of, stage_for, standing, step_of}
use Rattle.mb_claim.proofs.ObjectHistories.{part-object_history, turns_at}
use Rattle.mb_shared_claims.specs.Types.{Claim, ClaimAccess, ClaimOp, Layout, ObjectTurn, Op, Stage}
use Rattle.mb_shared_claims.specs.SeatSteps.{access_of}

-- ---- what the exchange finds
-- if object 0 is a last object, its word does not hold the number of a consumer that has done nothing on the cell
pub holds_other :
    (cs : Claims) (k c : ℕ) (inputs : ℕ → ℕ) (h : List ClaimAccess) → IsUsedWith cs k 0 LastObject inputs h
    → ((b : ℕ) → part_at b k 0 h ≢ [] → inputs b ≡ b) → part_on c k h ≡ [] → held_at k 0 Last h ≢ c + 1
holds_other cs k c inputs h used own none holds =
    let o = object_of cs.table LastObject inputs in
    let x = value_from o Last (holds_inputs cs.table inputs) (object_history k 0 h) used.lawful c holds in
    let same : c ≡ x.0 = sym x.2 ∙ own x.0 x.1 in
    x.1 (subst (λ b. part_at b k 0 h ≡ []) same (part-object_history c k 0 h ∙ ap (turns_at 0) none))

-- a claim is lost to a winner with another number
pub lost_stage : (c w : ℕ) → w ≢ c → Lost w ≡ stage_for c w
lost_stage c w other = ap (λ b. if b then Won else Lost w) (sym (ne_eqb c w (λ e. other (sym e))))

-- ---- how it ends the claim
-- a prefix of a claim path has one stage
abbrev pub HasOneStage : Type 0
HasOneStage =
    (cs : Claims) (c : ℕ) (xs : List ObjectTurn) (s r : Stage) → ClaimsAreSound cs → IsClaimPrefix cs c xs s
    → IsClaimPrefix cs c xs r → s ≡ r

-- if a consumer's own number was decided, its claim is won
own_stage : (c : ℕ) → stage_for c c ≡ Won
own_stage c = search rules

-- a claim path of one exchange has the stage r, if r is won after a found 0, and `stage_for c w` after a found w + 1
ended_by :
    HasOneStage → (t : QuorumTable) (c word found : ℕ) (s r : Stage) → IsQuorumTable t
    → IsClaimPrefixFrom t c (LastObject ∷ []) 0 c (step_of 0 (to.Exchange Last (c + 1)) found word ∷ []) s
    → (found ≡ 0 → r ≡ Won) → ((w : ℕ) → found ≡ w + 1 → r ≡ stage_for c w) → s ≡ r
ended_by one t c word zero s r sound prefix empty other =
    one (claims_of t (LastObject ∷ []) 0) c (step_of 0 (to.Exchange Last (c + 1)) 0 word ∷ []) s r sound prefix
    (inr (inl (record {
      turns = record { act = Exchange Last (c + 1) 0; word = word } ∷ [];
      value = c;
      all = refl;
      path = (refl, inl (refl, refl));
      is = empty refl ∙ sym (own_stage c);
    })))
ended_by one t c word (suc w) s r sound prefix empty other =
    let up : suc w ≡ w + 1 = omega arith in
    one (claims_of t (LastObject ∷ []) 0) c (step_of 0 (to.Exchange Last (c + 1)) (suc w) word ∷ []) s r sound prefix
    (inr (inl (record {
      turns = record { act = Exchange Last (c + 1) (suc w); word = word } ∷ [];
      value = w;
      all = refl;
      path = (refl, inr (ap (λ n. Exchange Last (c + 1) n) up));
      is = other w up;
    })))

-- a stage that names a winner is neither `Going` nor `Undecided`
names_winner : (b : Bool) (w : ℕ) → let r : Stage = if b then Won else Lost w in (r ≢ Going) × (r ≢ Undecided)
names_winner true w = ((λ e. cc), (λ e. cc))
names_winner false w = ((λ e. cc), (λ e. cc))

-- the stage to which an exchange leads is neither `Going` nor `Undecided`
pub exchange_ends :
    (c found : ℕ) (r : Stage) → (found ≡ 0 → r ≡ Won) → ((w : ℕ) → found ≡ w + 1 → r ≡ stage_for c w)
    → (r ≢ Going) × (r ≢ Undecided)
exchange_ends c zero r empty other =
    subst (λ (x : Stage). (x ≢ Going) × (x ≢ Undecided)) (sym (empty refl)) ((λ e. cc), (λ e. cc))
exchange_ends c (suc w) r empty other =
    subst (λ (x : Stage). (x ≢ Going) × (x ≢ Undecided)) (sym (other w (omega arith))) (names_winner (c == w) w)

module _ (layout : Layout) (c : ℕ) (alone : kinds_of layout ≡ LastObject ∷ []) where
  -- the next access of a claim that has made none is an exchange on object 0 for its own number
  pub next_alone :
      (claim : Claim) (next : ClaimOp) → IsStanding layout c 0 c claim → IsNextOp layout claim next
      → (next.object ≡ 0) × (next.op ≡ to.Exchange Last (c + 1))
  next_alone claim next stands is =
      let at : claim ≡ standing layout c 0 c LastObject =
      subst (λ (ks : List Kind). MatchOption (slice_get ks 0) ⊥ (λ kind. claim ≡ standing layout c 0 c kind)) alone
      stands in
      let so = subst (λ (k : Claim). IsNextOp layout k next) at is in
      (so.object, so.op)

  -- that exchange finds what the history leaves in the word of object 0
  pub found_held :
      (cells cell found word : ℕ) (next : ClaimOp) (h : List ClaimAccess)
      → (next.object ≡ 0) × (next.op ≡ to.Exchange Last (c + 1))
      → IsClaimLawful (claims_in layout cells) (access_of c cell next found word ∷ h) → found ≡ held_at cell 0 Last h
  found_held cells cell found word next h is lawful =
      subst (λ (z : ℕ × Op). ReadsLast (step_of z.0 z.1 found word).turn.act (object_history cell z.0 h))
      (λ i. (is.0 i, is.1 i)) lawful.memory.0

  -- if that exchange finds what it can find, this is at most the number of consumers
  pub found_alone :
      (claim : Claim) (next : ClaimOp) (found : ℕ) → IsStanding layout c 0 c claim → IsNextOp layout claim next
      → CanClaimFind layout claim next found → found ≤ consumer_count layout
  found_alone claim next found stands is can =
      let at : claim ≡ standing layout c 0 c LastObject =
      subst (λ (ks : List Kind). MatchOption (slice_get ks 0) ⊥ (λ kind. claim ≡ standing layout c 0 c kind)) alone
      stands in
      let so = next_alone claim next stands is in
      subst (λ (z : Claim × Op). CanClaimFind layout z.0 (record { object = next.object; op = z.1 }) found)
      (λ i. (at i, so.1 i)) can

  -- after that exchange the claim has the stage r, if r is won after a found 0, and `stage_for c w` after a found w + 1
  pub stage_alone :
      HasOneStage → IsQuorumTable (quorums_of layout) → (next : ClaimOp) (end : Claim) (found word : ℕ) (r : Stage)
      → (next.object ≡ 0) × (next.op ≡ to.Exchange Last (c + 1)) → consumer_of end ≡ c
      → IsClaimIn layout end (step_of next.object next.op found word ∷ [])
      → (found ≡ 0 → r ≡ Won) → ((w : ℕ) → found ≡ w + 1 → r ≡ stage_for c w) → claim_stage end ≡ r
  stage_alone one sound next end found word r is own of empty other =
      let t = quorums_of layout in
      let prefix : IsClaimPrefixFrom t c (LastObject ∷ []) 0 c
      (step_of 0 (to.Exchange Last (c + 1)) found word ∷ []) (claim_stage end) =
      subst (λ (z : ℕ × (List Kind × (ℕ × Op))).
      IsClaimPrefixFrom t z.0 z.1.0 0 z.0 (step_of z.1.1.0 z.1.1.1 found word ∷ []) (claim_stage end))
      (λ i. (own i, (alone i, (is.0 i, is.1 i)))) of.prefix in
      ended_by one t c word found (claim_stage end) r sound prefix empty other
