-- One access of a process that goes straight through an object: it is the step that comes next at its place, and what
-- it leads to.
use Rattle.std.proofs.Common.{◌≡◌, ◌≢◌, ℕ, ◌+◌, ◌-◌, ◌*◌, ◌<◌, ◌≤◌, ◌%◌, true, false, List, ◌∷◌, inl, inr, refl, sym}
use Rattle.std.proofs.Common.{ap, subst, arith, bit_and, cond}
use Rattle.std.proofs.lemmas.Bool.{cases_eq, eq-eqb, ne_eqb}
use Rattle.mb_quorum.specs.Quorum.{QuorumTable, IsQuorumTable}
use Rattle.mb_deciding.specs.{Value, Proposal, Quorum, Load, Op, Turn, Ratifier, Next, Draw, Put, Look}
use Rattle.mb_deciding.specs.{InConciliator, InRatifier, Announce, Propose, Check, IsConciliatorPlace, IsInConciliator}
use Rattle.mb_deciding.specs.{IsReached, IsConciliatorPath, ConciliatorReaches, RatifierReaches, IsStep}
use Rattle.mb_deciding.specs.{IsLeast, IsRest, ReadsClear, acts, act_of, announcement, answer, checks_of}
use Rattle.mb_deciding.specs.declared.access.Op.TheVariants as to
use Rattle.mb_deciding.specs.declared.place.pc.Next.TheVariants as leads
use Rattle.mb_deciding.proofs.Registers.{rest_whole}
use Rattle.mb_deciding.proofs.ConciliatorPlaces.{low_bits, next_limits, draw_missed, draw_found, draw_ends, put_looks, look_ends}
use Rattle.mb_deciding.proofs.Advances.{IsTaken, announced_whole, prefers_found, prefers_own, checked_zero, checked_one}
use Rattle.mb_deciding.proofs.Advances.{checked_whole}
use Rattle.mb_deciding.proofs.OneStep.{conciliator_step, ratifier_step}

-- ---- conciliators
-- if the load of an attempt finds a value, it is a step to the output with that value
pub met_step :
    (t : QuorumTable) (input limit modulus seen word out : ℕ) (makes : Op → ℕ → Type 0) → makes (to.Load Value) seen
    → seen ≢ 0 → (0 < seen → seen ≤ t.values → seen ≡ out + 1)
    → IsStep t (InConciliator (Draw input limit modulus)) makes word (leads.Out (answer false out))
met_step t input limit modulus seen word out makes made some met =
    conciliator_step t (Draw input limit modulus) makes (to.Load Value) seen word _ refl made reaches
  where
    -- with this load the path ends, with the value that was found
    reaches : ConciliatorReaches t (Draw input limit modulus) seen word (leads.Out (answer false out))
    reaches s v turns op at is can =
        let small : seen ≤ t.values = rw is at can in
        let more : 0 < seen = omega arith in
        let value : seen - 1 ≡ out = omega (arith, met more small) in
        rw is (
          refl,
          subst (λ u. IsConciliatorPath s v (record { act = Load Value seen; word = word } ∷ turns) u) value
              (draw_ends s v input limit modulus seen word turns at.1 more),
        )

-- if the load of an attempt finds 0, and its random word stores, it is a step to the store of the input
pub found_step :
    (t : QuorumTable) (input limit modulus seen word : ℕ) (makes : Op → ℕ → Type 0) → makes (to.Load Value) seen
    → seen ≡ 0 → bit_and word (modulus - 1) < limit
    → IsStep t (InConciliator (Draw input limit modulus)) makes word (leads.Go (InConciliator (Put input)))
found_step t input limit modulus seen word makes made none stores =
    conciliator_step t (Draw input limit modulus) makes (to.Load Value) seen word _ refl made reaches
  where
    -- with this load the process is about to store its input
    reaches : ConciliatorReaches t (Draw input limit modulus) seen word (leads.Go (InConciliator (Put input)))
    reaches s v turns op at is can =
        let place : IsConciliatorPlace t.values (Draw input limit modulus) = at.0 in
        let here : IsInConciliator s v (Draw input limit modulus) turns = at.1 in
        let below : word % modulus < limit = rw (low_bits s here.1.0 limit modulus word here.1.1) at stores in
        rw (is, none) (place.0, draw_found s v input limit modulus word turns here below)

-- if the load of an attempt finds 0, and its random word does not store, it is a step to the next attempt
pub missed_step :
    (t : QuorumTable) (input limit modulus seen word : ℕ) (makes : Op → ℕ → Type 0) → makes (to.Load Value) seen
    → seen ≡ 0 → limit ≤ bit_and word (modulus - 1)
    → IsStep t (InConciliator (Draw input limit modulus)) makes word
    (leads.Go (InConciliator (Draw input (limit * 2) modulus)))
missed_step t input limit modulus seen word makes made none stays =
    conciliator_step t (Draw input limit modulus) makes (to.Load Value) seen word _ refl made reaches
  where
    -- with this load the process is at the next attempt
    reaches :
        ConciliatorReaches t (Draw input limit modulus) seen word
        (leads.Go (InConciliator (Draw input (limit * 2) modulus)))
    reaches s v turns op at is can =
        let place : IsConciliatorPlace t.values (Draw input limit modulus) = at.0 in
        let here : IsInConciliator s v (Draw input limit modulus) turns = at.1 in
        let above : limit ≤ word % modulus = rw (low_bits s here.1.0 limit modulus word here.1.1) at stays in
        rw (is, none) (
          (
            place.0,
            (place.1.0, _, place.1.2, next_limits place.1.0 place.1.1 limit modulus word place.1.3 above),
          ),
          draw_missed s v input limit modulus word turns here above,
        )

-- the store of the input is a step to the last load of the word
pub put_step :
    (t : QuorumTable) (input value seen word : ℕ) (makes : Op → ℕ → Type 0) → value ≡ input + 1
    → makes (to.Store Value value) seen
    → IsStep t (InConciliator (Put input)) makes word (leads.Go (InConciliator (Look input)))
put_step t input value seen word makes same made =
    conciliator_step t (Put input) makes (to.Store Value value) seen word _ (ap (λ n. to.Store Value n) same) made
    reaches
  where
    -- with this store the process is about to load the word for the last time
    reaches : ConciliatorReaches t (Put input) seen word (leads.Go (InConciliator (Look input)))
    reaches s v turns op at is can =
        let place : IsConciliatorPlace t.values (Put input) = at.0 in
        rw is (place, put_looks s v input word turns at.1)

-- the load after the store is a step to the output with the value that was found
pub look_step :
    (t : QuorumTable) (input seen word out : ℕ) (makes : Op → ℕ → Type 0) → makes (to.Load Value) seen
    → (0 < seen → seen ≤ t.values → seen ≡ out + 1)
    → IsStep t (InConciliator (Look input)) makes word (leads.Out (answer false out))
look_step t input seen word out makes made met =
    conciliator_step t (Look input) makes (to.Load Value) seen word _ refl made reaches
  where
    -- with this load the path ends, with the value that was found
    reaches : ConciliatorReaches t (Look input) seen word (leads.Out (answer false out))
    reaches s v turns op at is can =
        let range : (0 < seen) × (seen ≤ t.values) = rw is at can in
        let value : seen - 1 ≡ out = omega (arith, met range.0 range.1) in
        rw is (
          refl,
          subst (λ u. IsConciliatorPath s v (record { act = Load Value seen; word = word } ∷ turns) u) value
              (look_ends s v input seen word turns at.1 range.0),
        )

-- ---- ratifiers
-- if no register is left to check, the process has the decided output with its preference
pub checks_none : (u left : ℕ) → left ≡ 0 → checks_of u left ≡ leads.Out (answer true u)
checks_none u left none =
    ap (λ b. cond b (leads.Out (answer true u)) (leads.Go (InRatifier (Check u left)))) (eq-eqb left 0 none)

-- if a register is left to check, the process is at the check of those left
pub checks_some : (u left : ℕ) → left ≢ 0 → checks_of u left ≡ leads.Go (InRatifier (Check u left))
checks_some u left some =
    ap (λ b. cond b (leads.Out (answer true u)) (leads.Go (InRatifier (Check u left)))) (ne_eqb left 0 some)

-- a process whose check found 0 below the bound is at the check of the registers left, or has its output if none is
checks_reached :
    (t : QuorumTable) (v u bound left : ℕ) (turns : List Turn) → u < t.values → bound ≤ t.registers
    → IsRest (t.read u) bound left → ReadsClear t v u bound (acts turns)
    → IsReached t Ratifier v (checks_of u left) turns
checks_reached t v u bound left turns within few rest clear =
    elim (cases_eq left 0) [
      | inl none ↦ subst (λ (follows : Next). IsReached t Ratifier v follows turns) (sym (checks_none u left none))
          (checked_whole t v u bound left (acts turns) few rest none clear)
      | inr some ↦ subst (λ (follows : Next). IsReached t Ratifier v follows turns) (sym (checks_some u left some))
          ((within, some), (bound, few, rest, clear))
    ]

-- after the announcement, the load of a value from the proposal is a step to the check of that value, or to its output
pub prefer_step :
    (t : QuorumTable) (input u seen word : ℕ) (makes : Op → ℕ → Type 0) → makes (to.Load Proposal) seen → u < t.values
    → seen ≡ u + 1 → IsStep t (InRatifier (Announce input 0)) makes word (checks_of u (t.read u))
prefer_step t input u seen word makes made within same =
    ratifier_step t (Announce input 0) makes (to.Load Proposal) seen word _ refl made reaches
  where
    -- with this load the process is at the check of that value, or has it as output
    reaches : RatifierReaches t (Announce input 0) seen (checks_of u (t.read u))
    reaches v turns op word at is can =
        let whole = announced_whole t v input 0 (acts turns) op seen at.1 is refl can in
        checks_reached t v u 0 (t.read u) (record { act = act_of op seen; word = word } ∷ turns) within (omega arith)
        (rest_whole (t.read u)) (rw (whole.0) (prefers_found t v u seen same))

-- after the announcement, a load of the proposal that finds no value of the table is a step to the store of the input
pub empty_step :
    (t : QuorumTable) (input seen word : ℕ) (makes : Op → ℕ → Type 0) → makes (to.Load Proposal) seen
    → input < t.values → (seen ≤ t.values → seen ≡ 0)
    → IsStep t (InRatifier (Announce input 0)) makes word (leads.Go (InRatifier (Propose input)))
empty_step t input seen word makes made within none =
    ratifier_step t (Announce input 0) makes (to.Load Proposal) seen word _ refl made reaches
  where
    -- with this load the process is about to store its input
    reaches : RatifierReaches t (Announce input 0) seen (leads.Go (InRatifier (Propose input)))
    reaches v turns op word at is can =
        let whole = announced_whole t v input 0 (acts turns) op seen at.1 is refl can in
        let empty : seen ≡ 0 = none whole.1 in
        (within, (at.1.0, subst (λ n. act_of op seen ∷ acts turns ≡ Load Proposal n ∷ announcement t v) empty whole.0))

-- the store of the input in the proposal is a step to the check of the input, or to the output if nothing is to check
pub propose_step :
    (t : QuorumTable) (input value seen word : ℕ) (makes : Op → ℕ → Type 0) → value ≡ input + 1
    → makes (to.Store Proposal value) seen → input < t.values
    → IsStep t (InRatifier (Propose input)) makes word (checks_of input (t.read input))
propose_step t input value seen word makes same made within =
    ratifier_step t (Propose input) makes (to.Store Proposal value) seen word _ same made reaches
  where
    -- with this store the process is at the check of its input, or has its output
    reaches : RatifierReaches t (Propose input) seen (checks_of input (t.read input))
    reaches v turns op word at is can =
        checks_reached t v input 0 (t.read input) (record { act = act_of op seen; word = word } ∷ turns) within
        (omega arith) (rest_whole (t.read input)) (prefers_own t v input (acts turns) op seen at.1 is)

-- a load of 0 from the least register that is left is a step to the check of the others, or to the decided output
pub clear_step :
    (t : QuorumTable) → IsQuorumTable t → (u left r after seen word : ℕ) (makes : Op → ℕ → Type 0)
    → makes (to.Load (Quorum r)) seen → u < t.values → seen ≡ 0 → IsLeast left r → IsTaken left r after
    → IsStep t (InRatifier (Check u left)) makes word (checks_of u after)
clear_step t q u left r after seen word makes made within none least taken =
    ratifier_step t (Check u left) makes (to.Load (Quorum r)) seen word _ least made reaches
  where
    -- with this load the process is at the check of the others, or has its output
    reaches : RatifierReaches t (Check u left) seen (checks_of u after)
    reaches v turns op word at is can =
        let next = checked_zero t q v u left r after (acts turns) op seen within at.1 is none least taken in
        checks_reached t v u (r + 1) after (record { act = act_of op seen; word = word } ∷ turns) within next.0 next.1
        next.2

-- a load of another value than 0 from the least register that is left is a step to the undecided output
pub contested_step :
    (t : QuorumTable) → IsQuorumTable t → (u left r seen word : ℕ) (makes : Op → ℕ → Type 0)
    → makes (to.Load (Quorum r)) seen → u < t.values → seen ≢ 0 → IsLeast left r
    → IsStep t (InRatifier (Check u left)) makes word (leads.Out (answer false u))
contested_step t q u left r seen word makes made within some least =
    ratifier_step t (Check u left) makes (to.Load (Quorum r)) seen word _ least made reaches
  where
    -- with this load the path ends, with the undecided output
    reaches : RatifierReaches t (Check u left) seen (leads.Out (answer false u))
    reaches v turns op word at is can = checked_one t q v u left (acts turns) op seen within at.1 is can some
