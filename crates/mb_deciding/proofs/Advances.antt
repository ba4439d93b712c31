-- One access of a process at its place in a ratifier leads to its next place or to its output.
use Rattle.std.proofs.Common.{◌≡◌, ◌≢◌, ℕ, ◌+◌, ◌<◌, ◌≤◌, ◌↔◌, List, ◌∷◌, ◌++◌, ◌⊎◌, inl, inr, sym, refl, ap, ap₂, ◌∙◌}
use Rattle.std.proofs.Common.{subst, arith}
use Rattle.std.proofs.lemmas.Bool.{cases_order}
use Rattle.mb_quorum.specs.Quorum.{QuorumTable, IsQuorumTable, IsMember}
use Rattle.mb_deciding.specs.{Value, Proposal, Quorum, Last, Act, Load, Store, Op, RatifierPlace, Begin, Announce, Propose}
use Rattle.mb_deciding.specs.{Check, InRatifier, stores_below, zeros_below, announcement, ReadsClear, ReadsOne, IsLeast}
use Rattle.mb_deciding.specs.{IsRest, IsInRatifier, IsRatifierOp, CanFind, act_of}
use Rattle.mb_deciding.specs.declared.access.Op.TheVariants as to
use Rattle.mb_deciding.proofs.Registers.{member_below, none_empty, rest_whole, rest_least, rest_none, rest_taken}
use Rattle.mb_deciding.proofs.Registers.{each_skip, each_next}

-- `after` has just the registers of `left` other than r
abbrev pub IsTaken : ℕ → ℕ → ℕ → Type 0
IsTaken left r after = (k : ℕ) → IsMember after k ↔ (IsMember left k × (k ≢ r))

-- ---- the op of each place, and what it may find
-- a process that announces stores 1 in the least register that is left, or loads the proposal if none is left
pub announce_op :
    (t : QuorumTable) (input left : ℕ) (op : Op) → IsRatifierOp t (Announce input left) op
    → ((r : ℕ) × (op ≡ to.Store (Quorum r) 1) × IsLeast left r) ⊎ ((op ≡ to.Load Proposal) × (left ≡ 0))
announce_op t input left (to.Load Value) is = absurd is
announce_op t input left (to.Load Last) is = absurd is
announce_op t input left (to.Store Last w) is = absurd is
announce_op t input left (to.Exchange reg w) is = absurd is
announce_op t input left (to.Load Proposal) is = inr (refl, is)
announce_op t input left (to.Load (Quorum r)) is = absurd is
announce_op t input left (to.Store Value w) is = absurd is
announce_op t input left (to.Store Proposal w) is = absurd is
announce_op t input left (to.Store (Quorum r) w) is = inl (r, ap (λ n. to.Store (Quorum r) n) is.0, is.1)

-- a process at `Begin` has the same next op as one with its whole write quorum left to announce
pub begin_op :
    (t : QuorumTable) (input : ℕ) (op : Op)
    → IsRatifierOp t (Begin input) op ↔ IsRatifierOp t (Announce input (t.write input)) op
begin_op t input (to.Load Value) = ((λ is. is), (λ is. is))
begin_op t input (to.Load Last) = ((λ is. is), (λ is. is))
begin_op t input (to.Store Last w) = ((λ is. is), (λ is. is))
begin_op t input (to.Exchange reg w) = ((λ is. is), (λ is. is))
begin_op t input (to.Load Proposal) = ((λ is. is), (λ is. is))
begin_op t input (to.Load (Quorum r)) = ((λ is. is), (λ is. is))
begin_op t input (to.Store Value w) = ((λ is. is), (λ is. is))
begin_op t input (to.Store Proposal w) = ((λ is. is), (λ is. is))
begin_op t input (to.Store (Quorum r) w) = ((λ is. is), (λ is. is))

-- what an op may find does not depend on the place in a ratifier
pub find_anywhere :
    (t : QuorumTable) (a b : RatifierPlace) (op : Op) (seen : ℕ) → CanFind t (InRatifier a) op seen
    → CanFind t (InRatifier b) op seen
find_anywhere t a b (to.Load Value) seen can = tt
find_anywhere t a b (to.Load Proposal) seen can = can
find_anywhere t a b (to.Load (Quorum r)) seen can = can
find_anywhere t a b (to.Store reg w) seen can = tt
find_anywhere t a b (to.Load Last) seen can = tt
find_anywhere t a b (to.Exchange reg w) seen can = tt

-- the next op of a process that proposes is the store of its input in the proposal
pub propose_op :
    (t : QuorumTable) (input : ℕ) (op : Op) → IsRatifierOp t (Propose input) op → op ≡ to.Store Proposal (input + 1)
propose_op t input (to.Load Value) is = absurd is
propose_op t input (to.Load Last) is = absurd is
propose_op t input (to.Store Last w) is = absurd is
propose_op t input (to.Exchange reg w) is = absurd is
propose_op t input (to.Load Proposal) is = absurd is
propose_op t input (to.Load (Quorum r)) is = absurd is
propose_op t input (to.Store Value w) is = absurd is
propose_op t input (to.Store Proposal w) is = ap (λ n. to.Store Proposal n) is
propose_op t input (to.Store (Quorum r) w) is = absurd is

-- the next op of a process that checks is the load of the least register that is left
pub check_op :
    (t : QuorumTable) (u left : ℕ) (op : Op) → IsRatifierOp t (Check u left) op
    → (r : ℕ) × (op ≡ to.Load (Quorum r)) × IsLeast left r
check_op t u left (to.Load Value) is = absurd is
check_op t u left (to.Load Last) is = absurd is
check_op t u left (to.Store Last w) is = absurd is
check_op t u left (to.Exchange reg w) is = absurd is
check_op t u left (to.Load Proposal) is = absurd is
check_op t u left (to.Load (Quorum r)) is = (r, refl, is)
check_op t u left (to.Store Value w) is = absurd is
check_op t u left (to.Store Proposal w) is = absurd is
check_op t u left (to.Store (Quorum r) w) is = absurd is

-- two least registers of one mask are equal
pub one_least : (mask r s : ℕ) → IsLeast mask r → IsLeast mask s → r ≡ s
one_least mask r s l m =
    elim (cases_order r s) [
      | inl e ↦ e
      | inr k ↦ (elim k [
        | inl less ↦ absurd (m.least r less l.member)
        | inr more ↦ absurd (l.least s more m.member)
      ])
    ]

-- ---- a process that announces its input
-- a process at `Begin` is also at the place with its whole write quorum left to announce
pub begin_announces :
    (t : QuorumTable) (v input : ℕ) (made : List Act) → IsInRatifier t v (Begin input) made
    → IsInRatifier t v (Announce input (t.write input)) made
begin_announces t v input made at = (at.0, (0, omega arith, rw (at.0) (rest_whole (t.write v)), at.1))

-- with a store of 1 in the least register r that is left, the acts are the announcement's stores below r + 1
pub announced_next :
    (t : QuorumTable) → IsQuorumTable t → (v input left r : ℕ) (made : List Act) → v < t.values
    → IsInRatifier t v (Announce input left) made → IsLeast left r
    → (r + 1 ≤ t.registers) × (Store (Quorum r) 1 ∷ made ≡ stores_below (r + 1) (t.write v))
announced_next t q v input left r made within at least =
    let bound = at.1.0 in
    let from = rest_least (t.write v) bound left r at.1.2 least in
    let below : r < t.registers = member_below t.registers (t.write v) r (q.write_within v within) from.member in (
      omega arith,
      ap (λ xs. Store (Quorum r) 1 ∷ xs) at.1.3 ∙ sym
          (each_next (λ k. Store (Quorum k) 1) (t.write v) bound r from),
    )

-- after a store of its announcement a process has the same registers left to announce, without the one stored
pub announced_more :
    (t : QuorumTable) → IsQuorumTable t → (v input left r after : ℕ) (made : List Act) (op : Op) (seen : ℕ)
    → v < t.values → IsInRatifier t v (Announce input left) made → IsRatifierOp t (Announce input left) op → left ≢ 0
    → IsLeast left r → IsTaken left r after → IsInRatifier t v (Announce input after) (act_of op seen ∷ made)
announced_more t q v input left r after made op seen within at is some least taken =
    elim (announce_op t input left op is) [
      | inl x ↦ (rw (x.1) (more (one_least left x.0 r x.2 least)))
      | inr x ↦ absurd (some x.1)
    ]
  where
    -- if x is the register r, the acts with a store of 1 in x lead to the place with `after` left
    more : {x : ℕ} → x ≡ r → IsInRatifier t v (Announce input after) (Store (Quorum x) 1 ∷ made)
    more {x} same =
        let next = announced_next t q v input left r made within at least in
        let stored : Store (Quorum x) 1 ∷ made ≡ stores_below (r + 1) (t.write v) =
        ap (λ n. Store (Quorum n) 1 ∷ made) same ∙ next.1 in
        (at.0, (r + 1, next.0, rest_taken (t.write v) at.1.0 left r after at.1.2 least taken, stored))

-- if no register is left to announce, the whole write quorum was stored, and the proposal is loaded next
pub announced_whole :
    (t : QuorumTable) (v input left : ℕ) (made : List Act) (op : Op) (seen : ℕ)
    → IsInRatifier t v (Announce input left) made → IsRatifierOp t (Announce input left) op → left ≡ 0
    → CanFind t (InRatifier (Announce input left)) op seen
    → (act_of op seen ∷ made ≡ Load Proposal seen ∷ announcement t v) × (seen ≤ t.values)
announced_whole t v input left made op seen at is none can =
    elim (announce_op t input left op is) [
      | inl x ↦ absurd (none_empty left x.0 none x.2.member)
      | inr x ↦ (let found = rw (x.0) at can in (rw (x.0) whole, found))
    ]
  where
    -- the acts before the load of the proposal are the whole announcement
    whole : Load Proposal seen ∷ made ≡ Load Proposal seen ∷ announcement t v
    whole =
        let bound = at.1.0 in
        let free = rest_none (t.write v) bound left at.1.2 none in
        let all = each_skip (λ k. Store (Quorum k) 1) t.registers (t.write v) bound at.1.1
        (λ k above below m. free k above m) in
        let before : made ≡ stores_below bound (t.write v) = at.1.3 in
        cc

-- ---- a process that gets its preference
-- a process that stores its input in the proposal prefers its input
pub prefers_own :
    (t : QuorumTable) (v input : ℕ) (made : List Act) (op : Op) (seen : ℕ) → IsInRatifier t v (Propose input) made
    → IsRatifierOp t (Propose input) op → ReadsClear t v input 0 (act_of op seen ∷ made)
prefers_own t v input made op seen at is =
    rw (propose_op t input op is)
    (let same : input ≡ v = at.0 in
    let before : made ≡ Load Proposal 0 ∷ announcement t v = at.1 in
    (Store Proposal (input + 1) ∷ made, inl (same, cc), refl))

-- a process that loads the value u from the proposal prefers u
pub prefers_found :
    (t : QuorumTable) (v u seen : ℕ) → seen ≡ u + 1 → ReadsClear t v u 0 (Load Proposal seen ∷ announcement t v)
prefers_found t v u seen e =
    (Load Proposal seen ∷ announcement t v, inr (ap (λ n. Load Proposal n ∷ announcement t v) e), refl)

-- ---- a process that checks its preference
-- with a load of 0 from the least register r left, the acts read u's read quorum below r + 1 and found 0 in all
pub checked_next :
    (t : QuorumTable) → IsQuorumTable t → (v u left r : ℕ) (made : List Act) → u < t.values
    → IsInRatifier t v (Check u left) made → IsLeast left r
    → (r + 1 ≤ t.registers) × ReadsClear t v u (r + 1) (Load (Quorum r) 0 ∷ made)
checked_next t q v u left r made within at least =
    let from = rest_least (t.read u) at.0 left r at.2 least in
    let below : r < t.registers = member_below t.registers (t.read u) r (q.read_within u within) from.member in
    let next = each_next (λ k. Load (Quorum k) 0) (t.read u) at.0 r from in
    let before : made ≡ zeros_below at.0 (t.read u) ++ at.3.0 = at.3.2 in
    (omega arith, (at.3.0, at.3.1, rw next (cc)))

-- after a load of 0 a process has the same registers left to check, without the one loaded
pub checked_zero :
    (t : QuorumTable) → IsQuorumTable t → (v u left r after : ℕ) (made : List Act) (op : Op) (seen : ℕ) → u < t.values
    → IsInRatifier t v (Check u left) made → IsRatifierOp t (Check u left) op → seen ≡ 0 → IsLeast left r
    → IsTaken left r after
    → (r + 1 ≤ t.registers) × IsRest (t.read u) (r + 1) after × ReadsClear t v u (r + 1) (act_of op seen ∷ made)
checked_zero t q v u left r after made op seen within at is zero_seen least taken =
    let x = check_op t u left op is in
    let same : x.0 ≡ r = one_least left x.0 r x.2 least in
    let act : act_of op seen ≡ Load (Quorum r) 0 =
    ap (λ o. act_of o seen) x.1 ∙ ap₂ (λ s n. Load (Quorum s) n) same zero_seen in
    let next = checked_next t q v u left r made within at least in (
      next.0,
      rest_taken (t.read u) at.0 left r after at.2 least taken,
      subst (λ a. ReadsClear t v u (r + 1) (a ∷ made))
          (sym act) next.1,
    )

-- if the load of a register that is left to check finds 1, the path ends undecided
pub checked_one :
    (t : QuorumTable) → IsQuorumTable t → (v u left : ℕ) (made : List Act) (op : Op) (seen : ℕ) → u < t.values
    → IsInRatifier t v (Check u left) made → IsRatifierOp t (Check u left) op
    → CanFind t (InRatifier (Check u left)) op seen → seen ≢ 0 → ReadsOne t v u (act_of op seen ∷ made)
checked_one t q v u left made op seen within at is can some =
    let x = check_op t u left op is in
    let small : seen ≤ 1 = rw (x.1) at can in
    let from = rest_least (t.read u) at.0 left x.0 at.2 x.2 in
    let below : x.0 < t.registers = member_below t.registers (t.read u) x.0 (q.read_within u within) from.member in
    let one : seen ≡ 1 = omega arith in
    let same = each_skip (λ k. Load (Quorum k) 0) x.0 (t.read u) at.0 from.above from.least in (
      x.0,
      ap (λ o. act_of o seen) x.1 ∙ ap (λ n. Load (Quorum x.0) n) one,
      from.member,
      below,
      (at.3.0, at.3.1, at.3.2 ∙ ap (λ xs. xs ++ at.3.0) (sym same)),
    )

-- if all loads of a check so far found 0, and no register is left to check, the whole read quorum was loaded
pub checked_whole :
    (t : QuorumTable) (v u bound left : ℕ) (made : List Act) → bound ≤ t.registers → IsRest (t.read u) bound left
    → left ≡ 0 → ReadsClear t v u bound made → ReadsClear t v u t.registers made
checked_whole t v u bound left made within rest none h =
    let free = rest_none (t.read u) bound left rest none in
    let all = each_skip (λ k. Load (Quorum k) 0) t.registers (t.read u) bound within
    (λ k above below m. free k above m) in
    (h.0, h.1, h.2 ∙ ap (λ xs. xs ++ h.0) (sym all))
