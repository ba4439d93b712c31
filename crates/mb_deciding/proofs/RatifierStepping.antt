-- A process at its place in a ratifier: its acts are an open prefix of a path, and with the next act still a prefix of
-- one. Also what a load may find, and to which words the next op may go.
use Rattle.std.proofs.Common.{◌≡◌, ap, ◌∙◌, ℕ, zero, suc, ◌+◌, ◌<◌, false, List, ◌∷◌, inl, inr}
use Rattle.std.proofs.Common.{sym, subst, arith}
use Rattle.std.proofs.Math.Numerals.{add-one}
use Rattle.std.proofs.lemmas.Bool.{cases_eq}
use Rattle.mb_deciding.specs.{Value, Proposal, Quorum, Last, Act, Load, Op, Access}
use Rattle.mb_deciding.specs.{Ratifier, InRatifier, RatifierPlace, Begin, Announce, Propose, Check}
use Rattle.mb_deciding.specs.{ratifier_of}
use Rattle.mb_deciding.specs.{stores_below, announcement, IsObjectLawful}
use Rattle.mb_deciding.specs.{IsRatifierPlace, IsInRatifier, IsRatifierOp}
use Rattle.mb_deciding.specs.{CanFind, HasReg, act_of, reg_of, seen_by}
use Rattle.mb_quorum.specs.Quorum.{QuorumTable, IsQuorumTable}
use Rattle.mb_deciding.specs.declared.access.Op.TheVariants as to
use Rattle.mb_deciding.proofs.Registers.{some_least}
use Rattle.mb_deciding.proofs.RatifierWords.{fits}
use Rattle.mb_deciding.proofs.Prefixes.{IsRatifierOpen, IsRatifierPart, path_part, clear_part, part_older, open_part}
use Rattle.mb_deciding.proofs.Prefixes.{empty_open, stores_open}
use Rattle.mb_deciding.proofs.Advances.{find_anywhere, announce_op, begin_op, propose_op, check_op, begin_announces}
use Rattle.mb_deciding.proofs.Advances.{announced_next, announced_whole, prefers_own, prefers_found, checked_next}
use Rattle.mb_deciding.proofs.Advances.{checked_one}

-- the acts that led to a place are an open prefix of a path: at least one later act completes it
pub checking_open :
    (t : QuorumTable) → IsQuorumTable t → (v : ℕ) (place : RatifierPlace) (made : List Act) → IsRatifierPlace t place
    → IsInRatifier t v place made → IsRatifierOpen t v made
checking_open t q v (Begin input) made fit at = rw at.1 (stores_open t v 0 (omega arith))
checking_open t q v (Announce input left) made fit at = rw at.1.3 (stores_open t v at.1.0 at.1.1)
checking_open t q v (Propose input) made fit at = rw at.1 (empty_open t v)
checking_open t q v (Check u left) made fit at =
    let least = some_least left fit.1 in
    let one = checked_one t q v u left made (to.Load (Quorum least.0)) 1 fit.0 at least.1 (omega arith) (omega arith) in
    part_older t v (Load (Quorum least.0) 1) made (path_part t v (Load (Quorum least.0) 1 ∷ made) false u one)

-- the announcement and a load of the proposal are a prefix of a path
loaded_part : (t : QuorumTable) (v n : ℕ) → IsRatifierPart t v (Load Proposal n ∷ announcement t v)
loaded_part t v zero = open_part t v (Load Proposal 0 ∷ announcement t v) (empty_open t v)
loaded_part t v (suc u) =
    clear_part t v u 0 (Load Proposal (suc u) ∷ announcement t v) (omega arith)
    (prefers_found t v u (suc u) (sym (add-one u)))

-- with the next act of a process that announces, its acts are a prefix of a path
announcing_next :
    (t : QuorumTable) → IsQuorumTable t → (v input left : ℕ) (made : List Act) (op : Op) (seen : ℕ) → v < t.values
    → IsInRatifier t v (Announce input left) made → IsRatifierOp t (Announce input left) op
    → CanFind t (InRatifier (Announce input left)) op seen → IsRatifierPart t v (act_of op seen ∷ made)
announcing_next t q v input left made op seen within at is can =
    elim (announce_op t input left op is) [
      | inl x ↦ (let next = announced_next t q v input left x.0 made within at x.2 in
          let stored : act_of op seen ∷ made ≡ stores_below (x.0 + 1) (t.write v) =
          ap (λ o. act_of o seen ∷ made) x.1 ∙ next.1 in
          rw stored (open_part t v (stores_below (x.0 + 1) (t.write v)) (stores_open t v (x.0 + 1) next.0)))
      | inr x ↦ rw ((announced_whole t v input left made op seen at is x.1 can).0) (loaded_part t v seen)
    ]

-- with the next act of a process at its place, which finds what it can find there, its acts are a prefix of a path
pub checking_next :
    (t : QuorumTable) → IsQuorumTable t → (v : ℕ) (place : RatifierPlace) (made : List Act) (op : Op) (seen : ℕ)
    → IsRatifierPlace t place → IsInRatifier t v place made → IsRatifierOp t place op → CanFind t
    (InRatifier place) op seen
    → IsRatifierPart t v (act_of op seen ∷ made)
checking_next t q v (Begin input) made op seen fit at is can =
    announcing_next t q v input (t.write input) made op seen (subst (λ n. n < t.values) at.0 fit)
    (begin_announces t v input made at)
    ((begin_op t input op).0 is) (find_anywhere t (Begin input) (Announce input (t.write input)) op seen can)
checking_next t q v (Announce input left) made op seen fit at is can =
    announcing_next t q v input left made op seen (subst (λ n. n < t.values) at.0 fit) at is can
checking_next t q v (Propose input) made op seen fit at is can =
    clear_part t v input 0 (act_of op seen ∷ made) (omega arith) (prefers_own t v input made op seen at is)
checking_next t q v (Check u left) made op seen fit at is can =
    let x = check_op t u left op is in
    elim (cases_eq seen 0) [
      | inl e ↦ (let next = checked_next t q v u left x.0 made fit.0 at x.2 in
          let act : act_of op seen ≡ Load (Quorum x.0) 0 =
          ap (λ o. act_of o seen) x.1 ∙ ap (λ n. Load (Quorum x.0) n) e in
          rw act (clear_part t v u (x.0 + 1) (Load (Quorum x.0) 0 ∷ made) next.0 next.1))
      | inr some ↦ path_part t v (act_of op seen ∷ made) false u
          (checked_one t q v u left made op seen fit.0 at is can some)
    ]

-- after a lawful history a load finds a value that its word can hold
pub checking_found :
    (t : QuorumTable) (inputs : ℕ → ℕ) (h : List Access) → IsObjectLawful (ratifier_of t inputs) h
    → (place : RatifierPlace) (op : Op) → CanFind t (InRatifier place) op (seen_by op h)
checking_found t inputs h l place (to.Load Value) = tt
checking_found t inputs h l place (to.Load Proposal) = fits t inputs h Proposal l
checking_found t inputs h l place (to.Load (Quorum r)) = fits t inputs h (Quorum r) l
checking_found t inputs h l place (to.Load Last) = tt
checking_found t inputs h l place (to.Store reg w) = tt
checking_found t inputs h l place (to.Exchange reg w) = tt

-- the next op of a process that announces goes to a word of a ratifier
announcing_word :
    (t : QuorumTable) → IsQuorumTable t → (v input left : ℕ) (made : List Act) (op : Op) → v < t.values
    → IsInRatifier t v (Announce input left) made → IsRatifierOp t (Announce input left) op
    → HasReg t.registers Ratifier (reg_of op)
announcing_word t q v input left made op within at is =
    elim (announce_op t input left op is) [
      | inl x ↦ rw (x.1) (let next = (announced_next t q v input left x.0 made within at x.2).0 in omega arith)
      | inr x ↦ rw (x.0) tt
    ]

-- the next op of a process at its place goes to a word of a ratifier
pub checking_word :
    (t : QuorumTable) → IsQuorumTable t → (v : ℕ) (place : RatifierPlace) (made : List Act) (op : Op)
    → IsRatifierPlace t place
    → IsInRatifier t v place made → IsRatifierOp t place op → HasReg t.registers Ratifier (reg_of op)
checking_word t q v (Begin input) made op fit at is =
    announcing_word t q v input (t.write input) made op (subst (λ n. n < t.values) at.0 fit)
    (begin_announces t v input made at) ((begin_op t input op).0 is)
checking_word t q v (Announce input left) made op fit at is =
    announcing_word t q v input left made op (subst (λ n. n < t.values) at.0 fit) at is
checking_word t q v (Propose input) made op fit at is = rw (propose_op t input op is) tt
checking_word t q v (Check u left) made op fit at is =
    let x = check_op t u left op is in
    rw (x.1) (let next = (checked_next t q v u left x.0 made fit.0 at x.2).0 in omega arith)
