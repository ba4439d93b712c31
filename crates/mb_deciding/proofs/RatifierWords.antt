-- What the words of a ratifier hold after a lawful history, and who stored it.
use Rattle.std.proofs.Common.{◌≡◌, ℕ, ◌+◌, ◌-◌, ◌<◌, ◌≤◌, ◌==◌, cond, Bool, true, false, Some, None, List, [], ◌∷◌, ◌⊎◌}
use Rattle.std.proofs.Common.{inl, inr, sym, refl, ap, subst, arith}
use Rattle.std.specs.List.{cons_option}
use Rattle.std.proofs.lemmas.Bool.{cases_eq, eqb-true, eq-eqb}
use Rattle.mb_deciding.specs.{Reg, Value, Proposal, Quorum, Last, Act, Load, Store, Exchange, Turn, Access, ratifier_of}
use Rattle.mb_deciding.specs.{value_after, value_in, ReadsLast, part, acts, Has, IsObjectLawful, CanHold}
use Rattle.mb_quorum.specs.Quorum.{QuorumTable}
use Rattle.mb_deciding.proofs.Histories.{lawful_older, own_turns, own_some}
use Rattle.mb_deciding.proofs.Acts.{has_turns}
use Rattle.mb_deciding.proofs.Grammar.{Behind, AllBehind, HasPreference, IsChosen, part_behind, behind_at}

-- ---- the acts of a process after one more access
-- an act of turns is still one of their acts if one more turn comes first, or none
kept_by :
    (own : Bool) (x : Turn) (turns : List Turn) (c : Act) → Has (acts turns) c
    → Has (acts (cons_option (cond own (Some x) None) turns)) c
kept_by true x turns c k = inr k
kept_by false x turns c k = k

-- an act that a process has made is still one of its acts after one more access
has_kept :
    (p : ℕ) (a : Access) (h : List Access) (c : Act) → Has (acts (part p h)) c → Has (acts (part p (a ∷ h))) c
has_kept p a h c k = kept_by (a.process == p) a.turn (part p h) c k

-- if one more turn comes first, or none, an act is that turn's or one of the older turns
cases_by :
    (own : Bool) (x : Turn) (turns : List Turn) (c : Act) → Has (acts (cons_option (cond own (Some x) None) turns)) c
    → ((own ≡ true) × (c ≡ x.act)) ⊎ Has (acts turns) c
cases_by true x turns c (inl e) = inl (refl, e)
cases_by true x turns c (inr k) = inr k
cases_by false x turns c k = inr k

-- after one more access an act of process p is the act of that access, or one that p had made before
pub has_cases :
    (p : ℕ) (a : Access) (h : List Access) (c : Act) → Has (acts (part p (a ∷ h))) c
    → ((a.process ≡ p) × (c ≡ a.turn.act)) ⊎ Has (acts (part p h)) c
has_cases p a h c k =
    elim (cases_by (a.process == p) a.turn (part p h) c k) [
      | inl w ↦ inl (eqb-true a.process p w.0, w.1)
      | inr w ↦ inr w
    ]

-- in a lawful history a process has made what has to come before each of its acts (`Behind`)
pub own_behind :
    (t : QuorumTable) (inputs : ℕ → ℕ) (h : List Access) → IsObjectLawful (ratifier_of t inputs) h → (p : ℕ) (c : Act)
    → Has (acts (part p h)) c
    → (older : List Act) × Behind t (inputs p) c older × ((b : Act) → Has older b → Has (acts (part p h)) b)
own_behind t inputs h l p c k =
    behind_at t (inputs p) (acts (part p h)) c
    (part_behind t (inputs p) (part p h) (l.parts p (has_turns (part p h) c k)).1) k

-- in a lawful history the process of the newest access had made what has to come before that access (`Behind`)
newest_behind :
    (t : QuorumTable) (inputs : ℕ → ℕ) (a : Access) (h : List Access) → IsObjectLawful (ratifier_of t inputs) (a ∷ h)
    → Behind t (inputs a.process) a.turn.act (acts (part a.process h))
newest_behind t inputs a h l =
    (subst (λ turns. AllBehind t (inputs a.process) (acts turns)) (own_turns a h)
    (part_behind t (inputs a.process) (part a.process (a ∷ h)) (l.parts a.process (own_some a h)).1)).0

-- ---- what one access leaves in the words
-- a store in a quorum register leaves its value there
same_register : (r w n : ℕ) → value_after (Quorum r) (Store (Quorum r) w) n ≡ w
same_register r w n = ap (λ b. cond b w n) (eq-eqb r r refl)

-- a word that holds 1 still holds 1 if 1 is stored there, and if nothing is
cond_one : (b : Bool) (w n : ℕ) → w ≡ 1 → n ≡ 1 → cond b w n ≡ 1
cond_one true w n e f = e
cond_one false w n e f = f

-- a quorum register that holds 1 still holds 1 after one more act of a ratifier's path
one_kept :
    (t : QuorumTable) (v r : ℕ) (act : Act) (older : List Act) (n : ℕ) → Behind t v act older → n ≡ 1
    → value_after (Quorum r) act n ≡ 1
one_kept t v r (Load reg x) older n b e = e
one_kept t v r (Store Value w) older n b e = e
one_kept t v r (Store Last w) older n b e = absurd b
one_kept t v r (Exchange reg w f) older n b e = absurd b
one_kept t v r (Store Proposal w) older n b e = e
one_kept t v r (Store (Quorum i) w) older n b e = cond_one (i == r) w n b.0 e

-- a proposal that is not empty is still not empty after one more act of a ratifier's path
filled_kept :
    (t : QuorumTable) (v : ℕ) (act : Act) (older : List Act) (n : ℕ) → Behind t v act older → 0 < n
    → 0 < value_after Proposal act n
filled_kept t v (Load reg x) older n b e = e
filled_kept t v (Store Value w) older n b e = e
filled_kept t v (Store Last w) older n b e = absurd b
filled_kept t v (Exchange reg w f) older n b e = absurd b
filled_kept t v (Store Proposal w) older n b e = let k : w ≡ v + 1 = b.0 in omega arith
filled_kept t v (Store (Quorum i) w) older n b e = e

-- after one act of a process with input v, a value in the proposal was there before, or it is v, and the process had
-- loaded an empty proposal
proposal_origin :
    (t : QuorumTable) (v u : ℕ) (act : Act) (older : List Act) (n : ℕ) → Behind t v act older
    → value_after Proposal act n ≡ u + 1 → (n ≡ u + 1) ⊎ ((v ≡ u) × Has older (Load Proposal 0))
proposal_origin t v u (Load reg x) older n b e = inl e
proposal_origin t v u (Store Value w) older n b e = inl e
proposal_origin t v u (Store Last w) older n b e = absurd b
proposal_origin t v u (Exchange reg w f) older n b e = absurd b
proposal_origin t v u (Store Proposal w) older n b e = let k : w ≡ v + 1 = b.0 in inr (omega arith, b.1)
proposal_origin t v u (Store (Quorum i) w) older n b e = inl e

-- if a word is not 0 after an act, the act stored in it, or it was not 0 before
cond_origin : (b : Bool) (w n : ℕ) → 0 < cond b w n → (b ≡ true) ⊎ (0 < n)
cond_origin true w n h = inl refl
cond_origin false w n h = inr h

-- after one act a quorum register that is not 0 was not 0 before, or the act stored 1 there
register_origin :
    (t : QuorumTable) (v r : ℕ) (act : Act) (older : List Act) (n : ℕ) → Behind t v act older
    → 0 < value_after (Quorum r) act n → (0 < n) ⊎ (Store (Quorum r) 1 ≡ act)
register_origin t v r (Load reg x) older n b h = inl h
register_origin t v r (Store Value w) older n b h = inl h
register_origin t v r (Store Last w) older n b h = absurd b
register_origin t v r (Exchange reg w f) older n b h = absurd b
register_origin t v r (Store Proposal w) older n b h = inl h
register_origin t v r (Store (Quorum i) w) older n b h =
    elim (cond_origin (i == r) w n h) [
      | inl e ↦ inr (let same : i ≡ r = eqb-true i r e in let one : w ≡ 1 = b.0 in cc)
      | inr k ↦ inl k
    ]

-- ---- what the proposal and the quorum registers hold, and who stored it
-- a register in which a process has stored 1 holds 1
pub stored_one :
    (t : QuorumTable) (inputs : ℕ → ℕ) (h : List Access) → IsObjectLawful (ratifier_of t inputs) h → (p r : ℕ)
    → Has (acts (part p h)) (Store (Quorum r) 1) → value_in (Quorum r) h ≡ 1
stored_one t inputs [] l p r k = absurd k
stored_one t inputs (a ∷ h) l p r k =
    elim (has_cases p a h (Store (Quorum r) 1) k) [
      | inl w ↦ subst (λ act. value_after (Quorum r) act (value_in (Quorum r) h) ≡ 1) w.1
          (same_register r 1 (value_in (Quorum r) h))
      | inr w ↦ one_kept t (inputs a.process) r a.turn.act (acts (part a.process h)) (value_in (Quorum r) h)
          (newest_behind t inputs a h l)
          (stored_one t inputs h (lawful_older (ratifier_of t inputs) a h l) p r w)
    ]

-- if a process has stored a value in the proposal, the proposal is not empty
stored_filled :
    (t : QuorumTable) (inputs : ℕ → ℕ) (h : List Access) → IsObjectLawful (ratifier_of t inputs) h → (p v : ℕ)
    → Has (acts (part p h)) (Store Proposal (v + 1)) → 0 < value_in Proposal h
stored_filled t inputs [] l p v k = absurd k
stored_filled t inputs (a ∷ h) l p v k =
    elim (has_cases p a h (Store Proposal (v + 1)) k) [
      | inl w ↦ subst (λ act. 0 < value_after Proposal act (value_in Proposal h)) w.1 (omega arith)
      | inr w ↦ filled_kept t (inputs a.process) a.turn.act (acts (part a.process h)) (value_in Proposal h)
          (newest_behind t inputs a h l)
          (stored_filled t inputs h (lawful_older (ratifier_of t inputs) a h l) p v w)
    ]

-- if the newest access is a load, it found the value that the older accesses left
pub newest_load :
    (t : QuorumTable) (inputs : ℕ → ℕ) (a : Access) (h : List Access) (reg : Reg) (x : ℕ)
    → IsObjectLawful (ratifier_of t inputs) (a ∷ h) → Load reg x ≡ a.turn.act → x ≡ value_in reg h
newest_load t inputs a h reg x l e = subst (λ act. ReadsLast act h) (sym e) l.memory.0

-- if a process has loaded a value from the proposal, the proposal is not empty
loaded_filled :
    (t : QuorumTable) (inputs : ℕ → ℕ) (h : List Access) → IsObjectLawful (ratifier_of t inputs) h → (p u : ℕ)
    → Has (acts (part p h)) (Load Proposal (u + 1)) → 0 < value_in Proposal h
loaded_filled t inputs [] l p u k = absurd k
loaded_filled t inputs (a ∷ h) l p u k =
    let kept : 0 < value_in Proposal h → 0 < value_in Proposal (a ∷ h) =
    λ f. filled_kept t (inputs a.process) a.turn.act (acts (part a.process h)) (value_in Proposal h)
    (newest_behind t inputs a h l) f in
    elim (has_cases p a h (Load Proposal (u + 1)) k) [
      | inl w ↦ kept (let e : u + 1 ≡ value_in Proposal h = newest_load t inputs a h Proposal
          (u + 1) l w.1 in omega arith)
      | inr w ↦ kept (loaded_filled t inputs h (lawful_older (ratifier_of t inputs) a h l) p u w)
    ]

-- if a process has a preference, the proposal is not empty
pub preference_filled :
    (t : QuorumTable) (inputs : ℕ → ℕ) (h : List Access) → IsObjectLawful (ratifier_of t inputs) h → (p v : ℕ)
    → HasPreference v (acts (part p h)) → 0 < value_in Proposal h
preference_filled t inputs h l p v (inl k) = stored_filled t inputs h l p v k
preference_filled t inputs h l p v (inr k) = loaded_filled t inputs h l p k.0 k.1

-- u has a founder: a process with the input u loaded an empty proposal
abbrev pub IsFounded : (ℕ → ℕ) → List Access → ℕ → Type 0
IsFounded inputs h u = (b : ℕ) × (inputs b ≡ u) × Has (acts (part b h)) (Load Proposal 0)

-- a value with a founder still has it after one more access
founded_kept :
    (inputs : ℕ → ℕ) (a : Access) (h : List Access) (u : ℕ) → IsFounded inputs h u → IsFounded inputs (a ∷ h) u
founded_kept inputs a h u f = (f.0, f.1, has_kept f.0 a h (Load Proposal 0) f.2)

-- a value in the proposal has a founder
proposal_founded :
    (t : QuorumTable) (inputs : ℕ → ℕ) (h : List Access) → IsObjectLawful (ratifier_of t inputs) h → (u : ℕ)
    → value_in Proposal h ≡ u + 1 → IsFounded inputs h u
proposal_founded t inputs [] l u e = absurd (omega arith)
proposal_founded t inputs (a ∷ h) l u e =
    elim (proposal_origin t (inputs a.process) u a.turn.act (acts (part a.process h)) (value_in Proposal h)
    (newest_behind t inputs a h l) e) [
      | inl w ↦ founded_kept inputs a h u (proposal_founded t inputs h (lawful_older (ratifier_of t inputs) a h l) u w)
      | inr w ↦ founded_kept inputs a h u (a.process, w.0, w.1)
    ]

-- a value that a process loaded from the proposal has a founder
loaded_founded :
    (t : QuorumTable) (inputs : ℕ → ℕ) (h : List Access) → IsObjectLawful (ratifier_of t inputs) h → (p u : ℕ)
    → Has (acts (part p h)) (Load Proposal (u + 1)) → IsFounded inputs h u
loaded_founded t inputs [] l p u k = absurd k
loaded_founded t inputs (a ∷ h) l p u k =
    let older = lawful_older (ratifier_of t inputs) a h l in
    elim (has_cases p a h (Load Proposal (u + 1)) k) [
      | inl w ↦ founded_kept inputs a h u (proposal_founded t inputs h older u
          (sym (newest_load t inputs a h Proposal (u + 1) l w.1)))
      | inr w ↦ founded_kept inputs a h u (loaded_founded t inputs h older p u w)
    ]

-- a value that a process chose (`IsChosen`) has a founder
pub chosen_founded :
    (t : QuorumTable) (inputs : ℕ → ℕ) (h : List Access) → IsObjectLawful (ratifier_of t inputs) h → (p u : ℕ)
    → IsChosen (inputs p) u (acts (part p h)) → IsFounded inputs h u
chosen_founded t inputs h l p u (inl k) = (p, sym k.0, k.1)
chosen_founded t inputs h l p u (inr k) = loaded_founded t inputs h l p u k

-- a value with a founder is one of the table's
pub founded_within :
    (t : QuorumTable) (inputs : ℕ → ℕ) (h : List Access) → IsObjectLawful (ratifier_of t inputs) h → (u : ℕ)
    → IsFounded inputs h u → u < t.values
founded_within t inputs h l u f =
    subst (λ w. w < t.values) f.1 (l.parts f.0 (has_turns (part f.0 h) (Load Proposal 0) f.2)).0

-- if a register does not hold 0, a process has stored 1 in it
register_stored :
    (t : QuorumTable) (inputs : ℕ → ℕ) (h : List Access) → IsObjectLawful (ratifier_of t inputs) h → (r : ℕ)
    → 0 < value_in (Quorum r) h → (b : ℕ) × Has (acts (part b h)) (Store (Quorum r) 1)
register_stored t inputs [] l r e = absurd (omega arith)
register_stored t inputs (a ∷ h) l r e =
    elim (register_origin t (inputs a.process) r a.turn.act (acts (part a.process h)) (value_in (Quorum r) h)
    (newest_behind t inputs a h l) e) [
      | inl w ↦ (let b = register_stored t inputs h (lawful_older (ratifier_of t inputs) a h l) r w in
          (b.0, has_kept b.0 a h (Store (Quorum r) 1) b.1))
      | inr w ↦ (a.process, subst (λ turns. Has (acts turns) (Store (Quorum r) 1)) (sym (own_turns a h)) (inl w))
    ]

-- if a process loaded 1 from a register, a process has stored 1 in it
pub loaded_stored :
    (t : QuorumTable) (inputs : ℕ → ℕ) (h : List Access) → IsObjectLawful (ratifier_of t inputs) h → (p r : ℕ)
    → Has (acts (part p h)) (Load (Quorum r) 1) → (b : ℕ) × Has (acts (part b h)) (Store (Quorum r) 1)
loaded_stored t inputs [] l p r k = absurd k
loaded_stored t inputs (a ∷ h) l p r k =
    let older = lawful_older (ratifier_of t inputs) a h l in
    let kept : ((b : ℕ) × Has (acts (part b h)) (Store (Quorum r) 1)) → (b : ℕ) × Has (acts (part b (a ∷ h)))
    (Store (Quorum r) 1) =
    λ b. (b.0, has_kept b.0 a h (Store (Quorum r) 1) b.1) in
    elim (has_cases p a h (Load (Quorum r) 1) k) [
      | inl w ↦ kept (register_stored t inputs h older r (let e : 1 ≡ value_in (Quorum r) h = newest_load t inputs a h
          (Quorum r) 1 l w.1 in omega arith))
      | inr w ↦ kept (loaded_stored t inputs h older p r w)
    ]

-- ---- what the words can hold
-- a word that holds at most 1 still does if 1 is stored there, and if nothing is
cond_small : (b : Bool) (w n : ℕ) → w ≡ 1 → n ≤ 1 → cond b w n ≤ 1
cond_small true w n e h = omega arith
cond_small false w n e h = h

-- a quorum register that holds at most 1 still does after one more act of a ratifier's path
small_kept :
    (t : QuorumTable) (v r : ℕ) (act : Act) (older : List Act) (n : ℕ) → Behind t v act older → n ≤ 1
    → value_after (Quorum r) act n ≤ 1
small_kept t v r (Load reg x) older n b e = e
small_kept t v r (Store Value w) older n b e = e
small_kept t v r (Store Last w) older n b e = absurd b
small_kept t v r (Exchange reg w f) older n b e = absurd b
small_kept t v r (Store Proposal w) older n b e = e
small_kept t v r (Store (Quorum i) w) older n b e = cond_small (i == r) w n b.0 e

-- a quorum register holds 0 or 1
register_small :
    (t : QuorumTable) (inputs : ℕ → ℕ) (h : List Access) → IsObjectLawful (ratifier_of t inputs) h → (r : ℕ)
    → value_in (Quorum r) h ≤ 1
register_small t inputs [] l r = omega arith
register_small t inputs (a ∷ h) l r =
    small_kept t (inputs a.process) r a.turn.act (acts (part a.process h)) (value_in (Quorum r) h)
    (newest_behind t inputs a h l)
    (register_small t inputs h (lawful_older (ratifier_of t inputs) a h l) r)

-- the proposal holds 0, or one more than a value
proposal_small :
    (t : QuorumTable) (inputs : ℕ → ℕ) (h : List Access) → IsObjectLawful (ratifier_of t inputs) h
    → value_in Proposal h ≤ t.values
proposal_small t inputs h l =
    elim (cases_eq (value_in Proposal h) 0) [
      | inl e ↦ omega arith
      | inr e ↦ (let n : ℕ = value_in Proposal h - 1 in
          let is : value_in Proposal h ≡ n + 1 = omega arith in
          let below : n < t.values = founded_within t inputs h l n (proposal_founded t inputs h l n is) in
          omega arith)
    ]

-- an act on a ratifier leaves the word of a conciliator empty if it was
no_value :
    (t : QuorumTable) (v : ℕ) (act : Act) (older : List Act) (n : ℕ) → Behind t v act older → n ≤ 0
    → value_after Value act n ≤ 0
no_value t v (Load reg x) older n b e = e
no_value t v (Store Value w) older n b e = absurd b
no_value t v (Store Proposal w) older n b e = e
no_value t v (Store (Quorum i) w) older n b e = e
no_value t v (Store Last w) older n b e = absurd b
no_value t v (Exchange reg w f) older n b e = absurd b

-- an act on a ratifier leaves the word of a last object empty if it was
no_last :
    (t : QuorumTable) (v : ℕ) (act : Act) (older : List Act) (n : ℕ) → Behind t v act older → n ≤ 0
    → value_after Last act n ≤ 0
no_last t v (Load reg x) older n b e = e
no_last t v (Store Value w) older n b e = absurd b
no_last t v (Store Proposal w) older n b e = e
no_last t v (Store (Quorum i) w) older n b e = e
no_last t v (Store Last w) older n b e = absurd b
no_last t v (Exchange reg w f) older n b e = absurd b

-- a history of a ratifier leaves 0 in the word of a last object
last_empty :
    (t : QuorumTable) (inputs : ℕ → ℕ) (h : List Access) → IsObjectLawful (ratifier_of t inputs) h
    → value_in Last h ≤ 0
last_empty t inputs [] l = omega arith
last_empty t inputs (a ∷ h) l =
    no_last t (inputs a.process) a.turn.act (acts (part a.process h)) (value_in Last h) (newest_behind t inputs a h l)
    (last_empty t inputs h (lawful_older (ratifier_of t inputs) a h l))

-- a history of a ratifier leaves 0 in the word of a conciliator
value_empty :
    (t : QuorumTable) (inputs : ℕ → ℕ) (h : List Access) → IsObjectLawful (ratifier_of t inputs) h
    → value_in Value h ≤ 0
value_empty t inputs [] l = omega arith
value_empty t inputs (a ∷ h) l =
    no_value t (inputs a.process) a.turn.act (acts (part a.process h)) (value_in Value h) (newest_behind t inputs a h l)
    (value_empty t inputs h (lawful_older (ratifier_of t inputs) a h l))

-- each word holds a number that a word of this name can hold: 0, or one more than a value. A register holds 0 or 1
pub fits :
    (t : QuorumTable) (inputs : ℕ → ℕ) (h : List Access) (reg : Reg) → IsObjectLawful (ratifier_of t inputs) h
    → CanHold t reg (value_in reg h)
fits t inputs h Value l = omega (arith, value_empty t inputs h l)
fits t inputs h Proposal l = proposal_small t inputs h l
fits t inputs h (Quorum r) l = register_small t inputs h l r
fits t inputs h Last l = omega (arith, last_empty t inputs h l)
