-- Which loads a ratifier's path has, how they show its preference, and that a whole path has one output.
use Rattle.std.proofs.Common.{◌≡◌, ℕ, zero, suc, ◌+◌, ◌<◌, ◌==◌, cond, Bool, true, false, List, [], ◌∷◌, ◌++◌, ◌⊎◌, inl}
use Rattle.std.proofs.Common.{inr, sym, refl, ap, ◌∙◌, subst, arith}
use Rattle.std.specs.Int.{bit_at}
use Rattle.mb_quorum.specs.Quorum.{QuorumTable}
use Rattle.mb_deciding.specs.{Value, Proposal, Quorum, Last, Act, Load, Store, Exchange, Has, acts_below, stores_below, zeros_below}
use Rattle.mb_deciding.specs.{announcement, Prefers, ReadsClear, ReadsOne, IsRatifierPath}
use Rattle.mb_deciding.proofs.Grammar.{has_cond_cases, one_chosen}

-- ---- which loads a path has
-- the values that these acts loaded from the proposal, the newest first
abbrev pub proposal_loads : List Act → List ℕ
proposal_loads [] = []
proposal_loads (Load Proposal x ∷ older) = x ∷ proposal_loads older
proposal_loads (Load Value x ∷ older) = proposal_loads older
proposal_loads (Load (Quorum r) x ∷ older) = proposal_loads older
proposal_loads (Load Last x ∷ older) = proposal_loads older
proposal_loads (Store reg w ∷ older) = proposal_loads older
proposal_loads (Exchange reg w f ∷ older) = proposal_loads older

-- an act of a list with an act for each register is the act of some register
has_each_cases :
    (act : ℕ → Act) (n mask : ℕ) (c : Act) → Has (acts_below act n mask) c → (r : ℕ) × (r < n) × (c ≡ act r)
has_each_cases act zero mask c h = absurd h
has_each_cases act (suc n) mask c h =
    elim (has_cond_cases (bit_at mask n == 1) (act n) (acts_below act n mask) c h) [
      | inl w ↦ (n, omega arith, w.1)
      | inr w ↦ (let deeper = has_each_cases act n mask c w in (deeper.0, omega arith, deeper.2))
    ]

-- an act of two lists joined is in one of them
has_append_cases : (xs ys : List Act) (c : Act) → Has (xs ++ ys) c → Has xs c ⊎ Has ys c
has_append_cases [] ys c h = inr h
has_append_cases (x ∷ xs) ys c (inl e) = inl (inl e)
has_append_cases (x ∷ xs) ys c (inr h) = elim (has_append_cases xs ys c h) [ inl k ↦ inl (inr k) | inr k ↦ inr k ]

-- each act of an announcement is a store of 1 in a register
stores_only : (n mask : ℕ) (c : Act) → Has (stores_below n mask) c → (r : ℕ) × (c ≡ Store (Quorum r) 1)
stores_only n mask c h = let e = has_each_cases (λ k. Store (Quorum k) 1) n mask c h in (e.0, e.2)

-- the acts up to a preference have no load of a register
prefers_no_load :
    (t : QuorumTable) (v u r x : ℕ) (begin : List Act) → Prefers t v u begin → Has begin (Load (Quorum r) x) → ⊥
prefers_no_load t v u r x begin (inl p) h = stores (subst (λ xs. Has xs (Load (Quorum r) x)) p.1 h)
  where
    -- if the process stored its input in the proposal, these acts have no load of a register
    stores : Has (Store Proposal (v + 1) ∷ Load Proposal 0 ∷ announcement t v) (Load (Quorum r) x) → ⊥
    stores (inl e) = cc
    stores (inr (inl e)) = cc
    stores (inr (inr k)) =
        let other = stores_only t.registers (t.write v) (Load (Quorum r) x) k in
        let e : Load (Quorum r) x ≡ Store (Quorum other.0) 1 = other.1 in cc
prefers_no_load t v u r x begin (inr p) h = loads (subst (λ xs. Has xs (Load (Quorum r) x)) p h)
  where
    -- if the process found a value in the proposal, these acts have no load of a register
    loads : Has (Load Proposal (u + 1) ∷ announcement t v) (Load (Quorum r) x) → ⊥
    loads (inl e) = cc
    loads (inr k) =
        let other = stores_only t.registers (t.write v) (Load (Quorum r) x) k in
        let e : Load (Quorum r) x ≡ Store (Quorum other.0) 1 = other.1 in cc

-- if all loads of a check below a bound found 0, each load of a register is of one below the bound, and found 0
pub clear_only :
    (t : QuorumTable) (v u n r x : ℕ) (made : List Act) → ReadsClear t v u n made → Has made (Load (Quorum r) x)
    → (r < n) × (x ≡ 0)
clear_only t v u n r x made clear h =
    elim (has_append_cases (zeros_below n (t.read u)) clear.0 (Load (Quorum r) x)
    (subst (λ xs. Has xs (Load (Quorum r) x)) clear.2 h)) [
      | inl k ↦ (let e = has_each_cases (λ s. Load (Quorum s) 0) n (t.read u) (Load (Quorum r) x) k in
          let same : r ≡ e.0 = register e.0 e.2 in
          let below : e.0 < n = e.1 in
          (omega arith, value e.0 e.2))
      | inr k ↦ absurd (prefers_no_load t v u r x clear.0 clear.1 k)
    ]
  where
    -- if two loads of registers are equal, so are the registers
    register : (s : ℕ) → Load (Quorum r) x ≡ Load (Quorum s) 0 → r ≡ s
    register s e = cc

    -- if two loads of registers are equal, so are the values found
    value : (s : ℕ) → Load (Quorum r) x ≡ Load (Quorum s) 0 → x ≡ 0
    value s e = cc

-- with one more load of a register, or none, the loads of the proposal are the same
cond_loads :
    (b : Bool) (r x : ℕ) (xs ys : List Act) → proposal_loads (xs ++ ys) ≡ proposal_loads ys
    → proposal_loads (cond b (Load (Quorum r) x ∷ xs) xs ++ ys) ≡ proposal_loads ys
cond_loads true r x xs ys h = h
cond_loads false r x xs ys h = h

-- with a check's loads of registers the loads of the proposal are the same
pub zeros_loads : (n mask : ℕ) (ys : List Act) → proposal_loads (zeros_below n mask ++ ys) ≡ proposal_loads ys
zeros_loads zero mask ys = refl
zeros_loads (suc n) mask ys = cond_loads (bit_at mask n == 1) n 0 (zeros_below n mask) ys (zeros_loads n mask ys)

-- ---- how the loads of the proposal show the preference
-- the newest load of the proposal shows the preference u: it found 0 and u is the input v, or it found u + 1
abbrev pub IsFrom : ℕ → ℕ → List ℕ → List ℕ → Type 0
IsFrom v u loads rest = ((u ≡ v) × (loads ≡ 0 ∷ rest)) ⊎ (loads ≡ (u + 1) ∷ rest)

-- if by these acts a process just got the preference u, its newest load of the proposal shows u
prefers_from :
    (t : QuorumTable) (v u : ℕ) (begin : List Act) → Prefers t v u begin
    → IsFrom v u (proposal_loads begin) (proposal_loads (announcement t v))
prefers_from t v u begin (inl p) = inl (p.0, ap proposal_loads p.1)
prefers_from t v u begin (inr p) = inr (ap proposal_loads p)

-- the same loads of the proposal show only one preference
pub from_unique : (v u w : ℕ) (loads rest : List ℕ) → IsFrom v u loads rest → IsFrom v w loads rest → u ≡ w
from_unique v u w loads rest (inl h) (inl k) = h.0 ∙ sym k.0
from_unique v u w loads rest (inl h) (inr k) =
    let e : 0 ≡ w + 1 = (let f : 0 ∷ rest ≡ (w + 1) ∷ rest = sym h.1 ∙ k in cc) in absurd (omega arith)
from_unique v u w loads rest (inr h) (inl k) =
    let e : 0 ≡ u + 1 = (let f : 0 ∷ rest ≡ (u + 1) ∷ rest = sym k.1 ∙ h in cc) in absurd (omega arith)
from_unique v u w loads rest (inr h) (inr k) =
    let e : u + 1 ≡ w + 1 = (let f : (u + 1) ∷ rest ≡ (w + 1) ∷ rest = sym h ∙ k in cc) in omega arith

-- if all loads of a check of u below a bound found 0, the newest load of the proposal shows the preference u
pub clear_from :
    (t : QuorumTable) (v u n : ℕ) (made : List Act) → ReadsClear t v u n made
    → IsFrom v u (proposal_loads made) (proposal_loads (announcement t v))
clear_from t v u n made clear =
    let e : proposal_loads made ≡ proposal_loads clear.0 =
    ap proposal_loads clear.2 ∙ zeros_loads n (t.read u) clear.0 in
    subst (λ xs. IsFrom v u xs (proposal_loads (announcement t v))) (sym e) (prefers_from t v u clear.0 clear.1)

-- if a check of the preference u ended with a load of 1, the newest load of the proposal shows u
pub one_from :
    (t : QuorumTable) (v u : ℕ) (made : List Act) → ReadsOne t v u made
    → IsFrom v u (proposal_loads made) (proposal_loads (announcement t v))
one_from t v u [] h = absurd h
one_from t v u (act ∷ older) h =
    let e : proposal_loads (act ∷ older) ≡ proposal_loads older = ap (λ a. proposal_loads (a ∷ older)) h.1 in
    subst (λ xs. IsFrom v u xs (proposal_loads (announcement t v))) (sym e) (clear_from t v u h.0 older h.4)

-- ---- one output
-- a whole path has one output
pub same_output :
    (t : QuorumTable) (v : ℕ) (made : List Act) (d e : Bool) (u w : ℕ) → IsRatifierPath t v made d u
    → IsRatifierPath t v made e w → (d ≡ e) × (u ≡ w)
same_output t v made true true u w h k = (
  refl,
  from_unique v u w (proposal_loads made) (proposal_loads (announcement t v))
      (clear_from t v u t.registers made h) (clear_from t v w t.registers made k),
)
same_output t v made true false u w h k =
    let one = (one_chosen t v w made k).1 in
    let none : ◌≡◌ {A = ℕ} 1 0 = (clear_only t v u t.registers one.0 1 made h one.2).1 in
    absurd (omega arith)
same_output t v made false true u w h k =
    let one = (one_chosen t v u made h).1 in
    let none : ◌≡◌ {A = ℕ} 1 0 = (clear_only t v w t.registers one.0 1 made k one.2).1 in
    absurd (omega arith)
same_output t v made false false u w h k = (
  refl,
  from_unique v u w (proposal_loads made) (proposal_loads (announcement t v)) (one_from t v u made h)
      (one_from t v w made k),
)
