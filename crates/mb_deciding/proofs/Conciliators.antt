-- What holds of every lawful history of one conciliator.
use Rattle.std.proofs.Common.{◌≡◌, ℕ, ◌+◌, ◌<◌, ◌≤◌, ◌⊎◌, Option, Some, None, List, [], ◌∷◌, inl, inr, sym, refl, ap, ◌∙◌, subst}
use Rattle.std.proofs.Common.{arith}
use Rattle.std.specs.List.{cons_option}
use Rattle.mb_deciding.specs.{Reg, Value, Proposal, Quorum, Last, Act, Load, Store, Exchange, Turn, Access, Conciliator, Object}
use Rattle.mb_deciding.specs.{object_of, conciliator_of, value_after, value_in, stored_by, ReadsLast, part, IsPut}
use Rattle.mb_deciding.specs.{IsPrefix, IsObjectLawful, CanHold, IsValid, IsFirstMover, stores_in}
use Rattle.mb_quorum.specs.Quorum.{QuorumTable}
use Rattle.mb_deciding.proofs.Histories.{HoldsInputs, IsFrom, from_kept, lawful_older, own_turns, own_some, since_newest, value_from, value_small as small}
use Rattle.mb_deciding.proofs.ConciliatorPaths.{StoresInput, path_stores, path_last}

-- n is in the list
abbrev IsAmong : List ℕ → ℕ → Type 0
IsAmong [] n = ⊥
IsAmong (x ∷ xs) n = (n ≡ x) ⊎ IsAmong xs n

-- ---- what one act stores and leaves
-- after one act of a process with input v, a value in the word was there before, or it is v
act_value :
    (v u : ℕ) (act : Act) (n : ℕ) → StoresInput v act → value_after Value act n ≡ u + 1 → (n ≡ u + 1) ⊎ (v ≡ u)
act_value v u (Load at x) n b e = inl e
act_value v u (Store Value w) n b e = let same : w ≡ v + 1 = b in inr (omega arith)
act_value v u (Store Proposal w) n b e = inl e
act_value v u (Store (Quorum r) w) n b e = inl e
act_value v u (Store Last w) n b e = absurd b
act_value v u (Exchange reg w f) n b e = absurd b

-- after one act a value in the word is among the values stored, if the value before the act was
act_stored :
    (v u : ℕ) (act : Act) (n : ℕ) (stored : List ℕ) → StoresInput v act → (n ≡ u + 1 → IsAmong stored (u + 1))
    → value_after Value act n ≡ u + 1 → IsAmong (cons_option (stored_by act) stored) (u + 1)
act_stored v u (Load at x) n stored b f e = f e
act_stored v u (Store Value w) n stored b f e = inl (sym e)
act_stored v u (Store Proposal w) n stored b f e = absurd b
act_stored v u (Store (Quorum r) w) n stored b f e = absurd b
act_stored v u (Store Last w) n stored b f e = absurd b
act_stored v u (Exchange reg w m) n stored b f e = absurd b

-- a number in a list is still in it after one more number is added in front, or none
among_longer : (o : Option ℕ) (n : ℕ) (stored : List ℕ) → IsAmong stored n → IsAmong (cons_option o stored) n
among_longer None n stored h = h
among_longer (Some w) n stored h = inr h

-- a value among those stored is among them after one more act
among_kept : (act : Act) (n : ℕ) (stored : List ℕ) → IsAmong stored n → IsAmong (cons_option (stored_by act) stored) n
among_kept act n stored h = among_longer (stored_by act) n stored h

-- a conciliator's word that is not empty is still not empty after one more act
filled_after : (v : ℕ) (act : Act) (n : ℕ) → StoresInput v act → 0 < n → 0 < value_after Value act n
filled_after v (Load reg x) n b e = e
filled_after v (Store Value w) n b e = let k : w ≡ v + 1 = b in omega arith
filled_after v (Store Proposal w) n b e = absurd b
filled_after v (Store (Quorum r) w) n b e = absurd b
filled_after v (Store Last w) n b e = absurd b
filled_after v (Exchange reg w f) n b e = absurd b

-- an act on a conciliator leaves an empty proposal empty
proposal_kept : (v : ℕ) (act : Act) (n : ℕ) → StoresInput v act → n ≡ 0 → value_after Proposal act n ≡ 0
proposal_kept v (Load at x) n b e = e
proposal_kept v (Store Value w) n b e = e
proposal_kept v (Store Proposal w) n b e = absurd b
proposal_kept v (Store (Quorum r) w) n b e = absurd b
proposal_kept v (Store Last w) n b e = absurd b
proposal_kept v (Exchange reg w f) n b e = absurd b

-- an act on a conciliator leaves an empty quorum register empty
register_kept : (v r : ℕ) (act : Act) (n : ℕ) → StoresInput v act → n ≡ 0 → value_after (Quorum r) act n ≡ 0
register_kept v r (Load at x) n b e = e
register_kept v r (Store Value w) n b e = e
register_kept v r (Store Proposal w) n b e = absurd b
register_kept v r (Store (Quorum i) w) n b e = absurd b
register_kept v r (Store Last w) n b e = absurd b
register_kept v r (Exchange reg w f) n b e = absurd b

-- an act on a conciliator leaves the word of a last object empty if it was
last_kept : (v : ℕ) (act : Act) (n : ℕ) → StoresInput v act → n ≡ 0 → value_after Last act n ≡ 0
last_kept v (Load at x) n b e = e
last_kept v (Store Value w) n b e = e
last_kept v (Store Proposal w) n b e = absurd b
last_kept v (Store (Quorum r) w) n b e = absurd b
last_kept v (Store Last w) n b e = absurd b
last_kept v (Exchange reg w f) n b e = absurd b

-- ---- what lawful histories leave in the words, and the promises
module _ (t : QuorumTable) (s : ℕ) (inputs : ℕ → ℕ) where
  -- the history is lawful for this conciliator
  abbrev L : List Access → Type 0
  L h = IsObjectLawful (conciliator_of t s inputs) h

  -- the newest access stores the input of its process, if it stores
  newest_stores : (a : Access) (h : List Access) → L (a ∷ h) → StoresInput (inputs a.process) a.turn.act
  newest_stores a h l =
      let p = subst (λ xs. IsPrefix t (Conciliator s) (inputs a.process) xs) (own_turns a h)
      (l.parts a.process (own_some a h)).1 in
      path_stores s (inputs a.process) a.turn (part a.process h) p.0 p.1.value p.2.1

  -- the word holds inputs
  holds_inputs : HoldsInputs (conciliator_of t s inputs) Value
  holds_inputs a h l u e = act_value (inputs a.process) u a.turn.act (value_in Value h) (newest_stores a h l) e

  -- the value in the word is among the values stored
  value_stored : (h : List Access) → L h → (u : ℕ) → value_in Value h ≡ u + 1 → IsAmong (stores_in h) (u + 1)
  value_stored [] l u e = absurd (omega arith)
  value_stored (a ∷ h) l u e =
      act_stored (inputs a.process) u a.turn.act (value_in Value h) (stores_in h) (newest_stores a h l)
      (value_stored h (lawful_older (conciliator_of t s inputs) a h l) u) e

  -- if the newest access is a load of a value, the older accesses left that value in the word
  newest_load :
      (a : Access) (h : List Access) → L (a ∷ h) → (last : Turn) (u : ℕ) → last.act ≡ Load Value (u + 1)
      → a.turn ≡ last → value_in Value h ≡ u + 1
  newest_load a h l last u e same = sym (subst (λ act. ReadsLast act h) (ap (λ x. x.act) same ∙ e) l.memory.0)

  -- each output is the input of a process with an access
  pub valid : (h : List Access) → L h → IsValid (conciliator_of t s inputs) h
  valid h l p d u out =
      let end = path_last s (inputs p) (part p h) u out.1 in
      let o = conciliator_of t s inputs in
      since_newest o (λ g. IsFrom o g u) end.0
      (λ a g k same. from_kept o a g u (value_from o Value holds_inputs g (lawful_older o a g k) u
      (newest_load a g k end.0 u end.2 same)))
      (λ a g k f. from_kept o a g u f)
      h l p end.1 end.3

  -- if the last turn of a process loaded a value, that value is among those stored
  output_stored :
      (h : List Access) → L h → (p u : ℕ) (last : Turn) (rest : List Turn) → last.act ≡ Load Value (u + 1)
      → part p h ≡ last ∷ rest → IsAmong (stores_in h) (u + 1)
  output_stored h l p u last rest e is =
      since_newest (conciliator_of t s inputs) (λ g. IsAmong (stores_in g) (u + 1)) last
      (λ a g k same. among_kept a.turn.act (u + 1) (stores_in g)
      (value_stored g (lawful_older (conciliator_of t s inputs) a g k) u (newest_load a g k last u e same)))
      (λ a g k f. among_kept a.turn.act (u + 1) (stores_in g) f)
      h l p rest is

  -- if only one store was made, every output has the value stored
  first_movers : (h : List Access) → L h → IsFirstMover (conciliator_of t s inputs) h
  first_movers h l w only p d u o =
      let end = path_last s (inputs p) (part p h) u o.1 in
      elim (subst (λ xs. IsAmong xs (u + 1)) only
      (output_stored h l p u end.0 end.1 end.2 end.3)) [ inl e ↦ sym e | inr none ↦ absurd none ]

  -- if attempts and then a store are all that a process has made, the word is not empty
  pub put_filled :
      (h : List Access) → L h → (p k : ℕ) (turns : List Turn) → part p h ≡ turns → IsPut s (inputs p) k turns
      → 0 < value_in Value h
  put_filled h l p k [] is put = absurd put
  put_filled h l p k (x ∷ older) is put =
      since_newest (conciliator_of t s inputs) (λ g. 0 < value_in Value g) x
      (λ a g b same. subst (λ act. 0 < value_after Value act (value_in Value g)) (sym (ap (λ y. y.act) same ∙ put.0))
      (omega arith))
      (λ a g b f. filled_after (inputs a.process) a.turn.act (value_in Value g) (newest_stores a g b) f)
      h l p older is

  -- the word holds 0, or one more than a value
  pub value_small : (h : List Access) → L h → value_in Value h ≤ t.values
  value_small h l = small (conciliator_of t s inputs) Value holds_inputs h l

  -- a history of a conciliator leaves 0 in the proposal
  no_proposal : (h : List Access) → L h → value_in Proposal h ≡ 0
  no_proposal [] l = refl
  no_proposal (a ∷ h) l =
      proposal_kept (inputs a.process) a.turn.act (value_in Proposal h) (newest_stores a h l)
      (no_proposal h (lawful_older (conciliator_of t s inputs) a h l))

  -- a history of a conciliator leaves 0 in the quorum registers
  no_register : (r : ℕ) (h : List Access) → L h → value_in (Quorum r) h ≡ 0
  no_register r [] l = refl
  no_register r (a ∷ h) l =
      register_kept (inputs a.process) r a.turn.act (value_in (Quorum r) h) (newest_stores a h l)
      (no_register r h (lawful_older (conciliator_of t s inputs) a h l))

  -- a history of a conciliator leaves 0 in the word of a last object
  no_last : (h : List Access) → L h → value_in Last h ≡ 0
  no_last [] l = refl
  no_last (a ∷ h) l =
      last_kept (inputs a.process) a.turn.act (value_in Last h) (newest_stores a h l)
      (no_last h (lawful_older (conciliator_of t s inputs) a h l))

  -- each word holds a number that a word of this name can hold: 0, or one more than a value. A register holds 0 or 1
  pub fits : (h : List Access) (reg : Reg) → L h → CanHold t reg (value_in reg h)
  fits h Value l = value_small h l
  fits h Proposal l = omega (arith, no_proposal h l)
  fits h (Quorum r) l = omega (arith, no_register r h l)
  fits h Last l = omega (arith, no_last h l)

-- in a lawful history of an object that is a conciliator: if only one store was made, every output has the value stored
pub one_mover :
    (o : Object) (s : ℕ) (h : List Access) → o.kind ≡ Conciliator s → IsObjectLawful o h → IsFirstMover o h
one_mover o s h is =
    subst (λ kind. IsObjectLawful (object_of o.table kind o.inputs) h → IsFirstMover
    (object_of o.table kind o.inputs) h) (sym is)
    (first_movers o.table s o.inputs h)
