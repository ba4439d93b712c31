-- The paths of a last object, and what holds of every lawful history of one.
use Rattle.std.proofs.Common.{◌≡◌, ◌≢◌, ℕ, zero, suc, ◌+◌, ◌≤◌, ◌==◌, cond, Bool, true, false, Option, Some}
use Rattle.std.proofs.Common.{None, List, [], ◌∷◌, ◌++◌, length, inl, inr, sym, refl, ap, ap₂, ◌∙◌, subst}
use Rattle.std.proofs.Common.{arith}
use Rattle.std.specs.Option.{option_map_or}
use Rattle.std.proofs.lemmas.Bool.{cases_eq, eq-eqb, ne_eqb}
use Rattle.mb_quorum.specs.Quorum.{QuorumTable}
use Rattle.mb_deciding.specs.{Reg, Value, Proposal, Quorum, Last, Exchange, Op, Turn, Access, Out, LastObject, InLast}
use Rattle.mb_deciding.specs.{LastPlace, last_of, value_after, value_in, ReadsLast, IsSameOp, part, IsLastPath, answer, IsPath}
use Rattle.mb_deciding.specs.{IsPrefix, IsOpen, IsObjectLawful, CanHold, IsValid, IsCoherent, PcIsAt, IsLastOp}
use Rattle.mb_deciding.specs.{CanFind, act_of, seen_by, most_turns}
use Rattle.mb_deciding.proofs.Histories.{HoldsInputs, not_empty, lawful_older, own_turns, own_some, since_newest, value_from, value_small}

-- ---- the paths of a last object
-- a path has one turn, so nothing comes before or after it
pub last_only :
    (v : ℕ) (later older : List Turn) (x : Turn) (u : ℕ) → IsLastPath v (later ++ x ∷ older) u
    → (later ≡ []) × (older ≡ []) × IsLastPath v (x ∷ []) u
last_only v [] [] x u h = (refl, refl, h)
last_only v [] (y ∷ older) x u h = absurd h
last_only v (z ∷ []) older x u h = absurd h
last_only v (z ∷ y ∷ later) older x u h = absurd h

-- the one turn of a path is an exchange for v + 1
pub last_act :
    (v : ℕ) (x : Turn) (u : ℕ) → IsLastPath v (x ∷ []) u → (found : ℕ) × (x.act ≡ Exchange Last (v + 1) found)
last_act v x u (inl h) = (0, h.1)
last_act v x u (inr h) = (u + 1, h)

-- if one turn is a path with the value u and one with the value w, these values are equal
pub same_value : (v : ℕ) (x : Turn) (u w : ℕ) → IsLastPath v (x ∷ []) u → IsLastPath v (x ∷ []) w → u ≡ w
same_value v x u w (inl h) (inl k) = h.0 ∙ sym k.0
same_value v x u w (inl h) (inr k) =
    let e : Exchange Last (v + 1) 0 ≡ Exchange Last (v + 1) (w + 1) = sym h.1 ∙ k in
    let n : 0 ≡ w + 1 = cc in absurd (omega (arith, n))
same_value v x u w (inr h) (inl k) =
    let e : Exchange Last (v + 1) 0 ≡ Exchange Last (v + 1) (u + 1) = sym k.1 ∙ h in
    let n : 0 ≡ u + 1 = cc in absurd (omega (arith, n))
same_value v x u w (inr h) (inr k) =
    let e : Exchange Last (v + 1) (u + 1) ≡ Exchange Last (v + 1) (w + 1) = sym h ∙ k in
    let n : u + 1 ≡ w + 1 = cc in omega (arith, n)

-- each input has a path: a process that comes first decides its input
pub opens_last : (t : QuorumTable) (v : ℕ) → IsOpen t LastObject v []
opens_last t v =
    let x : Turn = record { act = Exchange Last (v + 1) 0; word = 0 } in
    (x ∷ [], not_empty x [], (answer true v, (refl, inl (refl, refl))))

-- if a whole path and later turns are again a whole path, there are no later turns, and the outputs are equal
pub unique_last :
    (t : QuorumTable) (v : ℕ) (turns later : List Turn) (a b : Out) → IsPath t LastObject v turns a
    → IsPath t LastObject v (later ++ turns) b → (later ≡ []) × (a ≡ b)
unique_last t v [] later a b h k = absurd h.1
unique_last t v (x ∷ y ∷ turns) later a b h k = absurd h.1
unique_last t v (x ∷ []) later a b h k =
    let only = last_only v later [] x b.value k.1 in
    (only.0, ap₂ answer (h.0 ∙ sym k.0) (same_value v x a.value b.value h.1 only.2))

-- a prefix of a path has one turn at most
pub last_turns :
    (t : QuorumTable) (v : ℕ) (turns : List Turn) → IsPrefix t LastObject v turns
    → length turns ≤ most_turns t LastObject
last_turns t v [] p = omega arith
last_turns t v (x ∷ turns) p =
    let none : length turns ≡ 0 = ap length (last_only v p.0 turns x p.1.value p.2.1).1 in
    omega (arith, none)

-- the newest turn of a prefix of a path is its only one: an exchange for v + 1
pub last_alone :
    (t : QuorumTable) (v : ℕ) (turns : List Turn) (x : Turn) → IsPrefix t LastObject v (x ∷ turns)
    → (turns ≡ []) × ((found : ℕ) × (x.act ≡ Exchange Last (v + 1) found))
last_alone t v turns x p =
    let only = last_only v p.0 turns x p.1.value p.2.1 in
    (only.1, last_act v x p.1.value only.2)

-- if two prefixes of paths differ in their newest turn alone, these two turns are of one op
pub last_op :
    (t : QuorumTable) (v : ℕ) (turns : List Turn) (a b : Turn) → IsPrefix t LastObject v (a ∷ turns)
    → IsPrefix t LastObject v (b ∷ turns) → IsSameOp a.act b.act
last_op t v turns a b p q =
    let x = (last_alone t v turns a p).1 in
    let y = (last_alone t v turns b q).1 in
    subst (λ act. IsSameOp act b.act) (sym x.1)
    (subst (λ act. IsSameOp (Exchange Last (v + 1) x.0) act) (sym y.1) (refl, refl))

-- an exchange for v + 1 is a whole path, whatever it finds
pub last_path : (v found word : ℕ) → (u : ℕ)
    × IsLastPath v (record { act = Exchange Last (v + 1) found; word = word } ∷ []) u
last_path v zero word = (v, inl (refl, refl))
last_path v (suc n) word =
    let e : suc n ≡ n + 1 = omega arith in
    (n, inr (ap (λ k. Exchange Last (v + 1) k) e))

-- with its next access a process at its place has a prefix of a path
pub last_prefix :
    (t : QuorumTable) (v : ℕ) (place : LastPlace) (turns : List Turn) (op : Op) (seen word : ℕ)
    → PcIsAt t LastObject v (InLast place) turns → IsLastOp place op
    → IsPrefix t LastObject v (record { act = act_of op seen; word = word } ∷ turns)
last_prefix t v place turns op seen word at is =
    let path = last_path v seen word in
    let act : Exchange Last (v + 1) seen ≡ act_of op seen =
    ap (λ n. Exchange Last (n + 1) seen) (sym at.1.0) ∙ ap (λ o. act_of o seen) (sym is) in
    subst (λ xs. IsPrefix t LastObject v (record { act = act_of op seen; word = word } ∷ xs)) (sym at.1.1)
    (subst (λ a. IsPrefix t LastObject v (record { act = a; word = word } ∷ [])) act
    ([], answer true path.0, (refl, path.1)))

-- ---- what one exchange leaves in the words
-- what a word that held n holds next: w if b says that w was stored there, and else n
kept_by : (b : Bool) (w n : ℕ) → option_map_or (λ value. value) (cond b (Some w) None) n ≡ cond b w n
kept_by true w n = refl
kept_by false w n = refl

-- an exchange of an empty word leaves its value there
pub empty_exchanged : (w n : ℕ) → n ≡ 0 → value_after Last (Exchange Last w n) n ≡ w
empty_exchanged w n none =
    kept_by (n == 0) w n ∙ ap (λ b. cond b w n) (eq-eqb n 0 none)

-- an exchange of a word that is not empty leaves what it held
pub filled_exchanged : (w n : ℕ) → n ≢ 0 → value_after Last (Exchange Last w n) n ≡ n
filled_exchanged w n some =
    kept_by (n == 0) w n ∙ ap (λ b. cond b w n) (ne_eqb n 0 some)

-- an act to another word leaves what this one held
untouched : (o : Option ℕ) (n : ℕ) → option_map_or (λ value. n) o n ≡ n
untouched None n = refl
untouched (Some w) n = refl

-- ---- what the word of a last object holds
module _ (t : QuorumTable) (inputs : ℕ → ℕ) where
  -- the history is lawful for this last object
  abbrev L : List Access → Type 0
  L h = IsObjectLawful (last_of t inputs) h

  -- the newest access is an exchange, which found what the word held
  pub newest_exchange :
      (a : Access) (h : List Access) → L (a ∷ h)
      → a.turn.act ≡ Exchange Last (inputs a.process + 1) (value_in Last h)
  newest_exchange a h l =
      let p = subst (λ xs. IsPrefix t LastObject (inputs a.process) xs) (own_turns a h)
      (l.parts a.process (own_some a h)).1 in
      let x = (last_alone t (inputs a.process) (part a.process h) a.turn p).1 in
      let found : x.0 ≡ value_in Last h = subst (λ act. ReadsLast act h) x.1 l.memory.0 in
      x.1 ∙ ap (λ n. Exchange Last (inputs a.process + 1) n) found

  -- the word holds what the newest exchange leaves in it
  after_newest :
      (a : Access) (h : List Access) → L (a ∷ h)
      → value_in Last (a ∷ h)
      ≡ value_after Last (Exchange Last (inputs a.process + 1) (value_in Last h)) (value_in Last h)
  after_newest a h l = ap (λ act. value_after Last act (value_in Last h)) (newest_exchange a h l)

  -- a value in the word stays there after one more access
  pub value_stays : (a : Access) (h : List Access) → L (a ∷ h) → value_in Last h ≢ 0
      → value_in Last (a ∷ h) ≡ value_in Last h
  value_stays a h l some =
      after_newest a h l ∙ filled_exchanged (inputs a.process + 1) (value_in Last h) some

  -- an access to an empty word leaves its process's input there
  pub value_comes : (a : Access) (h : List Access) → L (a ∷ h) → value_in Last h ≡ 0
      → value_in Last (a ∷ h) ≡ inputs a.process + 1
  value_comes a h l none =
      after_newest a h l ∙ empty_exchanged (inputs a.process + 1) (value_in Last h) none

  -- the word holds inputs
  pub holds_inputs : HoldsInputs (last_of t inputs) Last
  holds_inputs a h l u e =
      elim (cases_eq (value_in Last h) 0) [
        | inl none ↦ inr (omega (arith, value_comes a h l none, e))
        | inr some ↦ inl (sym (value_stays a h l some) ∙ e)
      ]

  -- right after the one turn of a path with the value u the word holds u + 1
  module _ (v u : ℕ) (x : Turn) (path : IsLastPath v (x ∷ []) u) where
    -- an access whose turn is this one leaves u + 1 in the word
    at_once : (a : Access) (h : List Access) → L (a ∷ h) → a.turn ≡ x → value_in Last (a ∷ h) ≡ u + 1
    at_once a h l same = by path
      where
        -- the word holds u + 1, in both cases: the exchange found 0, or it found u + 1
        by : IsLastPath v (x ∷ []) u → value_in Last (a ∷ h) ≡ u + 1
        by (inl k) =
            let e : Exchange Last (inputs a.process + 1) (value_in Last h) ≡ Exchange Last (v + 1) 0 =
            sym (newest_exchange a h l) ∙ ap (λ y. y.act) same ∙ k.1 in
            let none : value_in Last h ≡ 0 = cc in
            let own : inputs a.process + 1 ≡ v + 1 = cc in
            value_comes a h l none ∙ own ∙ ap (λ n. n + 1) (sym k.0)
        by (inr k) =
            let e : Exchange Last (inputs a.process + 1) (value_in Last h) ≡ Exchange Last (v + 1) (u + 1) =
            sym (newest_exchange a h l) ∙ ap (λ y. y.act) same ∙ k in
            let holds : value_in Last h ≡ u + 1 = cc in
            value_stays a h l (λ none. omega (arith, none, holds)) ∙ holds

  -- in each history in which a process has a whole path with the value u the word holds u + 1
  output_holds : (h : List Access) → L h → (p u : ℕ) (turns : List Turn) → part p h ≡ turns
      → IsLastPath (inputs p) turns u
      → value_in Last h ≡ u + 1
  output_holds h l p u [] is path = absurd path
  output_holds h l p u (x ∷ y ∷ turns) is path = absurd path
  output_holds h l p u (x ∷ []) is path =
      since_newest (last_of t inputs) (λ g. value_in Last g ≡ u + 1) x
      (λ a g k same. at_once (inputs p) u x path a g k same)
      (λ a g k holds. value_stays a g k (λ none. omega (arith, none, holds)) ∙ holds) h l p [] is

  -- ---- the promises of a last object
  -- each output is the input of a process with an access
  pub last_valid : (h : List Access) → L h → IsValid (last_of t inputs) h
  last_valid h l p d u o =
      value_from (last_of t inputs) Last holds_inputs h l u (output_holds h l p u (part p h) refl o.1)

  -- all outputs have one value
  pub last_coherent : (h : List Access) → L h → IsCoherent (last_of t inputs) h
  last_coherent h l p q d u w o other =
      let a = output_holds h l p u (part p h) refl o.1 in
      let b = output_holds h l q w (part q h) refl other.1 in
      omega (arith, a, b)

  -- the word holds 0, or one more than a value
  last_small : (h : List Access) → L h → value_in Last h ≤ t.values
  last_small h l = value_small (last_of t inputs) Last holds_inputs h l

  -- a history of a last object leaves 0 in the word of a conciliator
  no_value : (h : List Access) → L h → value_in Value h ≡ 0
  no_value [] l = refl
  no_value (a ∷ h) l =
      ap (λ act. value_after Value act (value_in Value h)) (newest_exchange a h l)
      ∙ untouched _ (value_in Value h) ∙ no_value h (lawful_older (last_of t inputs) a h l)

  -- a history of a last object leaves 0 in the proposal
  no_proposal : (h : List Access) → L h → value_in Proposal h ≡ 0
  no_proposal [] l = refl
  no_proposal (a ∷ h) l =
      ap (λ act. value_after Proposal act (value_in Proposal h)) (newest_exchange a h l)
      ∙ untouched _ (value_in Proposal h) ∙ no_proposal h (lawful_older (last_of t inputs) a h l)

  -- a history of a last object leaves 0 in the quorum registers
  no_register : (r : ℕ) (h : List Access) → L h → value_in (Quorum r) h ≡ 0
  no_register r [] l = refl
  no_register r (a ∷ h) l =
      ap (λ act. value_after (Quorum r) act (value_in (Quorum r) h)) (newest_exchange a h l)
      ∙ untouched _ (value_in (Quorum r) h) ∙ no_register r h (lawful_older (last_of t inputs) a h l)

  -- each word holds a number that a word of this name can hold: 0, or one more than a value. A register holds 0 or 1
  pub last_fits : (h : List Access) (reg : Reg) → L h → CanHold t reg (value_in reg h)
  last_fits h Value l = omega (arith, no_value h l)
  last_fits h Proposal l = omega (arith, no_proposal h l)
  last_fits h (Quorum r) l = omega (arith, no_register r h l)
  last_fits h Last l = last_small h l

  -- the exchange of a process at its place finds a value that the word can hold
  pub last_found :
      (h : List Access) → L h → (place : LastPlace) (op : Op) → IsLastOp place op
      → CanFind t (InLast place) op (seen_by op h)
  last_found h l place op is =
      subst (λ o. CanFind t (InLast place) o (seen_by o h)) (sym is) (last_small h l)
