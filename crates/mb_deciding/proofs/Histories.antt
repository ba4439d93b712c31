-- One access more, or one less, in a lawful history of an object of any kind. Also lists that are empty or are not.
use Rattle.std.proofs.Common.{◌≡◌, ◌≢◌, ℕ, ◌<◌, ◌≤◌, ◌+◌, ◌-◌, ◌==◌, ◌⊎◌, cond, Bool, true, false, Some, None, List, [], ◌∷◌, ◌++◌}
use Rattle.std.proofs.Common.{inl, inr, sym, refl, ap, ◌∙◌, subst, append_assoc, arith}
use Rattle.std.specs.List.{cons_option}
use Rattle.std.proofs.lemmas.Bool.{cases_eq, eq-eqb, eqb-true}
use Rattle.mb_deciding.specs.{Reg, Turn, Access, Kind, Object, IsInWords, ReadsLast, part, value_in, IsPath, IsPrefix, IsObjectLawful}
use Rattle.mb_quorum.specs.Quorum.{QuorumTable}

-- a list with a first element is not empty
pub not_empty : {A : Type 0} (x : A) (xs : List A) → x ∷ xs ≢ []
not_empty x xs e = cc

-- a list is empty or is not
pub nil_or : {A : Type 0} (xs : List A) → (xs ≡ []) ⊎ (xs ≢ [])
nil_or [] = inl refl
nil_or (x ∷ xs) = inr (λ e. not_empty x xs e)

-- a prefix without its newest turn is a prefix
pub part_older :
    (t : QuorumTable) (kind : Kind) (v : ℕ) (x : Turn) (turns : List Turn) → IsPrefix t kind v (x ∷ turns)
    → IsPrefix t kind v turns
part_older t kind v x turns p =
    (p.0 ++ x ∷ [], p.1, subst (λ xs. IsPath t kind v xs p.1) (sym (append_assoc p.0 (x ∷ []) turns)) p.2)

-- if turns are a prefix of a path with x in front of them, or with nothing, so are the turns alone
older_by :
    (t : QuorumTable) (kind : Kind) (v : ℕ) (own : Bool) (x : Turn) (turns : List Turn)
    → IsPrefix t kind v (cons_option (cond own (Some x) None) turns) → IsPrefix t kind v turns
older_by t kind v true x turns p = part_older t kind v x turns p
older_by t kind v false x turns p = p

-- if one more turn comes first, or none, a list of turns that is not empty is still not empty
some_by : (own : Bool) (x : Turn) (turns : List Turn) → turns ≢ [] → cons_option (cond own (Some x) None) turns ≢ []
some_by true x turns some = not_empty x turns
some_by false x turns some = some

-- a process with a turn in a history still has one after one more access
pub some_kept : (p : ℕ) (a : Access) (h : List Access) → part p h ≢ [] → part p (a ∷ h) ≢ []
some_kept p a h some = some_by (a.process == p) a.turn (part p h) some

-- a lawful history without its newest access is lawful
pub lawful_older :
    (o : Object) (a : Access) (h : List Access)
    → IsObjectLawful o (a ∷ h) → IsObjectLawful o h
lawful_older o a h l =
    record {
      memory = l.memory.1;
      words = l.words.1;
      parts =
          λ p some. let q = l.parts p (some_kept p a h some) in
          (q.0, older_by o.table o.kind (o.inputs p) (a.process == p) a.turn (part p h) q.1);
    }

-- the newest access is the newest turn of its process
pub own_turns : (a : Access) (h : List Access) → part a.process (a ∷ h) ≡ a.turn ∷ part a.process h
own_turns a h =
    ap (λ b. cons_option (cond b (Some a.turn) None) (part a.process h)) (eq-eqb a.process a.process refl)

-- the process of the newest access has a turn
pub own_some : (a : Access) (h : List Access) → part a.process (a ∷ h) ≢ []
own_some a h e = not_empty a.turn (part a.process h) (sym (own_turns a h) ∙ e)

-- with one more turn of process p, the part of each process q with a turn is a prefix of a path, whether q is p or not
longer_by :
    (o : Object) (h : List Access) (p q : ℕ) (turn : Turn)
    → IsObjectLawful o h → o.inputs p < o.table.values → IsPrefix o.table o.kind (o.inputs p) (turn ∷ part p h)
    → (own : Bool) → (p == q) ≡ own → cons_option (cond own (Some turn) None) (part q h) ≢ []
    → (o.inputs q < o.table.values) × IsPrefix o.table o.kind (o.inputs q)
    (cons_option (cond own (Some turn) None) (part q h))
longer_by o h p q turn l within prefix true e some =
    subst (λ k. (o.inputs k < o.table.values) × IsPrefix o.table o.kind (o.inputs k) (turn ∷ part k h)) (eqb-true p q e)
    (within, prefix)
longer_by o h p q turn l within prefix false e some = l.parts q some

-- a history stays lawful with one more turn of a process with an input of the table, if the turn is in words, is true
-- to memory, and gives the process a prefix of a path
pub longer :
    (o : Object) (h : List Access) (p : ℕ) (turn : Turn)
    → IsObjectLawful o h → o.inputs p < o.table.values → IsInWords turn → ReadsLast turn.act h
    → IsPrefix o.table o.kind (o.inputs p) (turn ∷ part p h)
    → IsObjectLawful o (record { process = p; turn = turn } ∷ h)
longer o h p turn l within words reads prefix =
    record {
      memory = (reads, l.memory);
      words = (words, l.words);
      parts = λ q some. longer_by o h p q turn l within prefix (p == q) refl some;
    }

-- the empty history is lawful
pub none_lawful : (o : Object) → IsObjectLawful o []
none_lawful o = record { memory = tt; words = tt; parts = λ p some. absurd (some refl) }

-- if P holds once a turn `last` is made, and each later access keeps P, P holds if some process's newest turn is `last`
pub since_newest :
    (o : Object) (P : List Access → Type 0) (last : Turn)
    → ((a : Access) (h : List Access) → IsObjectLawful o (a ∷ h) → a.turn ≡ last → P (a ∷ h))
    → ((a : Access) (h : List Access) → IsObjectLawful o (a ∷ h) → P h → P (a ∷ h)) → (h : List Access)
    → IsObjectLawful o h → (p : ℕ) (rest : List Turn) → part p h ≡ last ∷ rest → P h
since_newest o P last made kept [] l p rest is = absurd (not_empty last rest (sym is))
since_newest o P last made kept (a ∷ h) l p rest is =
    by (λ k. since_newest o P last made kept h (lawful_older o a h l) p rest k) (a.process == p) is
  where
    -- P holds after the access a, which is of process p or is not
    by :
        (part p h ≡ last ∷ rest → P h) → (own : Bool)
        → cons_option (cond own (Some a.turn) None) (part p h) ≡ last ∷ rest → P (a ∷ h)
    by deeper true k = made a h l (let same : a.turn ≡ last = cc in same)
    by deeper false k = kept a h l (deeper k)

-- ---- words that hold inputs
-- u is the input of a process with a turn
abbrev pub IsFrom : Object → List Access → ℕ → Type 0
IsFrom o h u = (b : ℕ) × (part b h ≢ []) × (o.inputs b ≡ u)

-- if u is the input of a process with a turn, it is still so after one access more
pub from_kept : (o : Object) (a : Access) (h : List Access) (u : ℕ) → IsFrom o h u → IsFrom o (a ∷ h) u
from_kept o a h u f = (f.0, some_kept f.0 a h f.1, f.2)

-- a value in the word was there before the newest access, or it is the input of that access's process
abbrev pub HoldsInputs : Object → Reg → Type 0
HoldsInputs o reg =
    (a : Access) (h : List Access) → IsObjectLawful o (a ∷ h) → (u : ℕ) → value_in reg (a ∷ h) ≡ u + 1
    → (value_in reg h ≡ u + 1) ⊎ (o.inputs a.process ≡ u)

-- a value in the word is the input of a process with a turn
pub value_from :
    (o : Object) (reg : Reg) → HoldsInputs o reg → (h : List Access) → IsObjectLawful o h → (u : ℕ)
    → value_in reg h ≡ u + 1 → IsFrom o h u
value_from o reg holds [] l u e = absurd (omega (arith, e))
value_from o reg holds (a ∷ h) l u e =
    elim (holds a h l u e) [
      | inl k ↦ from_kept o a h u (value_from o reg holds h (lawful_older o a h l) u k)
      | inr k ↦ (a.process, own_some a h, k)
    ]

-- the word holds 0, or one more than a value
pub value_small :
    (o : Object) (reg : Reg) → HoldsInputs o reg → (h : List Access) → IsObjectLawful o h
    → value_in reg h ≤ o.table.values
value_small o reg holds h l =
    elim (cases_eq (value_in reg h) 0) [
      | inl none ↦ omega (arith, none)
      | inr some ↦
          (let n : ℕ = value_in reg h - 1 in
          let is : value_in reg h ≡ n + 1 = omega (arith, some) in
          let from = value_from o reg holds h l n is in
          let below : n < o.table.values = subst (λ w. w < o.table.values) from.2 (l.parts from.0 from.1).0 in
          omega (arith, below, is))
    ]
