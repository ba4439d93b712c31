-- The next act of a path through a conciliator: the turns before it name its word, and what it stores.
use Rattle.std.proofs.Common.{◌≡◌, ℕ, zero, suc, ◌+◌, ◌⊎◌, List, [], ◌∷◌, ◌++◌, inl, inr, sym, refl, ◌∙◌, subst}
use Rattle.mb_deciding.specs.{IsSameOp, Value, Proposal, Quorum, Last, Act, Load, Store, Exchange, Turn, StoresOn, IsMissing, IsDrawn}
use Rattle.mb_deciding.specs.{IsPut, IsConciliatorPath}
use Rattle.mb_deciding.proofs.ConciliatorPaths.{missing_before}

-- the act follows the turns made: they are all that a process with input v makes before it
abbrev pub Follows : ℕ → ℕ → Act → List Turn → Type 0
Follows s v (Load Value x) made = (k : ℕ) × (IsMissing s k made ⊎ IsPut s v k made)
Follows s v (Store Value w) made = (w ≡ v + 1) × ((k : ℕ) × IsDrawn s k made)
Follows s v (Load Proposal x) made = ⊥
Follows s v (Load (Quorum r) x) made = ⊥
Follows s v (Store Proposal w) made = ⊥
Follows s v (Store (Quorum r) w) made = ⊥
Follows s v (Load Last x) made = ⊥
Follows s v (Store Last w) made = ⊥
Follows s v (Exchange reg w f) made = ⊥

-- each turn of the list follows the turns before it
abbrev AllFollow : ℕ → ℕ → List Turn → Type 0
AllFollow s v [] = Unit {0}
AllFollow s v (x ∷ made) = Follows s v x.act made × AllFollow s v made

-- each turn of attempts that did not store follows the turns before it
missing_follow : (s v k : ℕ) (turns : List Turn) → IsMissing s k turns → AllFollow s v turns
missing_follow s v zero [] h = tt
missing_follow s v zero (x ∷ older) h = absurd h
missing_follow s v (suc k) [] h = absurd h
missing_follow s v (suc k) (x ∷ older) h =
    (subst (λ act. Follows s v act older) (sym h.0) (k, inl h.2), missing_follow s v k older h.2)

-- each turn of attempts, the last of which has a random word that stores, follows the turns before it
drawn_follow : (s v k : ℕ) (turns : List Turn) → IsDrawn s k turns → AllFollow s v turns
drawn_follow s v k [] h = absurd h
drawn_follow s v k (x ∷ older) h =
    (subst (λ act. Follows s v act older) (sym h.0) (k, inl h.2), missing_follow s v k older h.2)

-- each turn of attempts, and of the store after them, follows the turns before it
put_follow : (s v k : ℕ) (turns : List Turn) → IsPut s v k turns → AllFollow s v turns
put_follow s v k [] h = absurd h
put_follow s v k (x ∷ older) h =
    (subst (λ act. Follows s v act older) (sym h.0) (refl, (k, h.1)), drawn_follow s v k older h.1)

-- each turn of a whole path follows the turns before it
path_follow : (s v : ℕ) (turns : List Turn) (u : ℕ) → IsConciliatorPath s v turns u → AllFollow s v turns
path_follow s v [] u h = absurd h
path_follow s v (x ∷ older) u h =
    elim h.1.2 [
      | inl m ↦ (subst (λ act. Follows s v act older) (sym h.0) (h.1.0, inl m), missing_follow s v h.1.0 older m)
      | inr p ↦ (subst (λ act. Follows s v act older) (sym h.0) (h.1.0, inr p), put_follow s v h.1.0 older p)
    ]

-- if each turn of a list follows the turns before it, so does each of its older turns
suffix_follow : (s v : ℕ) (later turns : List Turn) → AllFollow s v (later ++ turns) → AllFollow s v turns
suffix_follow s v [] turns h = h
suffix_follow s v (x ∷ later) turns h = suffix_follow s v later turns h.1

-- each turn of a path follows the turns before it
pub turn_follows :
    (s v : ℕ) (later turns : List Turn) (x : Turn) (u : ℕ) → IsConciliatorPath s v (later ++ x ∷ turns) u
    → Follows s v x.act turns
turn_follows s v later turns x u h = (suffix_follow s v later (x ∷ turns) (path_follow s v (later ++ x ∷ turns) u h)).0

-- ---- only one op may follow the same turns
-- no turns are both attempts of which none stores, and attempts whose last random word stores
missing_undrawn : (s j k : ℕ) (turns : List Turn) → IsMissing s j turns → IsDrawn s k turns → ⊥
missing_undrawn s zero k [] h d = d
missing_undrawn s zero k (x ∷ older) h d = h
missing_undrawn s (suc j) k [] h d = h
missing_undrawn s (suc j) k (x ∷ older) h d =
    let same : k ≡ j = sym (missing_before s 0 k older d.2).1 ∙ (missing_before s 0 j older h.2).1 in
    h.1 (subst (λ n. StoresOn s n x.word) same d.1)

-- no turns end both with a store, and with a load whose random word stores
put_undrawn : (s v j k : ℕ) (turns : List Turn) → IsPut s v j turns → IsDrawn s k turns → ⊥
put_undrawn s v j k [] h d = d
put_undrawn s v j k (x ∷ older) h d = let other : Store Value (v + 1) ≡ Load Value 0 = sym h.0 ∙ d.0 in cc

-- if a load may follow the turns, no store may
load_or_store :
    (s v k : ℕ) (turns : List Turn) → ((j : ℕ) × (IsMissing s j turns ⊎ IsPut s v j turns)) → IsDrawn s k turns → ⊥
load_or_store s v k turns (j, inl h) d = missing_undrawn s j k turns h d
load_or_store s v k turns (j, inr h) d = put_undrawn s v j k turns h d

-- two acts that may follow the same turns are of one op
pub one_op :
    (s v : ℕ) (turns : List Turn) (a b : Act) → Follows s v a turns → Follows s v b turns → IsSameOp a b
one_op s v turns (Load Value x) (Load Value y) h k = refl
one_op s v turns (Load Value x) (Store Value y) h k = absurd (load_or_store s v k.1.0 turns h k.1.1)
one_op s v turns (Store Value w) (Load Value y) h k = absurd (load_or_store s v h.1.0 turns k h.1.1)
one_op s v turns (Store Value w) (Store Value y) h k = (refl, h.0 ∙ sym k.0)
one_op s v turns (Load Value x) (Load Proposal y) h k = absurd k
one_op s v turns (Load Value x) (Load (Quorum r) y) h k = absurd k
one_op s v turns (Load Value x) (Store Proposal y) h k = absurd k
one_op s v turns (Load Value x) (Store (Quorum r) y) h k = absurd k
one_op s v turns (Store Value w) (Load Proposal y) h k = absurd k
one_op s v turns (Store Value w) (Load (Quorum r) y) h k = absurd k
one_op s v turns (Store Value w) (Store Proposal y) h k = absurd k
one_op s v turns (Store Value w) (Store (Quorum r) y) h k = absurd k
one_op s v turns (Load Value x) (Load Last y) h k = absurd k
one_op s v turns (Load Value x) (Store Last y) h k = absurd k
one_op s v turns (Load Value x) (Exchange reg y f) h k = absurd k
one_op s v turns (Store Value w) (Load Last y) h k = absurd k
one_op s v turns (Store Value w) (Store Last y) h k = absurd k
one_op s v turns (Store Value w) (Exchange reg y f) h k = absurd k
one_op s v turns (Load Last x) b h k = absurd h
one_op s v turns (Store Last w) b h k = absurd h
one_op s v turns (Exchange reg w f) b h k = absurd h
one_op s v turns (Load Proposal x) b h k = absurd h
one_op s v turns (Load (Quorum r) x) b h k = absurd h
one_op s v turns (Store Proposal w) b h k = absurd h
one_op s v turns (Store (Quorum r) w) b h k = absurd h
