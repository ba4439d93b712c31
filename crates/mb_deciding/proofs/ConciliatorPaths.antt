-- How long a path through a conciliator is, that it has no later turns once it is whole, and what it stores.
use Rattle.std.proofs.Common.{◌≡◌, ℕ, zero, suc, ◌+◌, ◌≤◌, List, [], ◌∷◌, ◌++◌, length, inl, inr, sym, refl, ap, ◌∙◌}
use Rattle.std.proofs.Common.{subst, arith}
use Rattle.mb_deciding.specs.{Value, Proposal, Quorum, Last, Act, Load, Store, Exchange, Turn, IsMissing, IsDrawn, IsPut}
use Rattle.mb_deciding.specs.{IsConciliatorPath}

-- ---- the turns before the end of a path
-- the act is one before the end of a path of input v: it loads 0 or stores v + 1
abbrev IsBefore : ℕ → Act → Type 0
IsBefore v (Load reg x) = x ≡ 0
IsBefore v (Store Value w) = w ≡ v + 1
IsBefore v (Store Proposal w) = ⊥
IsBefore v (Store (Quorum r) w) = ⊥
IsBefore v (Store Last w) = ⊥
IsBefore v (Exchange reg w f) = ⊥

-- each act of a list is one before the end of a path
abbrev AreBefore : ℕ → List Turn → Type 0
AreBefore v [] = Unit {0}
AreBefore v (x ∷ older) = IsBefore v x.act × AreBefore v older

-- the attempts below k, none of which stores, are k turns, and each is one before the end of a path
pub missing_before : (s v k : ℕ) (turns : List Turn) → IsMissing s k turns → AreBefore v turns × (length turns ≡ k)
missing_before s v zero [] h = (tt, refl)
missing_before s v zero (x ∷ older) h = absurd h
missing_before s v (suc k) [] h = absurd h
missing_before s v (suc k) (x ∷ older) h =
    let deeper = missing_before s v k older h.2 in
    ((subst (λ act. IsBefore v act) (sym h.0) refl, deeper.0), ap suc deeper.1)

-- the attempts up to k, whose random word stores, are k + 1 turns, and each is one before the end of a path
found_before : (s v k : ℕ) (turns : List Turn) → IsDrawn s k turns → AreBefore v turns × (length turns ≡ suc k)
found_before s v k [] h = absurd h
found_before s v k (x ∷ older) h =
    let deeper = missing_before s v k older h.2 in
    ((subst (λ act. IsBefore v act) (sym h.0) refl, deeper.0), ap suc deeper.1)

-- the attempts up to k and the store after them are k + 2 turns, and each is one before the end of a path
put_before : (s v k : ℕ) (turns : List Turn) → IsPut s v k turns → AreBefore v turns × (length turns ≡ suc (suc k))
put_before s v k [] h = absurd h
put_before s v k (x ∷ older) h =
    let deeper = found_before s v k older h.1 in
    ((subst (λ act. IsBefore v act) (sym h.0) refl, deeper.0), ap suc deeper.1)

-- the turns of a path before its last load are at most s + 2, and each is one before the end of a path
behind_last :
    (s v : ℕ) (x : Turn) (older : List Turn) (u : ℕ) → IsConciliatorPath s v (x ∷ older) u
    → AreBefore v older × (length older ≤ s + 2)
behind_last s v x older u h =
    let within : h.1.0 ≤ s = h.1.1 in
    elim h.1.2 [
      | inl w ↦ (let m = missing_before s v h.1.0 older w in (m.0, omega (arith, m.1)))
      | inr w ↦ (let m = put_before s v h.1.0 older w in (m.0, omega (arith, m.1)))
    ]

-- a path has at most s + 3 turns
pub path_length : (s v : ℕ) (turns : List Turn) (u : ℕ) → IsConciliatorPath s v turns u → length turns ≤ s + 3
path_length s v [] u h = absurd h
path_length s v (x ∷ older) u h = omega (arith, (behind_last s v x older u h).1)

-- if each act of a list is one before the end, so is each of its older acts
suffix_before : (v : ℕ) (later turns : List Turn) → AreBefore v (later ++ turns) → AreBefore v turns
suffix_before v [] turns h = h
suffix_before v (x ∷ later) turns h = suffix_before v later turns h.1

-- if the loads of u + 1 and of w + 1 are equal, so are u and w
same_load : (u w : ℕ) → Load Value (u + 1) ≡ Load Value (w + 1) → u ≡ w
same_load u w e = let n : u + 1 ≡ w + 1 = cc in omega arith

-- if a path with later turns is again a path, there are no later turns, and the values of both are equal
pub path_ends :
    (s v : ℕ) (turns later : List Turn) (u w : ℕ) → IsConciliatorPath s v turns u
    → IsConciliatorPath s v (later ++ turns) w → (later ≡ []) × (u ≡ w)
path_ends s v [] later u w h k = absurd h
path_ends s v (x ∷ older) [] u w h k = (refl, same_load u w (sym h.0 ∙ k.0))
path_ends s v (x ∷ older) (y ∷ later) u w h k =
    let before = suffix_before v later (x ∷ older) (behind_last s v y (later ++ x ∷ older) w k).0 in
    let none : u + 1 ≡ 0 = subst (λ act. IsBefore v act) h.0 before.0 in
    absurd (omega arith)

-- a path ends with the load of its value
pub path_last :
    (s v : ℕ) (turns : List Turn) (u : ℕ) → IsConciliatorPath s v turns u
    → (last : Turn) × (rest : List Turn) × (last.act ≡ Load Value (u + 1)) × (turns ≡ last ∷ rest)
path_last s v [] u h = absurd h
path_last s v (x ∷ older) u h = (x, older, h.0, refl)

-- ---- what a path stores
-- if the act stores, it stores v + 1 in the word of a conciliator
abbrev pub StoresInput : ℕ → Act → Type 0
StoresInput v (Load reg x) = Unit {0}
StoresInput v (Store Value w) = w ≡ v + 1
StoresInput v (Store Proposal w) = ⊥
StoresInput v (Store (Quorum r) w) = ⊥
StoresInput v (Store Last w) = ⊥
StoresInput v (Exchange reg w f) = ⊥

-- an act before the end of a path stores nothing but the input
before_stores : (v : ℕ) (act : Act) → IsBefore v act → StoresInput v act
before_stores v (Load reg x) h = tt
before_stores v (Store Value w) h = h
before_stores v (Store Proposal w) h = h
before_stores v (Store (Quorum r) w) h = h
before_stores v (Store Last w) h = h
before_stores v (Exchange reg w f) h = h

-- each act of a path stores nothing but the input
pub path_stores :
    (s v : ℕ) (x : Turn) (older later : List Turn) (u : ℕ) → IsConciliatorPath s v (later ++ x ∷ older) u
    → StoresInput v x.act
path_stores s v x older [] u h = subst (λ act. StoresInput v act) (sym h.0) tt
path_stores s v x older (y ∷ later) u h =
    before_stores v x.act (suffix_before v later (x ∷ older) (behind_last s v y (later ++ x ∷ older) u h).0).0
