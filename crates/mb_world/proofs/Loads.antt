-- What a reader was given by its loads, and whether it loaded a word.
use Rattle.std.proofs.Common.{◌≡◌, ◌≢◌, ◌⊎◌, ℕ, suc, ◌+◌, ◌<◌, true, false, List, [], ◌∷◌, length, refl, sym, ◌∙◌, ap, subst, inl, inr, arith}
use Rattle.std.proofs.lemmas.Bool.{cases_Bool}
use Rattle.mb_cells.proofs.Names.{is_same_word-eq, is_same_word-refl}
use Rattle.mb_world.specs.Imports.{END, FetchAdd, Gave, Has, HasLoaded, HasMet, History, IsGift, IsReaderPath, Link, Load, MayRead, PoolAccess, PoolAct}
use Rattle.mb_world.specs.Imports.{Reader, Store, Word, is_same_word, load, part, place_past}
use Rattle.mb_world.specs.Fitting.{HasRead}
use Rattle.mb_world.proofs.Positions.{HasPosition, at_within}
use Rattle.mb_world.proofs.ReaderParts.{has_part}

-- a reader that loaded a cell's link was given the cell
pub gave-link : (lanes : ℕ) (d : History) (a : PoolAccess) (k : ℕ) → IsReaderPath lanes d → Has d a → a.word ≡ Link k
    → Gave k d
gave-link lanes [] a k path has w = absurd has
gave-link lanes (b ∷ d) a k path (inl e) w =
    inr (subst (λ u. MayRead lanes u d) (ap (λ (x : PoolAccess). x.word) e ∙ w) path.1)
gave-link lanes (b ∷ d) a k path (inr has) w = inr (gave-link lanes d a k path.2 has w)

-- a cell is given if one of the accesses gives it
pub gave-gift : (d : History) (a : PoolAccess) (k : ℕ) → Has d a → IsGift k a.word a.act → Gave k d
gave-gift [] a k has gift = absurd has
gave-gift (b ∷ d) a k (inl e) gift = inl (subst (λ (x : PoolAccess). IsGift k x.word x.act) (sym e) gift)
gave-gift (b ∷ d) a k (inr has) gift = inr (gave-gift d a k has gift)

-- a load of the link past cells that finds k + 1, which is no end mark, gives cell k
pub gift_past : (p : ℕ) (ks : List ℕ) (k : ℕ) → k + 1 ≢ END → IsGift k (place_past p ks) (Load (k + 1))
gift_past p [] k ne = (refl, ne)
gift_past p (j ∷ ks) k ne = (refl, ne)

-- a reader's loads gave it each cell that it met
pub met_given : (q p : ℕ) (h : History) (ks : List ℕ) (k : ℕ) → HasMet q p ks h → Has ks k → Gave k (part (Reader q) h)
met_given q p h [] k met has = absurd has
met_given q p h (j ∷ ks) k met (inl e) =
    subst (λ i. Gave i (part (Reader q) h)) e
    (gave-gift (part (Reader q) h) (load q (place_past p ks) (j + 1)) j
    (has_part q h (load q (place_past p ks) (j + 1)) met.0 refl) (gift_past p ks j met.1))
met_given q p h (j ∷ ks) k met (inr has) = met_given q p h ks k met.2 has

-- the link of each cell met but the last was loaded
pub met_link : (q p : ℕ) (h : History) (ks : List ℕ) (j k : ℕ) → HasMet q p ks h → HasPosition ks j k
    → suc j < length ks → (v : ℕ) × HasLoaded q (Link k) v h
met_link q p h [] j k met at less = absurd at
met_link q p h (a ∷ []) j k met (inl at) less = absurd (omega (arith, at.0))
met_link q p h (a ∷ []) j k met (inr at) less = absurd at
met_link q p h (a ∷ b ∷ ks) j k met (inl at) less = absurd (omega (arith, at.0))
met_link q p h (a ∷ b ∷ ks) j k met (inr (inl at)) less =
    (a + 1, subst (λ (i : ℕ). HasLoaded q (Link i) (a + 1) h) at.1 met.0)
met_link q p h (a ∷ b ∷ ks) j k met (inr (inr at)) less =
    met_link q p h (b ∷ ks) j k met.2 (inr at) (omega (arith, at_within ks j k at))

-- ---- whether a word was loaded
-- a value was loaded from the word, or none was
abbrev pub IsTold : Word → History → Type 0
IsTold w d = ((v : ℕ) × HasRead w v d) ⊎ ((v : ℕ) → HasRead w v d → ⊥)

-- if older accesses loaded the word, the accesses with one more did, too
older_read : (b : PoolAccess) (d : History) (w : Word) → (v : ℕ) × HasRead w v d → (v : ℕ) × HasRead w v (b ∷ d)
older_read b d w h = (h.0, (h.1.0, inr h.1.1, h.1.2, h.1.3))

-- if `IsTold` holds of the older accesses, it holds with one more that is no load of the word
other_access : (b : PoolAccess) (d : History) (w : Word) → ((u : ℕ) → b.word ≡ w → b.act ≡ Load u → ⊥) → IsTold w d
    → IsTold w (b ∷ d)
other_access b d w other (inl h) = inl (older_read b d w h)
other_access b d w other (inr n) = inr (λ u h. none u h.0 h.1 h.2 h.3)
  where
    -- no access is a load of the word, neither the new one nor an older one
    none : (u : ℕ) (a : PoolAccess) → Has (b ∷ d) a → a.word ≡ w → a.act ≡ Load u → ⊥
    none u a (inl e) ew ea = other u (ap (λ (y : PoolAccess). y.word) e ∙ ew) (ap (λ (y : PoolAccess). y.act) e ∙ ea)
    none u a (inr m) ew ea = n u (a, m, ew, ea)

-- if `IsTold` holds of the older accesses, it holds with one more to the word
by_act : (d : History) (b : PoolAccess) (w : Word) (x : PoolAct) → b.word ≡ w → b.act ≡ x → IsTold w d
    → IsTold w (b ∷ d)
by_act d b w (Load v) same is rest = inl (v, (b, inl refl, same, is))
by_act d b w (Store v) same is rest = other_access b d w (λ u _ e. let f : Store v ≡ Load u = sym is ∙ e in cc) rest
by_act d b w (FetchAdd x i) same is rest =
    other_access b d w (λ u _ e. let f : FetchAdd x i ≡ Load u = sym is ∙ e in cc) rest

-- of each word either a value was loaded, or none was
pub read_or_not : (d : History) (w : Word) → IsTold w d
read_or_not [] w = inr (λ v h. h.1)
read_or_not (b ∷ d) w = by_word (cases_Bool (is_same_word b.word w)) (read_or_not d w)
  where
    -- `IsTold` holds with the newest access, whether or not that is to the word
    by_word : (is_same_word b.word w ≡ true) ⊎ (is_same_word b.word w ≡ false) → IsTold w d → IsTold w (b ∷ d)
    by_word (inl same) rest = by_act d b w b.act (is_same_word-eq b.word w same) refl rest
    by_word (inr other) rest = other_access b d w (λ u e _. differs e) rest
      where
        differs : b.word ≡ w → ⊥
        differs e =
            let f : is_same_word b.word w
            ≡ true = subst (λ (x : Word). is_same_word x w ≡ true) (sym e) (is_same_word-refl w) in cc
