-- The part of a consumer on a lane: its loads of cells, and its steps of claims.
use Rattle.std.proofs.Common.{◌≡◌, ◌≢◌, ◌⊎◌, ℕ, Bool, true, false, cond, List, [], ◌∷◌, refl, sym, ◌∙◌, ap, subst, inl, inr, eq-eqb}
use Rattle.std.specs.Prelude.{filter}
use Rattle.std.proofs.lemmas.Bool.{cases_eq, cond_both}
use Rattle.mb_world.specs.Imports.{ClaimAccess, Gave, Has, History, ObjectTurn, PoolAccess, Reader, claim_part, has_cell, is_of_lane, is_same_process, part}
use Rattle.mb_world.specs.World.{ToCells, ToClaims, WorldHistory, claim_accesses, is_on, pool_accesses}
use Rattle.mb_world.proofs.Claimed.{part-another, part-elsewhere, part-own}

-- ---- filtered lists
-- an element that passes the test is in the filtered list
pub Has-filter : {A : Type 0} (test : A → Bool) (xs : List A) (a : A) → Has xs a → test a ≡ true
    → Has (filter test xs) a
Has-filter test [] a m e = m
Has-filter {A} test (b ∷ xs) a (inl is) e =
    let passes : test b ≡ true = subst (λ (x : A). test x ≡ true) (sym is) e in rw passes (inl is)
Has-filter {A} test (b ∷ xs) a (inr m) e =
    cond_both (test b) (b ∷ filter test xs) (filter test xs) (λ (l : List A). Has l a)
    (λ _. inr (Has-filter test xs a m e)) (λ _. Has-filter test xs a m e)

-- an element of the filtered list is in the list
pub Has-of_filter : {A : Type 0} (test : A → Bool) (xs : List A) (a : A) → Has (filter test xs) a → Has xs a
Has-of_filter test [] a m = m
Has-of_filter {A} test (b ∷ xs) a m =
    cond_both (test b) (b ∷ filter test xs) (filter test xs) (λ (l : List A). Has l a → Has (b ∷ xs) a)
    (λ _ k. elim k [ inl e ↦ inl e | inr n ↦ inr (Has-of_filter test xs a n) ])
    (λ _ k. inr (Has-of_filter test xs a k)) m

-- if no element passes the test, the filtered list is empty
pub filter_none : {A : Type 0} (test : A → Bool) (xs : List A) → ((a : A) → test a ≡ false) → filter test xs ≡ []
filter_none test [] none = refl
filter_none test (x ∷ xs) none = rw (none x) (filter_none test xs none)

-- a list that has no element is empty
pub nothing : {A : Type 0} (xs : List A) → ((a : A) → Has xs a → ⊥) → xs ≡ []
nothing [] none = refl
nothing (x ∷ xs) none = absurd (none x (inl refl))

-- if two tests agree on the elements of a list, the list filtered by either is the same
pub filter_same : {A : Type 0} (f g : A → Bool) (xs : List A) → ((x : A) → Has xs x → f x ≡ g x)
    → filter f xs ≡ filter g xs
filter_same f g [] same = refl
filter_same f g (x ∷ xs) same = rw (same x (inl refl), filter_same f g xs (λ y m. same y (inr m))) refl

-- ---- the loads and the claims of a consumer's part on a lane
-- an access to the cells in a world's history is one of the world's accesses
pub pool_has : (h : WorldHistory) (a : PoolAccess) → Has (pool_accesses h) a → Has h (ToCells a)
pool_has [] a has = absurd has
pool_has (ToCells b ∷ h) a (inl e) = inl (ap ToCells e)
pool_has (ToCells b ∷ h) a (inr has) = inr (pool_has h a has)
pool_has (ToClaims b ∷ h) a has = inr (pool_has h a has)

-- the loads in the part of consumer c on a lane are c's loads of the lane's words
pub pool_on : (c p : ℕ) (ks : List ℕ) (h : WorldHistory) → pool_accesses (filter (is_on c p ks) h)
    ≡ filter (λ (a : PoolAccess). is_of_lane p ks a.word) (part (Reader c) (pool_accesses h))
pool_on c p ks [] = refl
pool_on c p ks (ToCells a ∷ h) =
    by (is_same_process (Reader c) a.process) (is_of_lane p ks a.word) refl refl (pool_on c p ks h)
  where
    by : (b d : Bool) → is_same_process (Reader c) a.process ≡ b → is_of_lane p ks a.word ≡ d
        → pool_accesses (filter (is_on c p ks) h)
        ≡ filter (λ (x : PoolAccess). is_of_lane p ks x.word) (part (Reader c) (pool_accesses h))
        → pool_accesses (filter (is_on c p ks) (ToCells a ∷ h))
        ≡ filter (λ (x : PoolAccess). is_of_lane p ks x.word) (part (Reader c) (a ∷ pool_accesses h))
    by true true e f rest = rw (e, f) (ap (λ (l : List PoolAccess). a ∷ l) rest)
    by true false e f rest = rw (e, f) rest
    by false d e f rest = rw e rest
pool_on c p ks (ToClaims a ∷ h) =
    cond_both (is_on c p ks (ToClaims a)) (ToClaims a ∷ filter (is_on c p ks) h) (filter (is_on c p ks) h)
    (λ (l : WorldHistory). pool_accesses l
    ≡ filter (λ (x : PoolAccess). is_of_lane p ks x.word) (part (Reader c) (pool_accesses h)))
    (λ _. pool_on c p ks h) (λ _. pool_on c p ks h)

-- the steps on a cell of the lane, in the part of consumer c there, are all that c made on the cell
pub claim_on : (c p : ℕ) (ks : List ℕ) (k : ℕ) (h : WorldHistory) → has_cell ks k ≡ true
    → claim_part c k (claim_accesses (filter (is_on c p ks) h)) ≡ claim_part c k (claim_accesses h)
claim_on c p ks k [] here = refl
claim_on c p ks k (ToCells a ∷ h) here =
    cond_both (is_on c p ks (ToCells a)) (ToCells a ∷ filter (is_on c p ks) h) (filter (is_on c p ks) h)
    (λ (l : WorldHistory). claim_part c k (claim_accesses l) ≡ claim_part c k (claim_accesses h))
    (λ _. claim_on c p ks k h here) (λ _. claim_on c p ks k h here)
claim_on c p ks k (ToClaims a ∷ h) here = by (cases_eq a.consumer c) (cases_eq a.cell k) (claim_on c p ks k h here)
  where
    by : (a.consumer ≡ c) ⊎ (a.consumer ≡ c → ⊥) → (a.cell ≡ k) ⊎ (a.cell ≡ k → ⊥)
        → claim_part c k (claim_accesses (filter (is_on c p ks) h)) ≡ claim_part c k (claim_accesses h)
        → claim_part c k (claim_accesses (filter (is_on c p ks) (ToClaims a ∷ h)))
        ≡ claim_part c k (a ∷ claim_accesses h)
    by (inl own) (inl same) rest =
        let on : has_cell ks a.cell ≡ true = subst (λ (i : ℕ). has_cell ks i ≡ true) (sym same) here in
        let passes : is_on c p ks (ToClaims a) ≡ true = rw (eq-eqb a.consumer c own, on) refl in
        ap (λ (b : Bool). claim_part c k
        (claim_accesses (cond b (ToClaims a ∷ filter (is_on c p ks) h) (filter (is_on c p ks) h)))) passes
        ∙ (part-own c k a (claim_accesses (filter (is_on c p ks) h)) own same
        ∙ (ap (λ (xs : List ObjectTurn). a.step ∷ xs) rest ∙ sym (part-own c k a (claim_accesses h) own same)))
    by (inl own) (inr ne) rest =
        cond_both (is_on c p ks (ToClaims a)) (ToClaims a ∷ filter (is_on c p ks) h) (filter (is_on c p ks) h)
        (λ (l : WorldHistory). claim_part c k (claim_accesses l) ≡ claim_part c k (a ∷ claim_accesses h))
        (λ _. part-elsewhere c k a (claim_accesses (filter (is_on c p ks) h)) ne
        ∙ (rest ∙ sym (part-elsewhere c k a (claim_accesses h) ne)))
        (λ _. rest ∙ sym (part-elsewhere c k a (claim_accesses h) ne))
    by (inr other) cell rest =
        cond_both (is_on c p ks (ToClaims a)) (ToClaims a ∷ filter (is_on c p ks) h) (filter (is_on c p ks) h)
        (λ (l : WorldHistory). claim_part c k (claim_accesses l) ≡ claim_part c k (a ∷ claim_accesses h))
        (λ _. part-another c k a (claim_accesses (filter (is_on c p ks) h)) other
        ∙ (rest ∙ sym (part-another c k a (claim_accesses h) other)))
        (λ _. rest ∙ sym (part-another c k a (claim_accesses h) other))

-- if the claim of consumer c on cell k has steps, the history has an access of c to that claim
pub claim_has : (c k : ℕ) (h : WorldHistory) → claim_part c k (claim_accesses h) ≢ []
    → (a : ClaimAccess) × Has h (ToClaims a) × (a.consumer ≡ c) × (a.cell ≡ k)
claim_has c k [] some = absurd (some refl)
claim_has c k (ToCells a ∷ h) some = let q = claim_has c k h some in (q.0, inr q.1, q.2, q.3)
claim_has c k (ToClaims a ∷ h) some = by (cases_eq a.consumer c) (cases_eq a.cell k) (λ more. claim_has c k h more)
  where
    by : (a.consumer ≡ c) ⊎ (a.consumer ≡ c → ⊥) → (a.cell ≡ k) ⊎ (a.cell ≡ k → ⊥)
        → (claim_part c k (claim_accesses h) ≢ []
        → (b : ClaimAccess) × Has h (ToClaims b) × (b.consumer ≡ c) × (b.cell ≡ k))
        → (b : ClaimAccess) × Has (ToClaims a ∷ h) (ToClaims b) × (b.consumer ≡ c) × (b.cell ≡ k)
    by (inl own) (inl same) older = (a, inl refl, own, same)
    by (inl own) (inr ne) older =
        let q = older (λ e. some (part-elsewhere c k a (claim_accesses h) ne ∙ e)) in (q.0, inr q.1, q.2, q.3)
    by (inr other) cell older =
        let q = older (λ e. some (part-another c k a (claim_accesses h) other ∙ e)) in (q.0, inr q.1, q.2, q.3)

-- if some of the accesses gave a cell, all of them together gave it
pub gave-filter : (test : PoolAccess → Bool) (d : History) (k : ℕ) → Gave k (filter test d) → Gave k d
gave-filter test [] k gave = gave
gave-filter test (a ∷ d) k gave =
    cond_both (test a) (a ∷ filter test d) (filter test d) (λ (l : History). Gave k l → Gave k (a ∷ d))
    (λ _ g. elim g [ inl gift ↦ inl gift | inr older ↦ inr (gave-filter test d k older) ])
    (λ _ g. inr (gave-filter test d k g)) gave
