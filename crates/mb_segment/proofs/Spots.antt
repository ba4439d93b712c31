-- Lists of a history: what a pass drew, and what it claimed.
use Rattle.mb_segment.proofs.Base.{Bool, List, None, Option, Some, [], ap, arith, eq-eqb, false, get_elem?}
use Rattle.mb_segment.proofs.Base.{if◌then◌else◌, inl, inr, length, length-append, map, max, nat_eq, ne_eqb, refl}
use Rattle.mb_segment.proofs.Base.{replicate, slice_index, slice_set, some, some-injective}
use Rattle.mb_segment.proofs.Base.{some-ne-none, subst, suc, sym, true, zero, ℕ, ⊎_elim, ◌++◌, ◌+◌, ◌<◌, ◌≤◌, ◌∙◌}
use Rattle.mb_segment.proofs.Base.{◌∷◌, ◌≡◌, ◌≢◌, ◌⊎◌}
use Rattle.mb_segment.specs.Vocabulary.{Below, Claim, Entry, Heard, Heeds, History, Spot, View, all_entries, drawn, drew}
use Rattle.mb_segment.specs.Vocabulary.{entries, spot, spots_by, spots_to, taken, took}

-- the word 64 bytes on, and the word of the state of position p
abbrev pub far : ℕ → ℕ
far n = suc (suc (suc (suc (suc (suc (suc (suc n)))))))

abbrev pub state_word : ℕ → ℕ
state_word p = far (far (suc p))

pub size_set : {A : Type 0} (l : List A) (i : ℕ) (w : A) → length (slice_set l i w) ≡ length l
size_set [] i w = refl
size_set (x ∷ xs) zero w = refl
size_set (x ∷ xs) (suc i) w = let r = size_set xs i w in omega arith

pub index_at : (l : List ℕ) (i a : ℕ) → get_elem? l i ≡ some a → slice_index l i ≡ a
index_at [] i a e = absurd (some-ne-none a (sym e))
index_at (x ∷ xs) zero a e = some-injective x a e
index_at (x ∷ xs) (suc i) a e = index_at xs i a e

pub not_zero : (l : List ℕ) (i a : ℕ) → 0 < a → get_elem? l i ≡ some a → get_elem? l i ≢ some 0
not_zero l i a lt e z = let q : a ≡ 0 = some-injective a 0 (sym e ∙ z) in omega arith

abbrev or_else : {A : Type 0} → A → Option A → A
or_else a None = a
or_else a (Some x) = x

pub same_some : {A : Type 0} (a b : A) → Some a ≡ Some b → a ≡ b
same_some a b e = ap (or_else a) e

abbrev is_set : Option ℕ → ℕ
is_set None = 0
is_set (Some x) = 1

pub no_some : (a : ℕ) → None ≡ Some a → ⊥
no_some a e = let q : is_set None ≡ is_set (Some a) = ap is_set e in omega arith

pub replicate_length : {A : Type 0} (n : ℕ) (a : A) → length (replicate n a) ≡ n
replicate_length zero a = refl
replicate_length (suc n) a = let r = replicate_length n a in omega arith

pub replicate_at : {A : Type 0} (n : ℕ) (a : A) (k : ℕ) → k < n → get_elem? (replicate n a) k ≡ some a
replicate_at zero a k lt = absurd (omega arith)
replicate_at (suc n) a zero lt = refl
replicate_at (suc n) a (suc k) lt = replicate_at n a k (omega arith)

pub map_length : {A B : Type 0} (f : A → B) (xs : List A) → length (map f xs) ≡ length xs
map_length f [] = refl
map_length f (x ∷ xs) = let r = map_length f xs in omega arith

pub below_length : {A : Type 0} (l : List A) (m : ℕ) (a : A) → get_elem? l m ≡ some a → m < length l
below_length [] m a at = absurd (some-ne-none a (sym at))
below_length (x ∷ xs) zero a at = omega arith
below_length (x ∷ xs) (suc m) a at = let r = below_length xs m a at in omega arith

pub at_below : {A : Type 0} (l : List A) (m : ℕ) → m < length l → (a : A) × (get_elem? l m ≡ some a)
at_below [] m lt = absurd (omega arith)
at_below (x ∷ xs) zero lt = (x, refl)
at_below (x ∷ xs) (suc m) lt = at_below xs m (omega arith)

pub snoc_at : {A : Type 0} (l : List A) (a b : A) (j : ℕ) → get_elem? (l ++ a ∷ []) j ≡ some b
    → (get_elem? l j ≡ some b) ⊎ ((j ≡ length l) × (a ≡ b))
snoc_at [] a b zero e = inr (refl, some-injective a b e)
snoc_at [] a b (suc j) e = absurd (some-ne-none b (sym e))
snoc_at (x ∷ xs) a b zero e = inl e
snoc_at (x ∷ xs) a b (suc j) e =
    ⊎_elim (λ t. inl t) (λ t. let i = t.0 in inr (omega arith, t.1)) (snoc_at xs a b j e)

pub nothing_left : {A : Type 0} (l : List A) → length l ≡ 0 → l ≡ []
nothing_left [] e = refl
nothing_left (x ∷ xs) e = absurd (omega arith)

module _ {T : Type 0} where
  pub entries_append : (xs ys : List (Claim T)) → entries (xs ++ ys) ≡ entries xs ++ entries ys
  entries_append [] ys = refl
  entries_append (x ∷ xs) ys = ap (λ l. x.entry ∷ l) (entries_append xs ys)

  pub entries_length : (cs : List (Claim T)) → length (entries cs) ≡ length cs
  entries_length [] = refl
  entries_length (c ∷ cs) = let r = entries_length cs in omega arith

  pub all_length : (h : History T) → length (all_entries h) ≡ drawn h
  all_length h =
      let l : length (entries h.claims ++ h.rest) ≡ length (entries h.claims) + length h.rest
      = length-append (entries h.claims) h.rest in
      let e = entries_length h.claims in omega arith

  -- one more position of pass n, at the end
  pub by_own : (n p : ℕ) (x : T) (es : List (Entry T)) (e : Entry T) (q : ℕ) → q ≡ p + length es → e.by ≡ n
      → e.value ≡ x → spots_by n p (es ++ e ∷ []) ≡ spots_by n p es ++ spot q x ∷ []
  by_own n p x [] e q at by is = let q' : p ≡ q = omega arith in
      subst (λ (b : Bool). (if b then spot p e.value ∷ [] else []) ≡ spot q x ∷ []) (sym (eq-eqb e.by n by))
      (λ k. spot (q' k) (is k) ∷ [])
  by_own n p x (d ∷ ds) e q at by is = go (by_own n (suc p) x ds e q (omega arith) by is) (nat_eq d.by n)
    where
      go : spots_by n (suc p) (ds ++ e ∷ []) ≡ spots_by n (suc p) ds ++ spot q x ∷ [] → (b : Bool)
          → (if b then spot p d.value ∷ spots_by n (suc p) (ds ++ e ∷ []) else spots_by n (suc p) (ds ++ e ∷ []))
          ≡ (if b then spot p d.value ∷ spots_by n (suc p) ds else spots_by n (suc p) ds) ++ spot q x ∷ []
      go r true = ap (λ l. spot p d.value ∷ l) r
      go r false = r

  -- all positions of pass n are below m, where the list ends there
  pub below_by : (n b m : ℕ) (es : List (Entry T)) → b + length es ≤ m → Below m (spots_by n b es)
  below_by n b m [] le = tt
  below_by n b m (d ∷ ds) le = go (omega arith) (below_by n (suc b) m ds (omega arith)) (nat_eq d.by n)
    where
      go : b < m → Below m (spots_by n (suc b) ds) → (c : Bool)
          → Below m (if c then spot b d.value ∷ spots_by n (suc b) ds else spots_by n (suc b) ds)
      go lt r true = (lt, r)
      go lt r false = r

  pub by_other : (n p : ℕ) (es : List (Entry T)) (e : Entry T) → e.by ≢ n
      → spots_by n p (es ++ e ∷ []) ≡ spots_by n p es
  by_other n p [] e by =
      subst (λ (b : Bool). (if b then spot p e.value ∷ [] else []) ≡ []) (sym (ne_eqb e.by n by)) refl
  by_other n p (d ∷ ds) e by = go (by_other n (suc p) ds e by) (nat_eq d.by n)
    where
      go : spots_by n (suc p) (ds ++ e ∷ []) ≡ spots_by n (suc p) ds → (b : Bool)
          → (if b then spot p d.value ∷ spots_by n (suc p) (ds ++ e ∷ []) else spots_by n (suc p) (ds ++ e ∷ []))
          ≡ (if b then spot p d.value ∷ spots_by n (suc p) ds else spots_by n (suc p) ds)
      go r true = ap (λ l. spot p d.value ∷ l) r
      go r false = r

  pub to_own : (n p : ℕ) (x : T) (cs : List (Claim T)) (c : Claim T) (q : ℕ) → q ≡ p + length cs → c.to ≡ n
      → c.entry.value ≡ x → spots_to n p (cs ++ c ∷ []) ≡ spots_to n p cs ++ spot q x ∷ []
  to_own n p x [] c q at to is = let q' : p ≡ q = omega arith in
      subst (λ (b : Bool). (if b then spot p c.entry.value ∷ [] else []) ≡ spot q x ∷ []) (sym (eq-eqb c.to n to))
      (λ k. spot (q' k) (is k) ∷ [])
  to_own n p x (d ∷ ds) c q at to is = go (to_own n (suc p) x ds c q (omega arith) to is) (nat_eq d.to n)
    where
      go : spots_to n (suc p) (ds ++ c ∷ []) ≡ spots_to n (suc p) ds ++ spot q x ∷ [] → (b : Bool)
          → (if b then spot p d.entry.value ∷ spots_to n (suc p) (ds ++ c ∷ []) else spots_to n (suc p)
          (ds ++ c ∷ []))
          ≡ (if b then spot p d.entry.value ∷ spots_to n (suc p) ds else spots_to n (suc p) ds) ++ spot q x ∷ []
      go r true = ap (λ l. spot p d.entry.value ∷ l) r
      go r false = r

  pub to_other : (n p : ℕ) (cs : List (Claim T)) (c : Claim T) → c.to ≢ n
      → spots_to n p (cs ++ c ∷ []) ≡ spots_to n p cs
  to_other n p [] c to =
      subst (λ (b : Bool). (if b then spot p c.entry.value ∷ [] else []) ≡ []) (sym (ne_eqb c.to n to)) refl
  to_other n p (d ∷ ds) c to = go (to_other n (suc p) ds c to) (nat_eq d.to n)
    where
      go : spots_to n (suc p) (ds ++ c ∷ []) ≡ spots_to n (suc p) ds → (b : Bool)
          → (if b then spot p d.entry.value ∷ spots_to n (suc p) (ds ++ c ∷ []) else spots_to n (suc p)
          (ds ++ c ∷ []))
          ≡ (if b then spot p d.entry.value ∷ spots_to n (suc p) ds else spots_to n (suc p) ds)
      go r true = ap (λ l. spot p d.entry.value ∷ l) r
      go r false = r

  pub entry_of : (cs : List (Claim T)) (es : List (Entry T)) (m : ℕ) (c : Claim T) → get_elem? cs m ≡ some c
      → get_elem? (entries cs ++ es) m ≡ some c.entry
  entry_of [] es m c at = absurd (some-ne-none c (sym at))
  entry_of (d ∷ ds) es zero c at = ap (λ (z : Claim T). some z.entry) (some-injective d c at)
  entry_of (d ∷ ds) es (suc m) c at = entry_of ds es m c at

module _ {T : Type 0} where
  -- one call more, at position p, by a pass that knew of k before
  heeds_more : (p : ℕ) (x : T) (k : ℕ) (ss : List (Spot T)) (ks : List ℕ) → k ≤ p → Heeds ss ks
      → Heeds (ss ++ spot p x ∷ []) (ks ++ k ∷ [])
  heeds_more p x k [] [] le h = (le, tt)
  heeds_more p x k [] (j ∷ ks) le h = absurd h
  heeds_more p x k (s ∷ ss) [] le h = absurd h
  heeds_more p x k (s ∷ ss) (j ∷ ks) le h = (h.0, heeds_more p x k ss ks le h.1)

  pub below_less : (b m : ℕ) (ss : List (Spot T)) → b ≤ m → Below b ss → Below m ss
  below_less b m [] le f = tt
  below_less b m (s ∷ ss) le f = let lt = f.0 in (omega arith, below_less b m ss le f.1)

  below_snoc : (m p : ℕ) (x : T) (ss : List (Spot T)) → p < m → Below m ss → Below m (ss ++ spot p x ∷ [])
  below_snoc m p x [] lt f = (lt, tt)
  below_snoc m p x (s ∷ ss) lt f = (f.0, below_snoc m p x ss lt f.1)

  pub heard_draw : (h g : History T) (p : ℕ) (x : T) (v : View T) → drawn h ≤ p → p < drawn g → taken h ≤ taken g
      → Heard h v → Heard g (drew p x v)
  heard_draw h g p x v next more taken_ f = let a = f.0 in let b = f.1 in let k = v.known.drawn in (
    omega arith,
    omega arith,
    (
      below_snoc (suc p) p x v.account.sent (omega arith) (below_less k (suc p) v.account.sent (omega arith) f.2.0),
      below_less k (suc p) v.account.got (omega arith) f.2.1,
      f.2.2,
    ),
    (heeds_more p x k v.account.sent v.account.sent_knew (omega arith) f.3.0, f.3.1, f.3.2),
  )

  pub heard_claim : (h g : History T) (p : ℕ) (x : T) (v : View T) → taken h ≤ p → p < taken g → drawn h ≤ drawn g
      → p < drawn g → Heard h v → Heard g (took p x v)
  heard_claim h g p x v next more drawn_ within f =
      let a = f.0 in let b = f.1 in let d = v.known.drawn in let k = v.known.taken in
      let m = max d (suc p) in (
        omega arith,
        omega arith,
        (
          below_less d m v.account.sent (omega arith) f.2.0,
          below_snoc m p x v.account.got (omega arith) (below_less d m v.account.got (omega arith) f.2.1),
          below_snoc (suc p) p x v.account.got (omega arith)
              (below_less k (suc p) v.account.got (omega arith) f.2.2),
        ),
        (f.3.0, heeds_more p x k v.account.got v.account.got_knew (omega arith) f.3.1, f.3.2),
      )
