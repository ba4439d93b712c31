-- What the list of a pass says of the history.
use Rattle.mb_segment.proofs.Base.{Bool, List, None, Option, Some, [], ap, arith, dite, eq-eqb, false, get_elem?}
use Rattle.mb_segment.proofs.Base.{if◌then◌else◌, inl, inr, length, nat_eq, ne_eqb, refl, some, some-injective}
use Rattle.mb_segment.proofs.Base.{some-ne-none, subst, suc, sym, true, true≢false, zero, ℕ, ℕ_discrete, ⊎_elim}
use Rattle.mb_segment.proofs.Base.{◌+◌, ◌<◌, ◌∙◌, ◌∷◌, ◌≡◌, ◌≤◌, ◌⊎◌}
use Rattle.mb_segment.specs.Vocabulary.{Account, Below, Claim, Entry, Has, History, IsCut, IsMember, IsOfPass, IsPassOf, Issuer}
use Rattle.mb_segment.specs.Vocabulary.{Keeps, Member, Rises, Role, Spent, Spot, View, all_entries, drawn, drawn_in}
use Rattle.mb_segment.specs.Vocabulary.{cuts_by, has_cut, is_of, new_hub, spot, spots_by, spots_to}
use Rattle.mb_segment.proofs.Totals.{first_is, some_view}
use Rattle.mb_segment.proofs.Halves.{hub_is_not_spent, no_hub}
use Rattle.mb_segment.proofs.Kept.{St, at0}

pub some_cutter : (c : Option ℕ) → 0 < cuts_by c → (n : ℕ) × (c ≡ Some n)
some_cutter None lt = absurd (omega arith)
some_cutter (Some n) lt = (n, refl)

pub is_cutter : (n : ℕ) (c : Option ℕ) → is_of n c ≡ true → (0 < cuts_by c) × (c ≡ Some n)
is_cutter n None e = absurd (true≢false (sym e))
is_cutter n (Some m) e = (
  omega arith,
  ap (λ (i : ℕ). Some i)
      (dite (ℕ_discrete m n) (λ q. q) (λ ne. absurd (true≢false (sym e ∙ ne_eqb m n ne)))),
)

module _ {T : Type 0} where
  abbrev IsBy : ℕ → ℕ → T → ℕ → List (Entry T) → Type 0
  IsBy n p x b es = (m : ℕ) × (e : Entry T) × (p ≡ b + m) × (get_elem? es m ≡ some e) × (e.by ≡ n) × (e.value ≡ x)

  later : (n p : ℕ) (x : T) (b : ℕ) (d : Entry T) (ds : List (Entry T)) → IsBy n p x (suc b) ds → IsBy n p x b
      (d ∷ ds)
  later n p x b d ds t = let is = t.2 in (suc t.0, t.1, omega arith, t.3, t.4, t.5)

  -- a value in the list of pass n is that of an entry by n, at its position
  pub drawn_at : (n p : ℕ) (x : T) (b : ℕ) (es : List (Entry T)) → Has p x (spots_by n b es) → IsBy n p x b es
  drawn_at n p x b [] h = absurd h
  drawn_at n p x b (d ∷ ds) h = dite (ℕ_discrete d.by n)
      (λ by. ⊎_elim (λ (t : (b ≡ p) × (d.value ≡ x)). let q = t.0 in (0, d, omega arith, refl, by, t.1))
      (λ t. later n p x b d ds (drawn_at n p x (suc b) ds t))
      (subst (λ (c : Bool). Has p x (if c then spot b d.value ∷ spots_by n (suc b) ds else spots_by n (suc b) ds))
      (eq-eqb d.by n by) h))
      (λ ne. later n p x b d ds (drawn_at n p x (suc b) ds
      (subst (λ (c : Bool). Has p x (if c then spot b d.value ∷ spots_by n (suc b) ds else spots_by n (suc b) ds))
      (ne_eqb d.by n ne) h)))

  abbrev IsTo : ℕ → ℕ → T → ℕ → List (Claim T) → Type 0
  IsTo n p x b cs = (m : ℕ) × (c : Claim T) × (p ≡ b + m) × (get_elem? cs m ≡ some c) × (c.to ≡ n)
      × (c.entry.value ≡ x)

  later_claim : (n p : ℕ) (x : T) (b : ℕ) (d : Claim T) (ds : List (Claim T)) → IsTo n p x (suc b) ds
      → IsTo n p x b (d ∷ ds)
  later_claim n p x b d ds t = let is = t.2 in (suc t.0, t.1, omega arith, t.3, t.4, t.5)

  pub claimed_at : (n p : ℕ) (x : T) (b : ℕ) (cs : List (Claim T)) → Has p x (spots_to n b cs) → IsTo n p x b cs
  claimed_at n p x b [] h = absurd h
  claimed_at n p x b (d ∷ ds) h = dite (ℕ_discrete d.to n)
      (λ to. ⊎_elim (λ (t : (b ≡ p) × (d.entry.value ≡ x)). let q = t.0 in (0, d, omega arith, refl, to, t.1))
      (λ t. later_claim n p x b d ds (claimed_at n p x (suc b) ds t))
      (subst (λ (c : Bool). Has p x (if c then spot b d.entry.value ∷ spots_to n (suc b) ds else spots_to n
      (suc b) ds))
      (eq-eqb d.to n to) h))
      (λ ne. later_claim n p x b d ds (claimed_at n p x (suc b) ds
      (subst (λ (c : Bool). Has p x (if c then spot b d.entry.value ∷ spots_to n (suc b) ds else spots_to n
      (suc b) ds))
      (ne_eqb d.to n ne) h)))

  pub has_below : (m p : ℕ) (x : T) (ss : List (Spot T)) → Below m ss → Has p x ss → p < m
  has_below m p x [] b h = absurd h
  has_below m p x (s ∷ ss) b h = let lt = b.0 in
      ⊎_elim (λ (t : (s.at ≡ p) × (s.value ≡ x)). let q = t.0 in omega arith) (has_below m p x ss b.1) h

  -- an entry by pass n stands in the list of pass n
  pub has_by : (n b : ℕ) (es : List (Entry T)) (m : ℕ) (e : Entry T) → get_elem? es m ≡ some e → e.by ≡ n → (p : ℕ)
      → p ≡ b + m → Has p e.value (spots_by n b es)
  has_by n b [] m e at by p is = absurd (some-ne-none e (sym at))
  has_by n b (d ∷ ds) zero e at by p is = let one = some-injective d e at in
      subst (λ (c : Bool). Has p e.value (if c then spot b d.value ∷ spots_by n (suc b) ds else spots_by n (suc b) ds))
      (sym (eq-eqb d.by n (ap (λ (y : Entry T). y.by) one ∙ by))) (inl (omega arith, ap (λ (y : Entry T). y.value) one))
  has_by n b (d ∷ ds) (suc m) e at by p is = go (has_by n (suc b) ds m e at by p (omega arith)) (nat_eq d.by n)
    where
      go : Has p e.value (spots_by n (suc b) ds) → (c : Bool)
          → Has p e.value (if c then spot b d.value ∷ spots_by n (suc b) ds else spots_by n (suc b) ds)
      go h true = inr h
      go h false = h

  pub has_to : (n b : ℕ) (cs : List (Claim T)) (m : ℕ) (c : Claim T) → get_elem? cs m ≡ some c → c.to ≡ n → (p : ℕ)
      → p ≡ b + m → Has p c.entry.value (spots_to n b cs)
  has_to n b [] m c at to p is = absurd (some-ne-none c (sym at))
  has_to n b (d ∷ ds) zero c at to p is = let one = some-injective d c at in
      subst (λ (a : Bool). Has p c.entry.value (if a then spot b d.entry.value ∷ spots_to n (suc b) ds else spots_to
      n (suc b) ds))
      (sym (eq-eqb d.to n (ap (λ (y : Claim T). y.to) one ∙ to)))
      (inl (omega arith, ap (λ (y : Claim T). y.entry.value) one))
  has_to n b (d ∷ ds) (suc m) c at to p is = go (has_to n (suc b) ds m c at to p (omega arith)) (nat_eq d.to n)
    where
      go : Has p c.entry.value (spots_to n (suc b) ds) → (a : Bool)
          → Has p c.entry.value (if a then spot b d.entry.value ∷ spots_to n (suc b) ds else spots_to n (suc b) ds)
      go h true = inr h
      go h false = h

  -- who drew, claimed or cut has a view, and is not the hub
  abbrev pub DidSomething : (s : St T) → Keeps s → ℕ → Type 0
  DidSomething s k n = (length s.views ≤ n → ⊥) × (n ≡ k.hub → ⊥)

  pub drawer : (s : St T) (k : Keeps s) (i : ℕ) (e : Entry T) → get_elem? (all_entries k.history) i ≡ some e
      → DidSomething s k e.by
  drawer s k i e at = (
    λ long. subst (λ (l : List (Spot T)). Has i e.value l) (k.newborn e.by long).0
        (has_by e.by 0 (all_entries k.history) i e at refl i (omega arith)),
    λ q. subst (λ (l : List (Spot T)). Has i e.value l) k.idle.0
        (has_by k.hub 0 (all_entries k.history) i e at q i (omega arith)),
  )

  pub taker : (s : St T) (k : Keeps s) (i : ℕ) (c : Claim T) → get_elem? k.history.claims i ≡ some c
      → DidSomething s k c.to
  taker s k i c at = (
    λ long. subst (λ (l : List (Spot T)). Has i c.entry.value l) (k.newborn c.to long).1
        (has_to c.to 0 k.history.claims i c at refl i (omega arith)),
    λ q. subst (λ (l : List (Spot T)). Has i c.entry.value l) k.idle.1
        (has_to k.hub 0 k.history.claims i c at q i (omega arith)),
  )

  pub made_cut : (h : History T) (n : ℕ) → h.cutter ≡ Some n → has_cut n h ≡ true
  made_cut h n e = ap (λ (c : Option ℕ). is_of n c) e ∙ eq-eqb n n refl

  pub closer : (s : St T) (k : Keeps s) (n : ℕ) → k.history.cutter ≡ Some n → DidSomething s k n
  closer s k n e = let m = made_cut k.history n e in (
    λ long. true≢false (sym m ∙ (k.newborn n long).2),
    λ q. true≢false (sym m ∙ (ap (λ (i : ℕ). has_cut i k.history) q ∙ k.idle.2)),
  )

  -- so it is the number of a pass; and if that is out, its account is the history's
  of_pass : (s : St T) (k : Keeps s) (n : ℕ) (did : Account T → Type 0) → DidSomething s k n
      → ((v : View T) → IsMember k.history k.hub k.roll n v → did v.account) → IsOfPass s n did
  of_pass s k n did some_ all =
      let long = some_.0 in
      let u = some_view s.views n (omega arith) in (u.0, u.1, go u.0 u.1 u.0.role refl)
    where
      go : (v : View T) → get_elem? s.views n ≡ some v → (r : Role) → v.role ≡ r
          → (v.role ≡ Spent) ⊎ ((v.role ≡ Member) × did v.account)
      go v at Issuer e = absurd (some_.1 ((k.fits n v at).hub_ e).here)
      go v at Member e = inr (e, all v ((k.fits n v at).member e))
      go v at Spent e = inl e

  pub drawn_by : (s : St T) (k : Keeps s) (i : ℕ) (e : Entry T) → get_elem? (all_entries k.history) i ≡ some e
      → IsOfPass s e.by (λ a. Has i e.value a.sent)
  drawn_by s k i e at = of_pass s k e.by (λ a. Has i e.value a.sent) (drawer s k i e at)
      (λ v m. subst (λ (l : List (Spot T)). Has i e.value l) (sym m.sent)
      (has_by e.by 0 (all_entries k.history) i e at refl i (omega arith)))

  pub claimed_by : (s : St T) (k : Keeps s) (i : ℕ) (c : Claim T) → get_elem? k.history.claims i ≡ some c
      → IsOfPass s c.to (λ a. Has i c.entry.value a.got)
  claimed_by s k i c at = of_pass s k c.to (λ a. Has i c.entry.value a.got) (taker s k i c at)
      (λ v m. subst (λ (l : List (Spot T)). Has i c.entry.value l) (sym m.got)
      (has_to c.to 0 k.history.claims i c at refl i (omega arith)))

  pub cut_by : (s : St T) (k : Keeps s) (n : ℕ) → k.history.cutter ≡ Some n → IsOfPass s n (λ a. a.cut ≡ true)
  cut_by s k n e = of_pass s k n (λ a. a.cut ≡ true) (closer s k n e) (λ v m. m.cut ∙ made_cut k.history n e)

  -- who is neither the hub nor another is nobody
  pub only_hub : (s : St T) (n : ℕ) (did : Account T → Type 0) → s.views ≡ new_hub ∷ [] → IsOfPass s n did → ⊥
  only_hub s n did hub t =
      let is = first_is n t.0 (subst (λ (vs : List (View T)). get_elem? vs n ≡ some t.0) hub t.1) in
      let role : t.0.role ≡ Issuer = ap (λ (v : View T). v.role) (sym is.1) in
      ⊎_elim (λ r. hub_is_not_spent t.0.role role r) (λ r. no_hub t.0.role r.0 role) t.2

  pub new_open : (s : St T) (k : Keeps s) → s.views ≡ new_hub ∷ [] → IsCut s → ⊥
  new_open s k hub cut =
      let e = at0 s k in let i = k.within in let m = k.small in let w = k.cutter in
      let n = some_cutter k.history.cutter (omega arith) in
      only_hub s n.0 (λ a. a.cut ≡ true) hub (cut_by s k n.0 n.1)

  rises_less : (a b : ℕ) (ss : List (Spot T)) → a ≤ b → Rises b ss → Rises a ss
  rises_less a b [] le r = tt
  rises_less a b (s ∷ ss) le r = let r₀ = r.0 in (omega arith, r.1)

  pub rises_by : (n b : ℕ) (es : List (Entry T)) → Rises b (spots_by n b es)
  rises_by n b [] = tt
  rises_by n b (d ∷ ds) = go (rises_by n (suc b) ds) (nat_eq d.by n)
    where
      go : Rises (suc b) (spots_by n (suc b) ds) → (c : Bool)
          → Rises b (if c then spot b d.value ∷ spots_by n (suc b) ds else spots_by n (suc b) ds)
      go r true = (omega arith, r)
      go r false = rises_less b (suc b) (spots_by n (suc b) ds) (omega arith) r

  pub rises_to : (n b : ℕ) (cs : List (Claim T)) → Rises b (spots_to n b cs)
  rises_to n b [] = tt
  rises_to n b (d ∷ ds) = go (rises_to n (suc b) ds) (nat_eq d.to n)
    where
      go : Rises (suc b) (spots_to n (suc b) ds) → (c : Bool)
          → Rises b (if c then spot b d.entry.value ∷ spots_to n (suc b) ds else spots_to n (suc b) ds)
      go r true = (omega arith, r)
      go r false = rises_less b (suc b) (spots_to n (suc b) ds) (omega arith) r

  -- the number drawn, without the top bit
  pub drawn_is : (s : St T) (k : Keeps s) → drawn_in s ≡ drawn k.history
  drawn_is s k = let e = at0 s k in let i = k.within in let m = k.small in omega arith

  pub is_drawn : (s : St T) (k : Keeps s) (n : ℕ) (v : View T) (p : ℕ) (x : T) → IsPassOf s n v
      → Has p x v.account.sent
      → IsBy n p x 0 (all_entries k.history)
  is_drawn s k n v p x at has = drawn_at n p x 0 (all_entries k.history)
      (subst (λ (l : List (Spot T)). Has p x l) ((k.fits n v at.0).member at.1).sent has)

  pub is_claimed : (s : St T) (k : Keeps s) (n : ℕ) (v : View T) (p : ℕ) (x : T) → IsPassOf s n v
      → Has p x v.account.got
      → IsTo n p x 0 k.history.claims
  is_claimed s k n v p x at has = claimed_at n p x 0 k.history.claims
      (subst (λ (l : List (Spot T)). Has p x l) ((k.fits n v at.0).member at.1).got has)
