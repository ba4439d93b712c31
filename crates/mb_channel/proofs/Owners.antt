-- Whatever an account of a segment says, the log of an end says too.
use Rattle.std.proofs.Common.{ℕ, zero, suc, Bool, true, false, List, [], length, nat_eq, sym, refl, ap, subst, inl, inr, ⊎_elim, arith, eqb-true}
use Rattle.std.proofs.Common.{◌≡◌, ◌+◌, ◌<◌, ◌≤◌, ◌∷◌, ◌++◌, ◌∙◌, if◌then◌else◌}
use Rattle.std.specs.Prelude.{Some, map}
use mathlib.Core.Option as maybe
use mathlib.Core.Option.{none, some, some-injective, some-ne-none}
use lib.ListN.{get_elem?}
use Rattle.atomic_table.specs.Table.{State}
use Rattle.mb_segment.specs.Vocabulary.{Has, OfFate, name_in}
use Rattle.mb_channel.specs.Types.{Account, Fates, Homes, Knows, Past, Position, Visit}
use Rattle.mb_channel.specs.Deeds.{Deed, deed}
use Rattle.mb_channel.specs.Homes.{AllPast, AreNamed, Keeps, Made, PastFits, came_back, count, made_by, made_count, made_in, past_count, past_of, times, total}
use Rattle.mb_channel.specs.Inside.{Log, in_visits, log_of_past}
use Rattle.mb_channel.specs.Fates.{IsFateOf, IsLog, IsOneOf, is_fate}
use Rattle.mb_channel.specs.Owned.{Fate, IsOwned}
use Rattle.mb_channel.proofs.Views.{by_own}
use Rattle.mb_channel.proofs.Whole.{is_one}

module _ {A : Type 0} where
  at_one : (l : List A) (i : ℕ) (a : A) → get_elem? l i ≡ some a → IsOneOf a l
  at_one [] i a e = absurd (some-ne-none a (sym e))
  at_one (x ∷ xs) zero a e = inl (sym (some-injective x a e))
  at_one (x ∷ xs) (suc i) a e = inr (at_one xs i a e)

  in_left : (a : A) (xs ys : List A) → IsOneOf a xs → IsOneOf a (xs ++ ys)
  in_left a [] ys is = absurd is
  in_left a (x ∷ xs) ys is = ⊎_elim (λ e. inl e) (λ r. inr (in_left a xs ys r)) is

  in_right : (a : A) (xs ys : List A) → IsOneOf a ys → IsOneOf a (xs ++ ys)
  in_right a [] ys is = is
  in_right a (x ∷ xs) ys is = inr (in_right a xs ys is)

  none_long : (l : List A) (n : ℕ) → get_elem? l n ≡ none → length l ≤ n
  none_long [] n e = omega arith
  none_long (x ∷ xs) zero e = absurd (some-ne-none x e)
  none_long (x ∷ xs) (suc n) e = let r = none_long xs n e in omega arith

in_map : {A B : Type 0} (f : A → B) (a : A) (xs : List A) → IsOneOf a xs → IsOneOf (f a) (map f xs)
in_map f a [] is = absurd is
in_map f a (x ∷ xs) is = ⊎_elim (λ e. inl (ap f e)) (λ r. inr (in_map f a xs r)) is

module _ {T : Type 0} where
  abbrev call : ℕ → ℕ → T → Deed T
  call k p y = record { place = record { segment = k; number = p }; value = y }

  -- ---- the visit of an account, and its calls
  by_more : (n : ℕ) (m : Made T) (ms : List (Made T)) (u : Visit T) → IsOneOf u (made_by n ms)
      → IsOneOf u (made_by n (m ∷ ms))
  by_more n m ms u is = go (nat_eq m.by n)
    where
      go : (b : Bool) → IsOneOf u (if b then m.visit ∷ made_by n ms else made_by n ms)
      go true = inr is
      go false = is

  abbrev Visited : List (Made T) → ℕ → Account T → Type 0
  Visited all k a = (n : ℕ) × (u : Visit T) × IsOneOf u (made_by n all) × (u.segment ≡ k) × (u.account ≡ a)

  visited : (all : List (Made T)) (k : ℕ) (a : Account T) → IsOneOf a (made_in k all) → Visited all k a
  visited [] k a is = absurd is
  visited (m ∷ ms) k a is = go (nat_eq m.visit.segment k) refl is
      (λ r. let x = visited ms k a r in (x.0, x.1, by_more x.0 m ms x.1 x.2, x.3, x.4))
    where
      go : (b : Bool) → nat_eq m.visit.segment k ≡ b
          → IsOneOf a (if b then m.visit.account ∷ made_in k ms else made_in k ms)
          → (IsOneOf a (made_in k ms) → Visited (m ∷ ms) k a) → Visited (m ∷ ms) k a
      go true e r more = ⊎_elim (λ (q : a ≡ m.visit.account). (
        m.by,
        m.visit,
        subst (IsOneOf m.visit) (sym (by_own m ms)) (inl refl),
        eqb-true m.visit.segment k e,
        sym q,
      )) more r
      go false e r more = more r

  in_deeds : (k p : ℕ) (y : T) (ps : List (Position T)) → Has p y ps → IsOneOf (call k p y) (map (deed k) ps)
  in_deeds k p y [] has = absurd has
  in_deeds k p y (s ∷ ss) has = ⊎_elim
      (λ e. inl (λ i. record { place = record { segment = k; number = sym e.0 i }; value = sym e.1 i }))
      (λ r. inr (in_deeds k p y ss r)) has

  in_log : (f : Account T → List (Position T)) (u : Visit T) (p : ℕ) (y : T) (vs : List (Visit T)) → IsOneOf u vs
      → Has p y (f u.account) → IsOneOf (call u.segment p y) (in_visits f vs)
  in_log f u p y [] is has = absurd is
  in_log f u p y (v ∷ vs) is has = ⊎_elim
      (λ (e : u ≡ v). subst (λ (z : Visit T). IsOneOf (call z.segment p y) (in_visits f (v ∷ vs))) (sym e)
      (in_right (call v.segment p y) (in_visits f vs) (map (deed v.segment) (f v.account))
      (in_deeds v.segment p y (f v.account) (subst (λ (z : Visit T). Has p y (f z.account)) e has))))
      (λ r. in_left (call u.segment p y) (in_visits f vs) (map (deed v.segment) (f v.account))
      (in_log f u p y vs r has)) is

  -- ---- the end that made the visits
  abbrev Owner : List (Knows T) → List (Visit T) → Type 0
  Owner views vs = (p : Past T) × IsLog views (log_of_past p) × (p.visits ≡ vs) × AreNamed p.name p.visits

  counted : (n : ℕ) (all : List (Made T)) (u : Visit T) → IsOneOf u (made_by n all) → 0 < made_count (is_one n) all
  counted n [] u is = absurd is
  counted n (m ∷ ms) u is = go (nat_eq m.by n) is (counted n ms u)
    where
      go : (b : Bool) → IsOneOf u (if b then m.visit ∷ made_by n ms else made_by n ms)
          → (IsOneOf u (made_by n ms) → 0 < made_count (is_one n) ms)
          → 0 < (if b then 1 else 0) + made_count (is_one n) ms
      go true r rec = omega arith
      go false r rec = let x = rec r in omega arith

  some_total : (f : Knows T → ℕ) (views : List (Knows T)) → 0 < total f views
      → (j : ℕ) × (u : Knows T) × (get_elem? views j ≡ some u) × (0 < f u)
  some_total f [] more = absurd (omega arith)
  some_total f (v ∷ vs) more = go (f v) refl (λ r. let x = some_total f vs r in (suc x.0, x.1, x.2, x.3))
    where
      go : (n : ℕ) → f v ≡ n
          → (0 < total f vs → (j : ℕ) × (u : Knows T) × (get_elem? (v ∷ vs) j ≡ some u) × (0 < f u))
          → (j : ℕ) × (u : Knows T) × (get_elem? (v ∷ vs) j ≡ some u) × (0 < f u)
      go zero e rec = rec (omega arith)
      go (suc n) e rec = (0, v, refl, omega arith)

  no_times : (n m : ℕ) (xs : List (Visit T)) → is_one n m ≡ 0 → times (is_one n m) xs ≡ 0
  no_times n m [] q = refl
  no_times n m (x ∷ xs) q = let r = no_times n m xs q in omega arith

  some_past : (n : ℕ) (ps : List (Past T)) → 0 < past_count (is_one n) ps
      → (p : Past T) × IsOneOf p ps × (p.number ≡ n)
  some_past n [] more = absurd (omega arith)
  some_past n (p ∷ ps) more = go (nat_eq p.number n) refl
      (λ r. let x = some_past n ps r in (x.0, inr x.1, x.2))
    where
      go : (b : Bool) → nat_eq p.number n ≡ b
          → (0 < past_count (is_one n) ps → (q : Past T) × IsOneOf q (p ∷ ps) × (q.number ≡ n))
          → (q : Past T) × IsOneOf q (p ∷ ps) × (q.number ≡ n)
      go true e rec = (p, inl refl, eqb-true p.number n e)
      go false e rec = let z = no_times n p.number p.visits (ap (λ (b : Bool). if b then 1 else 0) e) in
          rec (omega arith)

  past_at : (P : Past T → Type 0) (ps : List (Past T)) (p : Past T) → AllPast P ps → IsOneOf p ps → P p
  past_at P [] p all is = absurd is
  past_at P (q ∷ qs) p all is = ⊎_elim (λ e. subst P (sym e) all.0) (past_at P qs p all.1) is

  own_visits : (n m : ℕ) (vs : List (Visit T)) → 0 < times (is_one n m) vs → (m ≡ n) × (vs ≡ [] → ⊥)
  own_visits n m vs more = go (nat_eq m n) refl
    where
      go : (b : Bool) → nat_eq m n ≡ b → (m ≡ n) × (vs ≡ [] → ⊥)
      go true e = (eqb-true m n e, λ z. (let x = ap (times (is_one n m)) z in omega arith))
      go false e = let x = no_times n m vs (ap (λ (b : Bool). if b then 1 else 0) e) in absurd (omega arith)

  owner : (s : State (Homes T) (Knows T)) (k : Keeps s) (n : ℕ) (u : Visit T) → IsOneOf u (made_by n k.all)
      → Owner s.views (made_by n k.all)
  owner s k n u is = at_number (get_elem? s.views n) refl
    where
      some_made : made_by n k.all ≡ [] → ⊥
      some_made e = subst (IsOneOf u) e is

      given : (j : ℕ) (v : Knows T) → get_elem? s.views j ≡ some v → (p : Past T) → IsOneOf p v.ended → p.number ≡ n
          → Owner s.views (made_by n k.all)
      given j v at p one number = let f = k.fits j v at in
          let x = past_at (PastFits k.all s.views) v.ended p f.ended one in (
            p,
            (j, v, at, inr (in_map log_of_past p v.ended one)),
            x.0 ∙ ap (λ i. made_by i k.all) number,
            past_at (λ p. AreNamed p.name p.visits) v.ended p f.names.1 one,
          )

      own : (v : Knows T) → get_elem? s.views n ≡ some v → v.live ≡ true → Owner s.views (made_by n k.all)
      own v at live = let f = k.fits n v at in
          (past_of v, (n, v, at, inl refl), (f.named live).1, f.names.0)

      found : (j : ℕ) (v : Knows T) → get_elem? s.views j ≡ some v → 0 < count (is_one n) v → (b : Bool) → v.live ≡ b
          → Owner s.views (made_by n k.all)
      found j v at more true live = at_first (times (is_one n v.number) v.visits) refl
        where
          at_first : (m : ℕ) → times (is_one n v.number) v.visits ≡ m → Owner s.views (made_by n k.all)
          at_first zero e = let p = some_past n v.ended (omega arith) in given j v at p.0 p.1 p.2
          at_first (suc m) e = let o = own_visits n v.number v.visits (omega arith) in
              let here = sym ((k.fits j v at).named live).0 ∙ o.0 in
              own v (ap (get_elem? s.views) (sym here) ∙ at) live
      found j v at more false unborn = let b = (k.fits j v at).newborn unborn in
          let x = ap (times (is_one n v.number)) b.0 in
          let y = ap (past_count (is_one n)) b.1 in absurd (omega arith)

      at_number : (o : maybe.Option (Knows T)) → get_elem? s.views n ≡ o → Owner s.views (made_by n k.all)
      at_number none e = absurd (some_made (k.fresh n (none_long s.views n e)))
      at_number (some w) e = let c = counted n k.all u is in let b = k.balance (is_one n) in
          let x = some_total (count (is_one n)) s.views (omega arith) in
          found x.0 x.1 x.2 x.3 x.1.live refl

  -- the log of the end that has what an account says
  owned : (s : State (Homes T) (Knows T)) (k : Keeps s) (j i : ℕ) (a : Account T)
      → get_elem? (made_in j k.all) i ≡ some a → (l : Log T) × IsLog s.views l × (l.name ≡ a.name)
      × ((p : ℕ) (y : T) → Has p y a.sent → IsOneOf (call j p y) l.sent)
      × ((p : ℕ) (y : T) → Has p y a.got → IsOneOf (call j p y) l.got)
  owned s k j i a at =
      let x = visited k.all j a (at_one (made_in j k.all) i a at) in
      let u = x.1 in
      let o = owner s k x.0 u x.2 in
      let one : IsOneOf u o.0.visits = subst (IsOneOf u) (sym o.2) x.2 in (
        log_of_past o.0,
        o.1,
        sym (name_at o.0.name o.0.visits u o.3 one) ∙ ap (λ (z : Account T). z.name) x.4,
        (λ p y has. subst (λ m. IsOneOf (call m p y) (in_visits (λ a. a.sent) o.0.visits)) x.3
            (in_log (λ a. a.sent) u p y o.0.visits one (subst (λ (z : Account T). Has p y z.sent) (sym x.4) has))),
        λ p y has. subst (λ m. IsOneOf (call m p y) (in_visits (λ a. a.got) o.0.visits)) x.3
            (in_log (λ a. a.got) u p y o.0.visits one (subst (λ (z : Account T). Has p y z.got) (sym x.4) has)),
      )
    where
      name_at : (n : ℕ) (vs : List (Visit T)) (u : Visit T) → AreNamed n vs → IsOneOf u vs → u.account.name ≡ n
      name_at n [] u names is = absurd is
      name_at n (v ∷ vs) u names is = ⊎_elim (λ (e : u ≡ v). ap (λ (z : Visit T). z.account.name) e ∙ names.0)
          (name_at n vs u names.1) is

  pub fates_owned : (s : State (Homes T) (Knows T)) (k : Keeps s) (f : Fates T) → IsFateOf k.homes f → (at : ℕ)
      (x : Fate) → is_fate f at ≡ Some x → IsOwned s.views f.segment at x
  fates_owned s k f is at x e =
      let h = is.0 in
      let here = k.agrees.here f.segment h is.1 in
      let told = subst (λ o. OfFate (came_back h) at o) e (is.2.1 at) in
      let sent = told.sent in
      let a = owned s k f.segment sent.0 sent.1 (ap (λ l. get_elem? l sent.0) (sym here) ∙ sent.2) in (
        (
          a.0,
          sent.3,
          a.1,
          a.3 at sent.3 sent.4,
          told.sender sent.0 sent.1 sent.3 sent.2 sent.4 ∙ ap name_in (sym a.2),
        ),
        ⊎_elim (λ n. inl n) (λ got.
            let b = owned s k f.segment got.0 got.1 (ap (λ l. get_elem? l got.0) (sym here) ∙ got.2) in inr (
              b.0,
              got.3,
              b.1,
              b.4 at got.3 got.4,
              told.receiver got.0 got.1 got.3 got.2 got.4 ∙ ap name_in (sym b.2),
            )) told.got,
      )
