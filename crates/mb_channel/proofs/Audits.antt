-- Fates are kept, taken out and told. They name the ends whose logs have the values.
use Rattle.std.proofs.Common.{ℕ, suc, Bool, true, false, true≢false, List, [], length, nat_eq}
use Rattle.std.proofs.Common.{sym, refl, ap, subst, inl, inr, ⊎_elim, arith, ◌≡◌, ◌+◌, ◌-◌, ◌⊎◌, ◌∷◌, ◌++◌, ◌∙◌, if◌then◌else◌}
use Rattle.std.specs.Prelude.{IfSome, None, Option, Some, map}
use Rattle.std.proofs.lemmas.List.{append_assoc, length-append}
use mathlib.Core.Option.{none, some}
use lib.ListN.{get_elem?}
use Rattle.atomic_table.specs.Table.{Allows, State, Step, step}
use Rattle.atomic_table.specs.declared.shared.Seat.{Seat}
use Rattle.atomic_table.proofs.Lists.{at_longer}
use Rattle.mb_segment.specs.Vocabulary.{Has, name_in}
use Rattle.mb_channel.specs.Types.{Account, Fates, Global, Home, Homes, Knows, Left, Past, Position, Visit}
use Rattle.mb_channel.specs.Deeds.{Deed, deed}
use Rattle.mb_channel.specs.Homes.{AllPast, AreNamed, IsFreed, IsReady, Keeps, Made, PastFits, Sat, Stands, TellsFates}
use Rattle.mb_channel.specs.Homes.{came_back, locked, made_by, made_in, past_of, unlocked}
use Rattle.mb_channel.specs.Inside.{Log, in_visits, log_of_past}
use Rattle.mb_channel.specs.Owned.{Fate, HasTaken, IsFateOf, IsLog, IsOneOf, IsTaken, IsTrue, gives_fates, is_fate, told_fates}
use Rattle.mb_channel.proofs.Freed.{behind}
use Rattle.mb_channel.proofs.Lengths.{lawful_looked, let_go, looked_same, seat_is}
use Rattle.mb_channel.proofs.Moves.{unlocks_as}
use Rattle.mb_channel.proofs.Views.{in_own}

module _ {A : Type 0} where
  one_append : (a : A) (xs ys : List A) → IsOneOf a (xs ++ ys) → IsOneOf a xs ⊎ IsOneOf a ys
  one_append a [] ys is = inr is
  one_append a (x ∷ xs) ys is = ⊎_elim (λ e. inl (inl e))
      (λ r. ⊎_elim (λ x. inl (inr x)) (λ y. inr y) (one_append a xs ys r)) is

module _ {T : Type 0} where
  -- ---- the oldest segment is freed
  pub first_fates : (hs rest : List (Home T)) (l : Homes T) (h : Home T) (x : Left T Global) → Stands hs l
      → l.list.items ≡ h ∷ rest → IsFreed h → TellsFates x (came_back h)
      → IsFateOf hs (record { segment = l.first; left = x })
  first_fates hs rest l h x s is freed tells =
      let number = s.number in (
        h,
        ap (λ y. get_elem? y l.first) s.all ∙ behind s.gone l.list.items l.first (omega arith)
            ∙ ap (λ y. get_elem? y (l.first - length s.gone)) is
            ∙ ap (get_elem? (h ∷ rest)) (let z : l.first - length s.gone ≡ 0 = omega arith in z),
        (freed, tells),
      )

  pub taken_out : (r : Option (Fates T)) (hs before : List (Home T)) (l m : Homes T) → Stands hs l → hs ≡ before
      → ((gs : List (Home T)) → Stands gs l → Stands gs m)
      → IfSome r (λ f. (gs : List (Home T)) → Stands gs l → IsFateOf gs f × (m.first ≡ f.segment + 1))
      → Stands before m × IsTaken before m r
  taken_out (Some f) hs before l m s same stands some_ = let s' = subst (λ x. Stands x l) same s in
      (stands before s', some_ before s')
  taken_out None hs before l m s same stands some_ = (stands before (subst (λ x. Stands x l) same s), tt)

  -- ---- they are told
  pub unlocks_taken : (told : Option (Fates T)) (slots id : ℕ) (me : Sat T) → me.0.live ≡ true → me.0.holds ≡ true
      → HasTaken me.0.before told me.1
      → Allows Keeps slots id me 0 (λ _. 0) (λ _. gives_fates told (step slots 0 0 0 none) me 0)
  unlocks_taken told slots id me live holds has = unlocks_as
      (gives_fates told (step slots 0 0 0 none) me 0) (told_fates told (unlocked me.0)) slots id me has.0 me.0.before
      has.2 has.1 live holds refl refl refl refl refl (refl, holds, has)
      (λ s k at part before. lawful_looked s k id me.0 me.0.before me.0.lengths (told ∷ me.0.fates) at part before
      (looked_same me.0.before))

  pub taken_of_list : (s : State (Homes T) (Knows T)) (k : Keeps s) (id r : ℕ) (told : Option (Fates T))
      (st : Step (Homes T)) (m n : Sat T) → get_elem? s.views id ≡ some m.0 → gives_fates told st m r n
      → HasTaken k.homes told m.1
  taken_of_list s k id r told st m n at gives = subst (λ hs. HasTaken hs told m.1) (⊎_elim
      (λ free. absurd (true≢false (sym gives.1 ∙ free.4 id m.0 at)))
      (λ held. (held.3 id m.0 at gives.1).1) k.lock) gives.2

  abbrev pub told_chair : Option (Fates T) → Seat (Homes T) (Knows T) → Seat (Homes T) (Knows T)
  told_chair told p = record p { me = (told_fates told p.me.0, p.me.1) }

  pub after_taken : (told : Option (Fates T)) (hs : List (Home T)) (p q : Seat (Homes T) (Knows T)) (v : Knows T)
      → (q.table_id ≡ p.table_id) × (q.id ≡ p.id) → IsReady p.me → v ≡ locked hs p.me.0
      → q.me ≡ (told_fates told (unlocked v), []) → q ≡ told_chair told p
  after_taken told hs p q v same ready is me = seat_is (told_chair told p) q same (me
      ∙ ap (λ u. (told_fates told u, [])) (ap (λ u. unlocked u) is ∙ let_go p.me hs ready)
      ∙ ap (λ c. (told_fates told p.me.0, c)) (sym ready.3))

  -- ---- a log comes from the accounts that the hubs know
  abbrev call : ℕ → ℕ → T → Deed T
  call k p y = record { place = record { segment = k; number = p }; value = y }

  one_deed : (j k p : ℕ) (y : T) (ps : List (Position T)) → IsOneOf (call k p y) (map (deed j) ps)
      → (j ≡ k) × Has p y ps
  one_deed j k p y [] is = absurd is
  one_deed j k p y (q ∷ qs) is = ⊎_elim
      (λ e. (
        ap (λ (d : Deed T). d.place.segment) (sym e),
        inl (ap (λ (d : Deed T). d.place.number) (sym e), ap (λ (d : Deed T). d.value) (sym e)),
      ))
      (λ r. let x = one_deed j k p y qs r in (x.0, inr x.1)) is

  one_visit : (f : Account T → List (Position T)) (name k p : ℕ) (y : T) (vs : List (Visit T)) → AreNamed name vs
      → IsOneOf (call k p y) (in_visits f vs)
      → (u : Visit T) × IsOneOf u vs × (u.segment ≡ k) × Has p y (f u.account) × (u.account.name ≡ name)
  one_visit f name k p y [] names is = absurd is
  one_visit f name k p y (v ∷ vs) names is = ⊎_elim
      (λ r. let x = one_visit f name k p y vs names.1 r in (x.0, inr x.1, x.2, x.3, x.4))
      (λ r. let x = one_deed v.segment k p y (f v.account) r in (v, inl refl, x.0, x.1, names.0))
      (one_append (call k p y) (in_visits f vs) (map (deed v.segment) (f v.account)) is)

  made_more : (k : ℕ) (m : Made T) (ms : List (Made T)) (i : ℕ) (a : Account T) → get_elem? (made_in k ms) i ≡ some a
      → (j : ℕ) × (get_elem? (made_in k (m ∷ ms)) j ≡ some a)
  made_more k m ms i a e = go (nat_eq m.visit.segment k)
    where
      go : (b : Bool) → (j : ℕ) × (get_elem? (if b then m.visit.account ∷ made_in k ms else made_in k ms) j ≡ some a)
      go true = (suc i, e)
      go false = (i, e)

  made_visit : (n : ℕ) (all : List (Made T)) (u : Visit T) → IsOneOf u (made_by n all)
      → (i : ℕ) × (get_elem? (made_in u.segment all) i ≡ some u.account)
  made_visit n [] u is = absurd is
  made_visit n (m ∷ ms) u is = go (nat_eq m.by n) is
      (λ r. let x = made_visit n ms u r in made_more u.segment m ms x.0 u.account x.1)
    where
      go : (b : Bool) → IsOneOf u (if b then m.visit ∷ made_by n ms else made_by n ms)
          → (IsOneOf u (made_by n ms) → (i : ℕ) × (get_elem? (made_in u.segment (m ∷ ms)) i ≡ some u.account))
          → (i : ℕ) × (get_elem? (made_in u.segment (m ∷ ms)) i ≡ some u.account)
      go true r more = ⊎_elim (λ (e : u ≡ m.visit). (
        0,
        subst (λ (z : Visit T). get_elem? (made_in z.segment (m ∷ ms)) 0 ≡ some z.account) (sym e)
            (ap (λ l. get_elem? l 0) (in_own m.visit.segment m ms refl)),
      )) more r
      go false r more = more r

  -- each call of the list is in an account of this name
  abbrev Comes : (Account T → List (Position T)) → List (Made T) → ℕ → List (Deed T) → Type 0
  Comes f all name ds = (k p : ℕ) (y : T) → IsOneOf (call k p y) ds → (i : ℕ) × (a : Account T)
      × (get_elem? (made_in k all) i ≡ some a) × Has p y (f a) × (a.name ≡ name)

  comes : (f : Account T → List (Position T)) (all : List (Made T)) (n name : ℕ) (vs : List (Visit T))
      → AreNamed name vs → vs ≡ made_by n all → Comes f all name (in_visits f vs)
  comes f all n name vs names made k p y is =
      let x = one_visit f name k p y vs names is in
      let m = made_visit n all x.0 (subst (λ l. IsOneOf x.0 l) made x.1) in
      (m.0, x.0.account, ap (λ j. get_elem? (made_in j all) m.0) (sym x.2) ∙ m.1, x.3, x.4)

  comes_none : (f : Account T → List (Position T)) (all : List (Made T)) (name : ℕ) (vs : List (Visit T)) → vs ≡ []
      → Comes f all name (in_visits f vs)
  comes_none f all name vs none_made k p y is =
      absurd (subst (λ l. IsOneOf (call k p y) (in_visits f l)) none_made is)

  abbrev LogComes : List (Made T) → Log T → Type 0
  LogComes all l = Comes (λ a. a.sent) all l.name l.sent × Comes (λ a. a.got) all l.name l.got

  past_comes : (all : List (Made T)) (views : List (Knows T)) (ps : List (Past T)) → AllPast (PastFits all views) ps
      → AllPast (λ p. AreNamed p.name p.visits) ps → (l : Log T) → IsOneOf l (map log_of_past ps) → LogComes all l
  past_comes all views [] fits names l is = absurd is
  past_comes all views (p ∷ ps) fits names l is = ⊎_elim
      (λ e. subst (LogComes all) (sym e) (
        comes (λ a. a.sent) all p.number p.name p.visits names.0 fits.0.0,
        comes (λ a. a.got) all p.number p.name p.visits names.0 fits.0.0,
      ))
      (past_comes all views ps fits.1 names.1 l) is

  log_comes : (s : State (Homes T) (Knows T)) (k : Keeps s) (l : Log T) → IsLog s.views l → LogComes k.all l
  log_comes s k l is =
      let id = is.0 in let v = is.1 in let f = k.fits id v is.2 in
      ⊎_elim (λ e. subst (LogComes k.all) (sym e) (own id v f v.live refl))
      (past_comes k.all s.views v.ended f.ended f.names.1 l) is.3
    where
      own : (id : ℕ) (v : Knows T) → Rattle.mb_channel.specs.Homes.Fits k.homes k.all s.views id v → (b : Bool)
          → v.live ≡ b → LogComes k.all (log_of_past (past_of v))
      own id v f true live = (
        comes (λ a. a.sent) k.all id v.name v.visits f.names.0 (f.named live).1,
        comes (λ a. a.got) k.all id v.name v.visits f.names.0 (f.named live).1,
      )
      own id v f false unborn = (
        comes_none (λ a. a.sent) k.all v.name v.visits (f.newborn unborn).0,
        comes_none (λ a. a.got) k.all v.name v.visits (f.newborn unborn).0,
      )

  -- the fates of a segment name the ends whose logs have its values
  pub fates_true : (s : State (Homes T) (Knows T)) (k : Keeps s) (f : Fates T) → IsFateOf k.homes f → (at : ℕ)
      (x : Fate) → is_fate f at ≡ Some x → IsTrue s.views f.segment at x
  fates_true s k f is at x e = λ l y log.
      let h = is.0 in
      let here = k.agrees.here f.segment h is.1 in
      let told = subst (λ o. Rattle.mb_segment.specs.Vocabulary.OfFate (came_back h) at o) e (is.2.1 at) in
      let c = log_comes s k l log in (
        (λ sent. (let a = c.0 f.segment at y sent in
            told.sender a.0 a.1 y (ap (λ l. get_elem? l a.0) here ∙ a.2) a.3 ∙ ap name_in a.4)),
        λ got. (let a = c.1 f.segment at y got in
            told.receiver a.0 a.1 y (ap (λ l. get_elem? l a.0) here ∙ a.2) a.3 ∙ ap name_in a.4),
      )
