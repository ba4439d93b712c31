-- What a draw and a claim make of the pass of an end.
use Rattle.std.proofs.Common.{ℕ, ◌≡◌, ◌≤◌, List, ◌++◌, ◌∷◌, [], ap, arith, refl, subst, sym, true, true≢false, ◌∙◌}
use Rattle.std.specs.Prelude.{None, Option, Some, is_some}
use Rattle.atomic_table.specs.declared.shared.Seat.{Seat}
use Rattle.mb_segment.specs.declared.view.Duty.{Duty}
use Rattle.mb_segment.specs.declared.view.Half.{Half}
use Rattle.mb_segment.specs.declared.view.Half.TheVariants.{Nothing, Reads, Writes}
use Rattle.mb_segment.specs.Vocabulary.{IsCalm, MaySend, MayTake, bare, calm, drew, found_empty, no_duty, spot, took, with_duty}
use Rattle.mb_channel.specs.Types.{Arc, Global, Homes, Knows, Segment, View}
use Rattle.mb_channel.specs.declared.begun.Begun.{Begun}
use Rattle.mb_channel.specs.declared.busy.Debt.TheVariants as owed
use Rattle.mb_channel.specs.Begun.{half_at, half_in}
use Rattle.mb_channel.specs.Deeds.{Deed, deed}
use Rattle.mb_channel.specs.Ends.{Standing}
use Rattle.mb_channel.specs.Halves.{EndsWith, HasClaimed, HasDrawn, IsLastOf, last, to_read, to_write, work_at}
use Rattle.mb_channel.specs.Standing.{OneGot, OneSent, got_in, sent_in}
use Rattle.mb_channel.specs.Work.{HasGot, HasSent, Work}
use Rattle.mb_channel.proofs.Deeds.{log_more}
use Rattle.mb_channel.proofs.EndLogs.{one_got, one_sent}

module _ {T : Type 0} where
  -- a look does not change that nothing is owed
  pub still_calm : (v w : View T) → IsCalm v → bare w ≡ bare v → IsCalm w
  still_calm v w q e = e ∙ q ∙ sym (ap calm e)

  pub begins_draw : (p : ℕ) (x : T) (f : Duty → Duty) (v w : View T) → IsCalm v → w ≡ with_duty f (drew p x v)
      → bare w ≡ record (with_duty (λ _. f no_duty) (calm w)) { half = w.half }
  begins_draw p x f v w q e = subst
      (λ (u : View T). bare u ≡ record (with_duty (λ _. f no_duty) (calm u)) { half = u.half }) (sym e)
      (λ i. record (bare (with_duty f (drew p x v))) {
        role = (q i).role;
        duty = f (q i).duty;
        out = (q i).out;
        ends = (q i).ends;
      })

  pub begins_claim : (p : ℕ) (x : T) (f : Duty → Duty) (v w : View T) → IsCalm v → w ≡ with_duty f (took p x v)
      → bare w ≡ record (with_duty (λ _. f no_duty) (calm w)) { half = w.half }
  begins_claim p x f v w q e = subst
      (λ (u : View T). bare u ≡ record (with_duty (λ _. f no_duty) (calm u)) { half = u.half }) (sym e)
      (λ i. record (bare (with_duty f (took p x v))) {
        role = (q i).role;
        duty = f (q i).duty;
        out = (q i).out;
        ends = (q i).ends;
      })

  abbrev in_segment : Arc (Segment T Global) Global → View T → Work T
  in_segment s v = record { segment = s; pass = v }

  -- it was at rest as t
  pub drawn : (s : Arc (Segment T Global) Global) (p : ℕ) (x : T) (f : Duty → Duty) (t v w : View T) → v ≡ t
      → w ≡ with_duty f (drew p x v) → MaySend p v
      → (h : HasSent x (in_segment s t) (in_segment s w)) × (h.number ≡ p)
  drawn s p x f t v w same e may = let low = may.0 in subst
      (λ (u : View T). (h : HasSent x (in_segment s u) (in_segment s w)) × (h.number ≡ p)) same
      (subst (λ (u : View T). (h : HasSent x (in_segment s v) (in_segment s u)) × (h.number ≡ p)) (sym e) (
        record {
          there = (refl, omega arith, omega arith, omega arith, refl);
          number = p;
          sent = refl;
          behind = low;
          known = omega arith;
          got = refl;
          told = refl;
        },
        refl,
      ))

  pub claimed : (s : Arc (Segment T Global) Global) (p : ℕ) (x : T) (f : Duty → Duty) (t v w : View T)
      → bare v ≡ bare t → found_empty t ≤ found_empty v → w ≡ with_duty f (took p x v) → MayTake p v
      → (h : HasGot x (in_segment s t) (in_segment s w)) × (h.number ≡ p)
  claimed s p x f t v w b saw e may =
      let low = may.0 in
      let drawn_ = ap (λ (u : View T). u.known.drawn) b in
      let taken_ = ap (λ (u : View T). u.known.taken) b in
      subst (λ (u : View T). (h : HasGot x (in_segment s t) (in_segment s u)) × (h.number ≡ p)) (sym e) (
        record {
          there = (refl, saw, omega arith, omega arith, ap (λ (u : View T). u.account.name) b);
          number = p;
          got = ap (λ (u : View T). u.account.got ++ spot p x ∷ []) b;
          behind = omega arith;
          known = omega arith;
          sent = ap (λ (u : View T). u.account.sent) b;
          told = ap (λ (u : View T). u.over) b;
        },
        refl,
      )

  -- ---- of the end
  abbrev stand : Seat (Homes T) (Knows T) → Option (View T) → Standing T
  stand c o = record { chair = c; pass = o }

  last_of : (ds : List (Deed T)) (d : Deed T) → last (ds ++ d ∷ []) ≡ Some d
  last_of [] d = refl
  last_of (x ∷ []) d = refl
  last_of (x ∷ y ∷ ys) d = last_of (y ∷ ys) d

  ends_with : (k n m p : ℕ) (x : T) (ds es : List (Deed T)) → k ≡ m → n ≡ p
      → es ≡ ds ++ record { place = record { segment = k; number = n }; value = x } ∷ []
      → EndsWith (record { segment = m; number = p }) x es
  ends_with k n m p x ds es a b e = ap last e ∙ last_of ds _
      ∙ λ i. Some record { place = record { segment = a i; number = b i }; value = x }

  pub draws_one : (c : Seat (Homes T) (Knows T)) (at : ℕ) (o : Option (View T)) (u : Work T) (x : T) (b : Begun T)
      → c.me.0.at ≡ at → o ≡ Some u.pass → HasDrawn x u b
      → let w = stand c (Some (work_at b).pass) in
      OneSent x (stand c o) w × IsLastOf (to_write at (half_in b.pass)) (sent_in w)
      × EndsWith (record { segment = at; number = b.position }) x (sent_in w)
  draws_one c at o u x b here is has =
      let n = has.1.0.number in
      let e = ends_with c.me.0.at n at b.position x _ _ here has.1.1
      (log_more (λ a. a.sent) c.me.0 o u.pass (work_at b).pass n x is has.1.0.sent) in
      (one_sent c o u (work_at b) x is has.1.0, (ap (to_write at) has.0 ∙ sym e, ap is_some e), e)

  pub claims_one : (c : Seat (Homes T) (Knows T)) (at : ℕ) (o : Option (View T)) (u : Work T) (x : T) (b : Begun T)
      → c.me.0.at ≡ at → o ≡ Some u.pass → HasClaimed x u b
      → let w = stand c (Some (work_at b).pass) in
      OneGot x (stand c o) w
      × (IsLastOf (to_read at (half_in b.pass)) (got_in w) × (b.debt ≡ owed.Nothing))
      × EndsWith (record { segment = at; number = b.position }) x (got_in w)
  claims_one c at o u x b here is has =
      let n = has.1.0.number in
      let e = ends_with c.me.0.at n at b.position x _ _ here has.1.1
      (log_more (λ a. a.got) c.me.0 o u.pass (work_at b).pass n x is has.1.0.got) in
      (one_got c o u (work_at b) x is has.1.0, ((ap (to_read at) has.0.0 ∙ sym e, ap is_some e), has.0.1), e)

  -- ---- what is to be written, or read
  abbrev known : Deed T → Option (Deed T) → Deed T
  known d None = d
  known d (Some e) = e

  pub writes_value : (k n : ℕ) (x : T) (h : Half T)
      → to_write k h ≡ Some record { place = record { segment = k; number = n }; value = x }
      → h ≡ Writes (spot n x)
  writes_value k n x Nothing e = absurd (true≢false (sym (ap is_some e)))
  writes_value k n x (Reads s) e = absurd (true≢false (sym (ap is_some e)))
  writes_value k n x (Writes s) e = λ i. Writes record {
    at = (known (deed k s) (e i)).place.number;
    value = (known (deed k s) (e i)).value;
  }

  pub reads_value : (k n : ℕ) (h : Half T) (o : Option (Deed T)) → to_read k h ≡ o → is_some o ≡ true
      → half_at h ≡ Some n
      → (x : T) × (h ≡ Reads (spot n x)) × (o ≡ Some record { place = record { segment = k; number = n }; value = x })
  reads_value k n Nothing o e some_ at = absurd (true≢false (sym some_ ∙ ap is_some (sym e)))
  reads_value k n (Writes s) o e some_ at = absurd (true≢false (sym some_ ∙ ap is_some (sym e)))
  reads_value k n (Reads s) o e some_ at = let same : s.at ≡ n = cc in (
    s.value,
    (λ i. Reads record { at = same i; value = s.value }),
    sym e ∙ λ i. Some record { place = record { segment = k; number = same i }; value = s.value },
  )
