-- The hub's two steps that take a seat back: it joins the seat to its own, then a load puts the part into its roll.
use Rattle.std.proofs.Common.{List, [], ap, inl, inr, refl, slice_index, slice_set, subst, sym, ℕ, ⊎_elim, ◌∙◌, ◌≡◌, ◌≢◌, arith}
use Rattle.std.specs.Prelude.{None, Some}
use Rattle.std.proofs.lemmas.List.{set-get_or}
use mathlib.Core.Option.{some, some-injective}
use lib.ListN.{get_elem?}
use Rattle.atomic_table.specs.Table.{Allows, Joins, keeps}
use Rattle.atomic_table.proofs.Lists.{at_set, set_else, set_here}
use Rattle.mb_cells.specs.Vocabulary.{History, IsPoolLawful, part}
use Rattle.mb_cells.specs.declared.access.Process.{Process}
use Rattle.mb_cells.specs.declared.access.Process.TheVariants.{Producer, Reader}
use Rattle.mb_cells.specs.declared.size.PoolSize.{PoolSize}
use Rattle.mb_shared_cells.specs.Rule.{FitsView, HasPart, HasProcess, IsCellsState, IsEnrolled, IsHub, IsTableState, IsViewAt, KeepsCells, Seating, StandsAt, roster_of}
use Rattle.mb_shared_cells.specs.Views.{IsRollOf, PartList, SeatState, WasOut, hub_after_join, hub_after_load, roll_at, roll_with_part}
use Rattle.mb_shared_cells.specs.declared.views.Roll.{Roll}
use Rattle.mb_shared_cells.specs.declared.views.View.{View}
use Rattle.mb_shared_cells.specs.declared.views.View.TheVariants.{Empty, Hub, HubJoins, Member}
use Rattle.mb_shared_cells.proofs.Seatings.{Spares, enrolled_out, fits_still, moved, moved-else, moved-here, moved-to, cases_process, stands_then}
use Rattle.mb_shared_cells.proofs.Seatings.{with_part-had, with_part-has, with_part-here, with_part-lanes, with_part-readers}
use Rattle.mb_shared_cells.proofs.ViewLists.{all_set, at_within, none_past}

-- the hub may join the seat of a process to its own: the rule is kept
pub takes_in : (size : PoolSize) (id other : ℕ) (own its : PoolSize) (roll : Roll) (who : Process) (known : PartList)
    (done : History)
    → Joins (KeepsCells size) id (Hub own roll) other (Member its who known done) (HubJoins own roll who done) Empty
takes_in size id other own its roll who known done s h at apart there =
    let views = s.views in
    let t = h.0 in
    let r = h.1 in
    let roster = slice_index s.words (roster_of size) in
    let hub = Hub own roll in
    let both = HubJoins own roll who done in
    let member = Member its who known done in
    let joined = slice_set views id both in
    let mine = r.fits id hub at in
    let was : get_elem? views other ≡ some member = ⊎_elim
    (λ (x : (other ≡ id) × (both ≡ member)). absurd (apart x.0))
    (λ (x : (other ≢ id) × (get_elem? views other ≡ some member)). x.1)
    (at_set views id other both member there) in
    let theirs = r.fits other member was in
    let u : Seating = record {
      history = t.history;
      lanes = t.lanes;
      readers = t.readers;
      hub = t.hub;
      seat_of = moved who id t.seat_of;
    } in
    let out : roll_at who roll ≡ Some None = ⊎_elim
    (λ (none : roll_at who roll ≡ Some None). none)
    (λ (x : (d : History) × (roll_at who roll ≡ Some (Some d))).
    absurd (apart (sym theirs.2.here ∙ (mine.0.parts who x.0 x.1).0)))
    (enrolled_out size t id own roll who mine.0 theirs.2.enrolled) in
    let same : (x : Process) → (t.seat_of x ≡ other → ⊥) → moved who id t.seat_of x ≡ t.seat_of x =
    λ x far. moved-else who id t.seat_of x (λ e. far (ap t.seat_of (sym e) ∙ theirs.2.here)) in
    let spares : (j : ℕ) → j ≢ id → j ≢ other → Spares t u roster roster j = λ j near far. record {
      hubs = refl;
      enrolled = λ x e. e;
      same = λ _. (refl, refl, refl);
      stand = λ x _ where_it. (
        same x (λ here. ⊎_elim
            (λ (e : t.seat_of x ≡ j). far (sym e ∙ here))
            (λ (e : t.seat_of x ≡ t.hub). theirs.1 (sym here ∙ e)) where_it),
        refl,
      );
    } in
    let hub_now : IsHub size u id own roll = record {
      sized = mine.0.sized;
      here = mine.0.here;
      lanes = mine.0.lanes;
      readers = mine.0.readers;
      parts = λ x d e. let y = mine.0.parts x d e in (moved-to who id t.seat_of x y.0, y.1);
    } in
    let part_now : HasPart u id who done = record {
      here = moved-here who id t.seat_of;
      enrolled = theirs.2.enrolled;
      part = theirs.2.part;
    } in
    let fits_both : FitsView size u roster id both = (hub_now, mine.1, part_now, out) in (
      u,
      record {
        memory = r.memory;
        wide = r.wide;
        few = r.few;
        drawn = r.drawn;
        nobody_else = r.nobody_else;
        stands = λ x enrolled. ⊎_elim
            (λ (e : who ≡ x). subst (λ (z : ℕ). StandsAt (slice_set joined other Empty) z x)
            (sym (ap (moved who id t.seat_of) (sym e) ∙ moved-here who id t.seat_of)) (
              both,
              set_else joined other id Empty (λ near. apart (sym near))
                  ∙ set_here views id both (at_within views id hub at),
              (done, inl (e, refl)),
            ))
            (λ (e : who ≢ x).
            let y = r.stands x enrolled in
            let not_there : t.seat_of x ≡ other → ⊥ = λ there'.
            e (subst (λ v. HasProcess v x)
            (some-injective y.0 member (sym y.1 ∙ ap (get_elem? views) there' ∙ was)) y.2).1.0 in
            let z = stands_then views id hub both (t.seat_of x) x at (λ y. (y.0, inr y.1)) y in
            subst (λ (n : ℕ). StandsAt (slice_set joined other Empty) n x)
            (sym (moved-else who id t.seat_of x e))
            (z.0, set_else joined other (t.seat_of x) Empty not_there ∙ z.1, z.2))
            (cases_process who x);
        fits = all_set (λ j v. FitsView size u roster j v) joined other Empty
            (λ j v far e.
            all_set (λ i y. i ≢ other → FitsView size u roster i y) views id both
            (λ i y near e' far'. fits_still size t u roster roster i (spares i near far') y (r.fits i y e'))
            (λ _. fits_both) j v e far)
            tt;
      },
    )

-- `takes_in` for two seats whose views are known only by equations
pub join_asked : (key : PoolSize) (id other : ℕ) (v w : View) (own its : PoolSize) (roll : Roll) (who : Process)
    (known : PartList) (done : History) → v ≡ Hub own roll → w ≡ Member its who known done
    → Joins (KeepsCells key) id v other w (hub_after_join v w) Empty
join_asked key id other v w own its roll who known done is that =
    subst (λ (z : View × View). Joins (KeepsCells key) id z.0 other z.1 (hub_after_join z.0 z.1) Empty)
    (λ i. (sym is i, sym that i)) (takes_in key id other own its roll who known done)

-- a process whose part was joined, or was in the roll, has its part in the roll after the load
loaded_keeps : (who : Process) (own : PoolSize) (done : History) (roll : Roll) (x : Process)
    → roll_at who roll ≡ Some None → HasProcess (HubJoins own roll who done) x
    → HasProcess (Hub own (roll_with_part who done roll)) x
loaded_keeps who own done roll x out (d, inl e) = (
  done,
  subst (λ z. roll_at z (roll_with_part who done roll) ≡ Some (Some done)) e.0
      (with_part-here who done roll None out),
)
loaded_keeps who own done roll x out (d, inr e) = with_part-has who done roll x d e

-- a process without a place in the hub's roll was not issued
not_enrolled : (size : PoolSize) (t : Seating) (seat : ℕ) (own : PoolSize) (roll : Roll) (who : Process)
    → IsHub size t seat own roll → roll_at who roll ≡ None → IsEnrolled t who → ⊥
not_enrolled size t seat own roll (Producer p) h none e =
    let low = none_past roll.lanes p none in let n = h.lanes in omega arith
not_enrolled size t seat own roll (Reader r) h none e =
    let low = none_past roll.readers r none in let n = h.readers in omega arith

-- the parts in the roll of a hub are those of the table's history
roll_history : (size : PoolSize) (words : List ℕ) (views : List View) (t : Seating) (seat : ℕ) (own : PoolSize)
    (roll : Roll) → IsTableState size words views t → IsHub size t seat own roll → IsRollOf own roll t.history
roll_history size words views t seat own roll r hub = record {
  lawful = subst (λ (z : PoolSize). IsPoolLawful z t.history) (sym hub.sized) r.memory.lawful;
  parts = λ who done e. sym (hub.parts who done e).1;
  others = λ who e. r.nobody_else who (not_enrolled size t seat own roll who hub e);
}

-- after the hub has put the part of the seat that it joined into its roll, its view is still true of the seating
loaded_hub : (size : PoolSize) (words : List ℕ) (views : List View) (t : Seating) (id : ℕ)
    (own : PoolSize) (roll : Roll) (who : Process) (done : History)
    → IsTableState size words views t → IsViewAt views id (HubJoins own roll who done)
    → IsHub size t id own (roll_with_part who done roll)
loaded_hub size words views t id own roll who done r at =
    let mine = r.fits id (HubJoins own roll who done) at in record {
      sized = mine.0.sized;
      here = mine.0.here;
      lanes = with_part-lanes who done roll ∙ mine.0.lanes;
      readers = with_part-readers who done roll ∙ mine.0.readers;
      parts = λ x d e. ⊎_elim
          (λ (y : (who ≡ x) × (done ≡ d)).
          (ap t.seat_of (sym y.0) ∙ mine.2.here, sym y.1 ∙ mine.2.part ∙ ap (λ z. part z t.history) y.0))
          (λ (y : roll_at x roll ≡ Some (Some d)). mine.0.parts x d y)
          (with_part-had who done roll x d e);
    }

-- after the hub has put the part of the seat that it joined into its roll, the table agrees with the same seating
pub after_load : (size : PoolSize) (words : List ℕ) (views : List View) (t : Seating) (id : ℕ)
    (own : PoolSize) (roll : Roll) (who : Process) (done : History)
    → IsTableState size words views t → IsViewAt views id (HubJoins own roll who done)
    → IsTableState size words (slice_set views id (Hub own (roll_with_part who done roll))) t
after_load size words views t id own roll who done r at =
    let was = HubJoins own roll who done in
    let now = Hub own (roll_with_part who done roll) in
    let mine = r.fits id was at in record {
      memory = r.memory;
      wide = r.wide;
      few = r.few;
      drawn = r.drawn;
      nobody_else = r.nobody_else;
      stands = λ x e.
          stands_then views id was now (t.seat_of x) x at (loaded_keeps who own done roll x mine.3)
          (r.stands x e);
      fits = all_set (λ j v. FitsView size t (slice_index words (roster_of size)) j v) views id now
          (λ j v apart e. r.fits j v e)
          (loaded_hub size words views t id own roll who done r at, mine.1);
    }

-- the hub that has joined a seat may put its part into the roll
load_allows : (size : PoolSize) (slots id : ℕ) (own : PoolSize) (roll : Roll) (who : Process) (done : History)
    → Allows (KeepsCells size) slots id (HubJoins own roll who done, []) 0 (λ n. n)
    (λ n w. WasOut (HubJoins own roll who done) × (w ≡ (Hub own (roll_with_part who done roll), [])))
load_allows size slots id own roll who done s h _ at _ =
    let views = s.views in
    let t = h.0 in
    let r = h.1 in
    let now = Hub own (roll_with_part who done roll) in
    let mine = r.fits id (HubJoins own roll who done) at in
    let hub = loaded_hub size s.words views t id own roll who done r at in (
      now,
      keeps,
      tt,
      subst (λ (ws : List ℕ). IsCellsState size ws (slice_set views id now))
          (sym (set-get_or s.words 0 0))
          (t, after_load size s.words views t id own roll who done r at),
      ((mine.3, (t.history, roll_history size s.words views t id own _ r hub)), refl),
    )

-- `load_allows` for a seat that is known only by an equation
pub load_asked : (key : PoolSize) (slots id : ℕ) (me : SeatState) (own : PoolSize) (roll : Roll) (who : Process)
    (done : History) → me ≡ (HubJoins own roll who done, [])
    → Allows (KeepsCells key) slots id me 0 (λ n. n) (λ n w. WasOut me.0 × (w ≡ (hub_after_load me.0, me.1)))
load_asked key slots id me own roll who done is =
    subst
    (λ (z : SeatState). Allows (KeepsCells key) slots id z 0 (λ n. n)
    (λ n w. WasOut z.0 × (w ≡ (hub_after_load z.0, z.1))))
    (sym is) (load_allows key slots id own roll who done)
