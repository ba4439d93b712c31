-- The hub's steps that issue seats: it splits off the seat of a lane whose number was drawn, or of a reader.
use Rattle.std.proofs.Common.{[], ap, arith, inl, inr, le_refl, length, length-append, length-set, refl}
use Rattle.std.proofs.Common.{slice_index, slice_set, subst, sym, ℕ, ⊎_elim, ◌++◌, ◌+◌, ◌<◌, ◌∙◌, ◌∷◌, ◌≡◌, ◌≢◌, ◌≤◌, ◌⊎◌}
use Rattle.std.specs.Prelude.{None, Some}
use Rattle.std.proofs.lemmas.Bool.{cases_eq}
use Rattle.atomic_table.specs.Table.{Splits}
use Rattle.atomic_table.proofs.Lists.{at_last}
use Rattle.mb_cells.specs.Vocabulary.{History}
use Rattle.mb_cells.specs.declared.access.Process.{Process}
use Rattle.mb_cells.specs.declared.access.Process.TheVariants.{Producer, Reader}
use Rattle.mb_cells.specs.declared.size.PoolSize.{PoolSize}
use Rattle.mb_shared_cells.specs.Vocabulary.{FitsView, HasProcess, IsEnrolled, IsHub, KeepsCells, KnowsTaken, PartList, Seating, StandsAt, roster_of}
use Rattle.mb_shared_cells.specs.Vocabulary.{hub_after_split, newcomer, roll_at, roll_with_lane, roll_with_reader, Roll, View}
use Rattle.mb_shared_cells.specs.declared.views.View.TheVariants.{Hub, HubDraws, Member}
use Rattle.mb_shared_cells.proofs.Seatings.{Spares, fits_still, moved, moved-else, moved-here, roll_enrolled, stands_longer, stands_then, with_lane-has, with_reader-has}
use Rattle.mb_shared_cells.proofs.ViewLists.{all_set, all_snoc, at_within, longer_had}

-- ---- a seat split off for a lane or a reader
-- the process is the next to be issued: its number is how many lanes, or readers, the roll has
IsNext : Process → Roll → Type 0
IsNext (Producer p) roll = p ≡ length roll.lanes
IsNext (Reader r) roll = r ≡ length roll.readers

-- the roll once this process is issued: it has one number more, without a part
grown : Process → Roll → Roll
grown (Producer p) roll = roll_with_lane roll
grown (Reader r) roll = roll_with_reader roll

-- the view of the hub that is about to give this process a seat
before : Process → PoolSize → Roll → View
before (Producer p) own roll = HubDraws own roll
before (Reader r) own roll = Hub own roll

-- the lanes' parts that the new seat of this process knows: a reader's knows those that were returned
known_by : Process → Roll → PartList
known_by (Producer p) roll = []
known_by (Reader r) roll = roll.lanes

-- how many lanes are issued once this process is issued, if n were before
lanes_after : Process → ℕ → ℕ
lanes_after (Producer p) n = n + 1
lanes_after (Reader r) n = n

-- how many readers are issued once this process is issued, if n were before
readers_after : Process → ℕ → ℕ
readers_after (Producer p) n = n
readers_after (Reader r) n = n + 1

-- the seating once this process is issued, at seat `to`
seating_after : Process → ℕ → Seating → Seating
seating_after who to t = record {
  history = t.history;
  lanes = lanes_after who t.lanes;
  readers = readers_after who t.readers;
  hub = t.hub;
  seat_of = moved who to t.seat_of;
}

-- each process issued by seating t is issued too once `who` is issued
still_enrolled : (who : Process) (to : ℕ) (t : Seating) (x : Process) → IsEnrolled t x
    → IsEnrolled (seating_after who to t) x
unfolding lanes_after readers_after seating_after
still_enrolled (Producer p) to t (Producer q) e = omega arith
still_enrolled (Producer p) to t (Reader q) e = e
still_enrolled (Reader p) to t (Producer q) e = e
still_enrolled (Reader p) to t (Reader q) e = omega arith

-- the process with the next number is among those issued in the seating after it is issued
next_enrolled : (size : PoolSize) (seat : ℕ) (own : PoolSize) (roll : Roll) (who : Process) (to : ℕ) (t : Seating)
    → IsHub size t seat own roll → IsNext who roll → IsEnrolled (seating_after who to t) who
unfolding lanes_after readers_after seating_after IsNext
next_enrolled size seat own roll (Producer p) to t h is = let n = h.lanes in omega arith
next_enrolled size seat own roll (Reader r) to t h is = let n = h.readers in omega arith

-- a process with the next number was not issued before
next_not_enrolled : (size : PoolSize) (seat : ℕ) (own : PoolSize) (roll : Roll) (who : Process) (t : Seating)
    → IsHub size t seat own roll → IsNext who roll → IsEnrolled t who → ⊥
unfolding IsNext
next_not_enrolled size seat own roll (Producer p) t h is e = let n = h.lanes in omega arith
next_not_enrolled size seat own roll (Reader r) t h is e = let n = h.readers in omega arith

-- each process issued in the seating after `who` is issued was issued before, or is `who`
enrolled_before : (size : PoolSize) (seat : ℕ) (own : PoolSize) (roll : Roll) (who : Process) (to : ℕ) (t : Seating)
    (x : Process) → IsHub size t seat own roll → IsNext who roll → IsEnrolled (seating_after who to t) x
    → (IsEnrolled t x) ⊎ (who ≡ x)
unfolding lanes_after readers_after seating_after IsNext
enrolled_before size seat own roll (Producer p) to t (Producer q) h is e =
    let n = h.lanes in
    elim (cases_eq q t.lanes) [ inl same ↦ inr (ap Producer (is ∙ n ∙ sym same)) | inr other ↦ inl (omega arith) ]
enrolled_before size seat own roll (Producer p) to t (Reader q) h is e = inl e
enrolled_before size seat own roll (Reader p) to t (Producer q) h is e = inl e
enrolled_before size seat own roll (Reader p) to t (Reader q) h is e =
    let n = h.readers in
    elim (cases_eq q t.readers) [ inl same ↦ inr (ap Reader (is ∙ n ∙ sym same)) | inr other ↦ inl (omega arith) ]

-- the roll once `who` is issued has as many lanes as `lanes_after` says
grown_lanes : (who : Process) (roll : Roll) (n : ℕ) → length roll.lanes ≡ n
    → length (grown who roll).lanes ≡ lanes_after who n
unfolding lanes_after grown
grown_lanes (Producer p) roll n e = omega (arith, length-append roll.lanes (None ∷ []))
grown_lanes (Reader r) roll n e = e

-- the roll once `who` is issued has as many readers as `readers_after` says
grown_readers : (who : Process) (roll : Roll) (n : ℕ) → length roll.readers ≡ n
    → length (grown who roll).readers ≡ readers_after who n
unfolding readers_after grown
grown_readers (Producer p) roll n e = e
grown_readers (Reader r) roll n e = omega (arith, length-append roll.readers (None ∷ []))

-- each part in the roll once `who` is issued was in the roll before
grown_had : (who : Process) (roll : Roll) (x : Process) (done : History)
    → roll_at x (grown who roll) ≡ Some (Some done) → roll_at x roll ≡ Some (Some done)
unfolding grown
grown_had (Producer p) roll (Producer q) done e = longer_had roll.lanes q done e
grown_had (Producer p) roll (Reader q) done e = e
grown_had (Reader p) roll (Producer q) done e = e
grown_had (Reader p) roll (Reader q) done e = longer_had roll.readers q done e

-- each process whose part the hub's view had before the split has its part there after it
before_keeps : (who : Process) (own : PoolSize) (roll : Roll) (x : Process) → HasProcess (before who own roll) x
    → HasProcess (Hub own (grown who roll)) x
unfolding before grown
before_keeps (Producer p) own roll x h = (h.0, with_lane-has roll x (Some h.0) h.1)
before_keeps (Reader p) own roll x h = (h.0, with_reader-has roll x (Some h.0) h.1)

-- if the hub's view before the split is true of a seat, that seat is the hub's, and the roster holds `lanes_after`
before_fits : (size : PoolSize) (t : Seating) (roster seat : ℕ) (who : Process) (own : PoolSize) (roll : Roll)
    → FitsView size t roster seat (before who own roll)
    → IsHub size t seat own roll × (roster ≡ lanes_after who t.lanes)
unfolding lanes_after before
before_fits size t roster seat (Producer p) own roll h = h
before_fits size t roster seat (Reader r) own roll h = h

-- each lane whose part a new seat knows was returned
newcomer_knows : (size : PoolSize) (t : Seating) (seat : ℕ) (own : PoolSize) (roll : Roll) (who : Process)
    → IsHub size t seat own roll → KnowsTaken t (known_by who roll)
unfolding known_by
newcomer_knows size t seat own roll (Producer p) h q theirs e = absurd (cc)
newcomer_knows size t seat own roll (Reader r) h q theirs e =
    let x = h.parts (Producer q) theirs e in
    let low : q < t.lanes = roll_enrolled size t seat own roll (Producer q) (Some theirs) h e in
    (low, x.0 ∙ h.here, x.1)

-- the hub may split a seat off: for the lane whose number was drawn, or for the next reader
issues : (size : PoolSize) (id : ℕ) (own : PoolSize) (roll : Roll) (who : Process) → IsNext who roll
    → Splits (KeepsCells size) id (before who own roll) (Hub own (grown who roll))
    (Member own who (known_by who roll) [])
unfolding seating_after
issues size id own roll who is s h at =
    let views = s.views in
    let t = h.0 in
    let r = h.1 in
    let roster = slice_index s.words (roster_of size) in
    let mine = before_fits size t roster id who own roll (r.fits id (before who own roll) at) in
    let hub = mine.0 in
    let left = Hub own (grown who roll) in
    let right = Member own who (known_by who roll) [] in
    let seats = slice_set views id left in
    let to = length seats in
    let u = seating_after who to t in
    let within : id < length views = at_within views id (before who own roll) at in
    let wide : length seats ≡ length views = length-set views id left in
    let new : (x : Process) → IsEnrolled t x → who ≢ x =
    λ x e same. next_not_enrolled size id own roll who t hub is (subst (IsEnrolled t) (sym same) e) in
    let there : (x : Process) → IsEnrolled t x → moved who to t.seat_of x ≡ t.seat_of x =
    λ x e. moved-else who to t.seat_of x (new x e) in
    let hub_now : IsHub size u id own (grown who roll) = record {
      sized = hub.sized;
      here = hub.here;
      lanes = grown_lanes who roll t.lanes hub.lanes;
      readers = grown_readers who roll t.readers hub.readers;
      parts = λ x done e.
          let old = grown_had who roll x done e in
          let y = hub.parts x done old in
          (there x (roll_enrolled size t id own roll x (Some done) hub old) ∙ y.0, y.1);
    } in
    let spares : (j : ℕ) → j ≢ id → Spares t u roster roster j = λ j apart. record {
      hubs = refl;
      enrolled = still_enrolled who to t;
      same = λ is_hub. absurd (apart (is_hub ∙ sym hub.here));
      stand = λ x e _. (there x e, refl);
    } in
    let new_one : FitsView size u roster to right = (
      hub.sized,
      (λ e. let at_hub : to ≡ id = e ∙ sym hub.here in omega arith),
      record {
        here = moved-here who to t.seat_of;
        enrolled = next_enrolled size id own roll who to t hub is;
        part = sym (r.nobody_else who (λ e. next_not_enrolled size id own roll who t hub is e));
      },
      (λ p theirs e.
          let x = newcomer_knows size t id own roll who hub p theirs e in
          (still_enrolled who to t (Producer p) x.0, there (Producer p) x.0 ∙ x.1, x.2)),
    ) in (
      u,
      record {
        memory = r.memory;
        wide = r.wide;
        few = r.few;
        drawn = let e = mine.1 in subst (λ (z : ℕ). z ≤ roster) e (le_refl roster);
        nobody_else = λ x none. r.nobody_else x (λ e. none (still_enrolled who to t x e));
        stands = λ x enrolled. ⊎_elim
            (λ (e : IsEnrolled t x). subst (λ (z : ℕ). StandsAt (seats ++ right ∷ []) z x) (sym (there x e))
            (stands_longer seats right (t.seat_of x) x
            (stands_then views id (before who own roll) left (t.seat_of x) x at
            (before_keeps who own roll x) (r.stands x e))))
            (λ (e : who ≡ x). subst (λ (z : ℕ). StandsAt (seats ++ right ∷ []) z x)
            (sym (ap (moved who to t.seat_of) (sym e) ∙ moved-here who to t.seat_of))
            (right, at_last seats right to refl, ([], (e, refl))))
            (enrolled_before size id own roll who to t x hub is enrolled);
        fits = all_snoc (λ j v. FitsView size u roster j v) seats right
            (all_set (λ j v. FitsView size u roster j v) views id left
            (λ j v apart e. fits_still size t u roster roster j (spares j apart) v (r.fits j v e))
            (hub_now, mine.1))
            new_one;
      },
    )

-- the hub may split off a lane's seat
pub lane_splits : (size : PoolSize) (id : ℕ) (v : View) (own : PoolSize) (roll : Roll) → v ≡ HubDraws own roll
    → Splits (KeepsCells size) id v (hub_after_split v) (newcomer v)
unfolding IsNext grown before known_by
lane_splits size id v own roll is =
    subst (λ (u : View). Splits (KeepsCells size) id u (hub_after_split u) (newcomer u)) (sym is)
    (issues size id own roll (Producer (length roll.lanes)) refl)

-- the hub may split off a reader's seat
pub reader_splits : (size : PoolSize) (id : ℕ) (v : View) (own : PoolSize) (roll : Roll) → v ≡ Hub own roll
    → Splits (KeepsCells size) id v (hub_after_split v) (newcomer v)
unfolding IsNext grown before known_by
reader_splits size id v own roll is =
    subst (λ (u : View). Splits (KeepsCells size) id u (hub_after_split u) (newcomer u)) (sym is)
    (issues size id own roll (Reader (length roll.readers)) refl)
