-- A process *stands* at the seat whose view has its part. A step leaves this as it was for the seats that it spares.
use Rattle.std.proofs.Common.{List, [], ap, arith, inl, inr, length, length-set, refl, slice_set, subst, sym, ℕ, ⊎_elim, ◌++◌, ◌∙◌, ◌∷◌, ◌≡◌, ◌≢◌, ◌≤◌, ◌⊎◌}
use Rattle.std.specs.Prelude.{None, Option, Some}
use Rattle.std.proofs.lemmas.Bool.{cases_eq}
use Rattle.std.proofs.lemmas.Option.{slice_get_within}
use mathlib.Core.Option.{some, some-injective}
use lib.ListN.{get_elem?}
use Rattle.atomic_table.proofs.Lists.{at_longer, set_else}
use Rattle.atomic_table.proofs.Lists.{set_here as view_here}
pub use Rattle.mb_cells.proofs.Names.{cases_process}
use Rattle.mb_cells.specs.Vocabulary.{History, ProcessFits, part}
use Rattle.mb_cells.specs.declared.access.Process.{Process}
use Rattle.mb_cells.specs.declared.access.Process.TheVariants.{Producer, Reader}
use Rattle.mb_cells.specs.declared.size.PoolSize.{PoolSize}
use Rattle.mb_shared_cells.specs.Rule.{FitsView, HasPart, HasProcess, IsEnrolled, IsHub, IsTableState, KnowsTaken, Seating, StandsAt, TellsPart}
use Rattle.mb_shared_cells.specs.Views.{PartList, roll_at, roll_with_lane, roll_with_part, roll_with_reader}
use Rattle.mb_shared_cells.specs.declared.views.Roll.{Roll}
use Rattle.mb_shared_cells.specs.declared.views.View.{View}
use Rattle.mb_shared_cells.specs.declared.views.View.TheVariants.{Empty, Hub, HubDraws, HubJoins, Member}
use Rattle.mb_shared_cells.proofs.ViewLists.{at_within, longer_has, out_or_in, set_had, set_has, set_here}

-- ---- a process that moves to another seat
-- the seat of each process as in `seats`, but process `who` stands at seat `to`
pub moved : Process → ℕ → (Process → ℕ) → Process → ℕ
moved who to seats x = ⊎_elim (λ _. to) (λ _. seats x) (cases_process who x)

-- by `moved`, process `who` stands at seat `to`
pub moved-here : (who : Process) (to : ℕ) (seats : Process → ℕ) → moved who to seats who ≡ to
unfolding moved
moved-here who to seats = here (cases_process who who)
  where
    here : (d : (who ≡ who) ⊎ (who ≢ who)) → ⊎_elim (λ _. to) (λ _. seats who) d ≡ to
    here (inl e) = refl
    here (inr other) = absurd (other refl)

-- by `moved`, each other process stands where it stood
pub moved-else : (who : Process) (to : ℕ) (seats : Process → ℕ) (x : Process) → who ≢ x
    → moved who to seats x ≡ seats x
unfolding moved
moved-else who to seats x apart = there (cases_process who x)
  where
    there : (d : (who ≡ x) ⊎ (who ≢ x)) → ⊎_elim (λ _. to) (λ _. seats x) d ≡ seats x
    there (inl e) = absurd (apart e)
    there (inr other) = refl

-- by `moved`, a process that stood at seat `to` before stands there still
pub moved-to : (who : Process) (to : ℕ) (seats : Process → ℕ) (x : Process) → seats x ≡ to
    → moved who to seats x ≡ to
unfolding moved
moved-to who to seats x is = there (cases_process who x)
  where
    there : (d : (who ≡ x) ⊎ (who ≢ x)) → ⊎_elim (λ _. to) (λ _. seats x) d ≡ to
    there (inl e) = refl
    there (inr other) = is

-- ---- what a step leaves for the seats that did not make it
-- a step from seating t to u spares this seat: the hub stays where it is, and who was issued stays so. Who stands here
-- or at the hub keeps seat and part. If this seat is the hub's, nobody is issued, and the roster stays as it is
pub record Spares (t u : Seating) (roster more seat : ℕ) : Type 0 where
  pub hubs : u.hub ≡ t.hub
  pub enrolled : (who : Process) → IsEnrolled t who → IsEnrolled u who
  pub same : seat ≡ t.hub → (more ≡ roster) × (u.lanes ≡ t.lanes) × (u.readers ≡ t.readers)
  pub stand : (who : Process) → IsEnrolled t who → (t.seat_of who ≡ seat) ⊎ (t.seat_of who ≡ t.hub)
      → (u.seat_of who ≡ t.seat_of who) × (part who u.history ≡ part who t.history)

-- a process at whose number the hub's roll has a place was issued
pub roll_enrolled : (size : PoolSize) (t : Seating) (seat : ℕ) (own : PoolSize) (roll : Roll) (who : Process)
    (b : Option History) → IsHub size t seat own roll → roll_at who roll ≡ Some b → IsEnrolled t who
roll_enrolled size t seat own roll (Producer p) b h e =
    let low = slice_get_within roll.lanes p b e in let is = h.lanes in omega arith
roll_enrolled size t seat own roll (Reader r) b h e =
    let low = slice_get_within roll.readers r b e in let is = h.readers in omega arith

-- if a process was issued, the hub's roll has None at its number (not returned), or its part
pub enrolled_out : (size : PoolSize) (t : Seating) (seat : ℕ) (own : PoolSize) (roll : Roll) (who : Process)
    → IsHub size t seat own roll → IsEnrolled t who
    → (roll_at who roll ≡ Some None) ⊎ ((done : History) × (roll_at who roll ≡ Some (Some done)))
enrolled_out size t seat own roll (Producer p) h low = let is = h.lanes in out_or_in roll.lanes p (omega arith)
enrolled_out size t seat own roll (Reader r) h low = let is = h.readers in out_or_in roll.readers r (omega arith)

-- if a step spares a seat, each list of lanes' parts that was true before the step is true after it
knows_still : (t u : Seating) (roster more seat : ℕ) → Spares t u roster more seat → (known : PartList)
    → KnowsTaken t known → KnowsTaken u known
knows_still t u roster more seat s known h p theirs at =
    let x = h p theirs at in
    let k = s.stand (Producer p) x.0 (inr x.1) in
    (s.enrolled (Producer p) x.0, k.0 ∙ x.1 ∙ sym s.hubs, x.2 ∙ sym k.1)

-- if a step spares the hub's seat, the hub's view is still true of the seating
hub_still : (size : PoolSize) (t u : Seating) (roster more seat : ℕ) → Spares t u roster more seat
    → (own : PoolSize) (roll : Roll) → IsHub size t seat own roll → IsHub size u seat own roll
hub_still size t u roster more seat s own roll h =
    let x = s.same h.here in record {
      sized = h.sized;
      here = h.here ∙ sym s.hubs;
      lanes = h.lanes ∙ sym x.1;
      readers = h.readers ∙ sym x.2;
      parts = λ who done e.
          let y = h.parts who done e in
          let z = s.stand who (roll_enrolled size t seat own roll who (Some done) h e) (inl y.0) in
          (z.0 ∙ y.0, y.1 ∙ sym z.1);
    }

-- if a step spares a seat, the part that the seat has is still that of its process
part_still : (t u : Seating) (roster more seat : ℕ) → Spares t u roster more seat → (who : Process) (done : History)
    → HasPart t seat who done → HasPart u seat who done
part_still t u roster more seat s who done h =
    let x = s.stand who h.enrolled (inl h.here) in
    record { here = x.0 ∙ h.here; enrolled = s.enrolled who h.enrolled; part = h.part ∙ sym x.1 }

-- if a step spares a seat, the seat's view is still true of its seat, the new seating and the new roster
pub fits_still : (size : PoolSize) (t u : Seating) (roster more seat : ℕ) → Spares t u roster more seat → (v : View)
    → FitsView size t roster seat v → FitsView size u more seat v
fits_still size t u roster more seat s (Hub own roll) h =
    let x = s.same h.0.here in
    (hub_still size t u roster more seat s own roll h.0, x.0 ∙ h.1 ∙ sym x.1)
fits_still size t u roster more seat s (HubDraws own roll) h =
    let x = s.same h.0.here in
    let is = h.1 in
    let one = x.0 in
    let two = x.1 in
    (hub_still size t u roster more seat s own roll h.0, omega arith)
fits_still size t u roster more seat s (HubJoins own roll who done) h =
    let x = s.same h.0.here in (
      hub_still size t u roster more seat s own roll h.0,
      x.0 ∙ h.1 ∙ sym x.1,
      part_still t u roster more seat s who done h.2,
      h.3,
    )
fits_still size t u roster more seat s (Member own who known done) h = (
  h.0,
  (λ e. h.1 (e ∙ s.hubs)),
  part_still t u roster more seat s who done h.2,
  knows_still t u roster more seat s known h.3,
)
fits_still size t u roster more seat s Empty h = tt

-- a process still stands at its seat after a view is replaced, if the new view has a part of it in case the old had one
pub stands_then : (views : List View) (at : ℕ) (was new : View) (seat : ℕ) (who : Process)
    → get_elem? views at ≡ some was → (HasProcess was who → HasProcess new who)
    → StandsAt views seat who → StandsAt (slice_set views at new) seat who
stands_then views at was new seat who is keeps h = elim (cases_eq seat at) [
  | inl same ↦
      let here : h.0 ≡ was = some-injective h.0 was (sym h.1 ∙ ap (get_elem? views) same ∙ is) in (
        new,
        ap (get_elem? (slice_set views at new)) same ∙ view_here views at new (at_within views at was is),
        keeps (subst (λ v. HasProcess v who) here h.2),
      )
  | inr other ↦ (h.0, set_else views at seat new other ∙ h.1, h.2)
]

-- a process that stands at a seat stands there still after a seat was added
pub stands_longer : (views : List View) (new : View) (seat : ℕ) (who : Process) → StandsAt views seat who
    → StandsAt (views ++ new ∷ []) seat who
stands_longer views new seat who h = (h.0, at_longer views (new ∷ []) seat h.0 h.1, h.2)

-- a producer that was issued has one of the pool's lanes
pub enrolled_fits : (t : Seating) (lanes roster : ℕ) (who : Process) → IsEnrolled t who → t.lanes ≤ roster
    → roster ≤ lanes → ProcessFits lanes who
enrolled_fits t lanes roster (Producer p) low drawn few = omega arith
enrolled_fits t lanes roster (Reader r) low drawn few = tt

-- ---- rolls with a part put in, or with one number more
-- a roll with a part put in has as many lanes as before
pub with_part-lanes : (who : Process) (done : History) (roll : Roll)
    → length (roll_with_part who done roll).lanes ≡ length roll.lanes
with_part-lanes (Producer p) done roll = length-set roll.lanes p (Some done)
with_part-lanes (Reader r) done roll = refl

-- a roll with a part put in has as many readers as before
pub with_part-readers : (who : Process) (done : History) (roll : Roll)
    → length (roll_with_part who done roll).readers ≡ length roll.readers
with_part-readers (Producer p) done roll = refl
with_part-readers (Reader r) done roll = length-set roll.readers r (Some done)

-- each part in a roll with a part put in is that part, or was in the roll before
pub with_part-had : (who : Process) (done : History) (roll : Roll) (x : Process) (d : History)
    → roll_at x (roll_with_part who done roll) ≡ Some (Some d)
    → ((who ≡ x) × (done ≡ d)) ⊎ (roll_at x roll ≡ Some (Some d))
with_part-had (Producer p) done roll (Producer q) d e =
    ⊎_elim (λ t. inl (ap Producer t.0, cc)) (λ t. inr t) (set_had roll.lanes p q (Some done) (Some d) e)
with_part-had (Producer p) done roll (Reader q) d e = inr e
with_part-had (Reader p) done roll (Producer q) d e = inr e
with_part-had (Reader p) done roll (Reader q) d e =
    ⊎_elim (λ t. inl (ap Reader t.0, cc)) (λ t. inr t) (set_had roll.readers p q (Some done) (Some d) e)

-- if the roll has the number of a process, it has there the part that is put in for this process
pub with_part-here : (who : Process) (done : History) (roll : Roll) (b : Option History)
    → roll_at who roll ≡ Some b → roll_at who (roll_with_part who done roll) ≡ Some (Some done)
with_part-here (Producer p) done roll b e = set_here roll.lanes p (Some done) b e
with_part-here (Reader r) done roll b e = set_here roll.readers r (Some done) b e

-- a process that had a part in the roll has one after a part was put in
pub with_part-has : (who : Process) (done : History) (roll : Roll) (x : Process) (d : History)
    → roll_at x roll ≡ Some (Some d)
    → (part : History) × (roll_at x (roll_with_part who done roll) ≡ Some (Some part))
with_part-has (Producer p) done roll (Producer q) d e = set_has roll.lanes p q done d e
with_part-has (Producer p) done roll (Reader r) d e = (d, e)
with_part-has (Reader r) done roll (Producer p) d e = (d, e)
with_part-has (Reader r) done roll (Reader q) d e = set_has roll.readers r q done d e

-- a roll with one lane more has at each number what it had
pub with_lane-has : (roll : Roll) (x : Process) (b : Option History) → roll_at x roll ≡ Some b
    → roll_at x (roll_with_lane roll) ≡ Some b
with_lane-has roll (Producer p) b e = longer_has roll.lanes p b e
with_lane-has roll (Reader r) b e = e

-- a roll with one reader more has at each number what it had
pub with_reader-has : (roll : Roll) (x : Process) (b : Option History) → roll_at x roll ≡ Some b
    → roll_at x (roll_with_reader roll) ≡ Some b
with_reader-has roll (Producer p) b e = e
with_reader-has roll (Reader r) b e = longer_has roll.readers r b e

-- ---- a process stands at one seat
-- a part in the roll of a hub is that of its process, which stands at the hub
roll_part : (size : PoolSize) (t : Seating) (seat : ℕ) (own : PoolSize) (roll : Roll)
    (who : Process) (done : History) → IsHub size t seat own roll → roll_at who roll ≡ Some (Some done)
    → HasPart t seat who done
roll_part size t seat own roll who done h e =
    let x = h.parts who done e in
    let enrolled = roll_enrolled size t seat own roll who (Some done) h e in
    record { here = x.0; enrolled = enrolled; part = x.1 }

-- if a view is true of its seat, each part in it is that of its process, which stands at that seat
pub told_part : (size : PoolSize) (t : Seating) (roster seat : ℕ) (v : View) (who : Process)
    (done : History) → FitsView size t roster seat v → TellsPart v who done
    → HasPart t seat who done
told_part size t roster seat (Hub own roll) who done f e =
    roll_part size t seat own roll who done f.0 e
told_part size t roster seat (HubDraws own roll) who done f e =
    roll_part size t seat own roll who done f.0 e
told_part size t roster seat (HubJoins own roll other theirs) who done f (inl e) =
    subst (λ (z : Process × History). HasPart t seat z.0 z.1) (λ i. (e.0 i, e.1 i)) f.2
told_part size t roster seat (HubJoins own roll other theirs) who done f (inr e) =
    roll_part size t seat own roll who done f.0 e
told_part size t roster seat (Member own other known theirs) who done f e =
    subst (λ (z : Process × History). HasPart t seat z.0 z.1) (λ i. (e.0 i, e.1 i)) f.2
told_part size t roster seat Empty who done f e = absurd e

-- if the view of a seat has a part of a process, the seating has the process at that seat
pub stands_there : (size : PoolSize) (words : List ℕ) (views : List View) (t : Seating) (seat : ℕ) (who : Process)
    → IsTableState size words views t → StandsAt views seat who → t.seat_of who ≡ seat
stands_there size words views t seat who r h =
    (told_part size t _ seat h.0 who h.2.0 (r.fits seat h.0 h.1) h.2.1).here
