-- The table at its start, and the hub's step that draws the number of a lane.
use Rattle.std.proofs.Common.{List, [], arith, get_or-set_other, get_or-set_same, length, length-set, refl, replicate, slice_index, slice_set, subst, suc, sym, zero, ℕ}
use Rattle.std.proofs.Common.{◌%◌, ◌+◌, ◌<◌, ◌^◌, ◌∙◌, ◌∷◌, ◌≡◌, ◌≤◌}
use Rattle.std.specs.Prelude.{Some}
use Rattle.std.proofs.lemmas.List.{length-replicate}
use mathlib.Core.Option.{some, some-injective, some-ne-none}
use lib.ListN.{get_elem?}
use Rattle.atomic_table.specs.Table.{Allows, keeps}
use Rattle.mb_cells.specs.Vocabulary.{History, IsPoolWord, IsStateOf, address_of, part, pool_words}
use Rattle.mb_shared_cells.specs.Types.{END, Hub, HubDraws, PoolSize, Process, Producer, Reader, Roll, View, Word}
use Rattle.mb_shared_cells.specs.Vocabulary.{FitsView, IsCellsState, IsEnrolled, IsHub, IsTableState, IsViewAt, KeepsCells, Seating, StandsAt, roster_of, SeatState}
use Rattle.mb_shared_cells.specs.Vocabulary.{empty_roll, hub_after_draw, roll_at}
use Rattle.mb_shared_cells.proofs.Seatings.{fits_still, stands_then}
use Rattle.mb_shared_cells.proofs.ViewLists.{all_set}

-- a law of `mb_cells`: words after those of the pool may hold anything
abbrev pub MoreLaw : Type 0
MoreLaw =
    (size : PoolSize) (words more : List ℕ) (parts : Process → History) (h : History)
    → IsStateOf size words parts h
    → ((i : ℕ) → i < pool_words size → slice_index more i ≡ slice_index words i)
    → pool_words size ≤ length more → IsStateOf size more parts h

-- a law of `mb_cells`: a block of words that all hold 0 is what the empty history leaves
abbrev pub EmptyLaw : Type 0
EmptyLaw =
    (size : PoolSize) (words : List ℕ) → size.cells < END → pool_words size ≤ length words
    → ((w : Word) → IsPoolWord size w → slice_index words (address_of size w) ≡ 0)
    → IsStateOf size words (λ who. []) []

-- each element of a list of zeros is 0
pub zeros : (n i : ℕ) → slice_index (replicate n 0) i ≡ 0
zeros zero i = refl
zeros (suc n) zero = refl
zeros (suc n) (suc i) = zeros n i

-- the words and the view of a new table keep the rule
pub begins : EmptyLaw → (size : PoolSize) → size.cells < END
    → IsCellsState size (replicate (roster_of size + 1) 0) (Hub size empty_roll ∷ [])
begins law size fits =
    let count : ℕ = roster_of size + 1 in
    let words : List ℕ = replicate count 0 in
    let t : Seating = record { history = []; lanes = 0; readers = 0; hub = 0; seat_of = λ _. 0 } in
    let wide : length words ≡ roster_of size + 1 = length-replicate count 0 in
    let roster : slice_index words (roster_of size) ≡ 0 = zeros count (roster_of size) in
    let hub : IsHub size t 0 size empty_roll = record {
      sized = refl;
      here = refl;
      lanes = refl;
      readers = refl;
      parts = nothing_taken t;
    } in (
      t,
      record {
        memory = (law size words fits (omega (arith, wide)) (λ w within. zeros count (address_of size w))).memory;
        wide = wide;
        few = subst (λ (z : ℕ). z ≤ size.lanes) (sym roster) (omega arith);
        drawn = omega arith;
        nobody_else = λ x none. refl;
        stands = nobody_yet t refl refl (Hub size empty_roll ∷ []);
        fits = one (λ j v. FitsView size t (slice_index words (roster_of size)) j v)
            (Hub size empty_roll) (hub, roster);
      },
    )
  where
    nobody_yet : (t : Seating) → t.lanes ≡ 0 → t.readers ≡ 0 → (views : List View) (x : Process) → IsEnrolled t x
        → StandsAt views (t.seat_of x) x
    nobody_yet t l r views (Producer p) e = absurd (omega arith)
    nobody_yet t l r views (Reader p) e = absurd (omega arith)

    one : (P : ℕ → View → Type 0) (v : View) → P 0 v → (j : ℕ) (u : View) → get_elem? (v ∷ []) j ≡ some u → P j u
    one P v p zero u e = subst (P 0) (some-injective v u e) p
    one P v p (suc j) u e = absurd (some-ne-none u (sym e))

    nothing_taken : (t : Seating) (x : Process) (done : History) → roll_at x empty_roll ≡ Some (Some done)
        → (t.seat_of x ≡ 0) × (done ≡ part x t.history)
    nothing_taken t (Producer p) done e = absurd (cc)
    nothing_taken t (Reader r) done e = absurd (cc)

-- after the hub has drawn a number, the table agrees with the same seating, and the roster counts one more
pub after_draw : MoreLaw → (size : PoolSize) (words : List ℕ) (views : List View) (t : Seating)
    (id more : ℕ) (own : PoolSize) (roll : Roll) → IsTableState size words views t
    → IsViewAt views id (Hub own roll) → length roll.lanes < size.lanes
    → more ≡ slice_index words (roster_of size) + 1
    → IsTableState size (slice_set words (roster_of size) more)
    (slice_set views id (HubDraws own roll)) t
after_draw law size words views t id more own roll r at room is_more =
    let i = roster_of size in
    let roster = slice_index words i in
    let longer = slice_set words i more in
    let mine = r.fits id (Hub own roll) at in
    let wide = r.wide in
    let count = mine.0.lanes in
    let enrolled = mine.1 in
    let more_is : slice_index longer i ≡ more = get_or-set_same words i more 0 (omega arith) in
    let as_wide : length longer ≡ length words = length-set words i more in
    let now = HubDraws own roll in record {
      memory = (law size words longer (λ x. part x t.history) t.history
          (record { memory = r.memory; same = λ x. refl })
          (λ j low. get_or-set_other words i j more 0 (λ e. omega arith)) (omega arith)).memory;
      wide = as_wide ∙ wide;
      few = subst (λ (z : ℕ). z ≤ size.lanes) (sym more_is) (omega arith);
      drawn = subst (λ (z : ℕ). t.lanes ≤ z) (sym more_is) (omega arith);
      nobody_else = r.nobody_else;
      stands = λ x e.
          stands_then views id (Hub own roll) now (t.seat_of x) x at (λ y. y) (r.stands x e);
      fits = subst
          (λ (z : ℕ).
          (j : ℕ) (v : View) → IsViewAt (slice_set views id now) j v → FitsView size t z j v)
          (sym more_is)
          (all_set (λ j v. FitsView size t more j v) views id now
          (λ j v apart e. fits_still size t t roster more j
          (record {
            hubs = refl;
            enrolled = λ x y. y;
            same = λ is_hub. absurd (apart (is_hub ∙ sym mine.0.here));
            stand = λ x _ _. (refl, refl);
          }) v (r.fits j v e))
          (mine.0, omega arith));
    }

-- the hub may draw the next lane's number from the roster
draw_allows : MoreLaw → (size : PoolSize) (slots id : ℕ) (own : PoolSize) (roll : Roll)
    → length roll.lanes < size.lanes → size.lanes < 2 ^ 32
    → Allows (KeepsCells size) slots id (Hub own roll, []) (roster_of size) (λ n. (n + 1) % 2 ^ 64)
    (λ n w. w ≡ (HubDraws own roll, []))
draw_allows law size slots id own roll room small s h _ at _ =
    let roster = slice_index s.words (roster_of size) in
    let few = h.1.few in
    let is_more : (roster + 1) % 2 ^ 64 ≡ roster + 1 = omega arith in (
      HubDraws own roll,
      keeps,
      tt,
      (h.0, after_draw law size s.words s.views h.0 id _ own roll h.1 at room is_more),
      refl,
    )

-- `draw_allows` for a table, a seat and an address that are known only by equations
pub draw_asked : MoreLaw → (key size : PoolSize) (slots id i : ℕ) (me : SeatState) (own : PoolSize) (roll : Roll)
    → key ≡ size → me ≡ (Hub own roll, []) → i ≡ roster_of size → length roll.lanes < size.lanes
    → size.lanes < 2 ^ 32
    → Allows (KeepsCells key) slots id me i (λ n. (n + 1) % 2 ^ 64) (λ n w. w ≡ (hub_after_draw me.0, me.1))
draw_asked law key size slots id i me own roll same is there room small =
    subst
    (λ (z : PoolSize × SeatState × ℕ).
    Allows (KeepsCells z.0) slots id z.1 z.2 (λ n. (n + 1) % 2 ^ 64) (λ n w. w ≡ (hub_after_draw z.1.0, z.1.1)))
    (λ i. (sym same i, sym is i, sym there i))
    (draw_allows law size slots id own roll room small)
