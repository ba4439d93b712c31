-- An access of a lane's or a reader's seat keeps the rule of the table.
use Rattle.std.proofs.Common.{List, [], ap, arith, get_or-set_other, length-set, refl, slice_index, slice_set, subst, sym, ℕ, ⊎_elim, ◌<◌, ◌^◌, ◌∙◌, ◌∷◌, ◌≡◌, ◌≢◌, ◌≤◌}
use Rattle.std.specs.Prelude.{unwrap_or}
use mathlib.Core.Option.{some}
use lib.ListN.{get_elem?}
use Rattle.atomic_table.specs.Table.{Allows, keeps}
use Rattle.mb_cells.specs.Vocabulary.{History, IsMemoryOf, IsPoolLawful, IsPoolWord, IsStateOf, ProcessFits, address_of, block_after, part, parts_after, stored_by, value_in, pool_words}
use Rattle.mb_cells.specs.declared.access.PoolAccess.{PoolAccess}
use Rattle.mb_cells.specs.declared.access.PoolAct.{PoolAct}
use Rattle.mb_cells.specs.declared.access.Process.{Process}
use Rattle.mb_cells.specs.declared.access.Process.TheVariants.{Producer}
use Rattle.mb_cells.specs.declared.access.Word.{Word}
use Rattle.mb_cells.specs.declared.size.PoolSize.{PoolSize}
use Rattle.mb_shared_cells.specs.Rule.{FitsView, HasPart, IsCellsState, IsEnrolled, KeepsCells, KnowsTaken, Seating, roster_of}
use Rattle.mb_shared_cells.specs.Views.{MakesAccess, PartList, SeatState, access_by}
use Rattle.mb_shared_cells.specs.declared.views.View.{View}
use Rattle.mb_shared_cells.specs.declared.views.View.TheVariants.{Member}
use Rattle.mb_shared_cells.proofs.Seatings.{Spares, enrolled_fits, fits_still, stands_then}
use Rattle.mb_shared_cells.proofs.ViewLists.{all_set}

-- the laws of `mb_cells` about one access more in a history
pub record AccessLaws : Type 0 where
  pub own : (h : History) (a : PoolAccess) → part a.process (a ∷ h) ≡ a ∷ part a.process h
  pub others : (h : History) (a : PoolAccess) (who : Process) → a.process ≢ who → part who (a ∷ h) ≡ part who h
  pub step : (size : PoolSize) (words : List ℕ) (parts : Process → History) (h : History) (a : PoolAccess)
      → IsStateOf size words parts h → IsPoolLawful size (a ∷ h)
      → IsStateOf size (block_after size a words) (parts_after a parts) (a ∷ h)
  pub within : (size : PoolSize) (w : Word) → IsPoolWord size w → address_of size w < pool_words size

-- the access `act n` may follow each lawful history that has this part of the process and leaves n in the word, if n is
-- below 2^64. The word then holds `f n`
abbrev pub GoesOn : PoolSize → Process → History → Word → (ℕ → PoolAct) → (ℕ → ℕ) → Type 0
GoesOn size who done word act f =
    (h : History) (n : ℕ) → IsPoolLawful size h → part who h ≡ done → ProcessFits size.lanes who
    → n ≡ value_in word h → n < 2 ^ 64
    → IsPoolLawful size (access_by who word (act n) ∷ h) × (f n ≡ unwrap_or (stored_by (act n)) n)

-- words and views still keep the rule after an access of a lane's or reader's seat, if the history with it is lawful
pub kept_by_access : AccessLaws → (size : PoolSize) (words : List ℕ) (views : List View) (id : ℕ) (own : PoolSize)
    (who : Process) (known : PartList) (done : History) (word : Word) (act : PoolAct) (n : ℕ)
    (h : IsCellsState size words views) → get_elem? views id ≡ some (Member own who known done)
    → IsPoolWord size word → n ≡ unwrap_or (stored_by act) (slice_index words (address_of size word))
    → IsPoolLawful size (access_by who word act ∷ h.0.history)
    → IsCellsState size (slice_set words (address_of size word) n)
    (slice_set views id (Member own who known (access_by who word act ∷ done)))
kept_by_access laws size words views id own who known done word act n h at within new lawful =
    let t = h.0 in
    let r = h.1 in
    let a = access_by who word act in
    let i = address_of size word in
    let roster = slice_index words (roster_of size) in
    let now = Member own who known (a ∷ done) in
    let mine = r.fits id (Member own who known done) at in
    let u : Seating = record {
      history = a ∷ t.history;
      lanes = t.lanes;
      readers = t.readers;
      hub = t.hub;
      seat_of = t.seat_of;
    } in
    let low = laws.within size word within in
    let same_roster : slice_index (slice_set words i n) (roster_of size) ≡ roster =
    get_or-set_other words i (roster_of size) n 0 (λ e. omega arith) in
    let far : (x : Process) → (t.seat_of x ≡ id → ⊥) → part x (a ∷ t.history) ≡ part x t.history =
    λ x away. laws.others t.history a x (λ e. away (ap t.seat_of (sym e) ∙ mine.2.here)) in
    let spares : (j : ℕ) → j ≢ id → Spares t u roster roster j = λ j apart. record {
      hubs = refl;
      enrolled = λ x e. e;
      same = λ _. (refl, refl, refl);
      stand = λ x _ where_it. (
        refl,
        far x (λ here. ⊎_elim
            (λ (e : t.seat_of x ≡ j). apart (sym e ∙ here))
            (λ (e : t.seat_of x ≡ t.hub). mine.1 (sym here ∙ e)) where_it),
      );
    } in
    let own_part : HasPart u id who (a ∷ done) = record {
      here = mine.2.here;
      enrolled = mine.2.enrolled;
      part = ap (λ l. a ∷ l) mine.2.part ∙ sym (laws.own t.history a);
    } in
    let own_known : KnowsTaken u known = λ p theirs e.
    let x = mine.3 p theirs e in
    (x.0, x.1, x.2 ∙ sym (far (Producer p) (λ here. mine.1 (sym here ∙ x.1)))) in (
      u,
      record {
        memory = subst (λ (v : ℕ). IsMemoryOf size (slice_set words i v) (a ∷ t.history)) (sym new)
            (laws.step size words (λ x. part x t.history) t.history a
            (record { memory = r.memory; same = λ x. refl }) lawful).memory;
        wide = length-set words i n ∙ r.wide;
        few = subst (λ (z : ℕ). z ≤ size.lanes) (sym same_roster) r.few;
        drawn = subst (λ (z : ℕ). t.lanes ≤ z) (sym same_roster) r.drawn;
        nobody_else = λ x none.
            laws.others t.history a x (λ e. none (subst (IsEnrolled t) e mine.2.enrolled)) ∙ r.nobody_else x none;
        stands = λ x e. stands_then views id (Member own who known done) now (t.seat_of x) x at
            (λ y. (a ∷ done, (y.1.0, refl))) (r.stands x e);
        fits = subst
            (λ (z : ℕ). (j : ℕ) (v : View) → get_elem? (slice_set views id now) j ≡ some v → FitsView size u z j v)
            (sym same_roster)
            (all_set (λ j v. FitsView size u roster j v) views id now
            (λ j v apart e. fits_still size t u roster roster j (spares j apart) v (r.fits j v e))
            (mine.0, mine.1, own_part, own_known));
      },
    )

-- if `GoesOn` holds of an access, the seat may make it as a step of the table
pub access_allows : AccessLaws → (size : PoolSize) (slots id : ℕ) (who : Process) (known : PartList) (done : History)
    (word : Word) (act : ℕ → PoolAct) (f : ℕ → ℕ) → IsPoolWord size word → GoesOn size who done word act f
    → Allows (KeepsCells size) slots id (Member size who known done, []) (address_of size word) f
    (λ n w. MakesAccess word (act n) (Member size who known done, []) w)
access_allows laws size slots id who known done word act f within goes s h _ at low =
    let n = slice_index s.words (address_of size word) in
    let t = h.0 in
    let r = h.1 in
    let mine = r.fits id (Member size who known done) at in
    let to = goes t.history n r.memory.lawful (sym mine.2.part)
    (enrolled_fits t size.lanes (slice_index s.words (roster_of size)) who mine.2.enrolled r.drawn r.few)
    (r.memory.left word within) low in (
      Member size who known (access_by who word (act n) ∷ done),
      keeps,
      tt,
      kept_by_access laws size s.words s.views id size who known done word (act n) (f n) h at within to.1 to.0,
      (
        record {
          older = t.history;
          lawful = to.0;
          own = sym mine.2.part;
          lanes = λ p theirs e. sym (mine.3 p theirs e).2;
        },
        refl,
      ),
    )

-- `access_allows` for a table, a seat and an access that are known only by equations
pub access_asked : AccessLaws → (key size : PoolSize) (slots id i : ℕ) (me : SeatState) (who : Process)
    (known : PartList) (done : History) (word : Word) (act : ℕ → PoolAct) (f : ℕ → ℕ) (picked : Word)
    (picks : ℕ → PoolAct) → key ≡ size → me ≡ (Member size who known done, []) → i ≡ address_of size word
    → picked ≡ word → picks ≡ act → IsPoolWord size word → GoesOn size who done word act f
    → Allows (KeepsCells key) slots id me i f (λ n w. MakesAccess picked (picks n) me w)
access_asked laws key size slots id i me who known done word act f picked picks same is there of acts within goes =
    subst
    (λ (z : PoolSize × SeatState × ℕ × Word × (ℕ → PoolAct)).
    Allows (KeepsCells z.0) slots id z.1 z.2 f (λ n w. MakesAccess z.3 (z.4 n) z.1 w))
    (λ i. (sym same i, sym is i, sym there i, sym of i, sym acts i))
    (access_allows laws size slots id who known done word act f within goes)

-- `access_asked` for a store: its act depends on the value stored, not on the value found
pub store_asked : AccessLaws → (key size : PoolSize) (slots id i value : ℕ) (me : SeatState) (who : Process)
    (known : PartList) (done : History) (word : Word) (act : ℕ → PoolAct) (picked : Word)
    (picks : ℕ → PoolAct) → key ≡ size → me ≡ (Member size who known done, []) → i ≡ address_of size word
    → picked ≡ word → picks ≡ act → IsPoolWord size word → GoesOn size who done word (λ _. act value) (λ _. value)
    → Allows (KeepsCells key) slots id me i (λ _. value) (λ _ w. MakesAccess picked (picks value) me w)
store_asked laws key size slots id i value me who known done word act picked picks same is there of acts within goes =
    subst
    (λ (z : PoolSize × SeatState × ℕ × Word × (ℕ → PoolAct)).
    Allows (KeepsCells z.0) slots id z.1 z.2 (λ _. value) (λ _ w. MakesAccess z.3 (z.4 value) z.1 w))
    (λ i. (sym same i, sym is i, sym there i, sym of i, sym acts i))
    (access_allows laws size slots id who known done word (λ _. act value) (λ _. value) within goes)
