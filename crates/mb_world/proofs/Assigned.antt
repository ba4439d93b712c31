-- The assignment with which a report agrees if its notes are right.
use Rattle.std.proofs.Common.{◌≡◌, ◌≢◌, ◌⊎◌, ℕ, ◌<◌, ◌≤◌, Bool, true, false, not, length, Option, Some, None, refl, sym, ◌∙◌, ap, inl, inr}
use Rattle.std.specs.Prelude.{slice_get, nat_eq}
use Rattle.std.specs.Option.{is_none}
use Rattle.std.proofs.lemmas.Bool.{eqb-true, eq-eqb, false_from_ne_true}
use Rattle.std.proofs.lemmas.Option.{slice_get_within}
use Rattle.mb_world.specs.declared.report.Note.{Note}
use Rattle.mb_world.specs.declared.report.Note.TheVariants.{Took, Lost, Undecided}
use Rattle.mb_world.specs.Theorem.{Assignment, HasCompeted, HasLostTo, HasTaken, IsLossTo, ReportView, is_begun, is_consumer, items_left, items_put, items_where, note, notes}
use Rattle.mb_world.specs.Agreement.{AgreesWith}
use Rattle.mb_world.specs.Reporting.{is_taken, is_took}
use Rattle.mb_world.proofs.Lists.{items_where-same, is_took-at, taken-items_where, last_below, last_below-at, last_below-some, last_below-none}

-- the winner that a note of consumer c names: c, if c took the item, the consumer to which c lost it, or none
abbrev pub winner_named : ℕ → Note → Option ℕ
winner_named c (Took x) = Some c
winner_named c (Lost w) = Some w
winner_named c Undecided = None

-- what must hold of the notes of a report of n consumers so that an assignment agrees with it
pub record AreNotesRight (n : ℕ) (r : ReportView) : Type 0 where
  -- a note that an item was taken has the item that was put at its position
  pub value : (c p j x : ℕ) → note c p j r ≡ Some (Took x) → slice_get (items_put p r) j ≡ Some x
  -- there are no more notes than items, and a begun claim is on an item
  pub within : (c p : ℕ) → length (notes c p r) ≤ length (items_put p r)
  pub begun_within : (c p : ℕ) → is_begun c p r ≡ true → length (notes c p r) < length (items_put p r)
  -- if two notes on one item both name a winner, they name the same one
  pub one : (c d p j : ℕ) (a b : Note) (v w : ℕ) → note c p j r ≡ Some a → note d p j r ≡ Some b
      → winner_named c a ≡ Some v → winner_named d b ≡ Some w → v ≡ w
  -- a loss names another consumer, which competed
  pub lost : (c w p j : ℕ) → note c p j r ≡ Some (Lost w) → (w ≢ c) × HasCompeted w p j r
  -- the items left are those that no note says were taken
  pub left : (p : ℕ) → items_left p r ≡ items_where (λ j. not (is_taken n p j r)) (items_put p r)
  -- only the first n consumers have notes
  pub below : (c p j : ℕ) (a : Note) → note c p j r ≡ Some a → c < n

module _ (n : ℕ) (r : ReportView) (right : AreNotesRight n r) where
  -- each item goes to the consumer that took it
  abbrev pub taker : Assignment
  taker p j = last_below n (λ c. is_took (note c p j r))

  -- if consumer c has taken an item, the item goes to c
  given_to : (c p j : ℕ) → HasTaken c p j r → taker p j ≡ Some c
  given_to c p j taken = found.1 ∙ ap Some same
    where
      -- the item goes to some consumer, as c has taken it
      found : (d : ℕ) × (taker p j ≡ Some d)
      found =
          last_below-some n (λ d. is_took (note d p j r)) c (right.below c p j (Took taken.0) taken.1) (rw taken.1 refl)

      -- that consumer has taken the item
      theirs : HasTaken found.0 p j r
      theirs =
          is_took-at (note found.0 p j r) (last_below-at n (λ d. is_took (note d p j r)) found.0 found.1).1

      -- two consumers that took one item are the same
      same : found.0 ≡ c
      same = right.one found.0 c p j (Took theirs.0) (Took taken.0) found.0 c theirs.1 taken.1 refl refl

  -- if an item goes to consumer c, then c has taken it
  has_taken : (c p j : ℕ) → taker p j ≡ Some c → HasTaken c p j r
  has_taken c p j e = is_took-at (note c p j r) (last_below-at n (λ d. is_took (note d p j r)) c e).1

  -- an item passes the test for the share of consumer c exactly if c has taken it
  share_test : (c p j : ℕ) → is_consumer c (taker p j) ≡ is_took (note c p j r)
  share_test c p j = at_taker (taker p j) refl (is_took (note c p j r)) refl
    where
      -- whatever the assignment has for the item, the test for the share of c agrees with c's note on the item
      at_taker : (o : Option ℕ) → taker p j ≡ o → (b : Bool) → is_took (note c p j r) ≡ b → is_consumer c o ≡ b
      at_taker None o true b = absurd (let q = given_to c p j (is_took-at (note c p j r) b) in cc)
      at_taker None o false b = refl
      at_taker (Some d) o true b =
          let q = given_to c p j (is_took-at (note c p j r) b) in
          let same : d ≡ c = cc in
          eq-eqb d c same
      at_taker (Some d) o false b = false_from_ne_true (nat_eq d c) (λ t. other (eqb-true d c t))
        where
          -- the item goes to consumer d, and c has not taken it, so d is not c
          other : d ≡ c → ⊥
          other same =
              let q = has_taken c p j (o ∙ ap Some same) in
              let t : is_took (note c p j r) ≡ true = rw q.1 refl in
              cc

  -- `IsLossTo` holds of each loss
  loss : (c w p j : ℕ) → HasLostTo c w p j r → IsLossTo taker c w p j r
  loss c w p j lost = record {
    another = (right.lost c w p j lost).0;
    competed = (right.lost c w p j lost).1;
    only = λ d v other. right.one d c p j (Lost v) (Lost w) v w other lost refl refl;
    assigned = whose (taker p j) refl;
  }
    where
      -- the item goes to the winner w, or to nobody
      whose : (o : Option ℕ) → taker p j ≡ o → (o ≡ Some w) ⊎ (o ≡ None)
      whose None o = inr refl
      whose (Some d) o =
          let taken = has_taken d p j o in
          inl (ap Some (right.one d c p j (Took taken.0) (Lost w) d w taken.1 lost refl refl))

  -- the report agrees with the assignment `taker`
  pub agrees : AgreesWith taker r
  agrees = record {
    given = record {
      taken = λ c p j. (given_to c p j, has_taken c p j);
      ledgers = λ c p.
          taken-items_where (notes c p r) (items_put p r) (λ j. is_consumer c (taker p j)) (right.within c p)
          (share_test c p) (right.value c p);
      competitors = λ c p j e.
          let taken = has_taken c p j e in (
            slice_get_within (items_put p r) j taken.0 (right.value c p j taken.0 taken.1),
            inl (slice_get_within (notes c p r) j (Took taken.0) taken.1),
          );
      losses = loss;
      within = right.within;
      begun_within = right.begun_within;
    };
    left = λ p.
        right.left p
        ∙ items_where-same (λ j. not (is_taken n p j r)) (λ j. is_none (taker p j)) (items_put p r)
        (λ j. sym (last_below-none n (λ c. is_took (note c p j r))));
  }
