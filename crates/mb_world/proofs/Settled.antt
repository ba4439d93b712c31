-- A report that agrees with an assignment is settled, and agrees with no other assignment.
use Rattle.std.proofs.Common.{◌≡◌, ℕ, Option, Some, None, refl, sym, ◌∙◌, inl, inr}
use Rattle.mb_world.specs.declared.report.Note.{Note}
use Rattle.mb_world.specs.declared.report.Note.TheVariants.{Took, Lost, Undecided}
use Rattle.mb_world.specs.Theorem.{Assignment, HasCompeted, HasTaken, HasTakenOrLost, IsLossTo, IsSettled, ReportView, note}
use Rattle.mb_world.specs.Agreement.{AgreesWith}

-- some competitor neither took nor lost the item
abbrev IsContested : ℕ → ℕ → ReportView → Type 0
IsContested p j r = (d : ℕ) × HasCompeted d p j r × (HasTakenOrLost d p j r → ⊥)

-- a consumer without a note on an item neither took nor lost it
neither_without_note : (c p j : ℕ) (r : ReportView) → note c p j r ≡ None → HasTakenOrLost c p j r → ⊥
neither_without_note c p j r e (inl h) = let k = h.1 in cc
neither_without_note c p j r e (inr h) = let k = h.1 in cc

-- a consumer whose note on an item is undecided neither took nor lost it
neither_if_undecided : (c p j : ℕ) (r : ReportView) → note c p j r ≡ Some Undecided → HasTakenOrLost c p j r → ⊥
neither_if_undecided c p j r e (inl h) = let k = h.1 in cc
neither_if_undecided c p j r e (inr h) = let k = h.1 in cc

module _ (t : Assignment) (r : ReportView) (a : AgreesWith t r) where
  -- if nobody has taken the item, the winner that a loss names neither took nor lost the item
  winner_did_neither : (c w p j : ℕ) → IsLossTo t c w p j r → ((d : ℕ) → HasTaken d p j r → ⊥)
      → HasTakenOrLost w p j r → ⊥
  winner_did_neither c w p j l none (inl h) = none w h
  winner_did_neither c w p j l none (inr h) = (a.given.losses w h.0 p j h.1).another (l.only w h.0 h.1)

  -- an item that was competed for and not taken is contested, whatever the competitor's note
  at_note : (c p j : ℕ) → HasCompeted c p j r → ((d : ℕ) → HasTaken d p j r → ⊥) → (n : Option Note)
      → note c p j r ≡ n → IsContested p j r
  at_note c p j competed none None e = (c, competed, neither_without_note c p j r e)
  at_note c p j competed none (Some (Took x)) e = absurd (none c (x, e))
  at_note c p j competed none (Some (Lost w)) e =
      let loss = a.given.losses c w p j e in (w, loss.competed, winner_did_neither c w p j loss none)
  at_note c p j competed none (Some Undecided) e = (c, competed, neither_if_undecided c p j r e)

  -- the report is settled: point 5 of the main theorem holds of it
  pub settled : IsSettled r
  settled c p j inside competed none = at_note c p j competed none (note c p j r) refl

  -- an item that the assignment t gives to c goes to c by each assignment with which the report agrees
  given_alike : (u : Assignment) → AgreesWith u r → (p j c : ℕ) → t p j ≡ Some c → u p j ≡ Some c
  given_alike u b p j c e = (b.given.taken c p j).0 ((a.given.taken c p j).1 e)

-- two assignments with which a report agrees are equal
pub unique : (t u : Assignment) (r : ReportView) → AgreesWith t r → AgreesWith u r → (p j : ℕ) → t p j ≡ u p j
unique t u r a b p j = by (t p j) (u p j) refl refl
  where
    by : (x y : Option ℕ) → t p j ≡ x → u p j ≡ y → t p j ≡ u p j
    by None None e f = e ∙ sym f
    by (Some c) y e f = e ∙ sym (given_alike t r a u b p j c e)
    by None (Some c) e f = let g = given_alike u r b t a p j c f in cc
