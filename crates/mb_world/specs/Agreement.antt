-- When a report agrees with an assignment, and what it says of items that nobody took if cells have last objects.
use Rattle.std.specs.Prelude.{ℕ, ◌≡◌, ◌<◌, true, length}
use Rattle.mb_world.specs.Theorem.{AreGiven, AreLeft, Assignment, HasCompeted, HasTaken, ReportView, is_begun, items_put, notes}

-- points 1 to 3 of the main theorem hold of the report with this assignment
pub record AgreesWith (t : Assignment) (r : ReportView) : Type 0 where
  pub given : AreGiven t r
  pub left : AreLeft t r

-- if an item was competed for and nobody took it, some diary of its lane has notes on just the items before it, and
-- says that a claim on it is begun
abbrev pub IsLeftBesideBegun : ReportView → Type 0
IsLeftBesideBegun r =
    (c p j : ℕ) → j < length (items_put p r) → HasCompeted c p j r
    → ((d : ℕ) → HasTaken d p j r → ⊥)
    → (d : ℕ) × (length (notes d p r) ≡ j) × (is_begun d p r ≡ true)

-- on each lane on which no claim is begun, each item that was competed for is taken
abbrev pub AreAllTaken : ReportView → Type 0
AreAllTaken r =
    (p : ℕ) → ((d : ℕ) → is_begun d p r ≡ true → ⊥) → (c j : ℕ) → j < length (items_put p r)
    → HasCompeted c p j r → (d : ℕ) × HasTaken d p j r
