-- How the lists of items are moved into the outline of a report, each to its lane. Diaries with other notes, or none.
use Rattle.std.specs.Prelude.{ℕ, zero, suc, ◌≡◌, List, [], ◌∷◌, Option, Some, None, length, slice_get}
use Rattle.mb_world.specs.Theorem.{DiaryView, LaneView}
use Rattle.mb_mailbox.specs.Imports.{Note}
use Rattle.mb_mailbox.specs.Hubs.{PutListView}

-- the list with the element at place n changed by f, if there is such an element
abbrev pub changed_at : {X : Type 0} → List X → ℕ → (X → X) → List X
changed_at [] n f = []
changed_at (x ∷ xs) zero f = f x ∷ xs
changed_at (x ∷ xs) (suc n) f = x ∷ changed_at xs n f

-- the list `xs` after each element of `ys` has changed one of its elements: the first that at place n, the next that at
-- place n + 1, and so on. All other elements are as before
abbrev pub changed_from : {X Y : Type 0} → (Y → X → X) → ℕ → List Y → List X → List X
changed_from change n [] xs = xs
changed_from change n (y ∷ ys) xs = changed_at (changed_from change (suc n) ys xs) n (change y)

-- the lane with the items of its producer, if the producer was returned
abbrev pub with_items : Option PutListView → LaneView → LaneView
with_items None l = l
with_items (Some k) l = record l { put = k.items }

-- the diary with these notes
abbrev pub with_notes : List Note → DiaryView → DiaryView
with_notes notes d = record d { notes = notes }

-- there are this many diaries, and none has a note
pub record AreEmptyDiaries (lanes : ℕ) (row : List DiaryView) : Type 0 where
  pub count : length row ≡ lanes
  pub empty : (p : ℕ) (d : DiaryView) → slice_get row p ≡ Some d → d.notes ≡ []
