-- Once the list is closed, some end remembers it. Once no sender is left, some end remembers that.
use Rattle.std.specs.Prelude.{ℕ, ◌≡◌, List, true}
use mathlib.Core.Option.{some}
use lib.ListN.{get_elem?}
use Rattle.mb_channel.specs.Types.{Knows}

abbrev pub SomeView : {T : Type 0} → (Knows T → Type 0) → List (Knows T) → Type 0
SomeView {T} P views = (id : ℕ) × (v : Knows T) × (get_elem? views id ≡ some v) × P v

-- the mark is 0 once the list is closed
pub record Remembers {T : Type 0} (mark senders : ℕ) (views : List (Knows T)) : Type 0 where
  pub closer : mark ≡ 0 → SomeView (λ v. v.shut ≡ true) views
  pub loner : senders ≡ 0 → SomeView (λ v. v.alone ≡ true) views
