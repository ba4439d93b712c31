-- A pass that drew a position and has not marked it, or claimed one and has not read it.
use Rattle.std.specs.Prelude.{ℕ, ◌≡◌, ◌∷◌, [], None, Option, Some}
use Rattle.mb_segment.specs.Vocabulary.{bare, calm, held_by, view_in, with_duty}
use Rattle.mb_segment.specs.declared.view.Half.{Half}
use Rattle.mb_segment.specs.declared.view.Half.TheVariants.{Nothing, Reads, Writes}
use Rattle.mb_channel.specs.Types.{Pass}
use Rattle.mb_channel.specs.declared.busy.Debt.{Debt}
use Rattle.mb_channel.specs.Owing.{duty_of}

abbrev pub half_in : {T : Type 0} → Pass T → Half T
half_in p = (view_in p).half

-- the position
abbrev pub half_at : {T : Type 0} → Half T → Option ℕ
half_at Nothing = None
half_at (Writes s) = Some s.at
half_at (Reads s) = Some s.at

-- what is in the slot that the pass holds: nothing yet, or what it has to read
abbrev pub slot_of : {T : Type 0} → Half T → Option T
slot_of Nothing = None
slot_of (Writes s) = None
slot_of (Reads s) = Some s.value

-- besides what it has begun with position n, the pass owes so much and no more
abbrev pub HasBegun : {T : Type 0} → ℕ → Debt → Pass T → Type 0
HasBegun n d p = (half_at (half_in p) ≡ Some n) × (held_by p ≡ (n, slot_of (half_in p)) ∷ [])
    × (bare (view_in p) ≡ record (with_duty (λ _. duty_of d) (calm (view_in p))) { half = half_in p })
