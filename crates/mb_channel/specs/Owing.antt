-- What an end owes in its segment, as the table of the segment knows it.
use Rattle.std.specs.Prelude.{◌≡◌, []}
use Rattle.mb_segment.specs.Vocabulary.{bare, calm, held_by, no_duty, owes_all, owes_wake, view_in, with_duty}
use Rattle.mb_segment.specs.declared.view.Duty.{Duty}
use Rattle.mb_channel.specs.Types.{Pass}
use Rattle.mb_channel.specs.declared.busy.Debt.{Debt}
use Rattle.mb_channel.specs.declared.busy.Debt.TheVariants as debt

-- whoever has given a token to a thread owes nothing there
abbrev pub duty_of : Debt → Duty
duty_of debt.Nothing = no_duty
duty_of debt.Thread = no_duty
duty_of debt.Token = owes_wake no_duty
duty_of debt.Tokens = owes_all no_duty
duty_of debt.Leave = record no_duty { leaving = 1 }
duty_of debt.Unseen = record no_duty { leaving = 1; wakes = 1 }
duty_of debt.Fresh = record no_duty { fresh = 1 }
duty_of debt.Asleep = record no_duty { asleep = 1 }
duty_of debt.Look = record no_duty { looks = 1 }

-- the pass owes so much and no more, has nothing begun, and holds no slot
abbrev pub Owes : {T : Type 0} → Debt → Pass T → Type 0
Owes d p = (bare (view_in p) ≡ with_duty (λ _. duty_of d) (calm (view_in p))) × (held_by p ≡ [])
