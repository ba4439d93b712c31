-- Samples of ends and passes between the two halves of a call. All are at position 3 of segment 1.
use Rattle.std.specs.Prelude.{ℕ, None, [], ◌≡◌, ◌∷◌}
use Rattle.mb_segment.specs.Vocabulary.{IsCalm, drew, held_by, owes_wake, view_in, with_duty}
use Rattle.mb_segment.specs.declared.view.Half.TheVariants.{Reads, Writes}
use Rattle.mb_channel.specs.Types.{Pass, View}
use Rattle.mb_channel.specs.declared.busy.Debt.TheVariants as owed
use Rattle.mb_channel.specs.Begun.{half_in}
use Rattle.mb_channel.specs.Deeds.{deed}
use Rattle.mb_channel.specs.Halves.{stand_half}
use Rattle.mb_channel.specs.LifeSamples.{position}
use Rattle.mb_channel.specs.Standing.{got_in, sent_in}
pub use Rattle.mb_channel.specs.declared.claiming.Claimed.{Claimed}
pub use Rattle.mb_channel.specs.declared.drawing.Drawn.{Drawn}
pub use Rattle.mb_channel.specs.declared.end.Receiver.{Receiver}
pub use Rattle.mb_channel.specs.declared.end.Sender.{Sender}
pub use Rattle.mb_channel.specs.declared.halfway.Halfway.{Halfway}

-- the end drew the position for 10, and sent nothing else
pub record DrewTen (h : Halfway ℕ) : Type 0 where
  pub at : h.at ≡ 1
  pub number : h.begun.position ≡ 3
  pub half : half_in h.begun.pass ≡ Writes (position 3 10)
  pub sent : sent_in (stand_half h) ≡ deed 1 (position 3 10) ∷ []

-- the end claimed the position, which has 10. It received nothing else, and owes nothing
pub record ClaimedTen (h : Halfway ℕ) : Type 0 where
  pub at : h.at ≡ 1
  pub number : h.begun.position ≡ 3
  pub half : half_in h.begun.pass ≡ Reads (position 3 10)
  pub got : got_in (stand_half h) ≡ deed 1 (position 3 10) ∷ []
  pub owes : h.begun.debt ≡ owed.Nothing

-- the pass drew the position for 10, and owes one wake
pub record OwesWake (p : Pass ℕ) : Type 0 where
  pub before : View ℕ
  pub calm : IsCalm before
  pub now : view_in p ≡ with_duty owes_wake (drew 3 10 before)
  pub held : held_by p ≡ (3, None) ∷ []
