-- The tokens that an end gave, and the threads that its caller was told to wake for them.
use Rattle.std.specs.Prelude.{ℕ, ◌≡◌, ◌+◌, Bool, true, false, Option, None, Some}
use Rattle.mb_segment.specs.Vocabulary.{tokens_given}
use Rattle.mb_channel.specs.declared.attempt.Attempt.{Attempt}
use Rattle.mb_channel.specs.declared.attempt.Attempt.TheVariants as attempt
use Rattle.mb_channel.specs.declared.busy.Busy.{Busy}
use Rattle.mb_channel.specs.declared.busy.Debt.{Debt}
use Rattle.mb_channel.specs.declared.busy.Debt.TheVariants as owed
use Rattle.mb_channel.specs.declared.debtor.Debtor.{Debtor}
use Rattle.mb_channel.specs.declared.debtor.Step.{Step}
use Rattle.mb_channel.specs.declared.debtor.Step.TheVariants as step
use Rattle.mb_channel.specs.declared.end.End.{End}
use Rattle.mb_channel.specs.declared.inside.Inside.{Inside}
use Rattle.mb_channel.specs.declared.polls.Polled.{Polled}
use Rattle.mb_channel.specs.declared.polls.Polled.TheVariants as polled
use Rattle.mb_channel.specs.declared.try_sends.Sending.{Sending}
use Rattle.mb_channel.specs.declared.try_sends.Sending.TheVariants as sending
use Rattle.mb_channel.specs.Ends.{view_of}

-- how many tokens were given, and for how many of them the caller is still to be told to wake a thread
pub record Wakes : Type 0 where
  pub gave : ℕ
  pub untold : ℕ

abbrev pub wakes : ℕ → ℕ → Wakes
wakes n m = record { gave = n; untold = m }

-- since v, the caller was told to wake n threads: one for each token
abbrev pub Tells : ℕ → Wakes → Wakes → Type 0
Tells n v w = w.gave + v.untold ≡ v.gave + w.untold + n

abbrev pub one_if : Bool → ℕ
one_if true = 1
one_if false = 0

abbrev pub untold_of : Debt → ℕ
untold_of owed.Nothing = 0
untold_of owed.Thread = 1
untold_of owed.Token = 0
untold_of owed.Tokens = 0
untold_of owed.Leave = 0
untold_of owed.Unseen = 0
untold_of owed.Fresh = 0
untold_of owed.Asleep = 0
untold_of owed.Look = 0

-- ---- in one segment
abbrev pub wakes_in : {T : Type 0} → Inside T → Wakes
wakes_in i = wakes (tokens_given i.pass.seat.me.0) 0

abbrev pub wakes_by : {T : Type 0} → Busy T → Wakes
wakes_by b = wakes (tokens_given b.pass.seat.me.0) (untold_of b.debt)

abbrev pub after_attempt : {T : Type 0} → Attempt T → Wakes
after_attempt (attempt.Sent i) = wakes_in i
after_attempt (attempt.Owes b) = wakes_by b
after_attempt (attempt.Again i x) = wakes_in i
after_attempt (attempt.Over i x) = wakes_in i

-- ---- in all segments where the end was
abbrev pub gave_there : {T : Type 0} → Option (Inside T) → ℕ
gave_there None = 0
gave_there (Some i) = tokens_given i.pass.seat.me.0

abbrev pub wakes_of : {T : Type 0} → End T → Wakes
wakes_of e = wakes ((view_of e).gave + gave_there e.inside) 0

abbrev pub wakes_with : {T : Type 0} → Debtor T → Wakes
wakes_with d = wakes (d.chair.me.0.gave + tokens_given d.busy.pass.seat.me.0) (untold_of d.busy.debt)

abbrev pub after_step : {T : Type 0} → Step T → Wakes
after_step (step.Sent e) = wakes_of e
after_step (step.Owes d) = wakes_with d
after_step (step.Again e x) = wakes_of e
after_step (step.Over e x) = wakes_of e

abbrev pub after_sending : {T : Type 0} → Sending T → Wakes
after_sending (sending.Sent s) = wakes_of s.end
after_sending (sending.Owes o) = wakes_with o.debtor
after_sending (sending.Again s x) = wakes_of s.end
after_sending (sending.Refused s n) = wakes_of s.end

abbrev pub after_polled : {T : Type 0} → Polled T → Wakes
after_polled (polled.Took r x) = wakes_of r.end
after_polled (polled.TookOwing l x) = wakes_with l.debtor
after_polled (polled.Sleeps a) = wakes_with a.debtor
after_polled (polled.Again r) = wakes_of r.end
after_polled (polled.Owes l) = wakes_with l.debtor
after_polled (polled.Refused r why) = wakes_of r.end
