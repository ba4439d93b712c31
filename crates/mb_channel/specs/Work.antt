-- What an end has of its segment, at rest or with something owed, and what a step does to that.
use Rattle.std.specs.Prelude.{ℕ, ◌≡◌, ◌≢◌, ◌<◌, ◌≤◌, ◌++◌, ◌∷◌, [], true}
use Rattle.mb_segment.specs.Vocabulary.{spot}
use Rattle.mb_segment.specs.Moves.{found_empty, is_over}
use Rattle.mb_channel.specs.Types.{Arc, Global, Segment, View}
use Rattle.mb_channel.specs.declared.attempt.Attempt.{Attempt}
use Rattle.mb_channel.specs.declared.attempt.Attempt.TheVariants as attempt
use Rattle.mb_channel.specs.declared.busy.Busy.{Busy}
use Rattle.mb_channel.specs.declared.busy.Debt.TheVariants as owed
use Rattle.mb_channel.specs.declared.inside.Inside.{Inside}
use Rattle.mb_channel.specs.declared.heard.Heard.{Heard}
use Rattle.mb_channel.specs.declared.heard.Heard.TheVariants as heard

-- the segment, and what the pass knows there
pub record Work (T : Type 0) : Type 0 where
  pub segment : Arc (Segment T Global) Global
  pub pass : View T

abbrev pub work_in : {T : Type 0} → Inside T → Work T
work_in i = record { segment = i.segment; pass = i.pass.seat.me.0 }

abbrev pub work_of : {T : Type 0} → Busy T → Work T
work_of b = record { segment = b.segment; pass = b.pass.seat.me.0 }

-- the same segment, where it looked as often or more, and found that none waits. It knows as much or more, and has the
-- same name
abbrev pub IsThere : {T : Type 0} → Work T → Work T → Type 0
IsThere v w = (w.segment ≡ v.segment) × (found_empty v.pass ≤ found_empty w.pass)
    × (v.pass.known.drawn ≤ w.pass.known.drawn) × (v.pass.known.taken ≤ w.pass.known.taken)
    × (w.pass.account.name ≡ v.pass.account.name)

-- nothing was sent or received there, and it was not told now that no value can come
pub record IsStill {T : Type 0} (v w : Work T) : Type 0 where
  pub there : IsThere v w
  pub account : w.pass.account ≡ v.pass.account
  pub told : w.pass.over ≡ v.pass.over

-- it sent x there, at a position that is not below what it knew, and knows of that. It received nothing
pub record HasSent {T : Type 0} (x : T) (v w : Work T) : Type 0 where
  pub there : IsThere v w
  pub number : ℕ
  pub sent : w.pass.account.sent ≡ v.pass.account.sent ++ spot number x ∷ []
  pub behind : v.pass.known.drawn ≤ number
  pub known : number < w.pass.known.drawn
  pub got : w.pass.account.got ≡ v.pass.account.got
  pub told : w.pass.over ≡ v.pass.over

-- it received x there, from a position that is not below what it knew, and knows of that. It sent nothing
pub record HasGot {T : Type 0} (x : T) (v w : Work T) : Type 0 where
  pub there : IsThere v w
  pub number : ℕ
  pub got : w.pass.account.got ≡ v.pass.account.got ++ spot number x ∷ []
  pub behind : v.pass.known.taken ≤ number
  pub known : number < w.pass.known.taken
  pub sent : w.pass.account.sent ≡ v.pass.account.sent
  pub told : w.pass.over ≡ v.pass.over

-- nothing was sent or received there, and it was told that no value can come any more
pub record IsTold {T : Type 0} (v w : Work T) : Type 0 where
  pub there : IsThere v w
  pub account : w.pass.account ≡ v.pass.account
  pub told : w.pass.over ≡ true

-- it sleeps in the list of those that wait, so the law of sleep covers it
abbrev pub Sleeps : {T : Type 0} → Busy T → Type 0
Sleeps b = b.debt ≡ owed.Asleep

abbrev pub IsAwake : {T : Type 0} → Busy T → Type 0
IsAwake b = b.debt ≢ owed.Asleep

-- a value was received, it sleeps, nothing is known, or no value can come any more. It sleeps only in the
-- second case
abbrev pub OfHeard : {T : Type 0} → Heard T → Work T → Busy T → Type 0
OfHeard (heard.Value x) v b = HasGot x v (work_of b) × IsAwake b
OfHeard heard.Asleep v b = IsStill v (work_of b) × Sleeps b
OfHeard heard.Again v b = IsStill v (work_of b) × IsAwake b
OfHeard heard.Over v b = IsTold v (work_of b) × IsAwake b

abbrev pub IfAsleep : {T : Type 0} → Heard T → Type 0 → Type 0
IfAsleep (heard.Value x) p = Unit {0}
IfAsleep heard.Asleep p = p
IfAsleep heard.Again p = Unit {0}
IfAsleep heard.Over p = Unit {0}

-- a value was sent, sent with something owed, or not: since another was first, or since none can be sent there
abbrev pub OfAttempt : {T : Type 0} → Attempt T → T → Work T → Type 0
OfAttempt (attempt.Sent j) x v = HasSent x v (work_in j)
OfAttempt (attempt.Owes b) x v = HasSent x v (work_of b)
OfAttempt (attempt.Again j y) x v = IsStill v (work_in j) × (y ≡ x)
OfAttempt (attempt.Over j y) x v = IsStill v (work_in j) × (y ≡ x) × (is_over j.pass.seat.me.0 ≡ true)
