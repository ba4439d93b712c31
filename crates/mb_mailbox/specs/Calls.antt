-- The calls of workers: which of them the gate let through, and what each call of a consumer did.
use Rattle.std.specs.Prelude.{ℕ, ◌≡◌, ◌<◌, ◌≤◌, List, [], ◌∷◌, length}
use Rattle.mb_mailbox.specs.Imports.{Stream}
use Rattle.mb_mailbox.specs.Consumers.{ConsumerView}
use Rattle.mb_mailbox.specs.Steps.{IsPollOf}
use Rattle.mb_mailbox.specs.declared.consumer.Poll.{Poll}
use Rattle.mb_mailbox.specs.declared.gate.Who.{Who}
use Rattle.mb_mailbox.specs.declared.gate.Who.TheVariants as who

-- before each of the worker's calls 1, 2, .. up to this number, the gate may let the worker pass
abbrev pub ArePassed : (Who → ℕ → Type 0) → Who → ℕ → Type 0
ArePassed may_pass w calls = (n : ℕ) → 1 ≤ n → n ≤ calls → may_pass w n

-- a call of a consumer: the lane that it polls, and the answer of the poll
pub record Call : Type 0 where
  pub lane : ℕ
  pub answer : Poll

-- the call is a poll of a lane from `from` on and below `end`, with this budget. It makes fewer accesses than the
-- budget only if it comes to an answer
pub record IsCall (from end budget : ℕ) (c : Call) (s t : Stream) (old new : ConsumerView) : Type 0 where
  pub low : from ≤ c.lane
  pub high : c.lane < end
  pub poll : IsPollOf c.lane budget c.answer s t old new

-- these calls (the newest first) were made one after the other, and nothing else. Each draws the words of the source
-- after those of the call before it
abbrev pub AreCalls : ℕ → ℕ → ℕ → List Call → Stream → Stream → ConsumerView → ConsumerView → Type 0
AreCalls from end budget [] s t old new = (t ≡ s) × (new ≡ old)
AreCalls from end budget (c ∷ older) s t old new =
    (u : Stream) × (mid : ConsumerView) × AreCalls from end budget older s u old mid
    × IsCall from end budget c u t mid new

-- a consumer made this many calls, one after the other, and the gate let each through
pub record HasCalled (may_pass : Who → ℕ → Type 0) (from end budget calls : ℕ) (s t : Stream) (old new : ConsumerView)
    : Type 0 where
  pub made : List Call
  pub count : length made ≡ calls
  pub each : AreCalls from end budget made s t old new
  pub passed : ArePassed may_pass (who.Consumer old.seat.consumer) calls
