-- A take of a consumer: polls of a lane one after another, past the items that are lost.
use Rattle.std.specs.Prelude.{ℕ, ◌≡◌, ◌≢◌, ◌+◌, List, [], ◌∷◌}
use Rattle.mb_mailbox.specs.Imports.{Stream}
use Rattle.mb_mailbox.specs.Consumers.{ConsumerView}
use Rattle.mb_mailbox.specs.Jobs.{accesses_made}
use Rattle.mb_mailbox.specs.Steps.{IsPollOf}
use Rattle.mb_mailbox.specs.declared.consumer.Poll.{Poll}
use Rattle.mb_mailbox.specs.declared.consumer.Poll.TheVariants as poll

-- the consumer made a poll of lane p with this answer. Its budget is what the accesses made since `start` left of `most`
pub record IsPollOfRest (p most : ℕ) (answer : Poll) (s t : Stream) (start old new : ConsumerView) : Type 0 where
  pub left : ℕ
  pub rest : accesses_made old + left ≡ accesses_made start + most
  pub poll : IsPollOf p left answer s t old new

-- the consumer lost items of lane p to these winners (the last item first), each by one poll of what was left of `most`,
-- and did nothing else. Each poll draws the words of the source after those of the poll before it
abbrev pub HasPassed : ℕ → ℕ → List ℕ → Stream → Stream → ConsumerView → ConsumerView → Type 0
HasPassed p most [] s t start new = (t ≡ s) × (new ≡ start)
HasPassed p most (w ∷ older) s t start new =
    (u : Stream) × (mid : ConsumerView) × HasPassed p most older s u start mid
    × IsPollOfRest p most (poll.Lost w) u t start mid new

-- the consumer made a take of lane p with this budget and this answer
pub record IsTakeOf (p most : ℕ) (answer : Poll) (s t : Stream) (old new : ConsumerView)
    : Type 0 where
  -- the winners of the items that it passed, the last item first
  pub winners : List ℕ
  pub mid : ConsumerView
  pub rest : Stream
  pub passed : HasPassed p most winners s rest old mid
  -- one more poll of what was left comes to the answer, and loses no item
  pub last : IsPollOfRest p most answer rest t old mid new
  pub over : (w : ℕ) → answer ≢ poll.Lost w
