-- One access of a consumer on a lane: the next one, by its two parts before it.
use Rattle.std.specs.Prelude.{ℕ, ◌≡◌, List, ◌∷◌, Option, Some, None}
use Rattle.mb_claim.specs.declared.access.Stage.TheVariants as stage
use Rattle.mb_cells.specs.declared.answer.Look.TheVariants as look
use Rattle.mb_mailbox.specs.Imports.{Claims, HasNotPassed, HasStageIn, IsClaimPrefix, Look, MayLookPast, ObjectTurn}
use Rattle.mb_mailbox.specs.Imports.{Parts, Stage, WorldAccess, cells_met, claim_step, item_load, link_load, look_of}
use Rattle.mb_mailbox.specs.declared.consumer.Poll.{Poll}
use Rattle.mb_mailbox.specs.declared.consumer.Poll.TheVariants as poll

-- the answer of a load of a head or link, by what it found. If that leads to a cell, there is no answer yet, and the
-- consumer goes on there
abbrev pub link_answer : Look → Option Poll
link_answer look.Nothing = Some poll.Nothing
link_answer look.Ended = Some poll.Ended
link_answer (look.Cell k) = None

-- the answer of a claim's access, by the claim's stage after it. There is no answer yet if the claim goes on, or if
-- it is won and the item is still to be loaded
abbrev pub stage_answer : Stage → Option Poll
stage_answer stage.Going = None
stage_answer stage.Won = None
stage_answer (stage.Lost w) = Some (poll.Lost w)
stage_answer stage.Undecided = Some poll.Undecided

-- cell k is the last that the consumer met on lane p, and it has loaded neither the item nor the link of this cell
pub record IsLastMet (p k : ℕ) (x : Parts) : Type 0 where
  pub cells : List ℕ
  pub met : cells_met p x.reads ≡ k ∷ cells
  pub left : HasNotPassed k x

-- The access is the next one of consumer c on lane p, by its parts x. It comes to this answer, or to none yet. Each
-- rule is one kind of access.
pub data ConsumerStep (cs : Claims) (c p : ℕ) (x : Parts) (a : WorldAccess) (answer : Option Poll)
    : Type 0 where
  -- The consumer is done with the last cell that it met on the lane, if there is one, and holds no claim there. It
  -- loads the link past that cell, or the lane's head if there is no such cell.
  looks : (v : ℕ) → MayLookPast cs c (cells_met p x.reads) x
      → a ≡ link_load c p (cells_met p x.reads) v → answer ≡ link_answer (look_of v)
      → ConsumerStep cs c p x a answer
  -- The consumer holds a claim on the last cell that it met, and the claim is going. It makes the claim's next
  -- access, and that leads to a stage.
  competes : (k : ℕ) (t : ObjectTurn) (now : Stage) → IsLastMet p k x
      → HasStageIn cs c k stage.Going x → IsClaimPrefix cs c (t ∷ x.claimed k) now
      → a ≡ claim_step c k t → answer ≡ stage_answer now
      → ConsumerStep cs c p x a answer
  -- The consumer's claim on the last cell that it met is won. It loads the item.
  takes : (k v : ℕ) → IsLastMet p k x → HasStageIn cs c k stage.Won x
      → a ≡ item_load c k v → answer ≡ Some (poll.Took v)
      → ConsumerStep cs c p x a answer
