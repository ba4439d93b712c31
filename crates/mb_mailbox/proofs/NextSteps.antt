-- The next access of a consumer on a lane, by its place there.
use Rattle.std.proofs.Common.{◌≡◌, ℕ, ◌∷◌, reverse, refl, ap, subst, sym}
use Rattle.std.specs.Prelude.{Option, Some}
use Rattle.mb_claim.specs.declared.access.ClaimOp.{ClaimOp}
use Rattle.mb_claim.specs.declared.access.Stage.TheVariants as stage
use Rattle.mb_mailbox.specs.Imports.{Claim, Claims, Cursor, IsClaimPrefix, Item, Stage, TableSize, ToCells, ToClaims, WorldAccess, access_of, cells_met}
use Rattle.mb_mailbox.specs.Imports.{claim_stage, claims_at, claims_in, consumer_of, load, look_of, part_on, word_of}
use Rattle.mb_mailbox.specs.declared.consumer.Poll.{Poll}
use Rattle.mb_mailbox.specs.declared.consumer.Poll.TheVariants as poll
use Rattle.mb_world.specs.declared.place.Place.TheVariants.{At, Before}
use Rattle.mb_mailbox.specs.Consumers.{ConsumerView, IsConsumer, parts_of}
use Rattle.mb_mailbox.specs.ConsumerStep.{ConsumerStep, IsLastMet, link_answer, stage_answer}
use Rattle.mb_mailbox.specs.ConsumerStep.{competes, looks, takes}
use Rattle.mb_mailbox.specs.Laws.{Laws}
use Rattle.mb_mailbox.specs.Moves.{HasPlace, HasTurns}
use Rattle.mb_mailbox.proofs.Moving.{before, holds, may_past}

-- the size that a consumer knows of its table of claims gives the same claims as the table's name. So the next access
-- by that size is the next one by the name
named : (s : ConsumerView) (p : ℕ) (a : WorldAccess) (answer : Option Poll) (i : IsConsumer s)
    → ConsumerStep (claims_in i.size.layout i.size.cells) s.seat.consumer p (parts_of s.reader s.seat) a answer
    → ConsumerStep (claims_at s.seat.table) s.seat.consumer p (parts_of s.reader s.seat) a answer
named s p a answer i =
    let is : claims_in i.size.layout i.size.cells ≡ claims_at s.seat.table =
    ap (λ (z : Option TableSize). claims_at (record { id = s.seat.table.id; size = z })) (sym i.table) in
    subst (λ (cs : Claims). ConsumerStep cs s.seat.consumer p (parts_of s.reader s.seat) a answer) is

-- if the consumer stands before a link of the lane, the load of that link is its next access there
pub looks_next : Laws → (s : ConsumerView) (p v : ℕ) (at : Cursor) → IsConsumer s → HasPlace p (Before at) s
    → ConsumerStep (claims_at s.seat.table) s.seat.consumer p (parts_of s.reader s.seat)
    (ToCells (load s.reader.reader (word_of at) v)) (link_answer (look_of v))
looks_next laws s p v at i e =
    let b = before s p at i e in
    let x = parts_of s.reader s.seat in
    named s p (ToCells (load s.reader.reader (word_of at) v)) (link_answer (look_of v)) i
    (looks v (may_past laws i.size.layout i.size.cells s.seat.consumer (cells_met p s.reader.part)
    (reverse b.0) x b.2.ended)
    (λ j. ToCells (load (i.same j) (b.2.word j) v)) refl)

-- the cell of a claim that the consumer holds is the last that it met, and neither the cell's item nor its link was
-- loaded
last : (s : ConsumerView) (p k : ℕ) (claim : Claim) (i : IsConsumer s) → HasPlace p (At k claim) s
    → IsLastMet p k (parts_of s.reader s.seat)
last s p k claim i e = let o = holds s p k claim i e in record { cells = o.2.cells; met = o.2.met; left = o.2.left }

-- the consumer's part on the cell has the stage that the claim says
stage_held : (s : ConsumerView) (p k : ℕ) (claim : Claim) (now : Stage) (i : IsConsumer s)
    → HasPlace p (At k claim) s → claim_stage claim ≡ now
    → IsClaimPrefix (claims_in i.size.layout i.size.cells) s.seat.consumer (part_on s.seat.consumer k s.seat.part) now
stage_held s p k claim now i e is =
    let o = holds s p k claim i e in
    subst (λ (z : ℕ × Stage). IsClaimPrefix (claims_in i.size.layout i.size.cells) z.0
    (part_on s.seat.consumer k s.seat.part) z.1)
    (λ j. (o.2.own j, is j)) o.2.path.prefix

-- if the consumer holds a claim that goes on, the claim's next access is the consumer's next one on the lane
pub competes_next : Laws → (s : ConsumerView) (p k word seen : ℕ) (claim now : Claim)
    (next : ClaimOp) → IsConsumer s → HasPlace p (At k claim) s
    → claim_stage claim ≡ stage.Going → consumer_of now ≡ s.seat.consumer
    → let a = access_of s.seat.consumer k next seen word in
    HasTurns s now (part_on s.seat.consumer k (a ∷ s.seat.part))
    → ConsumerStep (claims_at s.seat.table) s.seat.consumer p (parts_of s.reader s.seat)
    (ToClaims a) (stage_answer (claim_stage now))
competes_next laws s p k word seen claim now next i e going own turns =
    let a = access_of s.seat.consumer k next seen word in
    let cs = claims_in i.size.layout i.size.cells in
    let prefix : IsClaimPrefix cs s.seat.consumer (part_on s.seat.consumer k (a ∷ s.seat.part)) (claim_stage now) =
    subst (λ c. IsClaimPrefix cs c (part_on s.seat.consumer k (a ∷ s.seat.part)) (claim_stage now))
    own (turns i.size i.table).prefix in
    named s p (ToClaims a) (stage_answer (claim_stage now)) i
    (competes k a.step (claim_stage now) (last s p k claim i e) (stage_held s p k claim stage.Going i e going)
    (subst (λ xs. IsClaimPrefix cs s.seat.consumer xs (claim_stage now))
    (laws.own_cell a s.seat.part) prefix) refl refl)

-- if the consumer holds a claim that is won, the load of the item is its next access on the lane
pub takes_next : (s : ConsumerView) (p k v : ℕ) (claim : Claim) → IsConsumer s
    → HasPlace p (At k claim) s → claim_stage claim ≡ stage.Won
    → ConsumerStep (claims_at s.seat.table) s.seat.consumer p (parts_of s.reader s.seat)
    (ToCells (load s.reader.reader (Item k) v)) (Some (poll.Took v))
takes_next s p k v claim i e won =
    named s p (ToCells (load s.reader.reader (Item k) v)) (Some (poll.Took v)) i
    (takes k v (last s p k claim i e) (stage_held s p k claim stage.Won i e won)
    (λ j. ToCells (load (i.same j) (Item k) v)) refl)
