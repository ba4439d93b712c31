-- Proof of `straight_and_on`: makes a claim of a seat straight, and then by single steps.
use Rattle.std.proofs.Common.{◌≡◌, ℕ, zero, suc, Option, Some, None, MatchOption, slice_get, ◌∙◌, ap, sym, subst, arith}
use Rattle.mb_deciding.specs.declared.object.Kind.{Kind}
use Rattle.mb_claim.specs.declared.claim.Claim.{Claim}
use Rattle.mb_claim.specs.declared.layout.Layout.{Layout}
use Rattle.mb_claim.specs.Vocabulary.{IsClaimIn, IsStanding, kinds_of, part_on, standing}
use Rattle.mb_shared_claims.specs.Vocabulary.{AreSeatSteps, SeatView}
use Rattle.test_libraries.proofs.straight_seats.straight_and_on.Goals as goal

-- if an object has a kind, and two claims are both what `f` gives for that kind, they are one claim
by_kind :
    (kind : Option Kind) (f : Kind → Claim) (a b : Claim) → MatchOption kind ⊥ (λ k. a ≡ f k)
    → MatchOption kind ⊥ (λ k. b ≡ f k) → a ≡ b
by_kind None f a b is also = absurd is
by_kind (Some k) f a b is also = is ∙ sym also

-- two claims of a consumer that are about to use the same object with the same input are one claim
one_claim :
    (layout : Layout) (c o v : ℕ) (a b : Claim) → IsStanding layout c o v a → IsStanding layout c o v b → a ≡ b
one_claim layout c o v = by_kind (slice_get (kinds_of layout) o) (standing layout c o v)

-- steps of a claim leave the table and the consumer of the seat as they were
steps_keep :
    (layout : Layout) (cell : ℕ) (claim : Claim) (seat : SeatView) (s : _) (n : ℕ) (at : Claim) (now : SeatView)
    (t : _) → AreSeatSteps layout cell claim seat s n at now t
    → (now.table ≡ seat.table) × (now.consumer ≡ seat.consumer)
steps_keep layout cell claim seat s zero at now t (is, same, e) =
    (ap (λ (v : SeatView). v.table) same, ap (λ (v : SeatView). v.consumer) same)
steps_keep layout cell claim seat s (suc n) at now t (was, before, u, word, older, going, drawn, step, own, rest) =
    let p = steps_keep layout cell claim seat s n was before u older in
    (ap (λ (v : SeatView). v.table) step.adds ∙ p.0, ap (λ (v : SeatView). v.consumer) step.adds ∙ p.1)

-- if two layouts are equal, and so are two numbers, what holds of the first layout and number holds of the second ones
moved :
    (P : Layout → ℕ → Type 0) (d layout : Layout) (k own : ℕ) → d ≡ layout → k ≡ own → P d k → P layout own
moved P d layout k own e f is = subst (λ x. P x own) e (subst (P d) f is)

-- the seat has made no access, so its consumer has done nothing on cell 0
pub straight-end-requires-clause-fresh : goal.straight-end-requires-clause-fresh
straight-end-requires-clause-fresh g c = ap (λ xs. part_on c.args.seat.now.consumer 0 xs) c.requires.table.1

-- the claim that goes on by steps is the one at which the straight accesses ended
pub step_on-made-requires-clause-standing : goal.step_on-made-requires-clause-standing
step_on-made-requires-clause-standing g c =
    let layout = c.args.table.now.layout in
    let own = c.args.seat.now.consumer in
    let end = c.straight-end.ensures.steps in
    let at = c.straight-end.result in
    let there = moved (λ d k. IsStanding d k at.object at.value c.standing-claim.result) c.layout.result.now
    layout c.consumer-consumer.result own c.layout.ensures c.consumer-consumer.ensures.exact
    c.standing-claim.ensures in
    let going = end.6.3 (grind (arith, c.if-ne.false, c.ne.ensures)) in
    subst (λ d. IsClaimIn layout d (part_on c.straight-end.new.seat.consumer 0 c.straight-end.new.seat.part))
    (one_claim layout own at.object at.value end.3 c.standing-claim.result going there) end.7

pub step_on-made-requires-clause-consumer : goal.step_on-made-requires-clause-consumer
step_on-made-requires-clause-consumer g c =
    let layout = c.args.table.now.layout in
    let own = c.args.seat.now.consumer in
    let end = c.straight-end.ensures.steps in
    let p = steps_keep layout 0 end.0 c.args.seat.now _ end.2 end.3 c.straight-end.new.seat _ end.5 in
    let at = c.straight-end.result in
    let there = moved (λ d k. IsStanding d k at.object at.value c.standing-claim.result) c.layout.result.now
    layout c.consumer-consumer.result own c.layout.ensures c.consumer-consumer.ensures.exact
    c.standing-claim.ensures in
    let going = end.6.3 (grind (arith, c.if-ne.false, c.ne.ensures)) in
    let is = one_claim layout own at.object at.value end.3 c.standing-claim.result going there in
    subst (λ (d : Claim). d.consumer ≡ c.straight-end.new.seat.consumer) is (end.6.1 ∙ sym p.1)

pub step_on-made-requires-clause-table : goal.step_on-made-requires-clause-table
step_on-made-requires-clause-table g c =
    let layout = c.args.table.now.layout in
    let own = c.args.seat.now.consumer in
    let end = c.straight-end.ensures.steps in
    let p = steps_keep layout 0 end.0 c.args.seat.now _ end.2 end.3 c.straight-end.new.seat _ end.5 in
    p.0 ∙ c.requires.table.0
