-- Proof of `SharedClaims::step`: makes the next access of a claim of the seat's consumer on a cell.
use Rattle.std.proofs.Common.{rules, ◌≡◌, List, ◌∷◌, sym, ap, ◌∙◌, subst}
use Rattle.mb_claim.specs.Vocabulary.{part_on, step_of, IsNextOp, IsClaimIn, CanClaimFind}
use Rattle.mb_shared_claims.specs.Types.{Layout, ObjectTurn}
use Rattle.mb_shared_claims.specs.Seats.{TableView}
use Rattle.mb_shared_claims.proofs.ClaimMoves.{may_come, seat_step, stands_on}
use Rattle.mb_shared_claims.proofs.table.SharedClaims.step.Goals as goal

-- the claim's next access may be made from the seat
pub step-requires-clause-may : goal.step-requires-clause-may
step-requires-clause-may g c next is =
    let t = c.args.self.now in
    let seat = c.args.seat.now in
    let claim = c.args.claim.now in
    let op = subst (λ (l : Layout). IsNextOp l claim next) (ap (λ (v : TableView). v.layout) c.self.view_is) is in (
      c.requires.table,
      c.requires.cell,
      c.claims_make_steps.ensures.word t.layout claim next (part_on seat.consumer c.args.cell seat.part)
          c.requires.standing c.requires.going op,
      may_come c.accesses_lengthen_one_part.ensures.cells t seat c.args.cell claim c.requires.cell c.requires.consumer
          c.requires.standing c.requires.going c.claims_make_steps.ensures.memory next op,
    )

-- the claim's step is a step of the seat
pub returns-clause-step : goal.returns-clause-step
returns-clause-step g c =
    let t = c.args.self.now in
    let seat = c.args.seat.now in
    let claim = c.args.claim.now in
    let same : c.seat-1.given.0 ≡ c.step.new.memory.seat.now = search rules in
    let step = c.step.ensures.step in
    let layout = ap (λ (v : TableView). v.layout) c.self.view_is in
    seat_step c.accesses_lengthen_one_part.ensures.cells t seat c.args.cell claim c.requires.cell c.requires.consumer
    c.requires.standing c.requires.going c.claims_make_steps.ensures.told c.seat-1.given.0 c.args.word c.step.new.self
    step.next step.seen c.requires.table (subst (λ (l : Layout). IsNextOp l claim step.next) layout step.is)
    (same ∙ step.made.0) step.made.2
    (subst (λ (l : Layout).
    (xs : List ObjectTurn) → IsClaimIn l claim xs → CanClaimFind l claim step.next step.seen
    → IsClaimIn l c.step.new.self (step_of step.next.object step.next.op step.seen c.args.word ∷ xs))
    layout step.path)

-- after the step the claim has made all that its consumer has done on the cell
pub returns-clause-standing : goal.returns-clause-standing
returns-clause-standing g c =
    let t = c.args.self.now in
    stands_on c.accesses_lengthen_one_part.ensures.own_cell t.layout c.args.cell c.args.word c.args.claim.now
    c.step.new.self c.args.seat.now c.seat-1.given.0 (returns-clause-step g c) c.requires.standing

-- over a layout with a last object, a claim that has made all that its consumer did on the cell is not undecided
pub returns-clause-decided : goal.returns-clause-decided
returns-clause-decided g c has undecided =
    c.last_objects_decide_claims.ensures.layouts c.args.self.now.layout c.step.new.self
    (part_on c.seat-1.given.0.consumer c.args.cell c.seat-1.given.0.part) has (returns-clause-standing g c)
    (sym c.step.ensures.stage ∙ undecided)
