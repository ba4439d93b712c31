-- Proof of `SharedClaims::exchange`: makes the only access of a new claim, if each cell has a last object alone.
use Rattle.std.proofs.Common.{◌≡◌, ◌≢◌, ◌+◌, ℕ, List, [], ◌∷◌, sym, ap, ◌∙◌, slice_get, subst, arith}
use Rattle.mb_deciding.specs.declared.object.Kind.TheVariants.{LastObject}
use Rattle.mb_claim.specs.Vocabulary.{IsClaimIn, IsNextOp, IsStanding, CanClaimFind, claims_in, consumer_of, part_on}
use Rattle.mb_claim.specs.Vocabulary.{stage_for, step_of}
use Rattle.mb_shared_claims.specs.Types.{Layout, ObjectTurn}
use Rattle.mb_shared_claims.specs.Seats.{TableView}
use Rattle.mb_shared_claims.specs.SeatSteps.{IsSeatStep}
use Rattle.mb_shared_claims.proofs.ClaimMoves.{can_find, may_come, seat_step, stands_on}
use Rattle.mb_shared_claims.proofs.Exchanging.{exchange_ends, found_alone, found_held, holds_other, lost_stage}
use Rattle.mb_shared_claims.proofs.Exchanging.{next_alone, stage_alone}
use Rattle.mb_shared_claims.proofs.table.SharedClaims.exchange.{Given.Over, Goals.After-next-next}
use Rattle.mb_shared_claims.proofs.table.SharedClaims.exchange.Goals as goal

-- what holds before the access
module _ (g : Over) (c : After-next-next g) where
  -- the table's layout
  abbrev layout : Layout
  layout = c.args.self.now.layout

  same : c.self.inside.size.layout ≡ layout
  same = ap (λ (v : TableView). v.layout) c.self.view_is

  own : consumer_of c.alone-claim.result ≡ c.args.seat.now.consumer
  own = c.alone-claim.ensures.consumer ∙ c.requires.consumer

  stands : IsClaimIn layout c.alone-claim.result (part_on c.args.seat.now.consumer c.args.cell c.args.seat.now.part)
  stands =
      subst (λ (z : Layout × List ObjectTurn). IsClaimIn z.0 c.alone-claim.result z.1)
      (λ i. (same i, sym c.requires.fresh i)) c.alone-claim.ensures.path

  next : IsNextOp layout c.alone-claim.result c.next-next.result
  next =
      subst (λ (l : Layout). IsNextOp l c.alone-claim.result c.next-next.result) same
      (record { object = c.next-next.ensures.object; op = c.next-next.ensures.op })

  first : IsStanding layout c.args.seat.now.consumer 0 c.args.seat.now.consumer c.alone-claim.result
  first =
      subst (λ (z : Layout × ℕ). IsStanding z.0 z.1 0 z.1 c.alone-claim.result)
      (λ i. (same i, c.requires.consumer i)) c.alone-claim.ensures.first

-- the claim's next access may be made from the seat
pub make_at-found-requires-clause-next : goal.make_at-found-requires-clause-next
make_at-found-requires-clause-next g c =
    let at = (goal.at.make_at-found-requires-clause-next g c).After-next-next in
    may_come c.accesses_lengthen_one_part.ensures.cells c.args.self.now c.args.seat.now c.args.cell
    c.alone-claim.result c.requires.cell (own g at) (stands g at) c.alone-claim.ensures.going
    c.claims_make_steps.ensures.memory c.next-next.result (next g at)

-- the value that the access found is at most the number of consumers
pub stage_found-requires : goal.stage_found-requires
stage_found-requires g c =
    let at = (goal.at.stage_found-requires g c).After-next-next in
    let layout = c.args.self.now.layout in
    let can = can_find c.accesses_lengthen_one_part.ensures.cells c.args.self.now c.args.seat.now c.args.cell
    c.alone-claim.result c.requires.cell (own g at) (stands g at) c.alone-claim.ensures.going
    c.claims_make_steps.ensures.told c.next-next.result c.make_at-found.result c.args.word (next g at)
    c.make_at-found.ensures.comes in
    let few = found_alone layout c.args.seat.now.consumer c.requires.alone c.alone-claim.result c.next-next.result
    c.make_at-found.result (first g at) (next g at) can in
    let all = (c.layouts_are_sound.ensures.consumers layout).1 in
    omega (arith, few, all)

-- the access is a step of the seat, and what it found determines the claim's stage
pub returns : goal.returns
returns g c =
    let at = (goal.at.returns g c).After-next-next in
    let layout = c.args.self.now.layout in
    let seat = c.args.seat.now in
    let d = seat.consumer in
    let path : (xs : List ObjectTurn) → IsClaimIn layout c.alone-claim.result xs
    → CanClaimFind layout c.alone-claim.result c.next-next.result c.make_at-found.result
    → IsClaimIn layout c.after.new.self
    (step_of c.next-next.result.object c.next-next.result.op c.make_at-found.result c.args.word ∷ xs) =
    subst (λ (l : Layout).
    (xs : List ObjectTurn) → IsClaimIn l c.alone-claim.result xs
    → CanClaimFind l c.alone-claim.result c.next-next.result c.make_at-found.result
    → IsClaimIn l c.after.new.self
    (step_of c.next-next.result.object c.next-next.result.op c.make_at-found.result c.args.word ∷ xs)) (same g at)
    (λ xs of can. c.after.ensures.path xs c.next-next.result of
    (record { object = c.next-next.ensures.object; op = c.next-next.ensures.op }) can) in
    let step : IsSeatStep layout c.args.cell c.args.word c.alone-claim.result seat c.after.new.self
    c.make_at-found.new.seat =
    seat_step c.accesses_lengthen_one_part.ensures.cells c.args.self.now seat c.args.cell c.alone-claim.result
    c.requires.cell (own g at) (stands g at) c.alone-claim.ensures.going c.claims_make_steps.ensures.told
    c.make_at-found.new.seat c.args.word c.after.new.self c.next-next.result c.make_at-found.result c.requires.table
    (next g at) c.make_at-found.ensures.seat c.make_at-found.ensures.comes path in
    let can = can_find c.accesses_lengthen_one_part.ensures.cells c.args.self.now seat c.args.cell c.alone-claim.result
    c.requires.cell (own g at) (stands g at) c.alone-claim.ensures.going c.claims_make_steps.ensures.told
    c.next-next.result c.make_at-found.result c.args.word (next g at) c.make_at-found.ensures.comes in
    let end_own = c.after.ensures.consumer ∙ own g at in
    let alone = next_alone layout d c.requires.alone c.alone-claim.result c.next-next.result (first g at) (next g at) in
    let cs = claims_in layout c.args.self.now.cells in
    let comes = c.make_at-found.ensures.comes in
    let sound = c.layouts_are_sound.ensures.table layout in
    let used = c.objects_have_lawful_histories.ensures.lawful cs comes.0 c.args.cell 0 LastObject sound
    (c.older_histories_are_lawful.ensures cs (_ ∷ []) comes.0 comes.1) (ap (λ ks. slice_get ks 0) c.requires.alone) in
    let not_own : c.make_at-found.result ≢ d + 1 =
    λ e. holds_other cs c.args.cell d used.0 comes.0 used.1
    (λ b. c.objects_have_lawful_histories.ensures.own cs comes.0 c.args.cell b LastObject used.0 used.1)
    (sym (c.accesses_lengthen_one_part.ensures.cells d c.args.cell comes.0)
    ∙ ap (part_on d c.args.cell) comes.2 ∙ c.requires.fresh)
    (sym (found_held layout d c.requires.alone c.args.self.now.cells c.args.cell c.make_at-found.result c.args.word
    c.next-next.result comes.0 alone comes.1) ∙ e) in
    let other : (w : ℕ) → c.make_at-found.result ≡ w + 1 → c.stage_found.result ≡ stage_for d w =
    λ w e. c.stage_found.ensures.other w e ∙ lost_stage d w (λ i. not_own (e ∙ ap (λ n. n + 1) i)) in
    let ends = exchange_ends d c.make_at-found.result c.stage_found.result c.stage_found.ensures.empty other in
    let on_cell : IsClaimIn layout c.alone-claim.result [] =
    subst (λ (l : Layout). IsClaimIn l c.alone-claim.result []) (same g at) c.alone-claim.ensures.path in
    record {
      step = (
        c.alone-claim.result,
        c.after.new.self,
        first g at,
        c.alone-claim.ensures.going,
        own g at,
        end_own,
        step,
        stage_alone layout d c.requires.alone c.prefixes_have_one_stage.ensures sound c.next-next.result
            c.after.new.self c.make_at-found.result c.args.word c.stage_found.result alone end_own (path [] on_cell can)
            c.stage_found.ensures.empty other,
        stands_on c.accesses_lengthen_one_part.ensures.own_cell layout c.args.cell c.args.word c.alone-claim.result
            c.after.new.self seat c.make_at-found.new.seat step (stands g at),
      );
      ended = ends.0;
      decided = ends.1;
    }
