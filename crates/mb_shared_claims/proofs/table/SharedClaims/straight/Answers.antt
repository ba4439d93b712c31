-- Proof of `SharedClaims::straight`: makes the accesses of a new claim of the seat's consumer, object by object.
use Rattle.std.proofs.Common.{◌≡◌, ◌<◌, ◌+◌, ◌*◌, ◌^◌, ℕ, ap, sym, ◌∙◌, subst, arith}
use Rattle.mb_deciding.specs.Vocabulary.{reg_of}
use Rattle.mb_claim.specs.Vocabulary.{IsWordInLayout, IsClaimIn, HasEnd, IsStanding, cell_words, claims_in, consumer_count, part_on, site_of}
use Rattle.mb_claim.proofs.Straight.{first_claim, first_owner, first_path}
use Rattle.mb_shared_claims.specs.Types.{Claim, Layout}
use Rattle.mb_shared_claims.specs.Seats.{SeatView, TableView, name_of}
use Rattle.mb_shared_claims.specs.SeatSteps.{MayComeNext}
use Rattle.mb_shared_claims.specs.ManySeatSteps.{AreSeatSteps}
use Rattle.mb_shared_claims.proofs.Running.{IsMade, arrives_in, few_steps_in, may_go_on_in, same_cell, same_frame, same_rng, same_seat, same_table}
use Rattle.mb_shared_claims.proofs.Sites.{seat_known}
use Rattle.mb_shared_claims.proofs.table.SharedClaims.straight.{Given.Over, Goals.After-begin}
use Rattle.mb_shared_claims.proofs.table.SharedClaims.straight.Goals as goal

-- what holds before the accesses
module _ (g : Over) (c : After-begin g) where
  -- the seat's consumer is one of the layout's
  known : c.args.seat.now.consumer < consumer_count c.args.self.now.layout
  known = subst (λ k. k < consumer_count c.args.self.now.layout) (ap (λ (v : SeatView). v.consumer) c.seat.view_is)
      (seat_known c.seat.inside.seat.me c.seat.inside.consumer c.seat.inside.seat.table_id c.args.self.now
      c.seat.invariant (ap (λ (v : SeatView). v.table) c.seat.view_is ∙ c.requires.table))

  -- a claim before its first access has made all that the consumer did on the cell, which is nothing
  begun : (start : Claim) → IsStanding c.args.self.now.layout c.args.seat.now.consumer 0 c.args.seat.now.consumer start
      → IsClaimIn c.args.self.now.layout start (part_on c.args.seat.now.consumer c.args.cell c.args.seat.now.part)
  begun start first = subst (IsClaimIn c.args.self.now.layout start) (sym c.requires.fresh)
      (first_path c.places_show_prefixes.ensures.prefix c.args.self.now.layout c.args.seat.now.consumer start known
      first)

-- In this proof and the next the lemmas take two facts right after `start`. A draw changes only the random word and its
-- source. An access changes only the seat: its part is longer by that access. In the next proof `seat` and `rng` say
-- that the caller gets back the seat and the source as the accesses left them
pub straight-requires-clause-may : goal.straight-requires-clause-may
straight-requires-clause-may g c start stands n word at before mid next steps going drawn is =
    let here = (goal.at.straight-requires-clause-may g c).After-begin in
    let layout : c.self.inside.size.layout ≡ c.args.self.now.layout = ap (λ (v : TableView). v.layout) c.self.view_is in
    let own : c.seat.inside.consumer ≡ c.args.seat.now.consumer = ap (λ (v : SeatView). v.consumer) c.seat.view_is in
    let first : IsStanding c.args.self.now.layout c.args.seat.now.consumer 0 c.args.seat.now.consumer start =
    subst (λ (z : Layout × ℕ). IsStanding z.0 z.1 0 z.1 start) (λ i. (layout i, own i)) stands in
    let can = may_go_on_in c.args.self.now c.args.cell (λ m. m.seat.now) (λ m. g.R.Rng.stream m.rng.now) (λ m. m.word)
    (λ m. record {
      table = m.table.now;
      cell = m.cell;
      seat = m.seat.ghost_name;
      rng = m.rng.ghost_name;
    }) _ _ _ start
    (λ m after w d. (d.0, d.1, d.2, same_frame d.3 d.4 d.5 d.6))
    (λ m after op seen same made. (
      subst (λ (v : TableView). IsMade v c.args.cell op seen m.word m.seat.now after.seat.now) (same_table same)
          (subst (λ k. IsMade m.table.now k op seen m.word m.seat.now after.seat.now)
          (same_cell same) (made.0, made.1)),
      made.2,
      same_frame made.3 made.4 made.5 made.6,
    ))
    c.accesses_lengthen_one_part.ensures.cells c.accesses_lengthen_one_part.ensures.own_cell
    c.claims_make_steps.ensures.told
    c.requires.cell c.requires.table
    (first_owner c.args.self.now.layout c.args.seat.now.consumer start first)
    (begun g here start first) _ layout
    c.claims_make_steps.ensures.memory c.claims_make_steps.ensures.word n word at before mid next
    steps going drawn is in
    let table : c.args.self.now ≡ mid.table.now = sym (same_table can.1) in
    let cell : c.args.cell ≡ mid.cell = sym (same_cell can.1) in
    let there : c.self.inside.size.layout ≡ mid.table.now.layout = layout ∙ ap (λ (v : TableView). v.layout) table in
    let begin : c.begin.result ≡ mid.cell * cell_words mid.table.now.layout =
    c.begin.ensures.exact ∙ (λ i. cell i * cell_words (there i)) in (
      can.0.0 ∙ ap name_of table,
      subst (λ k. k < mid.table.now.cells) cell
          (subst (λ (v : TableView). c.args.cell < v.cells) table can.0.1),
      subst (λ (v : TableView). IsWordInLayout v.layout next.object (reg_of next.op)) table can.0.2,
      subst (λ (v : TableView). MayComeNext (claims_in v.layout v.cells) mid.seat.now.consumer
          mid.cell mid.seat.now.part next) table
          (subst (λ k. MayComeNext (claims_in c.args.self.now.layout c.args.self.now.cells)
          mid.seat.now.consumer k mid.seat.now.part next) cell can.0.3),
      λ i. site_of (there i) (begin i) next.object,
      subst (λ (z : ℕ × Layout). z.0 + cell_words z.1 < 2 ^ 64) (λ i. (begin i, there i)) c.begin.ensures.room,
    )

-- the accesses that were made are steps of the seat, and no more than the layout allows
pub returns-clause-steps : goal.returns-clause-steps
returns-clause-steps g c =
    let at = (goal.at.returns-clause-steps g c).After-begin in
    let new = first_claim c.args.self.now.layout c.args.seat.now.consumer in
    let start = new.0 in
    let first = new.1 in
    let layout : c.self.inside.size.layout ≡ c.args.self.now.layout = ap (λ (v : TableView). v.layout) c.self.view_is in
    let own : c.seat.inside.consumer ≡ c.args.seat.now.consumer = ap (λ (v : SeatView). v.consumer) c.seat.view_is in
    let r = c.straight.ensures.steps start
    (subst (λ (z : Layout × ℕ). IsStanding z.0 z.1 0 z.1 start) (λ i. (sym layout i, sym own i)) first) in
    let p = arrives_in c.args.self.now c.args.cell (λ m. m.seat.now) (λ m. g.R.Rng.stream m.rng.now) (λ m. m.word)
    (λ m. record {
      table = m.table.now;
      cell = m.cell;
      seat = m.seat.ghost_name;
      rng = m.rng.ghost_name;
    }) _ _ _ start
    (λ m after w d. (d.0, d.1, d.2, same_frame d.3 d.4 d.5 d.6))
    (λ m after op seen same made. (
      subst (λ (v : TableView). IsMade v c.args.cell op seen m.word m.seat.now after.seat.now) (same_table same)
          (subst (λ k. IsMade m.table.now k op seen m.word m.seat.now after.seat.now)
          (same_cell same) (made.0, made.1)),
      made.2,
      same_frame made.3 made.4 made.5 made.6,
    ))
    c.accesses_lengthen_one_part.ensures.cells c.accesses_lengthen_one_part.ensures.own_cell
    c.claims_make_steps.ensures.told
    c.requires.cell c.requires.table
    (first_owner c.args.self.now.layout c.args.seat.now.consumer start first)
    (begun g at start first) _ layout r.0 r.1 c.straight.new.memory r.3 in
    let few = few_steps_in c.args.self.now c.args.cell (λ m. m.seat.now) (λ m. g.R.Rng.stream m.rng.now) (λ m. m.word)
    (λ m. record {
      table = m.table.now;
      cell = m.cell;
      seat = m.seat.ghost_name;
      rng = m.rng.ghost_name;
    }) _ _ _ start
    (λ m after w d. (d.0, d.1, d.2, same_frame d.3 d.4 d.5 d.6))
    (λ m after op seen same made. (
      subst (λ (v : TableView). IsMade v c.args.cell op seen m.word m.seat.now after.seat.now) (same_table same)
          (subst (λ k. IsMade m.table.now k op seen m.word m.seat.now after.seat.now)
          (same_cell same) (made.0, made.1)),
      made.2,
      same_frame made.3 made.4 made.5 made.6,
    ))
    c.accesses_lengthen_one_part.ensures.cells c.accesses_lengthen_one_part.ensures.own_cell
    c.claims_make_steps.ensures.told
    c.requires.cell c.requires.table
    (first_owner c.args.self.now.layout c.args.seat.now.consumer start first)
    (begun g at start first) _ layout
    (λ h d k. c.claims_are_bounded.ensures.layouts c.args.self.now.layout c.args.self.now.cells h d k)
    r.0 r.1 c.straight.new.memory r.3 in
    let seat : c.seat-1.given.0 ≡ c.straight.new.memory.seat.now = c.seat-1.given.1 (sym (same_seat p.keeps)) in
    let rng : c.rng-1.given.0 ≡ c.straight.new.memory.rng.now = c.rng-1.given.1 (sym (same_rng p.keeps)) in (
      start,
      first,
      r.0,
      r.1,
      omega (arith, r.2),
      subst (λ v. AreSeatSteps c.args.self.now.layout c.args.cell start c.args.seat.now
          (g.R.Rng.stream c.args.rng.now) r.0 r.1 v (g.R.Rng.stream c.rng-1.given.0)) (sym seat)
          (subst (λ s. AreSeatSteps c.args.self.now.layout c.args.cell start c.args.seat.now
          (g.R.Rng.stream c.args.rng.now) r.0 r.1 c.straight.new.memory.seat.now (g.R.Rng.stream s)) (sym rng) p.steps),
      subst (λ (z : Layout × ℕ). HasEnd z.0 z.1 c.straight.result r.1) (λ i. (layout i, own i)) r.4,
      subst (λ (v : SeatView). IsClaimIn c.args.self.now.layout r.1 (part_on v.consumer c.args.cell v.part))
          (sym seat) p.rests,
      few,
    )

-- a claim over a layout with a last object is not undecided
pub returns-clause-decided : goal.returns-clause-decided
returns-clause-decided g c has undecided =
    let r = returns-clause-steps g c in
    c.last_objects_decide_claims.ensures.layouts c.args.self.now.layout r.3
    (part_on c.seat-1.given.0.consumer c.args.cell c.seat-1.given.0.part) has r.7 (r.6.0 ∙ undecided)
