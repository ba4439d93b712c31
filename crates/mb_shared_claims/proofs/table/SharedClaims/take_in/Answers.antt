-- Proof of `SharedClaims::take_in`: takes a seat back.
use Rattle.std.proofs.Common.{sym, ap, ◌∙◌, subst, [], Some, length-set, arith}
use Rattle.mb_shared_claims.specs.Types.{Issuing}
use Rattle.mb_shared_claims.specs.ViewSteps.{Seated, roll_of, part_of, took_in, settled, WasOut}
use Rattle.mb_shared_claims.specs.Seats.{TableView, HubView, SeatView, ClaimTable}
use Rattle.mb_shared_claims.proofs.Moves.{take_asked, settle_asked}
use Rattle.mb_shared_claims.proofs.Closing.{count_out-set}
use Rattle.mb_shared_claims.proofs.table.SharedClaims.take_in.Goals as goal

-- hub and seat are of this table, and their views may be joined
pub join_seat-requires : goal.join_seat-requires
join_seat-requires g c =
    let id = sym (ap (λ (v : TableView). v.id) c.self.view_is) in
    let same = ap (λ (v : HubView). v.table.id) c.hub.view_is ∙ ap (λ (t : ClaimTable). t.id) c.requires.hub ∙ id in
    let theirs = ap (λ (v : SeatView). v.table.id) c.seat.view_is
    ∙ ap (λ (t : ClaimTable). t.id) c.requires.seat ∙ id in
    let wide = c.self.invariant.words in (
      same,
      theirs,
      ap (λ (z : Seated). z.1) c.seat.invariant.is,
      omega arith,
      take_asked _ _ _ _ _ _ _ _ _ _ (ap (λ (z : Seated). z.0) c.hub.invariant.is)
          (ap (λ (z : Seated). z.0) c.seat.invariant.is),
    )

-- the hub, whose view has the returned seat's part beside the roll, may put this part into the roll
pub load-requires : goal.load-requires
load-requires g c =
    let j = c.join_seat.ensures in
    let same = ap (λ (v : HubView). v.table.id) c.hub.view_is ∙ ap (λ (t : ClaimTable). t.id) c.requires.hub
    ∙ sym (ap (λ (v : TableView). v.id) c.self.view_is) in
    let wide = c.self.invariant.words in
    let taking = j.2 ∙ (λ i. (took_in (c.hub.invariant.is i).0 (c.seat.invariant.is i).0, (c.hub.invariant.is i).1)) in
    (j.0 ∙ same, omega arith, settle_asked _ _ _ _ _ _ _ _ taking)

-- the seat was out, so the hub counts at least one seat as out
pub overflow_sub-hub : goal.overflow_sub-hub
overflow_sub-hub g c =
    let j = c.join_seat.ensures in
    let taking = j.2 ∙ (λ i. (took_in (c.hub.invariant.is i).0 (c.seat.invariant.is i).0, (c.hub.invariant.is i).1)) in
    let out = subst (λ (z : Seated). WasOut z.0) taking c.load.ensures.2.0 in
    let less = count_out-set (roll_of c.hub.inside.seat.me.0) c.seat.inside.consumer
    (part_of c.seat.inside.seat.me.0) out
    in
    let is = c.hub.invariant.absent in
    omega arith

-- the hub's counts are those of the roll with the part put in
pub invariant_of-hub : goal.invariant_of-hub
invariant_of-hub g c =
    let j = c.join_seat.ensures in
    let hub = c.hub.invariant in
    let roll = roll_of c.hub.inside.seat.me.0 in
    let done = part_of c.seat.inside.seat.me.0 in
    let taking = j.2 ∙ (λ i. (took_in (hub.is i).0 (c.seat.invariant.is i).0, (hub.is i).1)) in
    let out = subst (λ (z : Seated). WasOut z.0) taking c.load.ensures.2.0 in
    let less = count_out-set roll c.seat.inside.consumer done out in
    let now = c.load.ensures.2.1 ∙ ap (λ (z : Seated). (settled z.0, z.1)) taking in
    let list = ap (λ (z : Seated). roll_of z.0) now in
    let given = hub.all in
    let is = hub.absent in
    record {
      size = hub.size;
      is = now ∙ sym (ap (λ (z : Seated). (Issuing hub.size (roll_of z.0), [])) now);
      all = rw list (given ∙ sym (length-set roll c.seat.inside.consumer (Some done)));
      absent = rw list (omega arith);
    }
