-- Proof of `SharedClaims::make_at`: makes an access of a claim that may come next, at the address of its word.
use Rattle.std.proofs.Common.{[], sym, ap, ◌∙◌, ◌==◌}
use prog.Atomic.{either}
use Rattle.mb_deciding.specs.Vocabulary.{reg_of}
use Rattle.mb_claim.specs.Vocabulary.{quorums_of, kinds_of, after_op}
use Rattle.mb_shared_claims.specs.Types.{ClaimAccess, Op, Standing}
use Rattle.mb_shared_claims.specs.Seats.{TableView, SeatView, ClaimTable}
use Rattle.mb_shared_claims.proofs.Accesses.{load_small, exchange_small, exchange_after, store_small, store_same, access_may, seat_after}
use Rattle.mb_shared_claims.proofs.table.SharedClaims.make_at.Goals as goal

-- the load may be made: seat and table have one identity, and `GoesOn` holds of the access at its address
pub load-requires : goal.load-requires
load-requires g c =
    let t = c.args.self.now in
    let seat = c.args.seat.now in
    let next = c.args.next in
    let op = c.in-Load.is in
    let same = ap (λ (v : SeatView). v.table.id) c.seat.view_is ∙ ap (λ (z : ClaimTable). z.id) c.requires.table
    ∙ sym (ap (λ (v : TableView). v.id) c.self.view_is) in
    let may = access_may c.accesses_lengthen_one_part.ensures.own c.accesses_lengthen_one_part.ensures.others t seat _ _
    c.seat.invariant.size _ _ _ _ c.args.address c.args.cell c.args.word next (λ n. n) g.W.AccessSpec.access
    c.self.invariant.told
    (ap (λ (v : TableView). record { layout = v.layout; cells = v.cells }) c.self.view_is) c.self.invariant.words
    (c.seat.invariant.is
    ∙ ap (λ (v : SeatView). (Standing c.seat.invariant.size v.consumer v.part, [])) c.seat.view_is)
    c.requires.address
    (c.addresses_are_apart.ensures.within (quorums_of t.layout).registers (kinds_of t.layout) t.cells c.args.cell
    next.object (reg_of next.op) c.requires.word c.requires.cell)
    c.requires.next (λ n. sym (ap (λ (o : Op). after_op o n) op)) c.requires.access
    (λ n small. load_small next.object c.args.word n next.op _ op small c.ranges.word.fits) in
    (same, may.0, may.1)

-- the exchange may be made: seat and table have one identity, and `GoesOn` holds of the access at its address
pub compare_exchange-requires : goal.compare_exchange-requires
compare_exchange-requires g c =
    let t = c.args.self.now in
    let seat = c.args.seat.now in
    let next = c.args.next in
    let op = c.in-Exchange.is in
    let value = c.in-Exchange.value in
    let same = ap (λ (v : SeatView). v.table.id) c.seat.view_is ∙ ap (λ (z : ClaimTable). z.id) c.requires.table
    ∙ sym (ap (λ (v : TableView). v.id) c.self.view_is) in
    let may = access_may c.accesses_lengthen_one_part.ensures.own c.accesses_lengthen_one_part.ensures.others t seat _ _
    c.seat.invariant.size _ _ _ _ c.args.address c.args.cell c.args.word next
    (λ n. either (n == 0) value n) g.W.AccessSpec.access
    c.self.invariant.told
    (ap (λ (v : TableView). record { layout = v.layout; cells = v.cells }) c.self.view_is) c.self.invariant.words
    (c.seat.invariant.is
    ∙ ap (λ (v : SeatView). (Standing c.seat.invariant.size v.consumer v.part, [])) c.seat.view_is)
    c.requires.address
    (c.addresses_are_apart.ensures.within (quorums_of t.layout).registers (kinds_of t.layout) t.cells c.args.cell
    next.object (reg_of next.op) c.requires.word c.requires.cell)
    c.requires.next (λ n. exchange_after value n next.op _ op) c.requires.access
    (λ n small. exchange_small next.object c.args.word n value next.op _ op
    c.is_word-in-Exchange.ensures small c.ranges.word.fits) in
    (same, may.0, may.1)

-- the store may be made: seat and table have one identity, and `GoesOn` holds of the access at its address
pub store-requires : goal.store-requires
store-requires g c =
    let t = c.args.self.now in
    let seat = c.args.seat.now in
    let next = c.args.next in
    let op = c.in-Store.is in
    let value = c.in-Store.value in
    let same = ap (λ (v : SeatView). v.table.id) c.seat.view_is ∙ ap (λ (z : ClaimTable). z.id) c.requires.table
    ∙ sym (ap (λ (v : TableView). v.id) c.self.view_is) in
    let may = access_may c.accesses_lengthen_one_part.ensures.own c.accesses_lengthen_one_part.ensures.others t seat _ _
    c.seat.invariant.size _ _ _ _ c.args.address c.args.cell c.args.word next (λ _. value)
    (λ _. g.W.AccessSpec.access value) c.self.invariant.told
    (ap (λ (v : TableView). record { layout = v.layout; cells = v.cells }) c.self.view_is) c.self.invariant.words
    (c.seat.invariant.is
    ∙ ap (λ (v : SeatView). (Standing c.seat.invariant.size v.consumer v.part, [])) c.seat.view_is)
    c.requires.address
    (c.addresses_are_apart.ensures.within (quorums_of t.layout).registers (kinds_of t.layout) t.cells c.args.cell
    next.object (reg_of next.op) c.requires.word c.requires.cell)
    c.requires.next (λ n. sym (ap (λ (o : Op). after_op o n) op))
    (λ n. c.requires.access value ∙ store_same seat.consumer c.args.cell c.args.word value n value next _ op)
    (λ n small. store_small next.object c.args.word n value next.op _ op c.is_word.ensures c.ranges.word.fits) in
    (same, may.0, may.1)

-- after the load, the store or the exchange the seat has its invariant
pub invariant_of-seat : goal.invariant_of-seat
invariant_of-seat g c =
    seat_after c.accesses_lengthen_one_part.ensures.own c.seat.inside.consumer (g.W.AccessSpec.access c.load.result)
    c.seat.inside.seat.me _ c.seat.invariant
    (ap (λ (a : ClaimAccess). a.consumer) (c.requires.access c.load.result)
    ∙ sym (ap (λ (v : SeatView). v.consumer) c.seat.view_is)) c.load.ensures.2

pub invariant_of-seat-in-Store : goal.invariant_of-seat-in-Store
invariant_of-seat-in-Store g c =
    seat_after c.accesses_lengthen_one_part.ensures.own c.seat.inside.consumer (g.W.AccessSpec.access c.in-Store.value)
    c.seat.inside.seat.me _ c.seat.invariant
    (ap (λ (a : ClaimAccess). a.consumer) (c.requires.access c.in-Store.value)
    ∙ sym (ap (λ (v : SeatView). v.consumer) c.seat.view_is)) c.store.ensures.2

pub invariant_of-seat-in-Exchange : goal.invariant_of-seat-in-Exchange
invariant_of-seat-in-Exchange g c =
    seat_after c.accesses_lengthen_one_part.ensures.own c.seat.inside.consumer
    (g.W.AccessSpec.access c.compare_exchange.result)
    c.seat.inside.seat.me _ c.seat.invariant
    (ap (λ (a : ClaimAccess). a.consumer) (c.requires.access c.compare_exchange.result)
    ∙ sym (ap (λ (v : SeatView). v.consumer) c.seat.view_is)) c.compare_exchange.ensures.2
