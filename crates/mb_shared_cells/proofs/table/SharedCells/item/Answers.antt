-- Proof of `SharedCells::item`, which returns the item of cell `k`, a cell that this reader met, by one load.
use Rattle.std.proofs.Common.{ap, refl, subst, sym, ◌∙◌, ◌≡◌}
use Rattle.std.specs.Prelude.{Some, slice_get}
use Rattle.mb_cells.specs.Vocabulary.{Gave}
use Rattle.mb_cells.specs.declared.access.PoolAct.TheVariants.{Load}
use Rattle.mb_cells.specs.declared.access.Word.TheVariants.{Item}
use Rattle.mb_shared_cells.specs.Seats.{done_in, known_in, number_in, size_in}
use Rattle.mb_shared_cells.proofs.CallFacts.{KnownLaws, can_load, known_tells}
use Rattle.mb_shared_cells.proofs.SeatFacts.{reader_makes, reader_then}
use Rattle.mb_shared_cells.proofs.table.SharedCells.item.Goals as goal

-- the access that `ghosts-load` names is this load
pub load-requires-clause-picked : goal.load-requires-clause-picked
load-requires-clause-picked g c = (refl, refl)

-- the seat can load the item, since the reader has loaded a link to the cell
pub load-requires-clause-can : goal.load-requires-clause-can
load-requires-clause-can g c =
    let size = ap (λ v. v.table.size) c.seat.view_is ∙ ap (λ v. v.size) c.requires.table in
    can_load c.accesses_stay_within.ensures.load c.args.self.now.size c.seat.inside.seat.me (Item c.args.k)
    c.seat.invariant size (subst (λ v. Gave c.args.k v.part) (sym c.seat.view_is) c.requires.may)

-- the reader's part, longer by the load, is still that of a lawful history
pub invariant_of-seat : goal.invariant_of-seat
invariant_of-seat g c =
    reader_then c.accesses_lengthen_one_part.ensures.own c.seat.inside.seat.me c.load.new.seat.me (Item c.args.k)
    (Load c.load.result) c.seat.invariant c.load.ensures.makes

-- on a lane whose part the reader knows, the load finds what that lane's producer left
pub returns-clause-known : goal.returns-clause-known
returns-clause-known g c = λ p theirs at own.
    let me = c.seat.inside.seat.me in
    let laws : KnownLaws = record {
      older = c.history_extends.ensures.older;
      head = c.parts_tell_lanes.ensures.head;
      item = c.parts_tell_lanes.ensures.linked_item;
      link = c.parts_tell_lanes.ensures.linked_link;
      linked = c.parts_tell_lanes.ensures.linked;
    } in
    let made = reader_makes c.seat.inside.seat.table_id c.load.new.seat.table_id me c.load.new.seat.me (Item c.args.k)
    (Load c.load.result) c.seat.invariant c.load.ensures.makes c.load.ensures.table in
    known_tells laws (size_in me.0) (number_in me.0) (known_in me.0) (done_in me.0) (Item c.args.k) c.load.result made.0
    p theirs (subst (λ v. slice_get v.known p ≡ Some (Some theirs)) (sym c.seat.view_is) at) own
