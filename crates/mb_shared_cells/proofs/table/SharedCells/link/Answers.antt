-- Proof of `SharedCells::link`, which returns the link at the cursor, by one load.
use Rattle.std.proofs.Common.{ap, inl, refl, subst, sym, ◌<◌, ◌∙◌, ◌≡◌}
use Rattle.std.specs.Prelude.{Some, slice_get}
use Rattle.mb_cells.specs.Vocabulary.{Gave, look_of, word_of}
use Rattle.mb_cells.specs.declared.access.PoolAct.TheVariants.{Load}
use Rattle.mb_cells.specs.declared.access.Word.{Word}
use Rattle.mb_cells.specs.declared.size.PoolSize.{PoolSize}
use Rattle.mb_shared_cells.specs.Seats.{done_in, known_in, number_in, size_in}
use Rattle.mb_shared_cells.specs.Views.{MakesAccess}
use Rattle.mb_shared_cells.proofs.CallFacts.{CellLaws, KnownLaws, cell_within, gift, known_tells}
use Rattle.mb_shared_cells.proofs.SeatFacts.{reader_makes, reader_then}
use Rattle.mb_shared_cells.proofs.table.SharedCells.link.Goals as goal

-- the access that `ghosts-load` names is this load
pub load-requires-clause-picked : goal.load-requires-clause-picked
load-requires-clause-picked g c = (refl, refl)

-- the reader's part, longer by the load, is still that of a lawful history
pub invariant_of-seat : goal.invariant_of-seat
invariant_of-seat g c =
    reader_then c.accesses_lengthen_one_part.ensures.own c.seat.inside.seat.me c.load.new.seat.me c.word.result
    (Load c.load.result) c.seat.invariant c.load.ensures.makes

-- on a lane whose part the reader knows, the load finds what the lane's producer left. Here and below `made` is the
-- access as callers see it
pub returns-clause-known : goal.returns-clause-known
returns-clause-known g c = λ p theirs at own.
    let me = c.seat.inside.seat.me in
    let laws : KnownLaws = record {
      older = c.history_extends.ensures.older;
      head = c.parts_tell_lanes.ensures.head;
      item = c.parts_tell_lanes.ensures.linked_item;
      link = c.parts_tell_lanes.ensures.linked_link;
      linked = c.parts_tell_lanes.ensures.linked;
    } in
    let made = reader_makes c.seat.inside.seat.table_id c.load.new.seat.table_id me c.load.new.seat.me
    (word_of c.args.cursor) (Load c.load.result) c.seat.invariant
    (subst (λ (w : Word). MakesAccess w (Load c.load.result) me c.load.new.seat.me) c.word.ensures
    c.load.ensures.makes) c.load.ensures.table in
    ap look_of
    (known_tells laws (size_in me.0) (number_in me.0) (known_in me.0) (done_in me.0) (word_of c.args.cursor)
    c.load.result made.0 p theirs (subst (λ v. slice_get v.known p ≡ Some (Some theirs)) (sym c.seat.view_is) at) own)

-- the cell found is one of the table's, by the laws of `mb_cells`
pub returns-clause-within : goal.returns-clause-within
returns-clause-within g c = λ k e.
    let me = c.seat.inside.seat.me in
    let v = c.load.result in
    let size : size_in me.0 ≡ c.args.self.now.size =
    ap (λ v. v.table.size) c.seat.view_is ∙ ap (λ v. v.size) c.requires.table in
    let made = reader_makes c.seat.inside.seat.table_id c.load.new.seat.table_id me c.load.new.seat.me
    (word_of c.args.cursor) (Load c.load.result) c.seat.invariant
    (subst (λ (w : Word). MakesAccess w (Load c.load.result) me c.load.new.seat.me) c.word.ensures
    c.load.ensures.makes) c.load.ensures.table in
    let laws : CellLaws = record {
      own = c.accesses_lengthen_one_part.ensures.own;
      put = c.loads_tell_what_stays.ensures.cell_put;
      within = c.cells_stand_once.ensures.within;
    } in
    let is = c.looks_tell_links.ensures.cell v k e in
    subst (λ (z : PoolSize). k < z.cells) size
    (cell_within laws (size_in me.0) (number_in me.0) (known_in me.0) (done_in me.0) c.args.cursor v k made.0 is.0 is.1)

-- a link that leads to cell k is k + 1, which gives the cell
pub returns-clause-gave : goal.returns-clause-gave
returns-clause-gave g c = λ k e.
    let me = c.seat.inside.seat.me in
    let v = c.load.result in
    let made = reader_makes c.seat.inside.seat.table_id c.load.new.seat.table_id me c.load.new.seat.me
    (word_of c.args.cursor) (Load c.load.result) c.seat.invariant
    (subst (λ (w : Word). MakesAccess w (Load c.load.result) me c.load.new.seat.me) c.word.ensures
    c.load.ensures.makes) c.load.ensures.table in
    let is = c.looks_tell_links.ensures.cell v k e in
    subst (λ z. Gave k z.part) (sym made.1) (inl (gift c.args.cursor v k is.0 is.1))
