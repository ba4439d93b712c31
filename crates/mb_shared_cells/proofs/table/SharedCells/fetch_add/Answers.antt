-- Proof of `SharedCells::fetch_add`: adds one to the counter for an item, with a lane's seat.
use Rattle.std.proofs.Common.{ap, arith, refl, subst, sym, ◌∙◌}
use Rattle.mb_cells.specs.declared.access.PoolAct.TheVariants.{FetchAdd}
use Rattle.mb_cells.specs.declared.access.Process.TheVariants.{Producer}
use Rattle.mb_cells.specs.declared.access.Word.TheVariants.{Counter}
use Rattle.mb_shared_cells.specs.Seats.{CanFetch}
use Rattle.mb_shared_cells.proofs.AccessMoves.{AccessLaws, access_asked}
use Rattle.mb_shared_cells.proofs.NextAccesses.{fetch_goes}
use Rattle.mb_shared_cells.proofs.table.SharedCells.fetch_add.Goals as goal

-- the counter has address 0, and the fetch-add may follow whatever others did
pub fetch_add-requires : goal.fetch_add-requires
fetch_add-requires g c =
    let size = c.self.inside.size in
    let same = ap (λ v. v.size) c.self.view_is in
    let can : CanFetch size c.args.item c.args.seat.now.me =
    subst (λ k. CanFetch k c.args.item c.args.seat.now.me) (sym same) c.requires.can in
    let laws : AccessLaws = record {
      own = c.accesses_lengthen_one_part.ensures.own;
      others = c.accesses_lengthen_one_part.ensures.others;
      step = c.words_follow_steps.ensures.step;
      within = c.addresses_are_apart.ensures.within;
    } in
    let wide = c.self.invariant.1 in (
      c.requires.table ∙ sym (ap (λ v. v.id) c.self.view_is),
      omega (arith, wide),
      access_asked laws _ size _ _ _ _ (Producer can.lane) _ can.done Counter (λ n. FetchAdd c.args.item n) _ _ _
          c.self.invariant.0 can.is refl c.requires.picked.0 c.requires.picked.1 tt
          (fetch_goes c.history_extends.ensures.producer c.numbers_are_issued_once.ensures.bound
          size can.lane can.done
          c.args.item c.self.invariant.3 c.self.invariant.4 c.ranges.item.fits can.path),
    )
