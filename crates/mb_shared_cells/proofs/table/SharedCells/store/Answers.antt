-- Proof of `SharedCells::store`: stores a value in a word with a lane's seat.
use Rattle.std.proofs.Common.{ap, arith, subst, sym, ◌∙◌}
use Rattle.mb_cells.specs.Vocabulary.{address_of}
use Rattle.mb_cells.specs.declared.access.PoolAct.TheVariants.{Store}
use Rattle.mb_cells.specs.declared.access.Process.TheVariants.{Producer}
use Rattle.mb_shared_cells.specs.Seats.{CanStore}
use Rattle.mb_shared_cells.proofs.AccessMoves.{AccessLaws, store_asked}
use Rattle.mb_shared_cells.proofs.NextAccesses.{pool_word, store_goes}
use Rattle.mb_shared_cells.proofs.table.SharedCells.store.Goals as goal

-- the word has its address in the table, and the store may follow whatever others did
pub store-requires : goal.store-requires
store-requires g c =
    let size = c.self.inside.size in
    let same = ap (λ v. v.size) c.self.view_is in
    let can : CanStore size c.args.word c.args.value c.args.seat.now.me =
    subst (λ k. CanStore k c.args.word c.args.value c.args.seat.now.me) (sym same) c.requires.can in
    let laws : AccessLaws = record {
      own = c.accesses_lengthen_one_part.ensures.own;
      others = c.accesses_lengthen_one_part.ensures.others;
      step = c.words_follow_steps.ensures.step;
      within = c.addresses_are_apart.ensures.within;
    } in
    let word = pool_word size c.args.word can.within in
    let low = laws.within size c.args.word word in
    let there = c.address-address.ensures ∙ ap (λ k. address_of k c.args.word) (sym same) in
    let wide = c.self.invariant.1 in (
      c.requires.table ∙ sym (ap (λ v. v.id) c.self.view_is),
      omega (arith, low, there, wide),
      store_asked laws _ size _ _ _ c.args.value _ (Producer can.lane) _ can.done c.args.word (λ n. Store n) _ _
          c.self.invariant.0 can.is there c.requires.picked.0 c.requires.picked.1 word
          (store_goes c.history_extends.ensures.producer size can.lane can.done c.args.word c.args.value
          c.ranges.value.fits can.path),
    )
