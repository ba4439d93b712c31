-- Proof of `SharedCells::load`: loads a word with a reader's seat.
use Rattle.std.proofs.Common.{ap, arith, subst, sym, ◌∙◌}
use Rattle.mb_cells.specs.Vocabulary.{address_of}
use Rattle.mb_cells.specs.declared.access.PoolAct.TheVariants.{Load}
use Rattle.mb_cells.specs.declared.access.Process.TheVariants.{Reader}
use Rattle.mb_shared_cells.specs.Seats.{CanLoad}
use Rattle.mb_shared_cells.proofs.AccessMoves.{AccessLaws, access_asked}
use Rattle.mb_shared_cells.proofs.NextAccesses.{load_goes, pool_word}
use Rattle.mb_shared_cells.proofs.table.SharedCells.load.Goals as goal

-- the word has its address in the table, and the load may follow whatever others did
pub load-requires : goal.load-requires
load-requires g c =
    let size = c.self.inside.size in
    let same = ap (λ v. v.size) c.self.view_is in
    let can : CanLoad size c.args.word c.args.seat.now.me =
    subst (λ k. CanLoad k c.args.word c.args.seat.now.me) (sym same) c.requires.can in
    let laws : AccessLaws = record {
      own = c.accesses_lengthen_one_part.ensures.own;
      others = c.accesses_lengthen_one_part.ensures.others;
      step = c.words_follow_steps.ensures.step;
      within = c.addresses_are_apart.ensures.within;
    } in
    let word = pool_word size c.args.word can.within in
    let low = laws.within size c.args.word word in
    let there = c.requires.address ∙ ap (λ k. address_of k c.args.word) (sym same) in
    let wide = c.self.invariant.1 in (
      c.requires.table ∙ sym (ap (λ v. v.id) c.self.view_is),
      omega (arith, low, there, wide),
      access_asked laws _ size _ _ _ _ (Reader can.reader) can.known can.done c.args.word (λ n. Load n) (λ n. n) _ _
          c.self.invariant.0 can.is there c.requires.picked.0 c.requires.picked.1 word
          (load_goes c.history_extends.ensures.reader size can.reader can.done c.args.word can.may),
    )
