-- Proof of `Board::step`: adds one step of a consumer, with its random word.
use Rattle.std.proofs.Common.{◌≡◌, ◌≢◌, ◌↔◌, Bool, true, false, IsTrue, set, ap, sym, ◌∙◌, subst}
use Rattle.std.proofs.lemmas.List.{set-get_or}
use Rattle.std.proofs.lemmas.Bool.{false≢true}
use Rattle.mb_claim.specs.{Stage, Going, BoardState, IsBoard}
use Rattle.mb_claim.proofs.PlaySteps.{board_done, board_stepped, held}
use Rattle.mb_claim.proofs.board.Board.step.Goals as goal

-- if the test `is_going` of a claim's stage returned true, the claim is going
is_going : (b : Bool) (s r : Stage) → r ≡ s → (IsTrue b ↔ (r ≡ Going)) → b ≡ true → s ≡ Going
is_going b s r e test is = sym e ∙ test.0 is

-- if the test `is_going` of a claim's stage returned false, the claim has ended
is_ended : (b : Bool) (s r : Stage) → r ≡ s → (IsTrue b ↔ (r ≡ Going)) → b ≡ false → s ≢ Going
is_ended b s r e test is going = false≢true (sym is ∙ test.1 (e ∙ going))

pub returns-then-not-is_going : goal.returns-then-not-is_going
returns-then-not-is_going g c = record {
  board = λ steps old.
      let layout = c.args.layout.now in
      let claim = c.index_mut-claim.result.now in
      let found = c.index_mut-claim.ensures.value in
      let claims = c.self.inside.claims.items in
      let kept : set claims c.args.consumer claim ≡ claims =
      ap (set claims c.args.consumer) found ∙ set-get_or claims c.args.consumer claim in
      let ran = subst (λ (b : BoardState). IsBoard layout steps b) (sym c.self.view_is) old in
      rw (c.in_ok-push.ensures.items, kept)
      (board_done layout steps _ ran c.args.consumer c.args.word c.requires.consumer claim found
      (is_ended c.is_going.result claim.stage c.stage.result c.stage.ensures c.is_going.ensures
      c.if-not-is_going.true));
}

pub returns : goal.returns
returns g c = record {
  board = λ steps old.
      let layout = c.args.layout.now in
      let claim = c.index_mut-claim.result.now in
      let found = c.index_mut-claim.ensures.value in
      let made = c.step-made in
      let ran = subst (λ (b : BoardState). IsBoard layout steps b) (sym c.self.view_is) old in
      let going = is_going c.is_going.result claim.stage c.stage.result c.stage.ensures c.is_going.ensures
      c.if-not-is_going.false in
      rw (c.in_ok-push-2.ensures.items)
      (board_stepped layout steps _ ran c.args.consumer c.args.word c.requires.consumer claim found going
      made.new.claim made.ensures.consumer made.result.step made.ensures.word made.new.self
      (made.ensures.held 1 _ (held layout steps _ ran c.args.consumer c.args.word c.requires.consumer claim found)));
}
