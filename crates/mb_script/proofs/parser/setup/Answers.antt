-- Proof of `setup`, which returns the setup that the first line says, or what is wrong with it.
use Rattle.std.proofs.Common.{rules, codes, ◌≡◌, sym, ◌∙◌}
use Rattle.std.proofs.lemmas.Slice.Eq.{bytes_eq-Decides}
use Rattle.std.proofs.lemmas.Bool.{not-false}
use Rattle.mb_script.proofs.Lined.{bad_setup}
use Rattle.mb_script.proofs.parser.setup.Goals as goal

pub returns-in_default : goal.returns-in_default
returns-in_default c =
    let is : c.split_word.result.0.now ≡ codes "setup" =
    (bytes_eq-Decides c.split_word.result.0.now (codes "setup")).0 (not-false _ (sym c.ne.ensures ∙ c.if-ne.false)) in
    (λ w. bad_setup c.args.line.now _ _ c.split_word.ensures.words is c.in_default.ensures, search rules, search rules)
