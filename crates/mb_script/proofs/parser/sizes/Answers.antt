-- Proof of `sizes`, which returns the setup that the words after `setup` say, or what is wrong with them.
use Rattle.std.proofs.Common.{rules, ◌<◌, ℕ, subst, sym}
use Rattle.std.proofs.lemmas.List.{length-map}
use Rattle.mb_script.proofs.Lined.{short_setup}
use Rattle.mb_script.proofs.parser.sizes.Goals as goal

pub returns-in_default : goal.returns-in_default
returns-in_default c =
    let same = sym (length-map c.args.words.now (λ w. w.now)) in
    let few = subst (λ (n : ℕ). n < 5) same c.in_default.len_below in
    (λ w. short_setup _ few, search rules, search rules)
