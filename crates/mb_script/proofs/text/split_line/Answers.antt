-- Proof of `split_line`, which returns the first line and the text after it, or `None` if there is no line.
use Rattle.std.proofs.Common.{lit<, arith, tests}
use Rattle.mb_script.proofs.Lines.{line_taken}
use Rattle.mb_script.proofs.text.split_line.Goals as goal

pub returns-clause-lines : goal.returns-clause-lines
returns-clause-lines c =
    let cut = c.split_once.ensures.byte (lit< tt) (λ w o f. f) in
    rw c.unwrap_or.ensures (line_taken c.args.text.now c.split_once.result _ cut (grind (arith, tests)) (cc) (cc))
