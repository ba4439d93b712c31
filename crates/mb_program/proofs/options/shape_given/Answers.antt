-- Proof of `shape_given`, which returns the shape that the option names.
use Rattle.clap.specs.Words.{found_of}
use Rattle.mb_program.proofs.ShapesGiven.{none_read, word_read}
use Rattle.mb_program.proofs.options.shape_given.Goals as goal

pub returns-in-Some : goal.returns-in-Some
returns-in-Some c = word_read (found_of c.args.given.now) _ c.in-Some.name _ _ c.get_str.ensures
    c.in-Some.is c.shape_of_word.ensures c.unwrap_or.ensures

pub returns-in-None : goal.returns-in-None
returns-in-None c = none_read (found_of c.args.given.now) _ c.get_str.ensures c.in-None.is
