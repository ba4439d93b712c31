-- Proof of `number_given`, which returns the number of an option.
use Rattle.std.proofs.Common.{◌∙◌}
use Rattle.std.specs.Str.Parse.{ParsesUnsigned, ExplainsUnsignedError, HasUnsignedDigitsIfOk}
use Rattle.clap.specs.Words.{found_of}
use Rattle.mb_program.proofs.NumbersGiven.{number_read}
use Rattle.mb_program.proofs.options.number_given.Goals as goal

pub returns : goal.returns
returns c =
    c.unwrap_or.ensures
    ∙ number_read _ (λ bs r. ParsesUnsigned 64 10 bs r × ExplainsUnsignedError 10 bs r
    × HasUnsignedDigitsIfOk bs r) (found_of c.args.given.now) c.args.name.now _
    (λ u x g. g.0) c.get_one.ensures.none c.get_one.ensures.value
