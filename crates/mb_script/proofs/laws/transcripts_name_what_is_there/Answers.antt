-- Proof of `laws::transcripts_name_what_is_there`: no answer in a transcript says that a lane or consumer is not there.
use Rattle.mb_script.proofs.KnownAnswers.{answers_known}
use Rattle.mb_script.proofs.laws.transcripts_name_what_is_there.Goals as goal

pub returns : goal.returns
returns c = answers_known c.named_tables_are_lawful.ensures.values
