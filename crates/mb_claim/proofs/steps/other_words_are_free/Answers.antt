-- Proof of `steps::other_words_are_free`: a word after those of the cells may hold anything.
use Rattle.mb_claim.proofs.States.{memory_beyond}
use Rattle.mb_claim.proofs.steps.other_words_are_free.Goals as goal

pub returns : goal.returns
returns c = memory_beyond
