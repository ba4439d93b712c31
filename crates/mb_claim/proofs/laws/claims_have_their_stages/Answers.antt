-- Proof of `laws::claims_have_their_stages`: if a claim has made its consumer's part of a history on a cell, the
-- consumer has the claim's stage there.
use Rattle.mb_claim.proofs.laws.claims_have_their_stages.Goals as goal

pub returns : goal.returns
returns c layout cells k claim h of = (of.known, of.prefix)
