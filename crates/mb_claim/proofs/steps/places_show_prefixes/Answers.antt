-- Proof of `steps::places_show_prefixes`: turns of a claim at a place are a prefix of its path, and the claim is going.
use Rattle.mb_claim.proofs.Standing.{stands_part, stands_on}
use Rattle.mb_claim.proofs.steps.places_show_prefixes.Goals as goal

pub returns-clause-prefix : goal.returns-clause-prefix
returns-clause-prefix c cs d object pc xs quorum p =
    stands_part cs.table cs.kinds d object pc xs p
    (c.places_are_unfinished.ensures.prefix cs.table p.kind p.input pc p.turns quorum p.place)
    (λ out path. c.places_are_unfinished.ensures.unfinished cs.table p.kind p.input pc p.turns out quorum p.place path)

pub returns-clause-word : goal.returns-clause-word
returns-clause-word c cs d object pc op xs quorum p is = (
  p.kind,
  stands_on cs.table cs.kinds d object pc xs p,
  c.places_are_unfinished.ensures.word cs.table p.kind p.input pc p.turns op quorum p.place is,
)
