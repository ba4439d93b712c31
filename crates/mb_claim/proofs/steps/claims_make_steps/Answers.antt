-- Proof of `steps::claims_make_steps`: what a claim promises callers that make its accesses on words of their own.
use Rattle.std.proofs.Common.{sym, subst}
use Rattle.mb_deciding.specs.Vocabulary.{CanFind}
use Rattle.mb_claim.specs.{Op, part_on, quorums_of, claims_in, claim_access, step_of, object_history}
use Rattle.mb_claim.proofs.LayoutObjects.{quorums_lawful}
use Rattle.mb_claim.proofs.ClaimSteps.{on_object, stands_next}
use Rattle.mb_claim.proofs.OlderHistories.{older_lawful}
use Rattle.mb_claim.proofs.Turns.{told_find}
use Rattle.mb_claim.proofs.steps.claims_make_steps.Goals as goal

pub returns-clause-fits : goal.returns-clause-fits
returns-clause-fits c layout claim xs of going = on_object layout claim xs of going

pub returns-clause-word : goal.returns-clause-word
returns-clause-word c layout claim next xs of going is =
    c.places_show_prefixes.ensures.word (claims_in layout 0) claim.consumer next.object claim.place next.op xs
    (quorums_lawful layout) (stands_next layout claim next xs of going is) is.op

pub returns-clause-found : goal.returns-clause-found
returns-clause-found c layout cells k claim next words h memory cell of going is =
    c.words_follow_steps.ensures.found (claims_in layout cells) claim.consumer k next.object claim.place next.op words h
    (quorums_lawful layout) memory cell
    (of.known, stands_next layout claim next (part_on claim.consumer k h) of going is) is.op

pub returns-clause-stored : goal.returns-clause-stored
returns-clause-stored c layout claim next reg value seen e =
    subst (λ (op : Op). CanFind (quorums_of layout) claim.place op seen) (sym e) tt

pub returns-clause-told : goal.returns-clause-told
returns-clause-told c layout cells k claim next seen word h longer cell of going is =
    let cs = claims_in layout cells in
    let step = step_of next.object next.op seen word in
    let lawful = older_lawful cs (claim_access claim k step) h longer in
    told_find (quorums_of layout) claim.place next.op seen (object_history k next.object h) longer.memory.0
    (c.places_make_steps.ensures.found cs claim.consumer k next.object claim.place next.op h
    (quorums_lawful layout) lawful
    (of.known, stands_next layout claim next (part_on claim.consumer k h) of going is) is.op)

pub returns-clause-memory : goal.returns-clause-memory
returns-clause-memory c layout cells k claim next word words h memory cell of going is =
    c.words_follow_steps.ensures.memory (claims_in layout cells) claim.consumer k next.object claim.place next.op word
    words h (quorums_lawful layout) memory cell
    (of.known, stands_next layout claim next (part_on claim.consumer k h) of going is) is.op
