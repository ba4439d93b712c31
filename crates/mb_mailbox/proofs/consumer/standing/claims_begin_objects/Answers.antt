use Rattle.std.proofs.Common.{[]}
use Rattle.mb_claim.proofs.LayoutObjects.{quorums_lawful}
use Rattle.mb_claim.specs.Vocabulary.{claims_in}
use Rattle.mb_mailbox.proofs.Beginnings.{new_claim, standing_object, standing_value}
use Rattle.mb_mailbox.proofs.consumer.standing.claims_begin_objects.Goals as goal

pub returns-clause-new : goal.returns-clause-new
returns-clause-new c layout d low =
    new_claim layout d low
    (λ stands. c.places_show_prefixes.ensures.prefix (claims_in layout 0) d 0 _ [] (quorums_lawful layout) stands)

pub returns-clause-within : goal.returns-clause-within
returns-clause-within c layout d o v claim xs is path = (
  standing_object layout d o v claim is,
  standing_value layout d o v claim is (c.claims_make_steps.ensures.fits layout claim xs path),
)
