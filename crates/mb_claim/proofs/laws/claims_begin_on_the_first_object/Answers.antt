-- Proof of `laws::claims_begin_on_the_first_object`: the claim of a consumer that has made no access goes on, is not
-- begun, and stands on the first object.
use Rattle.std.proofs.Common.{◌∙◌}
use Rattle.mb_deciding.specs.Vocabulary.{object_of}
use Rattle.mb_claim.specs.{Layout, quorums_of}
use Rattle.mb_claim.proofs.KindLaws.{AreDeciding}
use Rattle.mb_claim.proofs.FirstAccess.{fresh_going, fresh_begun, fresh_next, fresh_object}
use Rattle.mb_claim.proofs.LayoutObjects.{quorums_lawful}
use Rattle.mb_claim.proofs.laws.claims_begin_on_the_first_object.Goals as goal

-- the objects over the layout's table keep the laws of deciding objects
law : goal.After-objects_keep_their_promises → (layout : Layout) → AreDeciding (quorums_of layout)
law c layout kind inputs =
    c.objects_keep_their_promises.ensures (object_of (quorums_of layout) kind inputs) (quorums_lawful layout)

pub returns-clause-fresh : goal.returns-clause-fresh
returns-clause-fresh c layout claim of = (
  fresh_going layout (law c layout) claim of,
  fresh_begun layout
      (law c layout) claim of,
)

pub returns-clause-object : goal.returns-clause-object
returns-clause-object c layout claim next of is = is.object ∙ fresh_object layout (law c layout) claim of

pub returns-clause-next : goal.returns-clause-next
returns-clause-next c layout claim next some slow of is =
    (fresh_next layout (law c layout) claim of some slow next.op is.op).1

pub returns-clause-found : goal.returns-clause-found
returns-clause-found c layout claim next seen some slow of is can = (fresh_next layout
    (law c layout) claim of some slow next.op is.op).2 seen can
