-- Proof of `laws::competitors_have_accesses`: by the report a consumer competed for an item exactly if it made an
-- access to its claim there.
use Rattle.mb_world.proofs.Competitors.{competes}
use Rattle.mb_world.proofs.FreshClaims.{fresh_goes}
use Rattle.mb_world.proofs.laws.competitors_have_accesses.Goals as goal

pub returns : goal.returns
returns c plan hs r d p j k sound is some ds ps here =
    competes plan hs (c.sound_histories_are_known.ensures plan hs sound)
    (fresh_goes plan.claims sound.table c.objects_keep_their_promises.ensures some) r is d p j k ds ps here
