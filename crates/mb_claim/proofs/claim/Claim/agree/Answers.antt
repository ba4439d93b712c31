-- Proof of `Claim::agree`: goes through the object, if that is a conciliator.
use Rattle.std.proofs.Common.{◌≡◌, ◌+◌, suc, refl, subst, Some, slice_get, arith}
use Rattle.std.proofs.lemmas.Option.{slice_get_within}
use Rattle.mb_claim.specs.{Conciliator, Ratifier, quorums_of, kinds_of, claims_in}
use Rattle.mb_claim.proofs.ClaimSteps.{PlacesMakeParts}
use Rattle.mb_claim.proofs.LayoutObjects.{quorums_lawful}
use Rattle.mb_claim.proofs.PairRows.{next_of_conciliator, last_attempt_few}
use Rattle.mb_claim.proofs.Straight.{site_may, led_on}
use Rattle.mb_claim.proofs.claim.Claim.agree.Goals as goal

pub through_conciliator-at-requires-clause-room : goal.through_conciliator-at-requires-clause-room
through_conciliator-at-requires-clause-room g c =
    let layout = c.args.layout.now in
    let few = last_attempt_few layout c.args.at.now.object c.in-Conciliator.s c.in-Conciliator.ensures.exact in
    omega (arith, few, c.requires.room)

pub through_conciliator-at-requires-clause-may : goal.through_conciliator-at-requires-clause-may
through_conciliator-at-requires-clause-may g c =
    let layout = c.args.layout.now in
    let parts : PlacesMakeParts (quorums_of layout) (kinds_of layout) =
    λ d object pc ys. c.places_show_prefixes.ensures.prefix (claims_in layout 0) d object pc ys
    (quorums_lawful layout) in
    site_may layout parts g.M.Drawing.draws g.M.Memory.makes c.args.consumer c.args.at.now.object c.args.at.now.value
    (Conciliator c.in-Conciliator.s) c.in-Conciliator.ensures.exact c.args.memory.now c.args.begin c.site-site.result
    c.site-site.ensures g.M.Drawing.can_make_at c.requires.may

pub returns-in-Conciliator-clause-few : goal.returns-in-Conciliator-clause-few
returns-in-Conciliator-clause-few g c =
    let last = last_attempt_few c.args.layout.now c.args.at.now.object c.in-Conciliator.s
    c.in-Conciliator.ensures.exact in
    omega (arith, last, c.through_conciliator-at.ensures.few)

-- after the conciliator a ratifier comes next
next_is : goal.returns-in-Conciliator-clause-next
next_is g c t =
    let o = c.args.at.now.object in
    let m : suc o ≡ o + 1 = omega arith in
    subst (λ k. slice_get (kinds_of c.args.layout.now) k ≡ Some Ratifier) m
    (next_of_conciliator c.args.layout.now o c.in-Conciliator.s c.in-Conciliator.ensures.exact)

pub returns-in-Conciliator-clause-next : goal.returns-in-Conciliator-clause-next
returns-in-Conciliator-clause-next g c t = next_is g c t

pub returns-in-Conciliator-clause-object : goal.returns-in-Conciliator-clause-object
returns-in-Conciliator-clause-object g c =
    slice_get_within (kinds_of c.args.layout.now) _ Ratifier (next_is g c refl)

pub returns-in-Conciliator-clause-steps : goal.returns-in-Conciliator-clause-steps
returns-in-Conciliator-clause-steps g c claim stands =
    let layout = c.args.layout.now in
    let parts : PlacesMakeParts (quorums_of layout) (kinds_of layout) =
    λ d object pc ys. c.places_show_prefixes.ensures.prefix (claims_in layout 0) d object pc ys
    (quorums_lawful layout) in
    let o = c.args.at.now.object in
    let m : o + 1 ≡ suc o = omega arith in
    let made = c.through_conciliator-at.ensures.steps in
    let on = led_on layout parts g.M.Drawing.draws g.M.Memory.makes c.args.consumer o c.args.at.now.value
    (Conciliator c.in-Conciliator.s) c.in-Conciliator.ensures.exact c.args.memory.now c.args.begin c.site-site.result
    c.site-site.ensures claim stands made.0 c.through_conciliator-at.result c.through_conciliator-at.new.memory
    (o + 1) Ratifier m (next_is g c refl) tt c.through_conciliator-at.ensures.value made.2 in
    (made.0, on.0, made.1, on.1, on.3)
