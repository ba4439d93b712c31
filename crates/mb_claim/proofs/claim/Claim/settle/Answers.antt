-- Proof of `Claim::settle`: makes the exchange of a last object, if the claim stands before one and an access is left.
use Rattle.std.proofs.Common.{◌≡◌, ◌+◌, ℕ, refl, sym, ◌∙◌, arith}
use Rattle.std.proofs.lemmas.Option.{same_Some}
use Rattle.mb_claim.specs.{Conciliator, Ratifier, LastObject, quorums_of, kinds_of, claims_in}
use Rattle.mb_claim.proofs.ClaimSteps.{PlacesMakeParts}
use Rattle.mb_claim.proofs.LayoutObjects.{quorums_lawful}
use Rattle.mb_claim.proofs.Straight.{site_may, led_to_end, standing_end}
use Rattle.mb_claim.proofs.claim.Claim.settle.Goals as goal

pub through_last-value-requires-clause-may : goal.through_last-value-requires-clause-may
through_last-value-requires-clause-may g c =
    let layout = c.args.layout.now in
    let parts : PlacesMakeParts (quorums_of layout) (kinds_of layout) =
    λ d object pc ys. c.places_show_prefixes.ensures.prefix (claims_in layout 0) d object pc ys
    (quorums_lawful layout) in
    site_may layout parts g.M.Drawing.draws g.M.Memory.makes c.args.consumer c.args.at.object c.args.at.value
    LastObject c.in-LastObject.ensures.exact c.args.memory.now c.args.begin c.site-site.result
    c.site-site.ensures g.M.Drawing.can_make_at c.requires.may

pub returns-in-LastObject-clause-steps : goal.returns-in-LastObject-clause-steps
returns-in-LastObject-clause-steps g c claim stands =
    let layout = c.args.layout.now in
    let parts : PlacesMakeParts (quorums_of layout) (kinds_of layout) =
    λ d object pc ys. c.places_show_prefixes.ensures.prefix (claims_in layout 0) d object pc ys
    (quorums_lawful layout) in
    let o = c.args.at.object in
    let value = c.through_last-value.result in
    let made = c.through_last-value.ensures.steps in
    let ends = led_to_end layout parts g.M.Drawing.draws g.M.Memory.makes c.args.consumer o c.args.at.value
    LastObject c.in-LastObject.ensures.exact c.args.memory.now c.args.begin c.site-site.result
    c.site-site.ensures claim stands made.0 value c.through_last-value.new.memory
    (record { stage = c.stage_for.result; object = o; value = value; left = c.through_last-value.new.left })
    c.stage_for.ensures.exact made.2 in
    (made.0, ends.0, made.1, ends.1, ends.2)

-- if no access is left, the claim stays where it is
pub returns-then-at-eq0-clause-steps : goal.returns-then-at-eq0-clause-steps
returns-then-at-eq0-clause-steps g c claim stands =
    let end = standing_end c.args.layout.now c.args.consumer c.args.at claim c.requires.going c.requires.object
    c.requires.value stands in (0, claim, omega arith, (refl, refl), end)

pub returns-in-Conciliator-clause-steps : goal.returns-in-Conciliator-clause-steps
returns-in-Conciliator-clause-steps g c claim stands =
    let end = standing_end c.args.layout.now c.args.consumer c.args.at claim c.requires.going c.requires.object
    c.requires.value stands in (0, claim, omega arith, (refl, refl), end)

pub returns-in-Ratifier-clause-steps : goal.returns-in-Ratifier-clause-steps
returns-in-Ratifier-clause-steps g c claim stands =
    let end = standing_end c.args.layout.now c.args.consumer c.args.at claim c.requires.going c.requires.object
    c.requires.value stands in (0, claim, omega arith, (refl, refl), end)

-- a conciliator is no last object
conciliator_first : (s : ℕ) → Conciliator s ≡ LastObject → ⊥
conciliator_first s e = cc

-- a ratifier is no last object
ratifier_first : Ratifier ≡ LastObject → ⊥
ratifier_first e = cc

pub returns-in-Conciliator-clause-ends : goal.returns-in-Conciliator-clause-ends
returns-in-Conciliator-clause-ends g c last some going =
    conciliator_first c.in-Conciliator.s (same_Some (Conciliator c.in-Conciliator.s) LastObject
    (sym c.in-Conciliator.ensures.exact ∙ last))

pub returns-in-Ratifier-clause-ends : goal.returns-in-Ratifier-clause-ends
returns-in-Ratifier-clause-ends g c last some going =
    ratifier_first (same_Some Ratifier LastObject (sym c.in-Ratifier.ensures.exact ∙ last))
