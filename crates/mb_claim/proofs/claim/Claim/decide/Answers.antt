-- Proof of `Claim::decide`: goes through the object, a ratifier.
use Rattle.std.proofs.Common.{◌≡◌, ◌≢◌, ◌<◌, ◌+◌, ℕ, suc, Bool, true, false, refl, ap, subst, slice_get, Some, None, length, arith}
use Rattle.std.proofs.lemmas.Option.{slice_get_within, slice_get_past}
use Rattle.mb_deciding.specs.ManySteps.{AreSteps, DrawsAndMakes}
use Rattle.mb_deciding.specs.Vocabulary.{answer, spread, first_place}
use Rattle.mb_deciding.specs.declared.place.pc.Next.TheVariants as leads
use Rattle.mb_claim.specs.{Ratifier, Out, Layout, Undecided, quorums_of, kinds_of, claims_in}
use Rattle.mb_claim.proofs.ClaimSteps.{PlacesMakeParts}
use Rattle.mb_claim.proofs.LayoutObjects.{quorums_lawful, objects_few}
use Rattle.mb_claim.proofs.Straight.{site_may, led_on, led_out, led_to_end, some_kind, standing_end}
use Rattle.mb_claim.proofs.claim.Claim.decide.Goals as goal

pub through_ratifier-out-requires-clause-may : goal.through_ratifier-out-requires-clause-may
through_ratifier-out-requires-clause-may g c =
    let layout = c.args.layout.now in
    let parts : PlacesMakeParts (quorums_of layout) (kinds_of layout) =
    λ d object pc ys. c.places_show_prefixes.ensures.prefix (claims_in layout 0) d object pc ys
    (quorums_lawful layout) in
    site_may layout parts g.M.Drawing.draws g.M.Memory.makes c.args.consumer c.args.at.now.object c.args.at.now.value
    Ratifier c.requires.object c.args.memory.now c.args.begin c.site-site.result
    c.site-site.ensures g.M.Drawing.can_make_at c.requires.may

pub through_ratifier-out-requires-clause-room : goal.through_ratifier-out-requires-clause-room
through_ratifier-out-requires-clause-room g c =
    let layout = c.args.layout.now in
    let few = c.paths_are_short.ensures.ratifier (quorums_of layout) (quorums_lawful layout) in
    omega (arith, few, c.requires.room)

pub returns-clause-few : goal.returns-clause-few
returns-clause-few g c goes =
    let layout = c.args.layout.now in
    let most = c.paths_are_short.ensures.ratifier (quorums_of layout) (quorums_lawful layout) in
    let quorum = quorums_lawful layout in
    omega (arith, most, quorum.limit, c.through_ratifier-out.ensures.few)

-- an object that is a ratifier of the layout has a number below the layout's number of objects
in_row : (layout : Layout) (o : ℕ) → slice_get (kinds_of layout) o ≡ Some Ratifier → o < length (kinds_of layout)
in_row layout o at = slice_get_within (kinds_of layout) o Ratifier at

pub overflow_add-at : goal.overflow_add-at
overflow_add-at g c =
    let layout = c.args.layout.now in
    let few = objects_few layout.shape (spread (quorums_of layout).values) layout.pairs layout.few in
    omega (arith, in_row layout c.args.at.now.object c.requires.object, few)

-- if object o is a ratifier and not the last of the layout's n objects, there is an object with the next number
below_end : (layout : Layout) (o n : ℕ) → slice_get (kinds_of layout) o ≡ Some Ratifier
    → n ≡ length (kinds_of layout) → o + 1 ≢ n → o + 1 < length (kinds_of layout)
below_end layout o n at all ne = omega (arith, in_row layout o at, all, ne)

pub returns-clause-object : goal.returns-clause-object
returns-clause-object g c t =
    below_end c.args.layout.now c.args.at.now.object c.objects.result c.requires.object c.objects.ensures
    c.if-at-objects.false

-- an output is `answer d` of its value, if d says whether it is decided
as_answer : (out : Out) (d : Bool) → out.decided ≡ d → out ≡ answer d out.value
as_answer out d e = ap (λ b. answer b out.value) e

pub returns-then-out-clause-steps : goal.returns-then-out-clause-steps
returns-then-out-clause-steps g c claim stands =
    let layout = c.args.layout.now in
    let parts : PlacesMakeParts (quorums_of layout) (kinds_of layout) =
    λ d object pc ys. c.places_show_prefixes.ensures.prefix (claims_in layout 0) d object pc ys
    (quorums_lawful layout) in
    let o = c.args.at.now.object in
    let out = c.through_ratifier-out.result in
    let made = c.through_ratifier-out.ensures.steps in
    let ends = led_to_end layout parts g.M.Drawing.draws g.M.Memory.makes c.args.consumer o c.args.at.now.value
    Ratifier c.requires.object c.args.memory.now c.args.begin c.site-site.result
    c.site-site.ensures claim stands made.0 out.value c.through_ratifier-out.new.memory
    (record { stage = c.stage_for-at.result; object = o; value = out.value; left = c.through_ratifier-out.new.left })
    c.stage_for-at.ensures.exact
    (subst (λ r. AreSteps (quorums_of layout) (DrawsAndMakes g.M.Drawing.draws g.M.Memory.makes
    c.site-site.result.object) (first_place (quorums_of layout) Ratifier c.args.at.now.value) c.args.memory.now
    made.0 (leads.Out r) c.through_ratifier-out.new.memory) (as_answer out true c.if-out.true) made.2) in
    (made.0, ends.0, made.1, ends.1, ends.2)

pub returns-then-at-objects-clause-steps : goal.returns-then-at-objects-clause-steps
returns-then-at-objects-clause-steps g c claim stands =
    let layout = c.args.layout.now in
    let parts : PlacesMakeParts (quorums_of layout) (kinds_of layout) =
    λ d object pc ys. c.places_show_prefixes.ensures.prefix (claims_in layout 0) d object pc ys
    (quorums_lawful layout) in
    let o = c.args.at.now.object in
    let out = c.through_ratifier-out.result in
    let made = c.through_ratifier-out.ensures.steps in
    let none : slice_get (kinds_of layout) (suc o) ≡ None =
    slice_get_past (kinds_of layout) (suc o) (omega (arith, c.objects.ensures, c.if-at-objects.true)) in
    let ends = led_out layout parts g.M.Drawing.draws g.M.Memory.makes c.args.consumer o c.args.at.now.value
    Ratifier c.requires.object c.args.memory.now c.args.begin c.site-site.result
    c.site-site.ensures claim stands made.0 out.value c.through_ratifier-out.new.memory
    (record { stage = Undecided; object = o + 1; value = out.value; left = c.through_ratifier-out.new.left })
    refl none c.through_ratifier-out.ensures.value
    (subst (λ r. AreSteps (quorums_of layout) (DrawsAndMakes g.M.Drawing.draws g.M.Memory.makes
    c.site-site.result.object) (first_place (quorums_of layout) Ratifier c.args.at.now.value) c.args.memory.now
    made.0 (leads.Out r) c.through_ratifier-out.new.memory) (as_answer out false c.if-out.false) made.2) in
    (made.0, ends.0, made.1, ends.1, ends.2)

pub returns-clause-steps : goal.returns-clause-steps
returns-clause-steps g c claim stands =
    let layout = c.args.layout.now in
    let parts : PlacesMakeParts (quorums_of layout) (kinds_of layout) =
    λ d object pc ys. c.places_show_prefixes.ensures.prefix (claims_in layout 0) d object pc ys
    (quorums_lawful layout) in
    let o = c.args.at.now.object in
    let m : o + 1 ≡ suc o = omega arith in
    let out = c.through_ratifier-out.result in
    let made = c.through_ratifier-out.ensures.steps in
    let below = below_end layout o c.objects.result c.requires.object c.objects.ensures c.if-at-objects.false in
    let next = some_kind layout (o + 1) below in
    let on = led_on layout parts g.M.Drawing.draws g.M.Memory.makes c.args.consumer o c.args.at.now.value
    Ratifier c.requires.object c.args.memory.now c.args.begin c.site-site.result
    c.site-site.ensures claim stands made.0 out.value c.through_ratifier-out.new.memory (o + 1) next.0 m next.1
    next.2 c.through_ratifier-out.ensures.value
    (subst (λ r. AreSteps (quorums_of layout) (DrawsAndMakes g.M.Drawing.draws g.M.Memory.makes
    c.site-site.result.object) (first_place (quorums_of layout) Ratifier c.args.at.now.value) c.args.memory.now
    made.0 (leads.Out r) c.through_ratifier-out.new.memory) (as_answer out false c.if-out.false) made.2) in (
      made.0,
      on.0,
      made.1,
      on.1,
      standing_end layout c.args.consumer (record {
        stage = c.args.at.now.stage;
        object = o + 1;
        value = out.value;
        left = c.through_ratifier-out.new.left;
      }) on.0 c.requires.going below c.through_ratifier-out.ensures.value on.3,
    )
