-- Proof of `Claim::straight`: makes the accesses of a new claim on a cell, object by object.
use Rattle.std.proofs.Common.{◌≡◌, ◌≢◌, ◌∙◌, ◌+◌, ◌*◌, ◌<◌, ◌≤◌, ℕ, zero, suc, Bool, true, false, length, slice_get}
use Rattle.std.proofs.Common.{Some, refl, sym, ap, subst, arith}
use Rattle.std.proofs.lemmas.Option.{same_Some}
use Rattle.mb_deciding.specs.Vocabulary.{spread}
use Rattle.mb_claim.specs.declared.claim.straight.TheConstants.{AMPLE, LONGEST}
use Rattle.mb_claim.specs.{Layout, Ratifier, LastObject, Stretch, IsStanding, HasEnd, kinds_of, quorums_of, site_of}
use Rattle.mb_claim.specs.{DrawsAndMakesNext}
use Rattle.mb_claim.proofs.LayoutObjects.{objects_few, quorums_lawful}
use Rattle.mb_claim.proofs.Straight.{further, further_may, led_as, standing_end}
use Rattle.mb_claim.proofs.claim.Claim.straight.Goals as goal

-- what follows if a test passes, and also if it fails, holds
by_choice : {X : Type 0} (b : Bool) → (b ≡ true → X) → (b ≡ false → X) → X
by_choice true so else = so refl
by_choice false so else = else refl

-- with an ample budget, if each object passed took at most `LONGEST` accesses, `LONGEST` are left before this object
still_ample : (layout : Layout) (most left o : ℕ) → AMPLE ≤ most → o < length (kinds_of layout)
    → most ≤ left + LONGEST * o → LONGEST ≤ left
still_ample layout most left o ample low few =
    let all = objects_few layout.shape (spread (quorums_of layout).values) layout.pairs layout.few in
    omega (arith, ample, low, few, all)

-- if there is room before an object, at least 10 accesses are left, which are enough for a conciliator
has_room : (layout : Layout) (most left o room : ℕ) (ample : Bool) → (ample ≡ true → AMPLE ≤ most)
    → (ample ≡ false → 2 * (quorums_of layout).registers + 10 ≤ room) → room ≤ left → o < length (kinds_of layout)
    → most ≤ left + LONGEST * o → 10 ≤ left
has_room layout most left o room ample wide enough within low few =
    by_choice ample
    (λ is. let much = still_ample layout most left o (wide is) low few in omega (arith, much))
    (λ not. omega (arith, enough not, within))

-- a number that cannot differ from 0 is 0
zero_if : (n : ℕ) → (n ≢ 0 → ⊥) → n ≡ 0
zero_if zero never = refl
zero_if (suc n) never = absurd (never (λ e. omega (arith, e)))

pub agree-requires-clause-room : goal.agree-requires-clause-room
agree-requires-clause-room g c =
    has_room c.args.layout.now c.args.most c.objects.at.left c.objects.at.object c.room-room.result
    c.is_ample-ample.result c.is_ample-ample.ensures c.room-room.ensures.enough c.objects-test.true
    c.objects.invariant.object c.objects.invariant.few

pub decide-requires-clause-room : goal.decide-requires-clause-room
decide-requires-clause-room g c =
    let few = c.objects.invariant.few in
    let on = c.agree.ensures.few in
    by_choice c.is_ample-ample.result
    (λ ample. let wide = still_ample c.args.layout.now c.args.most c.agree.new.at.left c.agree.new.at.object
    (c.is_ample-ample.ensures ample) c.agree.ensures.object (omega (arith, few, on)) in
    let quorum = quorums_lawful c.args.layout.now in omega (arith, wide, quorum.limit))
    (λ not. let room = c.room-room.ensures.enough not in omega (arith, room, c.if-at-room.false))

pub agree-requires-clause-may : goal.agree-requires-clause-may
agree-requires-clause-may g c =
    let layout = c.args.layout.now in
    let at = c.objects.at in
    further_may layout g.M.Drawing.draws g.M.Memory.makes c.args.consumer c.args.memory.now c.args.most
    at.object at.value c.objects.memory at.left c.objects.invariant.steps
    (λ claim mid next. g.M.Drawing.can_make_at mid (site_of layout c.args.begin next.object) next.op) c.requires.may

-- If a proof below has a `first`, this says that all accesses up to the object to which `agree` leads are the claim's.
pub decide-requires-clause-may : goal.decide-requires-clause-may
decide-requires-clause-may g c =
    let layout = c.args.layout.now in
    let at = c.objects.at in
    let on = c.agree.new.at in
    let first = further layout g.M.Drawing.draws g.M.Memory.makes c.args.consumer c.args.memory.now c.args.most
    at.object at.value c.objects.memory at.left c.objects.invariant.steps
    (IsStanding layout c.args.consumer on.object on.value) c.agree.new.memory on.left c.agree.ensures.steps in
    further_may layout g.M.Drawing.draws g.M.Memory.makes c.args.consumer c.args.memory.now c.args.most
    on.object on.value c.agree.new.memory on.left first
    (λ claim mid next. g.M.Drawing.can_make_at mid (site_of layout c.args.begin next.object) next.op) c.requires.may

pub settle-requires-clause-may : goal.settle-requires-clause-may
settle-requires-clause-may g c =
    let layout = c.args.layout.now in
    let at = c.objects.at in
    let on = c.agree.new.at in
    let first = further layout g.M.Drawing.draws g.M.Memory.makes c.args.consumer c.args.memory.now c.args.most
    at.object at.value c.objects.memory at.left c.objects.invariant.steps
    (IsStanding layout c.args.consumer on.object on.value) c.agree.new.memory on.left c.agree.ensures.steps in
    further_may layout g.M.Drawing.draws g.M.Memory.makes c.args.consumer c.args.memory.now c.args.most
    on.object on.value c.agree.new.memory on.left first
    (λ claim mid next. g.M.Drawing.can_make_at mid (site_of layout c.args.begin next.object) next.op) c.requires.may

pub returns-then-not-agree-clause-steps : goal.returns-then-not-agree-clause-steps
returns-then-not-agree-clause-steps g c =
    let layout = c.args.layout.now in
    let at = c.objects.at in
    let on = c.agree.new.at in
    let first = further layout g.M.Drawing.draws g.M.Memory.makes c.args.consumer c.args.memory.now c.args.most
    at.object at.value c.objects.memory at.left c.objects.invariant.steps
    (IsStanding layout c.args.consumer on.object on.value) c.agree.new.memory on.left c.agree.ensures.steps in
    further layout g.M.Drawing.draws g.M.Memory.makes c.args.consumer c.args.memory.now c.args.most on.object on.value
    c.agree.new.memory on.left first (HasEnd layout c.args.consumer c.settle.result) c.settle.new.memory
    c.settle.result.left c.settle.ensures.steps

pub returns-then-at-room-clause-steps : goal.returns-then-at-room-clause-steps
returns-then-at-room-clause-steps g c =
    let layout = c.args.layout.now in
    let at = c.objects.at in
    let on = c.agree.new.at in
    let first = further layout g.M.Drawing.draws g.M.Memory.makes c.args.consumer c.args.memory.now c.args.most
    at.object at.value c.objects.memory at.left c.objects.invariant.steps
    (IsStanding layout c.args.consumer on.object on.value) c.agree.new.memory on.left c.agree.ensures.steps in
    led_as layout (DrawsAndMakesNext g.M.Drawing.draws g.M.Memory.makes) c.args.consumer 0 c.args.consumer
    c.args.memory.now c.args.most (IsStanding layout c.args.consumer on.object on.value)
    (HasEnd layout c.args.consumer on) c.agree.new.memory on.left first
    (λ claim stands. standing_end layout c.args.consumer on claim (c.agree.ensures.stage ∙ c.objects.invariant.going)
    c.agree.ensures.object c.agree.ensures.value stands)

pub returns-then-not-decide-clause-steps : goal.returns-then-not-decide-clause-steps
returns-then-not-decide-clause-steps g c =
    let layout = c.args.layout.now in
    let at = c.objects.at in
    let on = c.agree.new.at in
    let first = further layout g.M.Drawing.draws g.M.Memory.makes c.args.consumer c.args.memory.now c.args.most
    at.object at.value c.objects.memory at.left c.objects.invariant.steps
    (IsStanding layout c.args.consumer on.object on.value) c.agree.new.memory on.left c.agree.ensures.steps in
    further layout g.M.Drawing.draws g.M.Memory.makes c.args.consumer c.args.memory.now c.args.most on.object on.value
    c.agree.new.memory on.left first (HasEnd layout c.args.consumer c.decide.new.at) c.decide.new.memory
    c.decide.new.at.left c.decide.ensures.steps

pub objects-preserved : goal.objects-preserved
objects-preserved g c =
    let layout = c.args.layout.now in
    let at = c.objects.at in
    let on = c.agree.new.at in
    let now = c.decide.new.at in
    let going = c.decide.ensures.goes c.if-not-decide.false in
    let makes = DrawsAndMakesNext g.M.Drawing.draws g.M.Memory.makes in
    let first = further layout g.M.Drawing.draws g.M.Memory.makes c.args.consumer c.args.memory.now c.args.most
    at.object at.value c.objects.memory at.left c.objects.invariant.steps
    (IsStanding layout c.args.consumer on.object on.value) c.agree.new.memory on.left c.agree.ensures.steps in
    let both = further layout g.M.Drawing.draws g.M.Memory.makes c.args.consumer c.args.memory.now c.args.most
    on.object on.value c.agree.new.memory on.left first (HasEnd layout c.args.consumer now) c.decide.new.memory
    now.left c.decide.ensures.steps in
    record {
      going = going;
      object = c.decide.ensures.object c.if-not-decide.false;
      few = omega (arith, c.objects.invariant.few, c.agree.ensures.few, c.decide.ensures.few c.if-not-decide.false);
      value = c.decide.ensures.value;
      steps = led_as layout makes c.args.consumer 0 c.args.consumer c.args.memory.now c.args.most
          (HasEnd layout c.args.consumer now) (IsStanding layout c.args.consumer now.object now.value)
          c.decide.new.memory now.left both (λ claim end. end.3 going);
    }

pub settle-requires-2-clause-may : goal.settle-requires-2-clause-may
settle-requires-2-clause-may g c =
    let layout = c.args.layout.now in
    let at = c.objects.at in
    further_may layout g.M.Drawing.draws g.M.Memory.makes c.args.consumer c.args.memory.now c.args.most
    at.object at.value c.objects.memory at.left c.objects.invariant.steps
    (λ claim mid next. g.M.Drawing.can_make_at mid (site_of layout c.args.begin next.object) next.op) c.requires.may

pub returns-clause-steps : goal.returns-clause-steps
returns-clause-steps g c =
    let layout = c.args.layout.now in
    let at = c.objects.at in
    further layout g.M.Drawing.draws g.M.Memory.makes c.args.consumer c.args.memory.now c.args.most at.object at.value
    c.objects.memory at.left c.objects.invariant.steps (HasEnd layout c.args.consumer c.settle-2.result)
    c.settle-2.new.memory c.settle-2.result.left c.settle-2.ensures.steps

-- if the next object is a last object, the claim has ended, since an access was left for it
pub returns-then-not-agree-clause-goes : goal.returns-then-not-agree-clause-goes
returns-then-not-agree-clause-goes g c going =
    let layout = c.args.layout.now in
    let at = c.objects.at in
    let last = c.agree.ensures.last c.if-not-agree.true in
    let left : 10 ≤ at.left =
    has_room layout c.args.most at.left at.object c.room-room.result c.is_ample-ample.result c.is_ample-ample.ensures
    c.room-room.ensures.enough c.objects-test.true c.objects.invariant.object c.objects.invariant.few in
    let there : slice_get (kinds_of layout) c.agree.new.at.object ≡ Some LastObject =
    subst (λ (s : Stretch). slice_get (kinds_of layout) s.object ≡ Some LastObject) (sym last.0) last.1 in
    let some : c.agree.new.at.left ≢ 0 =
    (λ none. omega (arith, left, ap (λ (s : Stretch). s.left) last.0, none)) in
    absurd (c.settle.ensures.ends there some going)

-- a ratifier is no last object
ratifier_first : Ratifier ≡ LastObject → ⊥
ratifier_first e = cc

-- if the claim stops before a ratifier, fewer accesses are left than `room`
pub returns-then-at-room-clause-goes : goal.returns-then-at-room-clause-goes
returns-then-at-room-clause-goes g c going = (
  omega (arith, c.if-at-room.true, c.room-room.ensures.few),
  (λ last. absurd (ratifier_first
      (same_Some Ratifier LastObject (sym (c.agree.ensures.next c.if-not-agree.false) ∙ last)))),
)

pub returns-clause-goes : goal.returns-clause-goes
returns-clause-goes g c going =
    let layout = c.args.layout.now in
    subst (λ (s : Stretch). (s.left < 2 * (quorums_of layout).registers + 10)
    × (slice_get (kinds_of layout) s.object ≡ Some LastObject → s.left ≡ 0)) (sym (c.settle-2.ensures.stays going)) (
      omega (arith, c.objects-test.false, c.room-room.ensures.few),
      (λ last. zero_if c.objects.at.left (λ some. c.settle-2.ensures.ends last some going)),
    )
