-- Proof of `before_heads`: the places of consumers that have done nothing.
use Rattle.std.proofs.Common.{◌≡◌, ◌*◌, ◌+◌, ◌∙◌, ℕ, ap, arith, subst, sym}
use Rattle.mb_world.specs.Places.{AreAtHeads}
use Rattle.mb_world.proofs.StateLists.{heads_more}
use Rattle.mb_world.proofs.world.before_heads.Goals as goal

-- the places of a consumer begin after those of the consumers before it
pub loop-p-init : goal.loop-p-init
loop-p-init g c =
    let same : c.loop-c.c * c.args.lanes ≡ c.loop-c.c * c.args.lanes + 0 = omega arith in
    subst (λ (n : ℕ). AreAtHeads c.args.lanes n c.loop-c.places.items) same c.loop-c.invariant

-- the places so far, and the next one, are before the heads of their lanes
pub loop-p-preserved : goal.loop-p-preserved
loop-p-preserved g c =
    rw (c.in_ok-push.ensures.items)
    (heads_more c.args.lanes c.loop-c.c c.loop-p.p c.loop-p.places.items c.loop-p-test.true c.loop-p.invariant)

-- after the loop over the lanes, all places of one more consumer are before the heads
pub loop-c-preserved : goal.loop-c-preserved
loop-c-preserved g c =
    let done : c.loop-p.p ≡ c.args.lanes = omega (arith, c.loop-p-test.false, c.loop-p.auto.p-end) in
    let more : (c.loop-c.c + 1) * c.args.lanes ≡ c.loop-c.c * c.args.lanes + c.args.lanes = grind arith in
    subst (λ (n : ℕ). AreAtHeads c.args.lanes n c.loop-p.places.items)
    (ap (λ (n : ℕ). c.loop-c.c * c.args.lanes + n) done ∙ sym more) c.loop-p.invariant

-- after the loop the places of all consumers are before the heads
pub returns : goal.returns
returns g c =
    let done : c.loop-c.c ≡ c.args.consumers = omega (arith, c.loop-c-test.false, c.loop-c.auto.c-end) in
    subst (λ (n : ℕ). AreAtHeads c.args.lanes (n * c.args.lanes) c.loop-c.places.items) done c.loop-c.invariant
