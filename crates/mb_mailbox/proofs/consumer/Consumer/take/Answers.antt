-- Proof of `Consumer::take`: polls of a lane one after another, past the items that are lost.
use Rattle.std.proofs.Common.{◌≢◌, ◌∙◌, ◌++◌, ◌∷◌, subst, arith}
use Rattle.mb_mailbox.specs.{Came.TakeCameTo, Steps.outcome}
use Rattle.mb_mailbox.specs.declared.consumer.Poll.TheVariants as poll
use Rattle.mb_mailbox.proofs.Polls.{told_from}
use Rattle.mb_mailbox.proofs.Takes.{lost_grows, passed_grows, passed_on, passed_reads, take_by, take_came, take_on}
use Rattle.mb_mailbox.proofs.consumer.Consumer.take.Goals as goal

pub items-smaller : goal.items-smaller
items-smaller g c =
    let passed = c.in_default-pass_lost.is in
    let was = c.pass_lost.ensures.gone.passed passed in
    let more = passed_grows c.in-Some.lane c.items.left was.0 _ _ c.items.self c.pass_lost.new.self was.1 in
    let some = c.pass_lost.ensures.gone.left passed in
    let grown = lost_grows c.in-Some.lane c.pass_lost.new.left c.in-Lost.field-0 _ _ c.pass_lost.new.self
    c.poll_apart.new.self (c.in-Lost.ensures.came.polled (λ e. cc)) in
    let left = c.poll_apart.ensures.left in
    omega (arith, more, some, grown, left)

pub items-preserved : goal.items-preserved
items-preserved g c =
    let p = c.in-Some.lane in
    let inv = c.items.invariant in
    let was = c.pass_lost.ensures.gone.passed c.in_default-pass_lost.is in
    let some = c.pass_lost.ensures.gone.left c.in_default-pass_lost.is in
    let rest = some ∙ inv.rest in
    let left = c.poll_apart.ensures.left in
    record {
      winners = c.in-Lost.field-0 ∷ (was.0 ++ inv.winners);
      passed = (
        g.R.Rng.stream c.pass_lost.new.rng,
        c.pass_lost.new.self,
        passed_on p c.args.most c.items.left c.args.self.now c.items.self inv.rest inv.winners was.0
            (g.R.Rng.stream c.args.rng.now) (g.R.Rng.stream c.items.rng) (g.R.Rng.stream c.pass_lost.new.rng)
            c.pass_lost.new.self inv.passed was.1,
        record { left = c.pass_lost.new.left; rest = rest; poll = c.in-Lost.ensures.came.polled (λ e. cc) },
      );
      rest = left ∙ rest;
      all_of = c.poll_apart.ensures.belongs;
      lane = inv.lane;
    }

-- ---- `take` returns the answer to which `pass_lost` came
pub returns-in-Some-pass_lost : goal.returns-in-Some-pass_lost
returns-in-Some-pass_lost g c =
    let p = c.in-Some.lane in
    let inv = c.items.invariant in
    let s = g.R.Rng.stream c.args.rng.now in
    let t = g.R.Rng.stream c.pass_lost.new.rng in
    let new = c.pass_lost.new.self in
    let answer = c.in-Some-pass_lost.answer in
    let gone = c.in-Some-pass_lost.ensures.gone in
    let take = take_on p c.args.most c.items.left c.args.self.now c.items.self inv.rest inv.winners answer
    s (g.R.Rng.stream c.items.rng) t new inv.passed gone.taken.0 in
    let reads = passed_reads p c.args.most inv.winners s (g.R.Rng.stream c.items.rng)
    c.args.self.now c.items.self inv.passed in
    record {
      came = subst (λ q. TakeCameTo c.args.mailbox.now q c.args.most answer s t c.args.self.now new)
          c.in-Some.ensures.some.0 (take_came c.args.mailbox.now p c.args.most answer s t c.args.self.now new
          inv.lane gone.decided.0 take (c.takes_are_short.ensures.unspent c.args.mailbox.now p c.args.most answer s t
          c.args.self.now new take c.pass_lost.ensures.belongs c.keeps_its_parts.ensures.loads
          c.keeps_its_parts.ensures.claims) (λ last. gone.decided.1)
          (told_from p (outcome answer) c.args.self.now c.items.self new reads.0 reads.1 gone.taken.1));
      belongs = c.pass_lost.ensures.belongs;
    }

-- ---- `take` returns the answer of `poll_apart`, which is no loss
pub returns-in_default-poll_apart : goal.returns-in_default-poll_apart
returns-in_default-poll_apart g c =
    let p = c.in-Some.lane in
    let inv = c.items.invariant in
    let s = g.R.Rng.stream c.args.rng.now in
    let t = g.R.Rng.stream c.poll_apart.new.rng in
    let new = c.poll_apart.new.self in
    let answer = c.poll_apart.result in
    let came = c.poll_apart.ensures.came in
    let some : answer ≢ poll.NoLane = λ e. (let far = came.came.no_lane.0 e in omega (arith, far, inv.lane)) in
    let was = c.pass_lost.ensures.gone.passed c.in_default-pass_lost.is in
    let rest = c.pass_lost.ensures.gone.left c.in_default-pass_lost.is ∙ inv.rest in
    let take = take_by p c.args.most c.pass_lost.new.left (was.0 ++ inv.winners) answer
    s (g.R.Rng.stream c.pass_lost.new.rng) t c.args.self.now c.pass_lost.new.self new
    (passed_on p c.args.most c.items.left c.args.self.now c.items.self inv.rest inv.winners was.0
    s (g.R.Rng.stream c.items.rng) (g.R.Rng.stream c.pass_lost.new.rng)
    c.pass_lost.new.self inv.passed was.1) rest (came.polled some) c.in_default-poll_apart.not-Lost
    (came.came.told some) in
    record {
      came = subst (λ q. TakeCameTo c.args.mailbox.now q c.args.most answer s t c.args.self.now new)
          c.in-Some.ensures.some.0 (take_came c.args.mailbox.now p c.args.most answer s t c.args.self.now new
          inv.lane some take.0 (c.takes_are_short.ensures.unspent c.args.mailbox.now p c.args.most answer s t
          c.args.self.now new take.0 c.poll_apart.ensures.belongs
          c.keeps_its_parts-in_default-poll_apart.ensures.loads
          c.keeps_its_parts-in_default-poll_apart.ensures.claims) came.came.decided take.1);
      belongs = c.poll_apart.ensures.belongs;
    }
