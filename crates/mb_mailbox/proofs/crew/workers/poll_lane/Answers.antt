use Rattle.std.proofs.Common.{◌≡◌, ◌≢◌, ℕ, Bool, List, true, false, ⊎_elim, ap, arith, inl, inr, subst, sym, ◌∙◌}
use Rattle.std.specs.Prelude.{slice_index_or}
use Rattle.mb_mailbox.specs.Jobs.{HasReadToEnd, count_marks}
use Rattle.mb_mailbox.specs.Steps.{IsPollOf, outcome}
use Rattle.mb_mailbox.specs.declared.consumer.Poll.TheVariants as poll
use Rattle.mb_mailbox.proofs.Grown.{made_by, most_by}
use Rattle.mb_mailbox.proofs.EndsMet.{no_end_by, one_end_by}
use Rattle.mb_mailbox.proofs.Looks.{only_by}
use Rattle.mb_mailbox.proofs.Marks.{apart, marked, marks_more}
use Rattle.mb_mailbox.proofs.crew.workers.poll_lane.{Given.Over, Goals.After-poll-poll}
use Rattle.mb_mailbox.proofs.crew.workers.poll_lane.Goals as goal

-- the mailbox has the lane, so the answer is not `NoLane`
there : (g : Over) (c : After-poll-poll g) → c.poll-poll.result ≢ poll.NoLane
there g c z = let far = c.poll-poll.ensures.came.came.no_lane.0 z in omega (arith, far, c.requires.few.0)

-- the poll, as `IsPollOf` says it
polled : (g : Over) (c : After-poll-poll g)
    → IsPollOf c.args.lane c.args.budget c.poll-poll.result (g.R.Rng.stream c.args.rng.now)
    (g.R.Rng.stream c.poll-poll.new.rng) c.args.consumer.now c.poll-poll.new.self
polled g c = c.poll-poll.ensures.came.polled (there g c)

-- Most clauses come twice: for the answer `Ended`, and for any other
pub returns-in-Ended-clause-read : goal.returns-in-Ended-clause-read
returns-in-Ended-clause-read g c = λ p e.
    let at = (goal.at.returns-in-Ended-clause-read g c).After-poll-poll in
    let told = c.poll-poll.ensures.came.came.told (there g at) in
    let is = ap outcome c.in-Ended.is in
    ⊎_elim
    (λ (h : p ≡ c.args.lane).
    subst (λ (q : ℕ). HasReadToEnd q c.poll-poll.new.self) (sym h)
    (c.ends_are_kept.ensures.read c.poll-poll.new.self c.args.lane c.keeps_its_parts.ensures.loads
    (told.ended is) (told.noted (λ z. cc))))
    (λ (t : (p ≢ c.args.lane) × (slice_index_or c.args.ended.now p false ≡ true)).
    c.ends_are_kept.ensures.kept c.args.lane p c.args.budget c.poll-poll.result _ _
    c.args.consumer.now c.poll-poll.new.self
    (polled g at) t.0 (c.requires.read p t.1))
    (marked c.args.ended.now c.args.lane p
    (subst (λ (l : List Bool). slice_index_or l p false ≡ true) c.mark.ensures e))

pub returns-in_default-clause-read : goal.returns-in_default-clause-read
returns-in_default-clause-read g c = λ p e.
    c.ends_are_kept.ensures.kept c.args.lane p c.args.budget c.poll-poll.result _ _
    c.args.consumer.now c.poll-poll.new.self
    (polled g (goal.at.returns-in_default-clause-read g c).After-poll-poll)
    (apart c.args.ended.now c.args.lane p c.requires.unmarked e)
    (c.requires.read p e)

pub returns-in-Ended-clause-made : goal.returns-in-Ended-clause-made
returns-in-Ended-clause-made g c =
    made_by c.args.lane c.args.budget c.poll-poll.result _ _ c.args.consumer.now
    c.poll-poll.new.self c.requires.able (polled g (goal.at.returns-in-Ended-clause-made g c).After-poll-poll)

pub returns-in_default-clause-made : goal.returns-in_default-clause-made
returns-in_default-clause-made g c =
    made_by c.args.lane c.args.budget c.poll-poll.result _ _ c.args.consumer.now
    c.poll-poll.new.self c.requires.able (polled g (goal.at.returns-in_default-clause-made g c).After-poll-poll)

pub returns-in-Ended-clause-most : goal.returns-in-Ended-clause-most
returns-in-Ended-clause-most g c =
    most_by c.args.lane c.args.budget c.poll-poll.result _ _ c.args.consumer.now
    c.poll-poll.new.self (polled g (goal.at.returns-in-Ended-clause-most g c).After-poll-poll)

pub returns-in_default-clause-most : goal.returns-in_default-clause-most
returns-in_default-clause-most g c =
    most_by c.args.lane c.args.budget c.poll-poll.result _ _ c.args.consumer.now
    c.poll-poll.new.self (polled g (goal.at.returns-in_default-clause-most g c).After-poll-poll)

pub returns-in-Ended-clause-only : goal.returns-in-Ended-clause-only
returns-in-Ended-clause-only g c =
    only_by c.args.lane c.args.budget c.poll-poll.result _ _ c.args.consumer.now
    c.poll-poll.new.self (polled g (goal.at.returns-in-Ended-clause-only g c).After-poll-poll)

pub returns-in_default-clause-only : goal.returns-in_default-clause-only
returns-in_default-clause-only g c =
    only_by c.args.lane c.args.budget c.poll-poll.result _ _ c.args.consumer.now
    c.poll-poll.new.self (polled g (goal.at.returns-in_default-clause-only g c).After-poll-poll)

pub returns-in-Ended-clause-marks : goal.returns-in-Ended-clause-marks
returns-in-Ended-clause-marks g c = λ p e.
    ⊎_elim (λ (h : p ≡ c.args.lane). inl h)
    (λ (t : (p ≢ c.args.lane) × (slice_index_or c.args.ended.now p false ≡ true)). inr t.1)
    (marked c.args.ended.now c.args.lane p
    (subst (λ (l : List Bool). slice_index_or l p false ≡ true) c.mark.ensures e))

pub returns-in-Ended-clause-ends : goal.returns-in-Ended-clause-ends
returns-in-Ended-clause-ends g c =
    let one = one_end_by c.args.lane c.args.budget c.poll-poll.result _ _ c.args.consumer.now
    c.poll-poll.new.self (polled g (goal.at.returns-in-Ended-clause-ends g c).After-poll-poll)
    c.in-Ended.is in
    let more = ap count_marks c.mark.ensures ∙ marks_more c.args.ended.now c.args.lane c.requires.unmarked in
    omega (arith, one, more)

pub returns-in_default-clause-ends : goal.returns-in_default-clause-ends
returns-in_default-clause-ends g c =
    let none = no_end_by c.args.lane c.args.budget c.poll-poll.result _ _ c.args.consumer.now
    c.poll-poll.new.self (polled g (goal.at.returns-in_default-clause-ends g c).After-poll-poll)
    c.in_default.not-Ended in
    omega (arith, none)

pub returns-in-Ended-clause-polled : goal.returns-in-Ended-clause-polled
returns-in-Ended-clause-polled g c = polled g (goal.at.returns-in-Ended-clause-polled g c).After-poll-poll

pub returns-in_default-clause-polled : goal.returns-in_default-clause-polled
returns-in_default-clause-polled g c = polled g (goal.at.returns-in_default-clause-polled g c).After-poll-poll
