-- What each worker gives back is an end of its job, whether it got a thread or not.
use Rattle.std.proofs.Common.{◌≡◌, ℕ, true, refl, sym, subst}
use Rattle.mb_mailbox.specs.Imports.{Stream}
use Rattle.mb_mailbox.specs.Begun.{Keeps, Promises}
use Rattle.mb_mailbox.specs.Runs.{IsEnd, is_aborted, with_abort}
use Rattle.mb_mailbox.specs.declared.gate.Who.{Who}
use Rattle.mb_mailbox.specs.declared.crew.worker.Worker.{Worker}
use Rattle.mb_mailbox.specs.declared.crew.worker.Worker.TheVariants as worker
use Rattle.mb_mailbox.specs.declared.crew.jobs.Done.{Done}
use Rattle.mb_mailbox.specs.declared.crew.jobs.Done.TheVariants as done
use Rattle.mb_mailbox.specs.declared.crew.jobs.Job.{Job}
use Rattle.mb_mailbox.specs.declared.crew.jobs.Job.TheVariants as job
use Rattle.mb_mailbox.specs.declared.crew.jobs.Lanes.{Lanes}
use Rattle.mb_mailbox.specs.declared.crew.jobs.Pledge.{Pledge}

module _ {G R Z : Type 0} (may_stop may_pass : G → Who → ℕ → Type 0) (stream : R → Stream) (gate : G) (lanes : Lanes)
  where
    -- if a worker promised an end of job j, and `d` is what it gave back, `d` is an end of job j
    pub kept : (j : Job R Z) (b : Worker (Done Z) (Pledge G R Z)) (d : Done Z)
        → Promises may_stop may_pass stream gate lanes j b
        → Keeps (λ p d. IsEnd (may_stop p.gate.value) (may_pass p.gate.value) stream p.lanes p.job.value d) b d
        → IsEnd (may_stop gate) (may_pass gate) stream lanes j d
    kept j (worker.Spawned h) d p k =
        subst (λ (z : Job R Z × (Lanes × G)). IsEnd (may_stop z.1.1) (may_pass z.1.1) stream z.1.0 z.0 d)
        (λ i. (p.0 i, (p.1 i, p.2 i))) k
    kept j (worker.Inline e) d p k =
        subst (λ (e : Done Z). IsEnd (may_stop gate) (may_pass gate) stream lanes j e) (sym k) p.0

-- an end of a job is still one after it is changed to say that the run is aborted: `IsEnd` says less of it then
pub still_off : {R Z : Type 0} (may_stop may_pass : Who → ℕ → Type 0) (stream : R → Stream) (lanes : Lanes)
    (j : Job R Z) (d : Done Z) → IsEnd may_stop may_pass stream lanes j d
    → IsEnd may_stop may_pass stream lanes j (with_abort d) × (is_aborted (with_abort d) ≡ true)
still_off may_stop may_pass stream lanes (job.Put j) (done.Poll d) i = absurd i
still_off may_stop may_pass stream lanes (job.Poll j) (done.Put d) i = absurd i
still_off may_stop may_pass stream lanes (job.Put j) (done.Put d) i = (
  record {
    same = i.same;
    over = i.over;
    front = i.front;
    full = i.full;
    found = i.found;
    none = i.none;
    short = λ t o. absurd (cc);
    had_cells = λ t o none. absurd (cc);
    stop = λ t o. absurd (cc);
    passed = λ o. absurd (cc);
    passed_full = λ o f some. absurd (cc);
  },
  refl,
)
still_off may_stop may_pass stream lanes (job.Poll j) (done.Poll d) i = (
  record {
    same = i.same;
    read = i.read;
    ends = i.ends;
    marked = i.marked;
    stop = λ t o none. absurd (cc);
    unread = λ t o none. absurd (cc);
    only = λ o none. absurd (cc);
    polled = λ o. absurd (cc);
  },
  refl,
)
