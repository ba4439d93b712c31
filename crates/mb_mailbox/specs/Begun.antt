-- What the workers of a run promise, that the run is aborted if one got no thread, and which ends keep the promises.
use Rattle.std.specs.Prelude.{ℕ, ◌≡◌, None, Option, Some, true}
use Rattle.mb_mailbox.specs.declared.gate.Who.{Who}
use Rattle.mb_mailbox.specs.Imports.{Stream}
use Rattle.mb_mailbox.specs.Runs.{IsEnd, is_aborted}
use Rattle.mb_mailbox.specs.declared.crew.worker.Worker.{Worker}
use Rattle.mb_mailbox.specs.declared.crew.worker.Worker.TheVariants as worker
use Rattle.mb_mailbox.specs.declared.crew.jobs.Done.{Done}
use Rattle.mb_mailbox.specs.declared.crew.jobs.Job.{Job}
use Rattle.mb_mailbox.specs.declared.crew.jobs.Lanes.{Lanes}
use Rattle.mb_mailbox.specs.declared.crew.jobs.Pledge.{Pledge}

module _ {G R Z : Type 0} (may_stop may_pass : G → Who → ℕ → Type 0) (stream : R → Stream) where
  -- a worker's thread promises an end of this job under this gate, with these lanes. If no thread could be made, the
  -- worker has an end of this job already, which says that the run is aborted
  abbrev pub Promises : G → Lanes → Job R Z → Worker (Done Z) (Pledge G R Z) → Type 0
  Promises gate lanes j (worker.Spawned h) =
      (h.promise.job.value ≡ j) × (h.promise.lanes ≡ lanes) × (h.promise.gate.value ≡ gate)
  Promises gate lanes j (worker.Inline d) =
      IsEnd (may_stop gate) (may_pass gate) stream lanes j d × (is_aborted d ≡ true)

module _ {D P T : Type 0} (belongs : T → ℕ) where
  -- if the worker got no thread, there is a token of the lock with this name, which shows that the lock is set
  abbrev pub IsAborted : Worker D P → Option T → ℕ → Type 0
  IsAborted (worker.Spawned h) token lock = Unit {0}
  IsAborted (worker.Inline d) (Some token) lock = belongs token ≡ lock
  IsAborted (worker.Inline d) None lock = ⊥

module _ {D P : Type 0} (kept_by : P → D → Type 0) where
  -- `d` is the end of this worker: it keeps the promise of the worker's thread, or it is the end that the worker has
  -- already
  abbrev pub Keeps : Worker D P → D → Type 0
  Keeps (worker.Spawned h) d = kept_by h.promise d
  Keeps (worker.Inline e) d = d ≡ e
