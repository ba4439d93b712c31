-- What the loop of `Course::begin` keeps: for each input so far there is the place of a process without an access.
use Rattle.std.proofs.Common.{◌≡◌, ◌<◌, ℕ, get_or, length, []}
use Rattle.mb_quorum.specs.Quorum.{QuorumTable}
use Rattle.mb_deciding.specs.{Next, IsReached, IsSameFor}
use Rattle.mb_deciding.proofs.run.Course.begin.Given as goal

abbrev pub invariant-loop-input : goal.invariant-loop-input
invariant-loop-input g l = record {
  processes : length l.places.items ≡ l.input-index;
  reached : (t : QuorumTable) → IsSameFor (g.M.Machine.kind l.machine) t (g.M.Machine.table l.machine)
      → (p : ℕ) (d : Next) → p < length l.places.items
      → IsReached t (g.M.Machine.kind l.machine) (get_or l.inputs p 0) (get_or l.places.items p d) [];
}
