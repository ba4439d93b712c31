-- What an op can find after a history. Also facts about turns that mb_deciding proves.
use Rattle.std.proofs.Common.{ℕ, List, sym, subst}
use Rattle.mb_quorum.specs.Vocabulary.{QuorumTable}
use Rattle.mb_deciding.specs.declared.access.Op.TheVariants as to
use Rattle.mb_deciding.specs.Vocabulary.{ReadsLast, CanFind, act_of, seen_by}
pub use Rattle.mb_deciding.proofs.Acts.{acts-turns_for, has_turns, turns_for}
pub use Rattle.mb_deciding.proofs.Courses.{reads_seen}
use Rattle.mb_claim.specs.{Access, Op, Pc}

-- if the op can find what the history leaves in its word (`CanFind`), it can find `seen`, which it found there
pub told_find :
    (t : QuorumTable) (pc : Pc) (op : Op) (seen : ℕ) (h : List Access) → ReadsLast (act_of op seen) h
    → CanFind t pc op (seen_by op h) → CanFind t pc op seen
told_find t pc (to.Load reg) seen h same can = subst (CanFind t pc (to.Load reg)) (sym same) can
told_find t pc (to.Store reg value) seen h same can = tt
told_find t pc (to.Exchange reg value) seen h same can = subst (CanFind t pc (to.Exchange reg value)) (sym same) can
