-- What the scope requires of its closure: what `run` requires, and that its types may go to other threads.
use mir.Syntax.{of_param}
use denote.Exit.{unseen}
use denote.Param.Send.{Quiet-if, sendable}
use Rattle.mb_mailbox.proofs.crew.threads.run.Goals as goal

pub scoped-requires : goal.scoped-requires
scoped-requires g c =
    let t = c.type_bounds in
    record {
      at = λ a. (
        c.requires.belongs,
        (
          (c.requires.few, c.requires.first),
          (
            (c.requires.begun, c.requires.done),
            (
              record {
                owned = t.send-A.owned;
                leaving = λ k. Quiet-if (k (of_param 0))
                    (unseen {D = g.row.A.Denot}) unseen (λ x w. tt {0}) (λ x w. tt {0});
              },
              record {
                owned = t.send-R.owned;
                leaving = λ k. Quiet-if (k (of_param 2))
                    (unseen {D = g.row.R.Denot}) unseen (λ x w. tt {0}) (λ x w. tt {0});
              },
              search (sendable, t.sync-A),
              search (sendable, t.sync-W),
              search (sendable, t.sync-G),
              t.frees-A-Allocator,
            ),
          ),
        ),
      );
    }
