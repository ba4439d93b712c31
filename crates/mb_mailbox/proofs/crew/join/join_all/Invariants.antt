use Rattle.std.proofs.Common.{◌≡◌, ◌++◌, ◌+◌, ◌≤◌, vec_len, vec_capacity}
use Rattle.std.specs.Vec.Iter.{into_iter_items, into_iter_len}
use Rattle.std.specs.List.{AllZip}
use Rattle.mb_mailbox.specs.Begun.{Keeps}
use Rattle.mb_mailbox.proofs.crew.join.join_all.Given as goal

-- each worker yielded so far has its end in `done`, which has room for the rest
abbrev pub invariant-loop-one : goal.invariant-loop-one
invariant-loop-one g l = record {
  rest : l.yielded ++ into_iter_items l.one-iterator ≡ l.fn.begun.items;
  left : vec_len l.done + into_iter_len l.one-iterator ≡ vec_len l.fn.begun;
  room : vec_len l.fn.begun ≤ vec_capacity l.done;
  kept : AllZip (Keeps g.P.Promise.kept_by) l.yielded l.done.items;
}
