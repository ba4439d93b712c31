-- Loop invariants of `push_processes`: it appends a line for each process, from process 0 on.
use Rattle.std.proofs.Common.{◌≡◌, ◌++◌, drop, string_bytes}
use Rattle.mb_program.specs.TraceText.{processes_text}
use Rattle.mb_program.proofs.trace_text.push_processes.Given as goal

-- the text now, with the lines of the processes that are left, is the text at first, with the lines of all processes
abbrev pub invariant-loop-process : goal.invariant-loop-process
invariant-loop-process g l =
    string_bytes l.text ++ processes_text l.process (drop l.process l.outputs)
    ≡ string_bytes l.fn.text ++ processes_text 0 l.outputs
