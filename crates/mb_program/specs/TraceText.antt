-- The text of a ratifier's trace.
use Rattle.std.specs.Prelude.{ℕ, suc, List, [], ◌∷◌, ◌++◌, cond, codes, Option, Some, None}
use Rattle.std.specs.List.{flat_map}
use Rattle.std.specs.Fmt.{decimal}
use Rattle.mb_deciding.specs.declared.object.Out.{Out}
use Rattle.mb_deciding.specs.declared.trace.Entry.{Entry}
use Rattle.mb_deciding.specs.declared.trace.Entry.TheVariants.{Access, Done}
use Rattle.mb_script.specs.Vocabulary.{act_text}

-- the text of an output: 1 if it is decided, else 0, and then the value
abbrev pub out_text : Out → List ℕ
out_text out = cond out.decided (codes "1 ") (codes "0 ") ++ decimal out.value

-- the line of one turn's entry in a trace
abbrev pub entry_text : Entry → List ℕ
entry_text (Access process act None) = decimal process ++ codes " " ++ act_text act ++ codes "\n"
entry_text (Access process act (Some out)) =
    decimal process ++ codes " " ++ act_text act ++ codes " out " ++ out_text out ++ codes "\n"
entry_text (Done process) = decimal process ++ codes " done\n"

-- the line of a process, with its output, if it has one
abbrev pub process_text : ℕ → Option Out → List ℕ
process_text process (Some out) = codes "process " ++ decimal process ++ codes ": " ++ out_text out ++ codes "\n"
process_text process None = codes "process " ++ decimal process ++ codes ": none\n"

-- the lines of these processes, which are numbered from `first` on
abbrev pub processes_text : ℕ → List (Option Out) → List ℕ
processes_text first [] = []
processes_text first (out ∷ outputs) = process_text first out ++ processes_text (suc first) outputs

-- the text of a trace: a line for each entry, and then a line for each process
abbrev pub trace_text : List Entry → List (Option Out) → List ℕ
trace_text entries outputs = flat_map entry_text entries ++ processes_text 0 outputs
