-- What the bytes of a ratifier script say.
use Rattle.std.specs.Prelude.{ℕ, List, [], ◌∷◌, length, codes, Result, Ok, Err, nat_lt, ◌==◌, if◌then◌else◌}
use Rattle.std.specs.List.{list_all}
use Rattle.std.specs.Char.{is_ascii}
use Rattle.std.specs.Option.{ok_or}
use Rattle.std.specs.Str.{bytes_eq}
use Rattle.mb_quorum.specs.declared.table.TableName.{TableName}
use Rattle.mb_program.specs.declared.fault.RatifyFault.{RatifyFault}
use Rattle.mb_program.specs.declared.fault.RatifyFault.TheVariants.{TooLong, NotAscii, BadLine, BadNumber}
use Rattle.mb_program.specs.declared.script.RatifyScript as code
use Rattle.mb_script.specs.declared.transfer.TheConstants.{MAX_SCRIPT_LEN}
use Rattle.mb_script.specs.Vocabulary.{◌>>=◌, table_named, lines_of, words_in_line, has_empty, number_of, numbers_of}

-- a script as plain data
pub record Script : Type 0 where
  -- the name of the quorum table, and how many values the table is for
  pub table : TableName
  pub values : ℕ
  -- the input of each process, and the process of each turn
  pub inputs : List ℕ
  pub turns : List ℕ

-- a script of the code, as plain data
abbrev pub view : {A : Type 0} → code.RatifyScript A → Script
view s = record { table = s.table; values = s.values; inputs = s.inputs.items; turns = s.turns.items }

-- the words of line n, which is the first of these lines, and the lines after it. Or the fault of line n
unfoldable pub line_words : ℕ → List (List ℕ) → Result (List (List ℕ) × List (List ℕ)) RatifyFault
line_words n [] = Err (BadLine n)
line_words n (line ∷ rest) = if has_empty (words_in_line line) then Err (BadLine n) else Ok (words_in_line line, rest)

-- the table and the number of values that the words of the first line say, or the fault of that line
unfoldable pub head_of : List (List ℕ) → Result (TableName × ℕ) RatifyFault
head_of (key ∷ name ∷ values ∷ []) =
    if bytes_eq key (codes "ratify")
    then ok_or (table_named name) (BadLine 1) >>= (λ t. ok_or (number_of values) (BadNumber 1) >>= (λ m. Ok (t, m)))
    else Err (BadLine 1)
head_of words = Err (BadLine 1)

-- the numbers after the key in these words of line n, or the fault of that line
unfoldable pub list_of : ℕ → List ℕ → List (List ℕ) → Result (List ℕ) RatifyFault
list_of n key [] = Err (BadLine n)
list_of n key (word ∷ words) = if bytes_eq word key then ok_or (numbers_of words) (BadNumber n) else Err (BadLine n)

-- what the three lines say, read in turn, so that the first faulty line decides
unfoldable pub three_lines : List (List ℕ) → Result Script RatifyFault
three_lines lines = do
  first ← line_words 1 lines
  head ← head_of first.0
  second ← line_words 2 first.1
  inputs ← list_of 2 (codes "inputs") second.0
  third ← line_words 3 second.1
  turns ← list_of 3 (codes "turns") third.0
  if length third.1 == 0
      then Ok (record { table = head.0; values = head.1; inputs = inputs; turns = turns })
      else Err (BadLine 4)

-- what the bytes say: a script, or the first fault
unfoldable pub script_of : List ℕ → Result Script RatifyFault
script_of bytes =
    if nat_lt MAX_SCRIPT_LEN (length bytes) then Err TooLong
    else if list_all is_ascii bytes then three_lines (lines_of bytes)
    else Err NotAscii
