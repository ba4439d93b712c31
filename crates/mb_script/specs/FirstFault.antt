-- Where a faulty script has its first faulty line.
use Rattle.std.specs.Prelude.{ℕ, ◌+◌, List, [], ◌∷◌, Option, Some, None}
use Rattle.mb_script.specs.declared.fault.Fault.{Fault}
use Rattle.mb_script.specs.declared.fault.Fault.TheVariants.{TooLong, NotAscii, BadLine, BadNumber, NoSetup, BadSetup, NoLane, NoConsumer, TooManyEvents, NoMemory, ReadFault, WriteFault}
use Rattle.mb_script.specs.declared.script.TheConstants.{MAX_EVENTS}
use Rattle.mb_script.specs.Text.{words_in_line}

-- the line that a fault is about, counted from 1, if it is about one
abbrev pub line_of : Fault → Option ℕ
line_of (BadLine n) = Some n
line_of (BadNumber n) = Some n
line_of NoSetup = Some 1
line_of (BadSetup n fault) = Some n
line_of (NoLane n) = Some n
line_of (NoConsumer n) = Some n
line_of TooManyEvents = Some (MAX_EVENTS + 2)
line_of TooLong = None
line_of NotAscii = None
line_of NoMemory = None
line_of ReadFault = None
line_of WriteFault = None

-- the first of these words, if there is one
abbrev pub first_of : List (List ℕ) → Option (List ℕ)
first_of [] = None
first_of (word ∷ words) = Some word

-- the first word of the first of these lines, if there is a line. Unless it is `setup`, the lines have fault `NoSetup`
abbrev pub first_word_in : List (List ℕ) → Option (List ℕ)
first_word_in [] = None
first_word_in (line ∷ lines) = first_of (words_in_line line)
