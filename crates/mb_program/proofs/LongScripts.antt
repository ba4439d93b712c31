-- Scripts that are too long: exactly those of more bytes than the limit.
use Rattle.std.proofs.Common.{◌≡◌, ℕ, ◌<◌, Bool, true, false, List, [], ◌∷◌, length, codes, Option, Some, None, Result, Ok, Err, refl}
use Rattle.std.specs.Prelude.{if◌then◌else◌, ◌==◌, option_map}
use Rattle.std.specs.List.{list_all}
use Rattle.std.specs.Char.{is_ascii}
use Rattle.std.specs.Option.{ok_or}
use Rattle.std.specs.Str.{bytes_eq}
use Rattle.std.proofs.lemmas.Bool.{lt-ltb, ltb-true}
use Rattle.mb_deciding.specs.declared.trace.Fault.{Fault}
use Rattle.mb_deciding.specs.declared.trace.Fault.TheVariants as refusal
use Rattle.mb_deciding.specs.Vocabulary.{refusal_of}
use Rattle.mb_script.specs.declared.transfer.TheConstants.{MAX_SCRIPT_LEN}
use Rattle.mb_script.specs.Vocabulary.{has_empty, lines_of, number_of, numbers_of, table_named, words_in_line}
use Rattle.mb_script.proofs.AboutLines.{For, for_bind, for_cond, for_option}
use Rattle.mb_program.specs.declared.fault.RatifyFault.{RatifyFault}
use Rattle.mb_program.specs.declared.fault.RatifyFault.TheVariants.{TooLong, NotAscii, BadLine, BadNumber}
use Rattle.mb_program.specs.Refusal.{fault_from}
use Rattle.mb_program.specs.RatifyScript.{Script, head_of, line_words, list_of, script_of, three_lines}
use Rattle.mb_program.specs.Answer.{fault_in, fault_of}

-- a script of more bytes than the limit has the fault TooLong
pub too_long : (bytes : List ℕ) → MAX_SCRIPT_LEN < length bytes → fault_of bytes ≡ Some TooLong
unfolding script_of
too_long bytes above = rw (lt-ltb MAX_SCRIPT_LEN (length bytes) above) refl

-- ---- the fault TooLong comes neither from a line nor from the function `ratify`
-- the fault is not TooLong
abbrev IsOther : RatifyFault → Type 0
IsOther e = e ≡ TooLong → ⊥

-- a fault of the words of a line is not TooLong
other_in_line : (n : ℕ) (lines : List (List ℕ)) → For IsOther (line_words n lines)
unfolding line_words
other_in_line n [] = λ is. absurd (cc)
other_in_line n (line ∷ rest) = for_cond IsOther (has_empty (words_in_line line)) _ _ (λ is. absurd (cc)) tt

-- a fault of the first line is not TooLong
other_in_head : (words : List (List ℕ)) → For IsOther (head_of words)
unfolding head_of
other_in_head [] = λ is. absurd (cc)
other_in_head (key ∷ []) = λ is. absurd (cc)
other_in_head (key ∷ name ∷ []) = λ is. absurd (cc)
other_in_head (key ∷ name ∷ values ∷ []) =
    for_cond IsOther (bytes_eq key (codes "ratify")) _ _
    (for_bind IsOther (ok_or (table_named name) (BadLine 1)) _
    (for_option IsOther (table_named name) (BadLine 1) (λ is. absurd (cc)))
    (λ t. for_bind IsOther (ok_or (number_of values) (BadNumber 1)) _
    (for_option IsOther (number_of values) (BadNumber 1) (λ is. absurd (cc))) (λ m. tt)))
    (λ is. absurd (cc))
other_in_head (key ∷ name ∷ values ∷ more ∷ words) = λ is. absurd (cc)

-- a fault of a list of numbers is not TooLong
other_in_list : (n : ℕ) (key : List ℕ) (words : List (List ℕ)) → For IsOther (list_of n key words)
unfolding list_of
other_in_list n key [] = λ is. absurd (cc)
other_in_list n key (word ∷ words) =
    for_cond IsOther (bytes_eq word key) _ _
    (for_option IsOther (numbers_of words) (BadNumber n) (λ is. absurd (cc))) (λ is. absurd (cc))

-- a fault of the three lines is not TooLong
other_in_lines : (lines : List (List ℕ)) → For IsOther (three_lines lines)
unfolding three_lines
other_in_lines lines =
    for_bind IsOther (line_words 1 lines) _ (other_in_line 1 lines)
    (λ first. for_bind IsOther (head_of first.0) _ (other_in_head first.0)
    (λ head. for_bind IsOther (line_words 2 first.1) _ (other_in_line 2 first.1)
    (λ second. for_bind IsOther (list_of 2 (codes "inputs") second.0) _
    (other_in_list 2 (codes "inputs") second.0)
    (λ inputs. for_bind IsOther (line_words 3 second.1) _ (other_in_line 3 second.1)
    (λ third. for_bind IsOther (list_of 3 (codes "turns") third.0) _
    (other_in_list 3 (codes "turns") third.0)
    (λ turns. for_cond IsOther (length third.1 == 0) _ _ tt (λ is. absurd (cc))))))))

-- the function `ratify` does not refuse a script for its length
other_refusal : (o : Option Fault) → option_map fault_from o ≡ Some TooLong → ⊥
other_refusal None is = absurd (cc)
other_refusal (Some refusal.BadValues) is = absurd (cc)
other_refusal (Some (refusal.BadInput place)) is = absurd (cc)
other_refusal (Some (refusal.NoSuchProcess place)) is = absurd (cc)
other_refusal (Some refusal.NoMemory) is = absurd (cc)

-- if reading has no fault, or another than TooLong, the fault of what was read is not TooLong
fault_other : (r : Result Script RatifyFault) → For IsOther r → fault_in r ≡ Some TooLong → ⊥
fault_other (Ok s) other is = other_refusal (refusal_of s.values s.inputs s.turns) is
fault_other (Err e) other is = other (let same : ◌≡◌ {A = Option RatifyFault} (Some e) (Some TooLong) = is in cc)

-- if the fault of a text is TooLong, the test whether it has more bytes than the limit (`long`) holds
long_test : (long ascii : Bool) (lines : List (List ℕ))
    → fault_in (if long then Err TooLong else if ascii then three_lines lines else Err NotAscii)
    ≡ Some TooLong → long ≡ true
long_test true ascii lines is = refl
long_test false true lines is = absurd (fault_other (three_lines lines) (other_in_lines lines) is)
long_test false false lines is = absurd (cc)

-- only a text of more bytes than the limit has the fault TooLong
pub only_long : (bytes : List ℕ) → fault_of bytes ≡ Some TooLong → MAX_SCRIPT_LEN < length bytes
unfolding script_of
only_long bytes is = ltb-true MAX_SCRIPT_LEN (length bytes) (long_test _ (list_all is_ascii bytes) (lines_of bytes) is)
