-- Scripts that are too long: exactly those of more bytes than the limit.
use Rattle.std.proofs.Common.{◌≡◌, ℕ, suc, ◌+◌, ◌<◌, Bool, true, false, List, [], ◌∷◌, length, Option, Some, None, Result, Ok, Err, refl, subst}
use Rattle.std.specs.Prelude.{if◌then◌else◌, nat_lt}
use Rattle.std.specs.List.{list_all}
use Rattle.std.specs.Char.{is_ascii}
use Rattle.std.proofs.lemmas.Bool.{lt-ltb, ltb-true}
use Rattle.mb_world.specs.Plan.{Plan}
use Rattle.mb_script.specs.declared.fault.Fault.{Fault}
use Rattle.mb_script.specs.declared.fault.Fault.TheVariants.{TooLong, NotAscii}
use Rattle.mb_script.specs.declared.script.TheConstants.{MAX_EVENTS}
use Rattle.mb_script.specs.declared.transfer.TheConstants.{MAX_SCRIPT_LEN}
use Rattle.mb_script.specs.FirstFault.{line_of}
use Rattle.mb_script.specs.Text.{lines_of, words_in_line}
use Rattle.mb_script.specs.Scripts.{Script, event_at, events_of, lines_script, script_of, setup_of}
use Rattle.mb_script.specs.Replaying.{fault_in, fault_of}
use Rattle.mb_script.proofs.AboutLines.{At, For, at_line, at_setup, for_bind, for_cond}

-- a script of more bytes than the limit has the fault TooLong
pub too_long : (bytes : List ℕ) → MAX_SCRIPT_LEN < length bytes → fault_of bytes ≡ Some TooLong
unfolding script_of
too_long bytes above = rw (lt-ltb MAX_SCRIPT_LEN (length bytes) above) refl

-- ---- the fault TooLong comes from no line
-- the fault is not TooLong
abbrev IsOther : Fault → Type 0
IsOther e = e ≡ TooLong → ⊥

-- a fault that is about a line is not TooLong
other_at : {X : Type 0} (n : ℕ) (r : Result X Fault) → At n r → For IsOther r
other_at n (Ok x) about = tt
other_at n (Err e) about = λ is.
    let none : ◌≡◌ {A = Option ℕ} None (Some n) = subst (λ (f : Fault). line_of f ≡ Some n) is about in absurd (cc)

-- a fault of the lines of events is not TooLong
other_in_events : (plan : Plan) (n : ℕ) (lines : List (List ℕ)) → For IsOther (events_of plan n lines)
unfolding events_of
other_in_events plan n [] = tt
other_in_events plan n (line ∷ lines) =
    for_cond IsOther (nat_lt (MAX_EVENTS + 1) n) _ _ (λ is. absurd (cc))
    (for_bind IsOther (event_at plan n line) _ (other_at n _ (at_line plan n line))
    (λ e. for_bind IsOther (events_of plan (suc n) lines) _ (other_in_events plan (suc n) lines) (λ es. tt)))

-- a fault of all lines is not TooLong
other_in_lines : (lines : List (List ℕ)) → For IsOther (lines_script lines)
unfolding lines_script
other_in_lines [] = λ is. absurd (cc)
other_in_lines (line ∷ lines) =
    for_bind IsOther (setup_of (words_in_line line)) _ (other_at 1 _ (at_setup (words_in_line line)))
    (λ made. for_bind IsOther (events_of made.plan 2 lines) _ (other_in_events made.plan 2 lines) (λ es. tt))

-- if reading has no fault, or another than TooLong, the fault of what was read is not TooLong
fault_other : (r : Result Script Fault) → For IsOther r → fault_in r ≡ Some TooLong → ⊥
fault_other (Ok s) other is = absurd (cc)
fault_other (Err e) other is = other (let same : ◌≡◌ {A = Option Fault} (Some e) (Some TooLong) = is in cc)

-- if the fault of a text is TooLong, the test whether it has more bytes than the limit (`long`) holds
long_test : (long ascii : Bool) (lines : List (List ℕ))
    → fault_in (if long then Err TooLong else if ascii then lines_script lines else Err NotAscii)
    ≡ Some TooLong → long ≡ true
long_test true ascii lines is = refl
long_test false true lines is = absurd (fault_other (lines_script lines) (other_in_lines lines) is)
long_test false false lines is = absurd (cc)

-- only a text of more bytes than the limit has the fault TooLong
pub only_long : (bytes : List ℕ) → fault_of bytes ≡ Some TooLong → MAX_SCRIPT_LEN < length bytes
unfolding script_of
only_long bytes is = ltb-true MAX_SCRIPT_LEN (length bytes) (long_test _ (list_all is_ascii bytes) (lines_of bytes) is)
