-- The first word of a replay script, and the fault NoSetup.
use Rattle.std.proofs.Common.{◌≡◌, ◌≢◌, ℕ, ◌≤◌, Bool, true, false, cond, nat_lt, List, [], ◌∷◌, length, codes, Option, Some, Result, Ok, Err, refl, ap, sym, subst, arith}
use Rattle.std.specs.Str.{bytes_eq}
use Rattle.std.specs.List.{list_all}
use Rattle.std.proofs.lemmas.Slice.Eq.{bytes_eq-Decides}
use Rattle.std.specs.Char.{is_ascii}
use Rattle.std.proofs.lemmas.Bool.{le-ltb}
use Rattle.mb_world.specs.declared.event.Event.{Event}
use Rattle.mb_script.specs.declared.fault.Fault.{Fault}
use Rattle.mb_script.specs.declared.fault.Fault.TheVariants.{BadLine, NoSetup}
use Rattle.mb_script.specs.declared.transfer.TheConstants.{MAX_SCRIPT_LEN}
use Rattle.mb_script.specs.FirstFault.{first_of, first_word_in}
use Rattle.mb_script.specs.Scripts.{SetupLine, sizes_of, setup_of, events_of, script_with, lines_script, script_of}
use Rattle.mb_script.specs.Steps.{◌>>=◌}
use Rattle.mb_script.specs.Text.{has_empty, lines_of, words_in_line}
use Rattle.mb_script.proofs.AboutLines.{For, for_cond, for_sizes}
use Rattle.mb_script.proofs.FaultyLines.{by_lines, err_is, events_least}

-- the words after `setup` are no reason for NoSetup
not_behind : (ws : List (List ℕ)) → For (λ e. e ≢ NoSetup) (setup_of (codes "setup" ∷ ws))
unfolding setup_of
not_behind ws =
    for_cond (λ e. e ≢ NoSetup) (has_empty ws) _ _ (λ e. cc)
    (for_sizes (λ e. e ≢ NoSetup) ws (λ e. cc) (λ e. cc) (λ f e. cc))

-- the lines after the first are no reason for NoSetup
never_behind : (made : SetupLine) (r : Result (List Event) Fault) → r ≢ Err NoSetup
    → (r >>= (λ es. Ok (script_with made es))) ≢ Err NoSetup
never_behind made (Ok ys) never = λ is. cc
never_behind made (Err d) never = λ is. never (ap (λ (f : Fault). Err f) (err_is d NoSetup is))

-- if neither the first line of a script nor the others have the fault NoSetup, the script does not have it
never_step : (r : Result SetupLine Fault) (f : SetupLine → Result (List Event) Fault) → For (λ e. e ≢ NoSetup) r
    → ((x : SetupLine) → f x ≢ Err NoSetup)
    → (r >>= (λ made. f made >>= (λ es. Ok (script_with made es)))) ≢ Err NoSetup
never_step (Err d) f first behind = λ is. first (err_is d NoSetup is)
never_step (Ok x) f first behind = λ is. never_behind x (f x) (behind x) is

-- if two options with a word each are equal, their words are
word_is : (w v : List ℕ) → ◌≡◌ {A = Option (List ℕ)} (Some w) (Some v) → w ≡ v
word_is w v e = cc

-- if the first word is `setup`, the fault is not NoSetup
no_setup_by : (ws lines : List (List ℕ)) → first_of ws ≡ Some (codes "setup")
    → (setup_of ws >>= (λ made. events_of made.plan 2 lines >>= (λ es. Ok (script_with made es)))) ≢ Err NoSetup
no_setup_by [] lines e = absurd (cc)
no_setup_by (key ∷ ws) lines e =
    let is : key ≡ codes "setup" = word_is key (codes "setup") e in
    never_step (setup_of (key ∷ ws)) (λ made. events_of made.plan 2 lines)
    (subst (λ (k : List ℕ). For (λ e. e ≢ NoSetup) (setup_of (k ∷ ws))) (sym is) (not_behind ws))
    (λ made fails. let least = events_least made.plan 2 1 lines NoSetup (omega arith) fails refl
    in omega (arith, least))

-- the lines of a script have the fault NoSetup only if the first word is no `setup`
no_setup_lines : (us : List (List ℕ)) → lines_script us ≡ Err NoSetup → first_word_in us ≢ Some (codes "setup")
unfolding lines_script
no_setup_lines [] is = λ e. cc
no_setup_lines (line ∷ lines) is = λ e. no_setup_by (words_in_line line) lines e is

-- if the first word is not `setup`, the first line has the fault NoSetup. The test of this word has the result t
other_by : (key : List ℕ) (ws : List (List ℕ)) (t : Bool) → bytes_eq key (codes "setup") ≡ t → key ≢ codes "setup"
    → cond t (cond (has_empty ws) (Err (BadLine 1)) (sizes_of ws)) (Err NoSetup) ≡ Err NoSetup
other_by key ws true is other = absurd (other ((bytes_eq-Decides key (codes "setup")).0 is))
other_by key ws false is other = refl

-- if the first word is not `setup`, the first line has the fault NoSetup
other_setup : (ws : List (List ℕ)) → first_of ws ≢ Some (codes "setup") → setup_of ws ≡ Err NoSetup
unfolding setup_of
other_setup [] other = refl
other_setup (key ∷ ws) other = other_by key ws _ refl (λ e. other (ap (λ (w : List ℕ). Some w) e))

-- if the first word is not `setup`, the lines have the fault NoSetup
always_lines : (us : List (List ℕ)) → first_word_in us ≢ Some (codes "setup") → lines_script us ≡ Err NoSetup
unfolding lines_script
always_lines [] other = refl
always_lines (line ∷ lines) other = rw (other_setup (words_in_line line) other) refl

-- if the fault of a text is NoSetup, its first word is not `setup`
pub no_setup_told : (bytes : List ℕ) → script_of bytes ≡ Err NoSetup
    → first_word_in (lines_of bytes) ≢ Some (codes "setup")
unfolding script_of
no_setup_told bytes is =
    no_setup_lines (lines_of bytes)
    (by_lines (nat_lt MAX_SCRIPT_LEN (length bytes)) (list_all is_ascii bytes)
    (lines_script (lines_of bytes)) NoSetup 1 is refl)

-- if a text is ASCII and not too long, and its first word is not `setup`, its fault is NoSetup
pub no_setup_always : (bytes : List ℕ) → length bytes ≤ MAX_SCRIPT_LEN → list_all is_ascii bytes ≡ true
    → first_word_in (lines_of bytes) ≢ Some (codes "setup") → script_of bytes ≡ Err NoSetup
unfolding script_of
no_setup_always bytes short ascii other =
    rw (le-ltb MAX_SCRIPT_LEN (length bytes) short, ascii) (always_lines (lines_of bytes) other)
