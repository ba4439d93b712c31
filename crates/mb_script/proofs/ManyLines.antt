-- A line after the last event that a replay script may have.
use Rattle.std.proofs.Common.{◌≡◌, ℕ, suc, ◌+◌, ◌≤◌, true, List, [], ◌∷◌, ◌++◌, length, map, None, Err, refl, arith}
use Rattle.std.specs.List.{AllByRecursion, join_with_byte, list_all}
use Rattle.std.specs.Char.{is_ascii}
use Rattle.std.proofs.lemmas.Bool.{lt-ltb, le-ltb}
use Rattle.mb_world.specs.declared.event.Event.{Event}
use Rattle.mb_world.specs.Setups.{setup_refusal}
use Rattle.mb_script.specs.declared.fault.Fault.TheVariants.{TooManyEvents}
use Rattle.mb_script.specs.declared.script.TheConstants.{MAX_EVENTS}
use Rattle.mb_script.specs.declared.transfer.TheConstants.{MAX_SCRIPT_LEN}
use Rattle.mb_script.specs.Scripts.{events_of, lines_script, script_of}
use Rattle.mb_script.specs.Text.{lines_of}
use Rattle.mb_script.specs.Spelling.{IsEventOf, IsScript, Sizes, event_words, script_lines}
use Rattle.mb_script.proofs.ReadAgain.{event_again, plan_for, setup_again}

-- if the last of the events from line n on is on the last line that may have one, a further line is one too many
events_many : (z : Sizes) (n : ℕ) (events : List Event) (line : List ℕ) (rest : List (List ℕ))
    → setup_refusal z.producers z.consumers z.cells z.pairs ≡ None → AllByRecursion (IsEventOf z) events
    → n + length events ≡ MAX_EVENTS + 2
    → events_of (plan_for z) n (map (join_with_byte 32) (map event_words events) ++ line ∷ rest) ≡ Err TooManyEvents
unfolding events_of
events_many z n [] line rest sized are many = rw (lt-ltb (MAX_EVENTS + 1) n (omega (arith, many))) refl
events_many z n (e ∷ events) line rest sized are many =
    rw (
      le-ltb (MAX_EVENTS + 1) n (omega (arith, many)),
      event_again z n e sized are.0,
      events_many z (suc n) events line rest sized are.1 (omega (arith, many)),
    ) refl

-- if a line follows the lines of a script with the most events, the fault is TooManyEvents
lines_many : (z : Sizes) (events : List Event) (line : List ℕ) (rest : List (List ℕ)) → IsScript z events
    → length events ≡ MAX_EVENTS → lines_script (script_lines z events ++ line ∷ rest) ≡ Err TooManyEvents
unfolding lines_script
lines_many z events line rest is many =
    rw (setup_again z is.sizes, events_many z 2 events line rest is.sizes is.known (omega (arith, many))) refl

-- a text that is ASCII and not too long, with a line after a script with the most events, has the fault TooManyEvents
pub script_many : (bytes : List ℕ) (z : Sizes) (events : List Event) (line : List ℕ)
    (rest : List (List ℕ)) → IsScript z events
    → length events ≡ MAX_EVENTS → lines_of bytes ≡ script_lines z events ++ line ∷ rest → length bytes ≤ MAX_SCRIPT_LEN
    → list_all is_ascii bytes ≡ true → script_of bytes ≡ Err TooManyEvents
unfolding script_of
script_many bytes z events line rest is many e short ascii =
    rw (le-ltb MAX_SCRIPT_LEN (length bytes) short, ascii, e) (lines_many z events line rest is many)
