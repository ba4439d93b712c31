-- Lines of a replay script, one after the other.
use Rattle.std.proofs.Common.{◌≡◌, ◌≢◌, ℕ, suc, ◌+◌, ◌<◌, ◌≤◌, Bool, true, false, cond, nat_lt, ◌||◌, List, [], ◌∷◌, ◌++◌, length, codes, Option, Some}
use Rattle.std.proofs.Common.{None, Result, Ok, Err, refl, ap, sym, subst, ◌∙◌, arith, append_assoc, append-nil}
use Rattle.std.specs.Prelude.{IsErrAnd}
use Rattle.std.specs.Option.{ok_or}
use Rattle.std.specs.Str.{bytes_eq}
use Rattle.std.proofs.lemmas.Bool.{ltb-true, lt-ltb, le-ltb}
use Rattle.mb_quorum.specs.declared.table.TableName.{TableName}
use Rattle.mb_world.specs.declared.event.Event.{Event}
use Rattle.mb_world.specs.Plan.{Plan}
use Rattle.mb_script.specs.declared.fault.Fault.{Fault}
use Rattle.mb_script.specs.declared.fault.Fault.TheVariants.{BadLine, TooManyEvents, NoMemory, ReadFault, WriteFault}
use Rattle.mb_script.specs.declared.script.TheConstants.{MAX_EVENTS}
use Rattle.mb_script.specs.Faults.{Gives}
use Rattle.mb_script.specs.Steps.{◌>>=◌}
use Rattle.mb_script.specs.Scripts.{SetupLine, one_number, two_numbers, three_numbers, event_of, event_at, events_of, sizes_of, setup_of}
use Rattle.mb_script.specs.Tables.{table_named}
use Rattle.mb_script.specs.Text.{words_in_line, has_empty}

-- the events `done`, and then those of the further lines, or the fault of the further lines
abbrev pub onto : List Event → Result (List Event) Fault → Result (List Event) Fault
onto done (Ok events) = Ok (done ++ events)
onto done (Err e) = Err e

-- ---- lines with an empty word, or with too many or too few words
-- if the result is r for each of the four keys of events, and for any other key, it is r
any_key : (o p f s : Bool) (r : Result Event Fault) → cond o r (cond p r (cond f r (cond s r r))) ≡ r
any_key true p f s r = refl
any_key false true f s r = refl
any_key false false true s r = refl
any_key false false false true r = refl
any_key false false false false r = refl

-- a line of more than eight words is a bad line
long_event : (n : ℕ) (ws : List (List ℕ)) → 8 < length ws → event_of n ws ≡ Err (BadLine n)
unfolding event_of one_number two_numbers three_numbers
long_event n [] long = absurd (omega (arith, long))
long_event n (key ∷ []) long = absurd (omega (arith, long))
long_event n (key ∷ a ∷ []) long = absurd (omega (arith, long))
long_event n (key ∷ a ∷ b ∷ []) long = absurd (omega (arith, long))
long_event n (key ∷ a ∷ b ∷ c ∷ []) long = absurd (omega (arith, long))
long_event n (key ∷ a ∷ b ∷ c ∷ d ∷ ws) long =
    any_key (bytes_eq key (codes "offer")) (bytes_eq key (codes "push")) (bytes_eq key (codes "finish"))
    (bytes_eq key (codes "step")) (Err (BadLine n))

-- a line with an empty word, which `empty` says, or with more than eight words is a bad line
bad_by : (plan : Plan) (n : ℕ) (line : List ℕ) (empty : Bool) → has_empty (words_in_line line) ≡ empty
    → (empty || nat_lt 8 (length (words_in_line line))) ≡ true → event_at plan n line ≡ Err (BadLine n)
unfolding event_at
bad_by plan n line true is bad = rw is refl
bad_by plan n line false is bad = rw (is, long_event n (words_in_line line) (ltb-true _ _ bad)) refl

-- a line with an empty word, or with too many words, is a bad line
pub bad_event : (plan : Plan) (n : ℕ) (line : List ℕ)
    → (has_empty (words_in_line line) || nat_lt 8 (length (words_in_line line))) ≡ true
    → event_at plan n line ≡ Err (BadLine n)
bad_event plan n line bad = bad_by plan n line _ refl bad

-- if what comes after a table's name is bad, the line is bad, whether the name is a table's or not
bad_either : (o : Option TableName)
    → ◌≡◌ {A = Result SetupLine Fault} (ok_or o (BadLine 1) >>= (λ t. Err (BadLine 1))) (Err (BadLine 1))
bad_either None = refl
bad_either (Some t) = refl

-- if more than seven words come after `setup`, the first line is bad
long_setup : (ws : List (List ℕ)) → 7 < length ws → sizes_of ws ≡ Err (BadLine 1)
unfolding sizes_of
long_setup [] long = absurd (omega (arith, long))
long_setup (a ∷ []) long = absurd (omega (arith, long))
long_setup (a ∷ b ∷ []) long = absurd (omega (arith, long))
long_setup (a ∷ b ∷ c ∷ []) long = absurd (omega (arith, long))
long_setup (a ∷ b ∷ c ∷ d ∷ []) long = absurd (omega (arith, long))
long_setup (a ∷ b ∷ c ∷ d ∷ e ∷ []) long = absurd (omega (arith, long))
long_setup (a ∷ b ∷ c ∷ d ∷ e ∷ f ∷ []) long = absurd (omega (arith, long))
long_setup (a ∷ b ∷ c ∷ d ∷ e ∷ f ∷ g ∷ ws) long = bad_either (table_named e)

-- if fewer than five words come after `setup`, the first line is bad
pub short_setup : (ws : List (List ℕ)) → length ws < 5 → sizes_of ws ≡ Err (BadLine 1)
unfolding sizes_of
short_setup [] short = refl
short_setup (a ∷ []) short = refl
short_setup (a ∷ b ∷ []) short = refl
short_setup (a ∷ b ∷ c ∷ []) short = refl
short_setup (a ∷ b ∷ c ∷ d ∷ []) short = refl
short_setup (a ∷ b ∷ c ∷ d ∷ e ∷ ws) short = absurd (omega (arith, short))

-- a first line that begins with `setup`, and has an empty word, which `empty` says, or more than eight, is a bad line
bad_setup_by : (ws : List (List ℕ)) (empty : Bool) → has_empty ws ≡ empty
    → (empty || nat_lt 8 (suc (length ws))) ≡ true → setup_of (codes "setup" ∷ ws) ≡ Err (BadLine 1)
unfolding setup_of
bad_setup_by ws true is bad = rw is refl
bad_setup_by ws false is bad =
    let more : 8 < suc (length ws) = ltb-true _ _ bad in
    rw (is, long_setup ws (omega (arith, more))) refl

-- if the first line begins with `setup`, and has an empty word or too many words, it is a bad line
pub bad_setup : (line key : List ℕ) (ws : List (List ℕ)) → words_in_line line ≡ key ∷ ws → key ≡ codes "setup"
    → (has_empty (words_in_line line) || nat_lt 8 (length (words_in_line line))) ≡ true
    → setup_of (words_in_line line) ≡ Err (BadLine 1)
bad_setup line key ws cut is bad =
    let words : words_in_line line ≡ codes "setup" ∷ ws = cut ∙ ap (λ (k : List ℕ). k ∷ ws) is in
    rw words (bad_setup_by ws _ refl (rw words at bad))

-- ---- one line more
-- if line n comes after the last that may have an event, the result of all lines (`whole`) is TooManyEvents
pub line_too_many : (plan : Plan) (done : List Event) (n : ℕ) (line : List ℕ) (lines : List (List ℕ))
    (whole : Result (List Event) Fault) → MAX_EVENTS + 1 < n → onto done (events_of plan n (line ∷ lines)) ≡ whole
    → whole ≡ Err TooManyEvents
unfolding events_of
line_too_many plan done n line lines whole above same = sym same ∙ rw (lt-ltb (MAX_EVENTS + 1) n above) refl

-- if line n is not too late to have an event, and is faulty, its fault is the result of all lines (`whole`)
pub line_fails : (plan : Plan) (done : List Event) (n : ℕ) (line : List ℕ) (lines : List (List ℕ)) (e : Fault)
    (whole : Result (List Event) Fault) → n ≤ MAX_EVENTS + 1 → onto done (events_of plan n (line ∷ lines)) ≡ whole
    → event_at plan n line ≡ Err e → whole ≡ Err e
unfolding events_of
line_fails plan done n line lines e whole below same fails =
    sym same ∙ rw (le-ltb (MAX_EVENTS + 1) n below, fails) refl

-- one more event may be put after the events `done`, or before the further ones: the whole is the same
onto_one : (done : List Event) (event : Event) (r : Result (List Event) Fault)
    → onto (done ++ event ∷ []) r ≡ onto done (r >>= (λ events. Ok (event ∷ events)))
onto_one done event (Ok events) = ap (λ (l : List Event). Ok l) (append_assoc done (event ∷ []) events)
onto_one done event (Err e) = refl

-- if line n has an event, this comes after the events `done`, and the result of all lines stays `whole`
pub line_works : (plan : Plan) (done : List Event) (n : ℕ) (line : List ℕ) (lines : List (List ℕ)) (event : Event)
    (whole : Result (List Event) Fault) → n ≤ MAX_EVENTS + 1 → onto done (events_of plan n (line ∷ lines)) ≡ whole
    → event_at plan n line ≡ Ok event → onto (done ++ event ∷ []) (events_of plan (suc n) lines) ≡ whole
unfolding events_of
line_works plan done n line lines event whole below same works =
    onto_one done event (events_of plan (suc n) lines) ∙ sym (rw (le-ltb (MAX_EVENTS + 1) n below, works) refl) ∙ same

-- if no line is left, the result of all lines (`whole`) is the events `done`
pub lines_end : (plan : Plan) (done : List Event) (n : ℕ) (whole : Result (List Event) Fault)
    → onto done (events_of plan n []) ≡ whole → whole ≡ Ok done
unfolding events_of
lines_end plan done n whole same = sym same ∙ ap (λ (l : List Event). Ok l) (append-nil done)

-- if a call returns a line's fault or NoMemory, and a line's fault is that of all lines, the call is as `Gives` says
pub fails_whole : {X : Type 0} (view : X → List Event) (r : Result X Fault) (e : Fault) (read : Result Event Fault)
    (whole : Result (List Event) Fault) → IsErrAnd r (λ f. f ≡ e)
    → (e ≢ NoMemory → read ≡ Err e) × (e ≢ ReadFault) × (e ≢ WriteFault) → (read ≡ Err e → whole ≡ Err e)
    → Gives view r whole
fails_whole view (Ok x) e read whole same gives on = absurd same
fails_whole view (Err f) e read whole same gives on =
    subst (λ (g : Fault). (g ≢ NoMemory → whole ≡ Err g) × (g ≢ ReadFault) × (g ≢ WriteFault)) (sym same)
    ((λ w. on (gives.0 w)), gives.1, gives.2)
