-- The first faulty line of a replay script: no line after it counts, and the lines before it have no fault.
use Rattle.std.proofs.Common.{◌≡◌, ℕ, suc, zero, ◌+◌, ◌<◌, ◌≤◌, Bool, true, false, cond, nat_lt, List, [], ◌∷◌, length, take, Option, Some, Result, Ok, Err, refl, ap, sym, ◌∙◌, subst, arith}
use Rattle.std.specs.List.{list_all}
use Rattle.std.specs.Char.{is_ascii}
use Rattle.std.proofs.lemmas.Bool.{ltb-true, le-ltb}
use Rattle.std.proofs.lemmas.Bool.Decides.{nat_tests}
use Rattle.mb_world.specs.declared.event.Event.{Event}
use Rattle.mb_world.specs.Plan.{Plan}
use Rattle.mb_script.specs.declared.fault.Fault.{Fault}
use Rattle.mb_script.specs.declared.fault.Fault.TheVariants.{TooLong, NotAscii, NoSetup, TooManyEvents}
use Rattle.mb_script.specs.declared.script.TheConstants.{MAX_EVENTS}
use Rattle.mb_script.specs.declared.transfer.TheConstants.{MAX_SCRIPT_LEN}
use Rattle.mb_script.specs.FirstFault.{line_of}
use Rattle.mb_script.specs.Scripts.{SetupLine, Script, setup_of, event_at, events_of, script_with, lines_script, script_of}
use Rattle.mb_script.specs.Steps.{◌>>=◌}
use Rattle.mb_script.specs.Text.{lines_of, words_in_line}
use Rattle.mb_script.specs.Spelling.{Spells}
use Rattle.mb_script.proofs.ScriptBack.{lines_take}
use Rattle.mb_script.proofs.AboutLines.{At, at_line, at_setup}

-- ---- equal results, and lists that begin alike
-- if two options with a number each are equal, their numbers are
some_is : (x y : ℕ) → ◌≡◌ {A = Option ℕ} (Some x) (Some y) → x ≡ y
some_is x y e = cc

-- if two results with a fault each are equal, their faults are
pub err_is : {A : Type 0} (d e : Fault) → ◌≡◌ {A = Result A Fault} (Err d) (Err e) → d ≡ e
err_is d e is = cc

-- if two faults, each about some line, are equal, they are about the same line
one_line : (d e : Fault) (n m : ℕ) → line_of d ≡ Some n → d ≡ e → line_of e ≡ Some m → n ≡ m
one_line d e n m first same second = some_is n m (sym first ∙ ap line_of same ∙ second)

-- if the first k + 1 elements of two lists are the same, so are their heads, and the first k elements of their tails
same_head : {X : Type 0} (k : ℕ) (a : X) (us bs : List X) → take (suc k) (a ∷ us) ≡ take (suc k) bs
    → (rest : List X) × (bs ≡ a ∷ rest) × (take k us ≡ take k rest)
same_head k a us [] e = absurd (cc)
same_head k a us (b ∷ bs) e = (bs, cc, cc)

-- ---- the lines after the first faulty one do not count
-- the events from one line on, if the line gives r and those after it `rest`. If `many`, the line is one too many
abbrev from_line : Bool → Result Event Fault → Result (List Event) Fault → Result (List Event) Fault
from_line many r rest = cond many (Err TooManyEvents) (r >>= (λ event. rest >>= (λ events. Ok (event ∷ events))))

-- a fault of the lines from n on, n up to MAX_EVENTS + 2, is about no line before n, if this holds from n + 1 on
least_step : (n m : ℕ) (many : Bool) (r : Result Event Fault) (rest : Result (List Event) Fault)
    (e : Fault) → n ≤ MAX_EVENTS + 2
    → At n r → line_of e ≡ Some m → from_line many r rest ≡ Err e → (many ≡ false → rest ≡ Err e → suc n ≤ m) → n ≤ m
least_step n m true r rest e low at about is on =
    let same = one_line TooManyEvents e (MAX_EVENTS + 2) m refl (err_is TooManyEvents e is) about
    in omega (arith, low, same)
least_step n m false (Err d) rest e low at about is on =
    let same = one_line d e n m at (err_is d e is) about in omega (arith, same)
least_step n m false (Ok x) (Ok ys) e low at about is on = absurd (cc)
least_step n m false (Ok x) (Err d) e low at about is on = let more = on refl is in omega (arith, more)

-- if line n may have an event, by the test, line n + 1 is at most the first line that is one too many
below_by : (n : ℕ) → nat_lt (MAX_EVENTS + 1) n ≡ false → suc n ≤ MAX_EVENTS + 2
below_by n test = let low : n ≤ MAX_EVENTS + 1 = grind (arith, nat_tests, test) in omega (arith, low)

-- a fault of the lines from line n on, for n up to MAX_EVENTS + 2, is about no line before n
pub events_least : (plan : Plan) (n m : ℕ) (us : List (List ℕ)) (e : Fault) → n ≤ MAX_EVENTS + 2
    → events_of plan n us ≡ Err e
    → line_of e ≡ Some m → n ≤ m
unfolding events_of
events_least plan n m [] e low is about = absurd (cc)
events_least plan n m (line ∷ lines) e low is about =
    least_step n m (nat_lt (MAX_EVENTS + 1) n) (event_at plan n line) (events_of plan (suc n) lines)
    e low (at_line plan n line) about is
    (λ few fails. events_least plan (suc n) m lines e (below_by n few) fails about)

-- if the lines after one line are replaced by others with the same fault, the fault from that line on stays the same
same_step : (many : Bool) (r : Result Event Fault) (rest rest2 : Result (List Event) Fault) (e : Fault)
    → from_line many r rest ≡ Err e → (many ≡ false → rest ≡ Err e → rest2 ≡ Err e) → from_line many r rest2 ≡ Err e
same_step true r rest rest2 e is on = is
same_step false (Err d) rest rest2 e is on = is
same_step false (Ok x) (Ok ys) rest2 e is on = absurd (cc)
same_step false (Ok x) (Err d) rest2 e is on = rw (on refl is) refl

-- if the fault of the lines from n on, n up to MAX_EVENTS + 2, is about the k-th, others with the same first k have it
events_same : (plan : Plan) (n k m : ℕ) (us bs : List (List ℕ)) (e : Fault) → n ≤ MAX_EVENTS + 2
    → events_of plan n us ≡ Err e
    → line_of e ≡ Some m → n + k ≡ suc m → take k us ≡ take k bs → events_of plan n bs ≡ Err e
unfolding events_of
events_same plan n zero m us bs e low is about count same =
    let least = events_least plan n m us e low is about in absurd (omega (arith, least, count))
events_same plan n (suc k) m [] bs e low is about count same = absurd (cc)
events_same plan n (suc k) m (line ∷ lines) bs e low is about count same =
    let h = same_head k line lines bs same in
    let further = same_step (nat_lt (MAX_EVENTS + 1) n) (event_at plan n line) (events_of plan (suc n) lines)
    (events_of plan (suc n) h.0) e is
    (λ few fails. events_same plan (suc n) k m lines h.0 e (below_by n few) fails about (omega (arith, count)) h.2) in
    subst (λ (t : List (List ℕ)). events_of plan n t ≡ Err e) (sym h.1) further

-- if a script with a good first line has the fault e, and its events are replaced by others with that fault, it has e
events_step : (made : SetupLine) (r s : Result (List Event) Fault) (e : Fault)
    → (r >>= (λ es. Ok (script_with made es))) ≡ Err e
    → (r ≡ Err e → s ≡ Err e) → (s >>= (λ es. Ok (script_with made es))) ≡ Err e
events_step made (Ok ys) s e is on = absurd (cc)
events_step made (Err d) s e is on = rw (on (ap (λ (f : Fault). Err f) (err_is d e is))) refl

-- if the events of a script are replaced by others with the same fault, the script still has the same fault
setup_step : (r : Result SetupLine Fault) (f g : SetupLine → Result (List Event) Fault) (e : Fault)
    → (r >>= (λ made. f made >>= (λ es. Ok (script_with made es)))) ≡ Err e
    → ((x : SetupLine) → f x ≡ Err e → g x ≡ Err e)
    → (r >>= (λ made. g made >>= (λ es. Ok (script_with made es)))) ≡ Err e
setup_step (Err d) f g e is on = is
setup_step (Ok x) f g e is on = events_step x (f x) (g x) e is (on x)

-- a fault of the lines after the first is about line 2 or a later one, so it is not about line 0
least_behind : (made : SetupLine) (r : Result (List Event) Fault) (m : ℕ) (e : Fault)
    → (r >>= (λ es. Ok (script_with made es))) ≡ Err e → (r ≡ Err e → 2 ≤ m) → 1 ≤ m
least_behind made (Ok ys) m e is on = absurd (cc)
least_behind made (Err d) m e is on =
    let more = on (ap (λ (f : Fault). Err f) (err_is d e is)) in omega (arith, more)

-- a fault of a script's lines is about line 1 or a later one
setup_least : (r : Result SetupLine Fault) (f : SetupLine → Result (List Event) Fault) (m : ℕ) (e : Fault)
    → At 1 r → line_of e ≡ Some m
    → (r >>= (λ made. f made >>= (λ es. Ok (script_with made es)))) ≡ Err e
    → ((x : SetupLine) → f x ≡ Err e → 2 ≤ m) → 1 ≤ m
setup_least (Err d) f m e at about is on =
    let same = one_line d e 1 m at (err_is d e is) about in omega (arith, same)
setup_least (Ok x) f m e at about is on = least_behind x (f x) m e is (on x)

-- if the first m lines of two scripts are the same, and one has a fault about line m, the other has it, too. Lines
-- count from 1, so no fault is about line 0
lines_same : (m : ℕ) (us bs : List (List ℕ)) (e : Fault) → lines_script us ≡ Err e → line_of e ≡ Some m
    → take m us ≡ take m bs → lines_script bs ≡ Err e
unfolding lines_script
lines_same m [] [] e is about same = is
lines_same m [] (b ∷ bs) e is about same =
    let one = one_line NoSetup e 1 m refl (err_is NoSetup e is) about in
    let none : take 1 [] ≡ take 1 (b ∷ bs) = subst (λ (k : ℕ). take k [] ≡ take k (b ∷ bs))
    (sym one) same in absurd (cc)
lines_same zero (line ∷ lines) bs e is about same =
    let least = setup_least (setup_of (words_in_line line)) (λ made. events_of made.plan 2 lines) 0 e
    (at_setup (words_in_line line)) about is
    (λ made fails. events_least made.plan 2 0 lines e (omega arith) fails about) in
    absurd (omega (arith, least))
lines_same (suc k) (line ∷ lines) bs e is about same =
    let h = same_head k line lines bs same in
    let further = setup_step (setup_of (words_in_line line)) (λ made. events_of made.plan 2 lines)
    (λ made. events_of made.plan 2 h.0) e is
    (λ made fails. events_same made.plan 2 k (suc k) lines h.0 e (omega arith) fails about (omega arith) h.2) in
    subst (λ (t : List (List ℕ)). lines_script t ≡ Err e) (sym h.1) further

-- a fault that is about a line comes from the lines, and not from the tests of all bytes
pub by_lines : (long ascii : Bool) (read : Result Script Fault) (e : Fault) (m : ℕ)
    → cond long (Err TooLong) (cond ascii read (Err NotAscii)) ≡ Err e → line_of e ≡ Some m → read ≡ Err e
by_lines true ascii read e m is about = let none = ap line_of (err_is TooLong e is) ∙ about in absurd (cc)
by_lines false true read e m is about = is
by_lines false false read e m is about = let none = ap line_of (err_is NotAscii e is) ∙ about in absurd (cc)

-- if a text that is ASCII and not too long has the lines of a faulty one up to the faulty line, it has the same fault
pub script_same : (us bs : List ℕ) (e : Fault) (m : ℕ) → script_of us ≡ Err e → line_of e ≡ Some m
    → take m (lines_of us) ≡ take m (lines_of bs) → length bs ≤ MAX_SCRIPT_LEN → list_all is_ascii bs ≡ true
    → script_of bs ≡ Err e
unfolding script_of
script_same us bs e m is about same short ascii =
    let read = by_lines (nat_lt MAX_SCRIPT_LEN (length us)) (list_all is_ascii us)
    (lines_script (lines_of us)) e m is about in
    rw (le-ltb MAX_SCRIPT_LEN (length bs) short, ascii) (lines_same m (lines_of us) (lines_of bs) e read about same)

-- ---- the lines before the first faulty one have no fault
-- if the fault from line n on is about a later line, and others without fault replace the lines after n, there is none
before_step : (n m : ℕ) (many : Bool) (r : Result Event Fault)
    (rest rest2 : Result (List Event) Fault) (e : Fault) → At n r
    → line_of e ≡ Some m → nat_lt (MAX_EVENTS + 1) n ≡ many → n < m → m ≤ MAX_EVENTS + 2 → from_line many r rest ≡ Err e
    → (rest ≡ Err e → (es : List Event) × (rest2 ≡ Ok es)) → (es : List Event) × (from_line many r rest2 ≡ Ok es)
before_step n m true r rest rest2 e at about test less low is on =
    let above = ltb-true _ _ test in absurd (omega (arith, above, less, low))
before_step n m false (Err d) rest rest2 e at about test less low is on =
    let same = one_line d e n m at (err_is d e is) about in absurd (omega (arith, same, less))
before_step n m false (Ok x) (Ok ys) rest2 e at about test less low is on = absurd (cc)
before_step n m false (Ok x) (Err d) rest2 e at about test less low is on =
    let so = on is in (x ∷ so.0, rw (so.1) refl)

-- if the lines from n on have a fault about line m, the lines from n on and before m have no fault
events_before : (plan : Plan) (n k m : ℕ) (us : List (List ℕ)) (e : Fault) → m ≤ MAX_EVENTS + 2
    → events_of plan n us ≡ Err e
    → line_of e ≡ Some m → n + k ≡ m → (es : List Event) × (events_of plan n (take k us) ≡ Ok es)
unfolding events_of
events_before plan n zero m us e low is about count = ([], refl)
events_before plan n (suc k) m [] e low is about count = absurd (cc)
events_before plan n (suc k) m (line ∷ lines) e low is about count =
    before_step n m (nat_lt (MAX_EVENTS + 1) n) (event_at plan n line) (events_of plan (suc n) lines)
    (events_of plan (suc n) (take k lines)) e (at_line plan n line) about refl (omega (arith, count)) low is
    (λ fails. events_before plan (suc n) k m lines e low fails about (omega (arith, count)))

-- if the events of a script with a fault are replaced by events without one, the script has no fault
events_well : (made : SetupLine) (r s : Result (List Event) Fault) (e : Fault)
    → (r >>= (λ es. Ok (script_with made es))) ≡ Err e
    → (r ≡ Err e → (es : List Event) × (s ≡ Ok es)) → (t : Script) × ((s >>= (λ es. Ok (script_with made es))) ≡ Ok t)
events_well made (Ok ys) s e is on = absurd (cc)
events_well made (Err d) s e is on =
    let so = on (ap (λ (f : Fault). Err f) (err_is d e is)) in (script_with made so.0, rw (so.1) refl)

-- if a script's fault is about a later line than the first, and others without fault replace its events, it has none
setup_well : (r : Result SetupLine Fault) (f g : SetupLine → Result (List Event) Fault) (e : Fault) (m : ℕ)
    → At 1 r → line_of e ≡ Some m
    → 1 < m → (r >>= (λ made. f made >>= (λ es. Ok (script_with made es)))) ≡ Err e
    → ((x : SetupLine) → f x ≡ Err e → (es : List Event) × (g x ≡ Ok es))
    → (t : Script) × ((r >>= (λ made. g made >>= (λ es. Ok (script_with made es)))) ≡ Ok t)
setup_well (Err d) f g e m at about more is on =
    let same = one_line d e 1 m at (err_is d e is) about in absurd (omega (arith, same, more))
setup_well (Ok x) f g e m at about more is on = events_well x (f x) (g x) e is (on x)

-- a fault of the lines from n on is about no line after the first that is one too many, if this holds from n + 1 on
last_step : (n m : ℕ) (many : Bool) (r : Result Event Fault) (rest : Result (List Event) Fault)
    (e : Fault) → n ≤ MAX_EVENTS + 2
    → At n r → line_of e ≡ Some m → from_line many r rest ≡ Err e → (many ≡ false → rest ≡ Err e → m ≤ MAX_EVENTS + 2)
    → m ≤ MAX_EVENTS + 2
last_step n m true r rest e low at about is on =
    let same = one_line TooManyEvents e (MAX_EVENTS + 2) m refl (err_is TooManyEvents e is) about in omega (arith, same)
last_step n m false (Err d) rest e low at about is on =
    let same = one_line d e n m at (err_is d e is) about in omega (arith, same, low)
last_step n m false (Ok x) (Ok ys) e low at about is on = absurd (cc)
last_step n m false (Ok x) (Err d) e low at about is on = on refl is

-- a fault of events is about no line after the first that is one too many
events_last : (plan : Plan) (n m : ℕ) (us : List (List ℕ)) (e : Fault) → n ≤ MAX_EVENTS + 2
    → events_of plan n us ≡ Err e
    → line_of e ≡ Some m → m ≤ MAX_EVENTS + 2
unfolding events_of
events_last plan n m [] e low is about = absurd (cc)
events_last plan n m (line ∷ lines) e low is about =
    last_step n m (nat_lt (MAX_EVENTS + 1) n) (event_at plan n line) (events_of plan (suc n) lines)
    e low (at_line plan n line) about is
    (λ few fails. events_last plan (suc n) m lines e (below_by n few) fails about)

-- if the fault of lines is about line n + 1, and n is above 0, the first n lines are a script
lines_before : (n : ℕ) (us : List (List ℕ)) (e : Fault) → lines_script us ≡ Err e → line_of e ≡ Some (suc n) → 0 < n
    → (t : Script) × (lines_script (take n us) ≡ Ok t)
unfolding lines_script
lines_before n [] e is about some =
    let one = one_line NoSetup e 1 (suc n) refl (err_is NoSetup e is) about in absurd (omega (arith, one, some))
lines_before zero (line ∷ lines) e is about some = absurd (omega (arith, some))
lines_before (suc k) (line ∷ lines) e is about some =
    setup_well (setup_of (words_in_line line)) (λ made. events_of made.plan 2 lines)
    (λ made. events_of made.plan 2 (take k lines)) e
    (suc (suc k)) (at_setup (words_in_line line)) about (omega arith) is
    (λ made fails. events_before made.plan 2 k (suc (suc k)) lines e
    (events_last made.plan 2 (suc (suc k)) lines e (omega arith) fails about) fails about (omega arith))

-- if the fault of a text is about line n + 1, and n is above 0, its first n lines spell a script
pub script_before : (bytes : List ℕ) (e : Fault) (n : ℕ) → script_of bytes ≡ Err e → line_of e ≡ Some (suc n) → 0 < n
    → (t : Script) × Spells (take n (lines_of bytes)) t
unfolding script_of
script_before bytes e n is about some =
    let read = by_lines (nat_lt MAX_SCRIPT_LEN (length bytes)) (list_all is_ascii bytes)
    (lines_script (lines_of bytes)) e (suc n) is about in
    let well = lines_before n (lines_of bytes) e read about some in
    (well.0, lines_take (take n (lines_of bytes)) well.0 well.1)
