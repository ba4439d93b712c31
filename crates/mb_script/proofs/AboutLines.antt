-- The line that a fault of a replay script is about.
use Rattle.std.proofs.Common.{◌≡◌, ℕ, Bool, true, false, cond, nat_lt, List, [], ◌∷◌, codes, Option, Some, None, Result, Ok, Err, refl}
use Rattle.std.specs.Prelude.{IfErr}
use Rattle.std.specs.Option.{ok_or}
use Rattle.std.specs.Str.{bytes_eq}
use Rattle.mb_world.specs.declared.event.Event.{Event}
use Rattle.mb_world.specs.declared.setup.SetupFault.{SetupFault}
use Rattle.mb_world.specs.Plan.{Plan}
use Rattle.mb_world.specs.Setups.{setup_refusal}
use Rattle.mb_script.specs.declared.fault.Fault.{Fault}
use Rattle.mb_script.specs.declared.fault.Fault.TheVariants.{BadLine, BadNumber, BadSetup}
use Rattle.mb_script.specs.FirstFault.{line_of}
use Rattle.mb_script.specs.Scripts.{SetupLine, made_from, number_at, one_number, two_numbers, three_numbers, made_of, sizes_of, setup_of, event_of, lane_of}
use Rattle.mb_script.specs.Scripts.{consumer_in, has_consumer, placed, event_at}
use Rattle.mb_script.specs.Steps.{◌>>=◌}
use Rattle.mb_script.specs.Shapes.{shape_named}
use Rattle.mb_script.specs.Tables.{table_named}
use Rattle.mb_script.specs.Text.{has_empty, words_in_line}

-- ---- what holds of each fault of a result
-- if the result is a fault, P holds of that fault
abbrev pub For : {A F : Type 0} → (F → Type 0) → Result A F → Type 0
For P r = IfErr r P

-- if P holds of each fault of the first step, and of each of the second, it holds of each fault of both in a row
pub for_bind : {A B F : Type 0} (P : F → Type 0) (r : Result A F) (f : A → Result B F)
    → For P r → ((x : A) → For P (f x))
    → For P (r >>= f)
for_bind P (Ok x) f first behind = behind x
for_bind P (Err e) f first behind = first

-- if P holds of the fault of each of two results, it holds of the fault of the one that a test chooses
pub for_cond : {A F : Type 0} (P : F → Type 0) (b : Bool) (r s : Result A F) → For P r
    → For P s → For P (cond b r s)
for_cond P true r s p q = p
for_cond P false r s p q = q

-- if P holds of the fault e, it holds of the fault of an option that gives e in place of no value
pub for_option : {A F : Type 0} (P : F → Type 0) (o : Option A) (e : F) → P e → For P (ok_or o e)
for_option P (Some x) e is = tt
for_option P None e is = is

-- ---- faults of the lines of events
-- a fault is about line n
abbrev pub About : ℕ → Fault → Type 0
About n e = line_of e ≡ Some n

-- each fault of the result is about line n
abbrev pub At : {A : Type 0} → ℕ → Result A Fault → Type 0
At n r = For (About n) r

-- a fault of a line's only number is about that line
at_one : (n : ℕ) (ws : List (List ℕ)) → At n (one_number n ws)
unfolding one_number
at_one n [] = refl
at_one n (a ∷ []) = for_option (About n) _ (BadNumber n) refl
at_one n (a ∷ b ∷ ws) = refl

-- a fault of a line's two numbers is about that line
at_two : (n : ℕ) (ws : List (List ℕ)) → At n (two_numbers n ws)
unfolding two_numbers
at_two n [] = refl
at_two n (a ∷ []) = refl
at_two n (a ∷ b ∷ []) =
    for_bind (About n) (number_at n a) (λ x. number_at n b >>= (λ y. Ok (x, y)))
    (for_option (About n) _ (BadNumber n) refl)
    (λ x. for_bind (About n) (number_at n b) (λ y. Ok (x, y)) (for_option (About n) _ (BadNumber n) refl) (λ y. tt))
at_two n (a ∷ b ∷ c ∷ ws) = refl

-- a fault of a line's three numbers is about that line
at_three : (n : ℕ) (ws : List (List ℕ)) → At n (three_numbers n ws)
unfolding three_numbers
at_three n [] = refl
at_three n (a ∷ []) = refl
at_three n (a ∷ b ∷ []) = refl
at_three n (a ∷ b ∷ c ∷ []) =
    let number : (w : List ℕ) → At n (number_at n w) = λ w. for_option (About n) _ (BadNumber n) refl in
    for_bind (About n) (number_at n a) (λ x. number_at n b >>= (λ y. number_at n c >>= (λ z. Ok (x, y, z)))) (number a)
    (λ x. for_bind (About n) (number_at n b) (λ y. number_at n c >>= (λ z. Ok (x, y, z))) (number b)
    (λ y. for_bind (About n) (number_at n c) (λ z. Ok (x, y, z)) (number c) (λ z. tt)))
at_three n (a ∷ b ∷ c ∷ d ∷ ws) = refl

-- a fault of a line's event is about that line
at_event : (n : ℕ) (ws : List (List ℕ)) → At n (event_of n ws)
unfolding event_of
at_event n [] = refl
at_event n (key ∷ ws) =
    for_cond (About n) (bytes_eq key (codes "offer")) _ _
    (for_bind (About n) (two_numbers n ws) _ (at_two n ws) (λ x. tt))
    (for_cond (About n) (bytes_eq key (codes "push")) _ _
    (for_bind (About n) (one_number n ws) _ (at_one n ws) (λ x. tt))
    (for_cond (About n) (bytes_eq key (codes "finish")) _ _
    (for_bind (About n) (one_number n ws) _ (at_one n ws) (λ x. tt))
    (for_cond (About n) (bytes_eq key (codes "step")) _ _
    (for_bind (About n) (three_numbers n ws) _ (at_three n ws) (λ x. tt)) refl)))

-- a fault of an event whose lane or consumer is not there is about the event's line
at_placed : (plan : Plan) (n : ℕ) (e : Event) → At n (placed plan n e)
unfolding placed
at_placed plan n e =
    for_cond (About n) (nat_lt (lane_of e) plan.lanes) _ _
    (for_cond (About n) (has_consumer plan (consumer_in e)) _ _ tt refl) refl

-- a fault of reading line n is about line n
pub at_line : (plan : Plan) (n : ℕ) (line : List ℕ) → At n (event_at plan n line)
unfolding event_at
at_line plan n line =
    for_cond (About n) (has_empty (words_in_line line)) _ _ refl
    (for_bind (About n) (event_of n (words_in_line line)) (placed plan n)
    (at_event n (words_in_line line)) (at_placed plan n))

-- ---- faults of the first line
-- if P holds of `BadSetup` for each reason to refuse a setup, it holds of each fault of `made_of`
for_made : (P : Fault → Type 0) (o : Option SetupFault) (made : SetupLine)
    → ((f : SetupFault) → P (BadSetup 1 f)) → For P (made_of o made)
for_made P None made bad = tt
for_made P (Some fault) made bad = bad fault

-- if P holds of the three kinds of faults that the words after `setup` can have, it holds of each fault of these words
pub for_sizes : (P : Fault → Type 0) (ws : List (List ℕ)) → P (BadLine 1) → P (BadNumber 1)
    → ((f : SetupFault) → P (BadSetup 1 f))
    → For P (sizes_of ws)
unfolding sizes_of
for_sizes P [] line number bad = line
for_sizes P (a ∷ []) line number bad = line
for_sizes P (a ∷ b ∷ []) line number bad = line
for_sizes P (a ∷ b ∷ c ∷ []) line number bad = line
for_sizes P (a ∷ b ∷ c ∷ d ∷ []) line number bad = line
for_sizes P (producers ∷ consumers ∷ cells ∷ pairs ∷ name ∷ shape) line number bad =
    let read : (w : List ℕ) → For P (number_at 1 w) = λ w. for_option P _ (BadNumber 1) number in
    for_bind P (ok_or (table_named name) (BadLine 1)) _ (for_option P _ (BadLine 1) line)
    (λ t. for_bind P (ok_or (shape_named shape) (BadLine 1)) _ (for_option P _ (BadLine 1) line)
    (λ f. for_bind P (number_at 1 producers) _ (read producers)
    (λ p. for_bind P (number_at 1 consumers) _ (read consumers)
    (λ c. for_bind P (number_at 1 cells) _ (read cells)
    (λ m. for_bind P (number_at 1 pairs) _ (read pairs)
    (λ k. for_made P (setup_refusal p c m k) (made_from f p c m k t) bad))))))

-- a fault of the first line is about line 1
pub at_setup : (ws : List (List ℕ)) → At 1 (setup_of ws)
unfolding setup_of
at_setup [] = refl
at_setup (key ∷ ws) =
    for_cond (About 1) (bytes_eq key (codes "setup")) _ _
    (for_cond (About 1) (has_empty ws) _ _ refl (for_sizes (About 1) ws refl refl (λ f. refl)))
    refl
