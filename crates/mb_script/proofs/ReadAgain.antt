-- The lines that spell a replay script are read as it. A word as `IsWord` says is not empty, is ASCII and has no space.
use Rattle.std.proofs.Common.{◌≡◌, ℕ, suc, ◌+◌, ◌<◌, ◌≤◌, ◌^◌, Bool, true, false, cond, nat_lt, ◌||◌, List, [], ◌∷◌, length, codes, map, Some, None, Ok, refl, sym, ◌∙◌, subst, arith, rules}
use Rattle.std.specs.Char.{is_ascii}
use Rattle.std.specs.List.{AllByRecursion, join_with_byte, list_all}
use Rattle.std.specs.Fmt.{decimal}
use Rattle.std.proofs.lemmas.Bool.{lt-ltb, le-ltb}
use Rattle.std.proofs.lemmas.Bool.Decides.{nat_tests}
use Rattle.mb_quorum.specs.declared.table.TableName.{TableName}
use Rattle.mb_quorum.specs.declared.table.TableName.TheVariants.{Unary, Bits, Middle}
use Rattle.mb_quorum.specs.TablesLaw.{named_values}
use Rattle.mb_world.specs.declared.event.Event.{Event}
use Rattle.mb_world.specs.declared.event.Event.TheVariants.{Offer, Push, Finish, Step}
use Rattle.mb_world.specs.declared.setup.SetupFault.{SetupFault}
use Rattle.mb_world.specs.Plan.{Plan, consumers_of}
use Rattle.mb_claim.specs.declared.shape.Shape.{Shape}
use Rattle.mb_world.specs.Setups.{setup_refusal, shaped_plan}
use Rattle.mb_script.specs.Vocabulary.{MAX_EVENTS, MAX_SCRIPT_LEN, made_from, one_number, two_numbers, three_numbers, sizes_of, setup_of, event_of, placed, event_at, events_of, lines_script}
use Rattle.mb_script.specs.Vocabulary.{script_of, IsEventOf, IsScript, Sizes, event_words, made_for, script_in, script_lines, setup_words, ◌>>=◌, shape_named, shape_with, shape_words}
use Rattle.mb_script.specs.Vocabulary.{words_with, table_name, IsWord, IsWordLine, has_empty, lines_of, words_in_line}
use Rattle.mb_script.proofs.Spelled.{ascii_lines, decimal_word, none_empty, number_again, words_ascii, words_join}

-- ---- the first line
-- if four tests in turn give no fault, none of them holds
pub none_of : (a b c d : Bool) (w x y z : SetupFault)
    → cond a (Some w) (cond b (Some x) (cond c (Some y) (cond d (Some z) None))) ≡ None
    → (a ≡ false) × (b ≡ false) × (c ≡ false) × (d ≡ false)
none_of true b c d w x y z e = absurd (cc)
none_of false true c d w x y z e = absurd (cc)
none_of false false true d w x y z e = absurd (cc)
none_of false false false true w x y z e = absurd (cc)
none_of false false false false w x y z e = (refl, refl, refl, refl)

-- if neither of two tests holds, the second one fails
second : (x y : Bool) → (x || y) ≡ false → y ≡ false
second true y e = absurd (cc)
second false y e = e

-- a number that is not above a limit of at most 256 is below 2^64
small_by : (most n : ℕ) → most ≤ 256 → nat_lt most n ≡ false → n < 2 ^ 64
small_by most n low e = let small : n ≤ most = grind (arith, nat_tests, e) in omega (arith, low, small)

-- the numbers of a setup that is not refused are below 2^64
pub sizes_small : (p c m k : ℕ) → setup_refusal p c m k ≡ None
    → (p < 2 ^ 64) × (c < 2 ^ 64) × (m < 2 ^ 64) × (k < 2 ^ 64)
sizes_small p c m k e =
    let a = none_of (nat_lt p 1 || nat_lt 16 p) (nat_lt c 1 || nat_lt 64 c) (nat_lt 256 m)
    (nat_lt k 1 || nat_lt 8 k) _ _ _ _ e in (
      small_by 16 p (omega arith) (second (nat_lt p 1) _ a.0),
      small_by 64 c (omega arith) (second (nat_lt c 1) _ a.1),
      small_by 256 m (omega arith) a.2,
      small_by 8 k (omega arith) (second (nat_lt k 1) _ a.3),
    )

-- a plan that was made with c consumers has c consumers
pub consumers_are : (shape : Shape) (p c m k : ℕ) (t : TableName)
    → consumers_of (shaped_plan shape p c m k t) ≡ c
consumers_are shape p c m k t = named_values t c

-- the plan of a world of these sizes
abbrev pub plan_for : Sizes → Plan
plan_for z = (made_for z).plan

-- the words of a shape are read as that shape
shape_again : (fast last : Bool) → shape_named (words_with fast last) ≡ Some (shape_with fast last)
shape_again false false = refl
shape_again true false = refl
shape_again false true = refl
shape_again true true = refl

-- if the words after `setup` spell sizes that are not refused, they are read as just these sizes
sizes_again : (shape : Shape) (p c m k : ℕ) (t : TableName) → setup_refusal p c m k ≡ None
    → sizes_of (decimal p ∷ decimal c ∷ decimal m ∷ decimal k ∷ table_name t ∷ shape_words shape)
    ≡ Ok (made_from shape p c m k t)
unfolding sizes_of
sizes_again shape p c m k Unary e =
    let s = sizes_small p c m k e in
    let named = shape_again shape.fast shape.last in
    rw (named, number_again p s.0, number_again c s.1, number_again m s.2, number_again k s.3, e) refl
sizes_again shape p c m k Bits e =
    let s = sizes_small p c m k e in
    let named = shape_again shape.fast shape.last in
    rw (named, number_again p s.0, number_again c s.1, number_again m s.2, number_again k s.3, e) refl
sizes_again shape p c m k Middle e =
    let s = sizes_small p c m k e in
    let named = shape_again shape.fast shape.last in
    rw (named, number_again p s.0, number_again c s.1, number_again m s.2, number_again k s.3, e) refl

-- the name of a table is a word as `IsWord` says
pub table_word : (t : TableName) → IsWord (table_name t)
table_word Unary = search rules
table_word Bits = search rules
table_word Middle = search rules

-- the words of a shape are as `IsWord` says
shape_fit : (fast last : Bool) → AllByRecursion IsWord (words_with fast last)
shape_fit false false = tt
shape_fit true false = (search rules, tt)
shape_fit false true = (search rules, tt)
shape_fit true true = (search rules, tt)

-- if a setup of these sizes is not refused, the words of a first line with these sizes are as `IsWord` says
setup_fit : (z : Sizes) → setup_refusal z.producers z.consumers z.cells z.pairs ≡ None
    → AllByRecursion IsWord (setup_words z)
setup_fit z e =
    let s = sizes_small z.producers z.consumers z.cells z.pairs e in (
      search rules,
      (
        decimal_word _ s.0,
        (
          decimal_word _ s.1,
          (
            decimal_word _ s.2,
            (decimal_word _ s.3, (table_word z.table, shape_fit z.shape.fast z.shape.last)),
          ),
        ),
      ),
    )

-- if none of the words after `setup` is empty, they are read as sizes
setup_is : (ws : List (List ℕ)) → has_empty ws ≡ false → setup_of (codes "setup" ∷ ws) ≡ sizes_of ws
unfolding setup_of
setup_is ws e = rw e refl

-- if a first line spells sizes that are not refused, it is read as just these sizes
pub setup_again : (z : Sizes) → setup_refusal z.producers z.consumers z.cells z.pairs ≡ None
    → setup_of (words_in_line (join_with_byte 32 (setup_words z))) ≡ Ok (made_for z)
setup_again z e =
    let fit = setup_fit z e in
    let cut : words_in_line (join_with_byte 32 (setup_words z)) ≡ setup_words z = words_join _ _ fit in
    let behind : List (List ℕ) =
    decimal z.producers ∷ decimal z.consumers ∷ decimal z.cells ∷ decimal z.pairs
    ∷ table_name z.table ∷ shape_words z.shape in
    rw cut (setup_is behind (none_empty behind fit.1)
    ∙ sizes_again z.shape z.producers z.consumers z.cells z.pairs z.table e)

-- ---- the lines of events
-- a line of words is read as the event that these words say
line_is : (plan : Plan) (n : ℕ) (w : List ℕ) (ws : List (List ℕ)) → AllByRecursion IsWord (w ∷ ws)
    → event_at plan n (join_with_byte 32 (w ∷ ws)) ≡ (event_of n (w ∷ ws) >>= placed plan n)
unfolding event_at
line_is plan n w ws are = rw (words_join w ws are, none_empty (w ∷ ws) are) refl

-- the number of a lane is below 2^64, if the setup is not refused
lane_small : (z : Sizes) (l : ℕ) → setup_refusal z.producers z.consumers z.cells z.pairs ≡ None
    → l < z.producers → l < 2 ^ 64
lane_small z l e low = let s = sizes_small z.producers z.consumers z.cells z.pairs e in omega (arith, low, s.0)

-- the line of an event is read as that event
pub event_again : (z : Sizes) (n : ℕ) (e : Event)
    → setup_refusal z.producers z.consumers z.cells z.pairs ≡ None → IsEventOf z e
    → event_at (plan_for z) n (join_with_byte 32 (event_words e)) ≡ Ok e
unfolding event_of one_number two_numbers three_numbers placed
event_again z n (Offer lane item) sized is =
    let l = lane_small z lane sized is.0 in
    line_is (plan_for z) n (codes "offer") (decimal lane ∷ decimal item ∷ [])
    (search rules, (decimal_word lane l, (decimal_word item is.1, tt)))
    ∙ rw (number_again lane l, number_again item is.1, lt-ltb lane z.producers is.0) refl
event_again z n (Push lane) sized is =
    let l = lane_small z lane sized is in
    line_is (plan_for z) n (codes "push") (decimal lane ∷ []) (search rules, (decimal_word lane l, tt))
    ∙ rw (number_again lane l, lt-ltb lane z.producers is) refl
event_again z n (Finish lane) sized is =
    let l = lane_small z lane sized is in
    line_is (plan_for z) n (codes "finish") (decimal lane ∷ []) (search rules, (decimal_word lane l, tt))
    ∙ rw (number_again lane l, lt-ltb lane z.producers is) refl
event_again z n (Step consumer lane word) sized is =
    let l = lane_small z lane sized is.0 in
    let s = sizes_small z.producers z.consumers z.cells z.pairs sized in
    let c : consumer < 2 ^ 64 = omega (arith, is.1, s.1) in
    line_is (plan_for z) n (codes "step") (decimal consumer ∷ decimal lane ∷ decimal word ∷ [])
    (search rules, (decimal_word consumer c, (decimal_word lane l, (decimal_word word is.2, tt))))
    ∙ rw (
      number_again consumer c,
      number_again lane l,
      number_again word is.2,
      lt-ltb lane z.producers is.0,
      consumers_are z.shape z.producers z.consumers z.cells z.pairs z.table,
      lt-ltb consumer z.consumers is.1,
    ) refl

-- the lines of events, from line n on, are read as these events, if they are not too many
pub events_again : (z : Sizes) (n : ℕ) (events : List Event)
    → setup_refusal z.producers z.consumers z.cells z.pairs ≡ None
    → AllByRecursion (IsEventOf z) events → n + length events ≤ MAX_EVENTS + 2
    → events_of (plan_for z) n (map (join_with_byte 32) (map event_words events)) ≡ Ok events
unfolding events_of
events_again z n [] sized are few = refl
events_again z n (e ∷ events) sized are few =
    rw (
      le-ltb (MAX_EVENTS + 1) n (omega (arith, few)),
      event_again z n e sized are.0,
      events_again z (suc n) events sized are.1 (omega (arith, few)),
    ) refl

-- ---- the whole script
-- all lines of a script are read as that script
pub lines_again : (z : Sizes) (events : List Event) → IsScript z events
    → lines_script (script_lines z events) ≡ Ok (script_in z events)
unfolding lines_script
lines_again z events is =
    let few = is.few in
    rw (setup_again z is.sizes, events_again z 2 events is.sizes is.known (omega (arith, few))) refl

-- the words of an event of the world are a line of words as `IsWord` says
event_fit : (z : Sizes) (e : Event) → setup_refusal z.producers z.consumers z.cells z.pairs ≡ None → IsEventOf z e
    → IsWordLine (event_words e)
event_fit z (Offer lane item) sized is =
    (search rules, (decimal_word lane (lane_small z lane sized is.0), (decimal_word item is.1, tt)))
event_fit z (Push lane) sized is = (search rules, (decimal_word lane (lane_small z lane sized is), tt))
event_fit z (Finish lane) sized is = (search rules, (decimal_word lane (lane_small z lane sized is), tt))
event_fit z (Step consumer lane word) sized is =
    let s = sizes_small z.producers z.consumers z.cells z.pairs sized in (
      search rules,
      (
        decimal_word consumer (omega (arith, is.1, s.1)),
        (decimal_word lane (lane_small z lane sized is.0), (decimal_word word is.2, tt)),
      ),
    )

-- the words of each event of the world are a line of words as `IsWord` says
events_fit : (z : Sizes) (events : List Event) → setup_refusal z.producers z.consumers z.cells z.pairs ≡ None
    → AllByRecursion (IsEventOf z) events → AllByRecursion IsWordLine (map event_words events)
events_fit z [] sized are = tt
events_fit z (e ∷ events) sized are = (event_fit z e sized are.0, events_fit z events sized are.1)

-- bytes that spell a script, and are not too many, are read as that script
pub script_again : (bytes : List ℕ) (z : Sizes) (events : List Event) → IsScript z events
    → length bytes ≤ MAX_SCRIPT_LEN
    → lines_of bytes ≡ script_lines z events → script_of bytes ≡ Ok (script_in z events)
unfolding script_of
script_again bytes z events is short e =
    let fit : AllByRecursion IsWordLine (setup_words z ∷ map event_words events) =
    (setup_fit z is.sizes, events_fit z events is.sizes is.known) in
    let ascii = ascii_lines bytes (subst (AllByRecursion (λ l. list_all is_ascii l ≡ true)) (sym e)
    (words_ascii (setup_words z ∷ map event_words events) fit)) in
    rw (le-ltb MAX_SCRIPT_LEN (length bytes) short, ascii, e) (lines_again z events is)
