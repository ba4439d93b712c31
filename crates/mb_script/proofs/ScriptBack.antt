-- Bytes that were read as a replay script spell that script.
use Rattle.std.proofs.Common.{◌≡◌, ℕ, suc, ◌+◌, ◌<◌, ◌≤◌, ◌^◌, Bool, true, false, cond, nat_lt, List, [], ◌∷◌, length, codes, map, Result, Ok, Err, refl, ap, sym, ◌∙◌, subst, arith, IfOk, bytes_eq}
use Rattle.std.specs.Char.{is_ascii}
use Rattle.std.specs.List.{AllByRecursion, join_with_byte, list_all}
use Rattle.std.proofs.lemmas.Bool.{ltb-true}
use Rattle.std.proofs.lemmas.Bool.Decides.{nat_tests}
use Rattle.std.proofs.lemmas.Slice.Eq.{bytes_eq-Decides}
use Rattle.std.proofs.lemmas.List.Splits.{join_with_byte-slice_split}
use Rattle.mb_world.specs.declared.event.Event.{Event, TheVariants.Offer, TheVariants.Push, TheVariants.Finish, TheVariants.Step}
use Rattle.mb_world.specs.Vocabulary.{Plan}
use Rattle.mb_script.specs.Vocabulary.{Fault, MAX_EVENTS, MAX_SCRIPT_LEN, Gives, SetupLine, Script, view, one_number, two_numbers, three_numbers, setup_of, event_of, lane_of, consumer_in}
use Rattle.mb_script.specs.Vocabulary.{has_consumer, placed, event_at, events_of, script_with, lines_script, script_of, IsEventOf, Spells, Sizes, event_words, made_for, script_in}
use Rattle.mb_script.specs.Vocabulary.{setup_words, ◌>>=◌, has_empty, lines_of, words_in_line}
use Rattle.mb_script.specs.declared.fault.Fault.TheVariants.{TooLong, NotAscii, BadLine, NoLane, NoConsumer, TooManyEvents}
use Rattle.mb_script.specs.declared.script.Script as code
use Rattle.mb_script.proofs.Bound.{avoided, bind_ok, ok_is, passed}
use Rattle.mb_script.proofs.ReadAgain.{consumers_are, plan_for}
use Rattle.mb_script.proofs.ReadBack.{one_takes, two_takes, three_takes, setup_take}

-- ---- the line of an event
-- the numbers of an event are below 2^64
abbrev Small : Event → Type 0
Small (Offer lane item) = (lane < 2 ^ 64) × (item < 2 ^ 64)
Small (Push lane) = lane < 2 ^ 64
Small (Finish lane) = lane < 2 ^ 64
Small (Step consumer lane word) = (consumer < 2 ^ 64) × (lane < 2 ^ 64) × (word < 2 ^ 64)

-- the words spell this event, and its numbers are below 2^64
abbrev SpellsOne : List (List ℕ) → Event → Type 0
SpellsOne ws e = (ws ≡ event_words e) × Small e

-- if the key is this name, and the words ws are vs, the key and then ws are the name and then vs
key_is : (key name : List ℕ) (ws vs : List (List ℕ)) → bytes_eq key name ≡ true → ws ≡ vs → key ∷ ws ≡ name ∷ vs
key_is key name ws vs is same =
    ap (λ (w : List ℕ). w ∷ ws) ((bytes_eq-Decides key name).0 is) ∙ ap (λ (t : List (List ℕ)). name ∷ t) same

-- if an event was read from a key and words ws, they spell it. The four tests of the key have the results o, p, f, s
by_key : (n : ℕ) (key : List ℕ) (ws : List (List ℕ)) (e : Event) (o p f s : Bool) → bytes_eq key (codes "offer") ≡ o
    → bytes_eq key (codes "push") ≡ p → bytes_eq key (codes "finish") ≡ f → bytes_eq key (codes "step") ≡ s
    → cond o (two_numbers n ws >>= (λ x. Ok (Offer x.0 x.1)))
    (cond p (one_number n ws >>= (λ x. Ok (Push x)))
    (cond f (one_number n ws >>= (λ x. Ok (Finish x)))
    (cond s (three_numbers n ws >>= (λ x. Ok (Step x.0 x.1 x.2))) (Err (BadLine n))))) ≡ Ok e
    → SpellsOne (key ∷ ws) e
by_key n key ws e true p f s is_o is_p is_f is_s read =
    let a = bind_ok (two_numbers n ws) (λ x. Ok (Offer x.0 x.1)) e read in
    let t = two_takes n ws a.0 a.1 in
    subst (SpellsOne (key ∷ ws)) (ok_is (Offer a.0.0 a.0.1) e a.2)
    (key_is key (codes "offer") ws _ is_o t.0, (t.1, t.2))
by_key n key ws e false true f s is_o is_p is_f is_s read =
    let a = bind_ok (one_number n ws) (λ x. Ok (Push x)) e read in
    let t = one_takes n ws a.0 a.1 in
    subst (SpellsOne (key ∷ ws)) (ok_is (Push a.0) e a.2) (key_is key (codes "push") ws _ is_p t.0, t.1)
by_key n key ws e false false true s is_o is_p is_f is_s read =
    let a = bind_ok (one_number n ws) (λ x. Ok (Finish x)) e read in
    let t = one_takes n ws a.0 a.1 in
    subst (SpellsOne (key ∷ ws)) (ok_is (Finish a.0) e a.2) (key_is key (codes "finish") ws _ is_f t.0, t.1)
by_key n key ws e false false false true is_o is_p is_f is_s read =
    let a = bind_ok (three_numbers n ws) (λ x. Ok (Step x.0 x.1 x.2)) e read in
    let t = three_takes n ws a.0 a.1 in
    subst (SpellsOne (key ∷ ws)) (ok_is (Step a.0.0 a.0.1 a.0.2) e a.2)
    (key_is key (codes "step") ws _ is_s t.0, (t.1, t.2, t.3))
by_key n key ws e false false false false is_o is_p is_f is_s read = absurd (cc)

-- if an event was read from words, the words spell that event
event_takes : (n : ℕ) (ws : List (List ℕ)) (e : Event) → event_of n ws ≡ Ok e → SpellsOne ws e
unfolding event_of
event_takes n [] e read = absurd (cc)
event_takes n (key ∷ ws) e read = by_key n key ws e _ _ _ _ refl refl refl refl read

-- an event whose lane and consumer are in the world of these sizes is an event of that world
place_takes : (z : Sizes) (n : ℕ) (e : Event) → nat_lt (lane_of e) z.producers ≡ true
    → has_consumer (plan_for z) (consumer_in e) ≡ true → Small e → IsEventOf z e
place_takes z n (Offer lane item) low has small = (ltb-true _ _ low, small.1)
place_takes z n (Push lane) low has small = ltb-true _ _ low
place_takes z n (Finish lane) low has small = ltb-true _ _ low
place_takes z n (Step consumer lane word) low has small = (
  ltb-true _ _ low,
  subst (λ (c : ℕ). consumer < c)
      (consumers_are z.shape z.producers z.consumers z.cells z.pairs z.table) (ltb-true _ _ has),
  small.2,
)

-- if an event passed the tests of its lane and its consumer for the world of these sizes, it is an event of that world
placed_takes : (z : Sizes) (n : ℕ) (d e : Event) → placed (plan_for z) n d ≡ Ok e → Small d → (d ≡ e) × IsEventOf z d
unfolding placed
placed_takes z n d e read small =
    let a = passed (nat_lt (lane_of d) z.producers) (NoLane n)
    (cond (has_consumer (plan_for z) (consumer_in d)) (Ok d) (Err (NoConsumer n))) e read in
    let b = passed (has_consumer (plan_for z) (consumer_in d)) (NoConsumer n) (Ok d) e a.1 in
    (ok_is d e b.1, place_takes z n d a.0 b.0 small)

-- if a line was read as an event of a world of these sizes, it is the line of that event's words
pub line_takes : (z : Sizes) (n : ℕ) (line : List ℕ) (e : Event) → event_at (plan_for z) n line ≡ Ok e
    → (line ≡ join_with_byte 32 (event_words e)) × IsEventOf z e
unfolding event_at
line_takes z n line e read =
    let a = avoided (has_empty (words_in_line line)) (BadLine n)
    (event_of n (words_in_line line) >>= placed (plan_for z) n) e read in
    let b = bind_ok (event_of n (words_in_line line)) (placed (plan_for z) n) e a.1 in
    let c = event_takes n (words_in_line line) b.0 b.1 in
    let d = placed_takes z n b.0 e b.2 c.1 in
    let spelled : line ≡ join_with_byte 32 (event_words b.0) =
    sym (join_with_byte-slice_split 32 line) ∙ ap (join_with_byte 32) c.0 in
    subst (λ (f : Event). (line ≡ join_with_byte 32 (event_words f)) × IsEventOf z f) d.0 (spelled, d.1)

-- ---- all lines of a script
-- equal lines in front of equal lists of lines make equal lists
line_before : (line line2 : List ℕ) (lines lines2 : List (List ℕ)) → line ≡ line2 → lines ≡ lines2
    → line ∷ lines ≡ line2 ∷ lines2
line_before line line2 lines lines2 e f = ap (λ (l : List ℕ). l ∷ lines) e ∙ ap (λ (t : List (List ℕ)). line2 ∷ t) f

-- the lines from line n on spell these events, which are of the world of these sizes, and not too many
abbrev Lines : Sizes → ℕ → List (List ℕ) → List Event → Type 0
Lines z n lines events =
    (lines ≡ map (join_with_byte 32) (map event_words events)) × AllByRecursion (IsEventOf z) events
    × (n ≤ MAX_EVENTS + 2 → n + length events ≤ MAX_EVENTS + 2)

-- lines that were read as events spell them
pub events_take : (z : Sizes) (n : ℕ) (lines : List (List ℕ)) (events : List Event)
    → events_of (plan_for z) n lines ≡ Ok events
    → Lines z n lines events
unfolding events_of
events_take z n [] events read =
    subst (Lines z n []) (ok_is [] events read) (refl, tt, λ low. omega (arith, low))
events_take z n (line ∷ lines) events read =
    let plan = plan_for z in
    let further = λ (e : Event). events_of plan (suc n) lines >>= (λ es. Ok (e ∷ es)) in
    let a = avoided (nat_lt (MAX_EVENTS + 1) n) TooManyEvents (event_at plan n line >>= further) events read in
    let b = bind_ok (event_at plan n line) further events a.1 in
    let c = bind_ok (events_of plan (suc n) lines) (λ es. Ok (b.0 ∷ es)) events b.2 in
    let first = line_takes z n line b.0 b.1 in
    let rest = events_take z (suc n) lines c.0 c.1 in
    let low : n ≤ MAX_EVENTS + 1 = grind (arith, nat_tests, a.0) in
    let few = rest.2 (omega (arith, low)) in
    subst (Lines z n (line ∷ lines)) (ok_is (b.0 ∷ c.0) events c.2)
    (line_before _ _ _ _ first.0 rest.0, (first.1, rest.1), λ h. omega (arith, few))

-- if a first line with sizes z says `made`, the script of `made` and some events is that of z and these events
script_is : (z : Sizes) (made : SetupLine) (events : List Event) → made_for z ≡ made
    → script_with made events ≡ script_in z events
script_is z made events e = ap (λ (m : SetupLine). script_with m events) (sym e)

-- lines that were read as a script spell it
pub lines_take : (lines : List (List ℕ)) (s : Script) → lines_script lines ≡ Ok s → Spells lines s
unfolding lines_script
lines_take [] s read = absurd (cc)
lines_take (line ∷ lines) s read =
    let further = λ (m : SetupLine). events_of m.plan 2 lines >>= (λ events. Ok (script_with m events)) in
    let a = bind_ok (setup_of (words_in_line line)) further s read in
    let b = bind_ok (events_of a.0.plan 2 lines) (λ events. Ok (script_with a.0 events)) s a.2 in
    let set = setup_take (words_in_line line) a.0 a.1 in
    let z = set.0 in
    let plan : a.0.plan ≡ plan_for z = ap (λ (m : SetupLine). m.plan) (sym set.2.1) in
    let events = events_take z 2 lines b.0 (subst (λ (p : Plan). events_of p 2 lines ≡ Ok b.0) plan b.1) in
    let first : line ≡ join_with_byte 32 (setup_words z) =
    sym (join_with_byte-slice_split 32 line) ∙ ap (join_with_byte 32) set.1 in
    let few = events.2 (omega arith) in
    subst (Spells (line ∷ lines)) (ok_is (script_with a.0 b.0) s b.2) (
      z,
      record { sizes = set.2.0; known = events.1; few = omega (arith, few) },
      line_before _ _ _ _ first events.0,
      script_is z a.0 b.0 set.2.1,
    )

-- bytes that were read as a script spell that script
pub script_takes : (bytes : List ℕ) (s : Script) → script_of bytes ≡ Ok s → Spells (lines_of bytes) s
unfolding script_of
script_takes bytes s e =
    let read = lines_script (lines_of bytes) in
    let a = avoided (nat_lt MAX_SCRIPT_LEN (length bytes)) TooLong
    (cond (list_all is_ascii bytes) read (Err NotAscii)) s e in
    let b = passed (list_all is_ascii bytes) NotAscii read s a.1 in
    lines_take (lines_of bytes) s b.1

-- if a call returned the script that it read from bytes, the lines of these bytes spell that script
pub is_found : {A : Type 0} (bytes : List ℕ) (r : Result (code.Script A) Fault)
    → Gives (λ s. view s) r (script_of bytes)
    → IfOk r (λ s. Spells (lines_of bytes) (view s))
is_found bytes (Ok s) read = script_takes bytes (view s) read
is_found bytes (Err e) read = tt
