-- The lines that spell a ratifier script are read as that script, and bytes that were read as a script spell it.
use Rattle.std.proofs.Common.{◌≡◌, ℕ, ◌<◌, ◌≤◌, ◌^◌, Bool, true, false, cond, nat_eq, nat_lt, List, [], ◌∷◌, length, codes, map, Option, Some, None, Result, Ok, Err, refl, ap, sym, subst, ◌∙◌, rules}
use Rattle.std.specs.Prelude.{IfOk}
use Rattle.std.specs.Fmt.{decimal}
use Rattle.std.specs.Char.{is_ascii}
use Rattle.std.specs.Option.{ok_or}
use Rattle.std.specs.List.{join_with_byte, AllByRecursion, list_all}
use Rattle.std.specs.Str.{bytes_eq}
use Rattle.std.proofs.lemmas.Bool.{le-ltb, eqb-true}
use Rattle.std.proofs.lemmas.List.{nil_from_length}
use Rattle.std.proofs.lemmas.Slice.Eq.{bytes_eq-Decides}
use Rattle.std.proofs.lemmas.List.Splits.{join_with_byte-slice_split}
use Rattle.mb_quorum.specs.declared.table.TableName.{TableName, TheVariants.Unary, TheVariants.Bits, TheVariants.Middle}
use Rattle.mb_program.specs.Vocabulary.{RatifyFault, Gives, HasSpelling, script_words, script_lines}
use Rattle.mb_program.specs.RatifyScript.{Script, view, line_words, head_of, list_of, three_lines, script_of}
use Rattle.mb_program.specs.declared.fault.RatifyFault.TheVariants.{TooLong, NotAscii, BadLine, BadNumber}
use Rattle.mb_program.specs.declared.script.RatifyScript as code
use Rattle.mb_script.specs.declared.transfer.TheConstants.{MAX_SCRIPT_LEN}
use Rattle.mb_script.specs.Vocabulary.{◌>>=◌, table_name, table_named, IsWord, IsWordLine, lines_of, words_in_line, has_empty, number_of, numbers_of}
use Rattle.mb_script.proofs.ReadAgain.{table_word}
use Rattle.mb_script.proofs.ReadBack.{table_takes}

-- the laws of mb_script that reading rests on. A word as `IsWord` says is not empty, is ASCII and has no space
pub record TextLaws : Type 0 where
  -- if one word or more are joined, with one space between two, the line is cut into the same words again
  pub cut : (w : List ℕ) (ws : List (List ℕ)) → AllByRecursion IsWord (w ∷ ws)
      → words_in_line (join_with_byte 32 (w ∷ ws)) ≡ w ∷ ws
  -- if all words are as `IsWord` says, none of them is empty
  pub none_empty : (ws : List (List ℕ)) → AllByRecursion IsWord ws → has_empty ws ≡ false
  -- the decimals of numbers below 2^64 are words as `IsWord` says
  pub word : (n : ℕ) → n < 2 ^ 64 → IsWord (decimal n)
  pub words : (ns : List ℕ) → AllByRecursion (λ n. n < 2 ^ 64) ns → AllByRecursion IsWord (map decimal ns)
  -- the decimals of numbers are read as these numbers
  pub read : (n : ℕ) → n < 2 ^ 64 → number_of (decimal n) ≡ Some n
  pub all_read : (ns : List ℕ) → AllByRecursion (λ n. n < 2 ^ 64) ns → numbers_of (map decimal ns) ≡ Some ns
  -- words that were read as numbers are the decimals of these numbers
  pub spelled : (w : List ℕ) (n : ℕ) → number_of w ≡ Some n → (w ≡ decimal n) × (n < 2 ^ 64)
  pub all_spelled : (ws : List (List ℕ)) (ns : List ℕ) → numbers_of ws ≡ Some ns
      → (ws ≡ map decimal ns) × AllByRecursion (λ n. n < 2 ^ 64) ns
  -- if the lines of a text are joined words, as `IsWordLine` says, the text is ASCII
  pub ascii : (bytes : List ℕ) (lines : List (List (List ℕ))) → AllByRecursion IsWordLine lines
      → lines_of bytes ≡ map (join_with_byte 32) lines → list_all is_ascii bytes ≡ true

-- if two steps in a row gave y, the first gave some x, and the second gave y for it
bind_ok : {A B : Type 0} (r : Result A RatifyFault) (f : A → Result B RatifyFault) (y : B) → (r >>= f) ≡ Ok y
    → (x : A) × (r ≡ Ok x) × (f x ≡ Ok y)
bind_ok (Ok x) f y e = (x, refl, e)
bind_ok (Err d) f y e = absurd (cc)

-- if a test that does not hold gives the fault d, and there was no fault, the test holds
passed : {A : Type 0} (b : Bool) (d : RatifyFault) (r : Result A RatifyFault) (y : A) → cond b r (Err d) ≡ Ok y
    → (b ≡ true) × (r ≡ Ok y)
passed true d r y e = (refl, e)
passed false d r y e = absurd (cc)

-- if a test that holds gives the fault d, and there was no fault, the test does not hold
avoided : {A : Type 0} (b : Bool) (d : RatifyFault) (r : Result A RatifyFault) (y : A) → cond b (Err d) r ≡ Ok y
    → (b ≡ false) × (r ≡ Ok y)
avoided false d r y e = (refl, e)
avoided true d r y e = absurd (cc)

-- `Ok x` as a result whose fault, if it had one, would be that of the command `ratify`
abbrev done : {A : Type 0} → A → Result A RatifyFault
done x = Ok x

-- if `Ok x` and `Ok y` are equal, x and y are
ok_is : {A : Type 0} (x y : A) → done x ≡ done y → x ≡ y
ok_is x y e = cc

-- if an option gives a fault in place of no value, and there was no fault, it has a value
some_from : {A : Type 0} (o : Option A) (d : RatifyFault) (x : A) → ok_or o d ≡ Ok x → o ≡ Some x
some_from (Some y) d x e = ap (λ (z : _). Some z) (ok_is y x e)
some_from None d x e = absurd (cc)

-- if a line's words were read, it is these words, with one space between two, and the lines after it are left
line_takes : (n : ℕ) (lines : List (List ℕ)) (x : List (List ℕ) × List (List ℕ)) → line_words n lines ≡ Ok x
    → lines ≡ join_with_byte 32 x.0 ∷ x.1
unfolding line_words
line_takes n [] x e = absurd (cc)
line_takes n (line ∷ rest) x e =
    let g = avoided (has_empty (words_in_line line)) (BadLine n) (Ok (words_in_line line, rest)) x e in
    subst (λ (y : List (List ℕ) × List (List ℕ)). line ∷ rest ≡ join_with_byte 32 y.0 ∷ y.1)
    (ok_is (words_in_line line, rest) x g.1) (ap (λ (l : List ℕ). l ∷ rest) (sym (join_with_byte-slice_split 32 line)))

-- a line of words is read as these words
line_again : TextLaws → (n : ℕ) (w : List ℕ) (ws rest : List (List ℕ)) → AllByRecursion IsWord (w ∷ ws)
    → line_words n (join_with_byte 32 (w ∷ ws) ∷ rest) ≡ Ok (w ∷ ws, rest)
unfolding line_words
line_again law n w ws rest are = rw (law.cut w ws are, law.none_empty (w ∷ ws) are) refl

-- what is left to be read of the first line after its table: the number of values
abbrev head_values : List ℕ → TableName → Result (TableName × ℕ) RatifyFault
head_values values t = ok_or (number_of values) (BadNumber 1) >>= (λ m. Ok (t, m))

-- words that were read as a first line are `ratify`, the table's name and the decimal of the number of values
head_takes : TextLaws → (ws : List (List ℕ)) (x : TableName × ℕ) → head_of ws ≡ Ok x
    → (ws ≡ codes "ratify" ∷ table_name x.0 ∷ decimal x.1 ∷ []) × (x.1 < 2 ^ 64)
unfolding head_of
head_takes law [] x e = absurd (cc)
head_takes law (a ∷ []) x e = absurd (cc)
head_takes law (a ∷ b ∷ []) x e = absurd (cc)
head_takes law (a ∷ b ∷ c ∷ d ∷ ws) x e = absurd (cc)
head_takes law (key ∷ name ∷ values ∷ []) x e =
    let named = ok_or (table_named name) (BadLine 1) in
    let g = passed (bytes_eq key (codes "ratify")) (BadLine 1) (named >>= head_values values) x e in
    let a = bind_ok named (head_values values) x g.1 in
    let b = bind_ok (ok_or (number_of values) (BadNumber 1)) (λ m. Ok (a.0, m)) x a.2 in
    let k = (bytes_eq-Decides key (codes "ratify")).0 g.0 in
    let t = table_takes name a.0 _ _ _ refl refl refl (some_from _ _ _ a.1) in
    let v = law.spelled values b.0 (some_from _ _ _ b.1) in
    let made : TableName × ℕ = (a.0, b.0) in
    let whole : key ∷ name ∷ values ∷ [] ≡ codes "ratify" ∷ table_name a.0 ∷ decimal b.0 ∷ [] =
    ap (λ (w : List ℕ). w ∷ name ∷ values ∷ []) k
    ∙ ap (λ (w : List ℕ). codes "ratify" ∷ w ∷ values ∷ []) t
    ∙ ap (λ (w : List ℕ). codes "ratify" ∷ table_name a.0 ∷ w ∷ []) v.0 in
    subst (λ (y : TableName × ℕ). (key ∷ name ∷ values ∷ [] ≡ codes "ratify" ∷ table_name y.0
    ∷ decimal y.1 ∷ []) × (y.1 < 2 ^ 64))
    (ok_is made x b.2) (whole, v.1)

-- a first line that spells a table and a number of values is read as these
head_again : TextLaws → (t : TableName) (m : ℕ) → m < 2 ^ 64
    → head_of (codes "ratify" ∷ table_name t ∷ decimal m ∷ []) ≡ Ok (t, m)
unfolding head_of
head_again law Unary m h = rw (law.read m h) refl
head_again law Bits m h = rw (law.read m h) refl
head_again law Middle m h = rw (law.read m h) refl

-- words of a line that were read as numbers are the key and the decimals of these numbers
list_takes : TextLaws → (n : ℕ) (key : List ℕ) (ws : List (List ℕ)) (ns : List ℕ) → list_of n key ws ≡ Ok ns
    → (ws ≡ key ∷ map decimal ns) × AllByRecursion (λ k. k < 2 ^ 64) ns
unfolding list_of
list_takes law n key [] ns e = absurd (cc)
list_takes law n key (w ∷ ws) ns e =
    let g = passed (bytes_eq w key) (BadLine n) (ok_or (numbers_of ws) (BadNumber n)) ns e in
    let k = (bytes_eq-Decides w key).0 g.0 in
    let v = law.all_spelled ws ns (some_from _ _ _ g.1) in
    (ap (λ (x : List ℕ). x ∷ ws) k ∙ ap (λ (x : List (List ℕ)). key ∷ x) v.0, v.1)

-- a key and the decimals of numbers are read as these numbers
list_again : TextLaws → (n : ℕ) (key : List ℕ) (ns : List ℕ) → AllByRecursion (λ k. k < 2 ^ 64) ns
    → list_of n key (key ∷ map decimal ns) ≡ Ok ns
unfolding list_of
list_again law n key ns h = rw ((bytes_eq-Decides key key).1 refl, law.all_read ns h) refl

-- ---- the three lines
-- the type of lines, or of the words of one. The six definitions below it say what is left to do after each step of
-- `three_lines`, the last step first
abbrev Lines : Type 0
Lines = List (List ℕ)

-- what is left to do after the numbers of line 3: the last test
abbrev after_turns : TableName × ℕ → List ℕ → Lines → List ℕ → Result Script RatifyFault
after_turns head inputs rest turns =
    cond (nat_eq (length rest) 0)
    (Ok (record { table = head.0; values = head.1; inputs = inputs; turns = turns })) (Err (BadLine 4))

-- what is left to do after the words of line 3
abbrev after_third : TableName × ℕ → List ℕ → Lines × Lines → Result Script RatifyFault
after_third head inputs third = list_of 3 (codes "turns") third.0 >>= after_turns head inputs third.1

-- what is left to do after the numbers of line 2
abbrev after_inputs : TableName × ℕ → Lines → List ℕ → Result Script RatifyFault
after_inputs head rest inputs = line_words 3 rest >>= after_third head inputs

-- what is left to do after the words of line 2
abbrev after_second : TableName × ℕ → Lines × Lines → Result Script RatifyFault
after_second head second = list_of 2 (codes "inputs") second.0 >>= after_inputs head second.1

-- what is left to do after the table and the number of values
abbrev after_head : Lines → TableName × ℕ → Result Script RatifyFault
after_head rest head = line_words 2 rest >>= after_second head

-- what is left to do after the words of line 1
abbrev after_first : Lines × Lines → Result Script RatifyFault
after_first first = head_of first.0 >>= after_head first.1

-- lines that were read as a script are spelled as that script's lines
lines_take : TextLaws → (lines : Lines) (s : Script) → three_lines lines ≡ Ok s → HasSpelling s
    × (lines ≡ script_lines s)
unfolding three_lines
lines_take law lines s e =
    let a = bind_ok (line_words 1 lines) after_first s e in
    let b = bind_ok (head_of a.0.0) (after_head a.0.1) s a.2 in
    let c = bind_ok (line_words 2 a.0.1) (after_second b.0) s b.2 in
    let d = bind_ok (list_of 2 (codes "inputs") c.0.0) (after_inputs b.0 c.0.1) s c.2 in
    let f = bind_ok (line_words 3 c.0.1) (after_third b.0 d.0) s d.2 in
    let g = bind_ok (list_of 3 (codes "turns") f.0.0) (after_turns b.0 d.0 f.0.1) s f.2 in
    let made : Script = record { table = b.0.0; values = b.0.1; inputs = d.0; turns = g.0 } in
    let h = passed (nat_eq (length f.0.1) 0) (BadLine 4) (Ok made) s g.2 in
    let first = line_takes 1 lines a.0 a.1 in
    let second = line_takes 2 a.0.1 c.0 c.1 in
    let third = line_takes 3 c.0.1 f.0 f.1 in
    let head = head_takes law a.0.0 b.0 b.1 in
    let inputs = list_takes law 2 (codes "inputs") c.0.0 d.0 d.1 in
    let turns = list_takes law 3 (codes "turns") f.0.0 g.0 g.1 in
    let nothing : f.0.1 ≡ [] = nil_from_length f.0.1 (eqb-true _ _ h.0) in
    let join = join_with_byte 32 in
    let whole : lines ≡ script_lines made =
    first ∙ ap (λ (w : Lines). join w ∷ a.0.1) head.0
    ∙ ap (λ (r : Lines). join (codes "ratify" ∷ table_name b.0.0 ∷ decimal b.0.1 ∷ []) ∷ r)
    (second ∙ ap (λ (w : Lines). join w ∷ c.0.1) inputs.0
    ∙ ap (λ (r : Lines). join (codes "inputs" ∷ map decimal d.0) ∷ r)
    (third ∙ ap (λ (w : Lines). join w ∷ f.0.1) turns.0
    ∙ ap (λ (r : Lines). join (codes "turns" ∷ map decimal g.0) ∷ r) nothing)) in
    subst (λ (t : Script). HasSpelling t × (lines ≡ script_lines t)) (ok_is made s h.1)
    (record { values = head.1; inputs = inputs.1; turns = turns.1 }, whole)

-- if a script has a spelling, the words of each of its lines are a line of words as `IsWordLine` says
words_fit : TextLaws → (s : Script) → HasSpelling s → AllByRecursion IsWordLine (script_words s)
words_fit law s h = (
  (search rules, (table_word s.table, (law.word s.values h.values, tt))),
  ((search rules, law.words s.inputs h.inputs), ((search rules, law.words s.turns h.turns), tt)),
)

-- the lines of a script that has a spelling are read as that script
lines_again : TextLaws → (s : Script) → HasSpelling s → three_lines (script_lines s) ≡ Ok s
unfolding three_lines
lines_again law s h =
    let w = words_fit law s h in
    rw (
      line_again law 1 (codes "ratify") (table_name s.table ∷ decimal s.values ∷ []) _ w.0,
      head_again law s.table s.values h.values,
      line_again law 2 (codes "inputs") (map decimal s.inputs) _ w.1.0,
      list_again law 2 (codes "inputs") s.inputs h.inputs,
      line_again law 3 (codes "turns") (map decimal s.turns) _ w.1.1.0,
      list_again law 3 (codes "turns") s.turns h.turns,
    ) refl

-- bytes that were read as a script have that script's lines
script_takes : TextLaws → (bytes : List ℕ) (s : Script) → script_of bytes ≡ Ok s → HasSpelling s
    × (lines_of bytes ≡ script_lines s)
unfolding script_of
script_takes law bytes s e =
    let read = three_lines (lines_of bytes) in
    let a = avoided (nat_lt MAX_SCRIPT_LEN (length bytes)) TooLong
    (cond (list_all is_ascii bytes) read (Err NotAscii)) s e in
    let b = passed (list_all is_ascii bytes) NotAscii read s a.1 in
    lines_take law (lines_of bytes) s b.1

-- bytes that have a script's lines, and are not too many, are read as that script
pub script_again : TextLaws → (bytes : List ℕ) (s : Script) → HasSpelling s → length bytes ≤ MAX_SCRIPT_LEN
    → lines_of bytes ≡ script_lines s → script_of bytes ≡ Ok s
unfolding script_of
script_again law bytes s h short e =
    let ascii = law.ascii bytes (script_words s) (words_fit law s h) e in
    rw (le-ltb MAX_SCRIPT_LEN (length bytes) short, ascii, e) (lines_again law s h)

-- if a call returned the script that it read from bytes, the bytes have that script's lines
pub is_found : {A : Type 0} → TextLaws → (bytes : List ℕ) (r : Result (code.RatifyScript A) RatifyFault)
    → Gives (λ s. view s) r (script_of bytes)
    → IfOk r (λ s. HasSpelling (view s) × (lines_of bytes ≡ script_lines (view s)))
is_found law bytes (Ok s) read = script_takes law bytes (view s) read
is_found law bytes (Err e) read = tt
