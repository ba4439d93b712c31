-- Clap's walk over the words comes to the same, wherever in memory the names that parsers take lie. A row is what clap
-- found for one argument.
use Rattle.std.proofs.Common.{◌≡◌, ◌∙◌, refl, sym, ap, Bool, cond, ℕ, zero, suc, List, [], ◌∷◌, map, Option, Some, None}
use Rattle.std.specs.Prelude.{◌&&◌, ◌||◌, drop, encode_utf8, find, fold, length, option_map, slice_get}
use Rattle.std.proofs.lemmas.List.Folds.{fold-map}
use Rattle.std.specs.Borrow.{Bor}
use Rattle.std.specs.List.{list_any}
use Rattle.std.specs.Str.{bytes_eq, chars}
use Rattle.clap.specs.Facts.{parser_of_value}
use Rattle.clap.specs.Lexer.{long_of, short_of}
use Rattle.clap.specs.Values.{reading_of, refused_kind, same_text}
use Rattle.clap.specs.ValueTests.{accepts}
use Rattle.clap.specs.Walk.{Held, Names, Outcome, Row, Rule, Step, Text, Waiting, Walk, action_of, after_flag, after_step, arg_by_id, arg_by_index}
use Rattle.clap.specs.Walk.{arg_by_long, arg_by_short, attached_value, bundle_met, bundle_step, default_rows, done, finished, flag_met, has_row}
use Rattle.clap.specs.Walk.{idle, is_multiple, is_pending, long_met, long_or_other, next, next_position, nothing_held, option, option_met, option_word}
use Rattle.clap.specs.Walk.{plain, plain_word, positional, pushed, reacted, rows_after, settled, settled_rows, short_met, short_or_plain}
use Rattle.clap.specs.Walk.{subcommand_met, subcommand_or_other, takes_several, takes_values, to_positional, trailing, used, used_as}
use Rattle.clap.specs.Walk.{used_by_id, value, values_or_missing, waits, walk, walk_from, walked, walked_from, with_default, word_met}
use Rattle.clap.proofs.WalkLemmas.{find-map}
use Rattle.clap.specs.declared.builder.value_parser.ValueParser.{ValueParser}
use Rattle.clap.specs.declared.builder.value_parser.ValueParser.TheVariants as vp
use Rattle.mb_program.specs.CommandLine.{TextsAt, somewhere, texts_at}

-- ---- parsers whose names lie elsewhere
-- the same names, put elsewhere in memory
abbrev pub moved : TextsAt → TextsAt
moved names = texts_at (map (λ (n : Bor Text). n.now) names.now)

-- a parser, if there is one, with its names put elsewhere in memory if it has any
abbrev pub swap : Option ValueParser → Option ValueParser
swap (Some (vp.Names names)) = Some (vp.Names (moved names))
swap o = o

-- names that lie elsewhere accept the same values
same_words : (i : Bool) (t : Text) (names : List (Bor Text))
    → list_any (λ (n : Bor Text). same_text i n.now t)
    (map somewhere (map (λ (n : Bor Text). n.now) names))
    ≡ list_any (λ (n : Bor Text). same_text i n.now t) names
same_words i t [] = refl
same_words i t (n ∷ names) = ap (λ x. same_text i n.now t || x) (same_words i t names)

-- a parser whose names lie elsewhere reads values in the same way
same_reading : (o : Option ValueParser)
    → reading_of (parser_of_value (swap o)) ≡ reading_of (parser_of_value o)
same_reading (Some (vp.Names names)) = refl
same_reading o = refl

-- a parser whose names lie elsewhere accepts the same values
pub same_accepts : (i : Bool) (o : Option ValueParser) (t : Text)
    → accepts i (parser_of_value (swap o)) t ≡ accepts i (parser_of_value o) t
same_accepts i (Some (vp.Names names)) t = same_words i t names.now
same_accepts i o t = refl

-- a parser whose names lie elsewhere refuses values for the same kind of reason
pub same_kind : (o : Option ValueParser)
    → refused_kind (parser_of_value (swap o)) ≡ refused_kind (parser_of_value o)
same_kind (Some (vp.Names names)) = refl
same_kind o = refl

-- the argument, with the names of its parser elsewhere in memory
abbrev pub swapped : Rule → Rule
swapped a = record a { parser = swap a.parser }

-- if a search for an argument does not look at parsers, it finds the same argument, with its parser changed
pub found_swapped : (p : Rule → Bool) → ((a : Rule) → p (swapped a) ≡ p a)
    → (c : List Rule)
    → find p (map swapped c) ≡ option_map swapped (find p c)
found_swapped p same c =
    sym (find-map p swapped c) ∙ (λ i. option_map swapped (find (λ (a : Rule). same a i) c))

-- Each lemma from here on says of a function of clap that it comes to the same, over the other parsers and over those
-- before the change. The lemma is named after that function.

-- ---- one use of an argument
-- a use of an argument with these values gives the same rows as before the change
pub used_swapped : (a : Rule) (values : List Text) (rows : List Row)
    → used (swapped a) values rows ≡ used a values rows
used_swapped a values rows =
    λ i. used_as (action_of a) a.id (same_reading a.parser i) (values_or_missing a values) rows

-- a use of an argument that was found, if one was, gives the same rows as before the change
by_id_swapped : (o : Option Rule) (values : List Text) (rows : List Row)
    → used_by_id (option_map swapped o) values rows ≡ used_by_id o values rows
by_id_swapped None values rows = refl
by_id_swapped (Some a) values rows = used_swapped a values rows

-- ---- the walk, over the arguments c
module _ (c : List Rule) where
  -- the arguments c with their parsers changed
  abbrev d : List Rule
  d = map swapped c

  -- the argument with this id is that before the change, with its parser changed
  pub id_swapped : (id : Text) → arg_by_id d id ≡ option_map swapped (arg_by_id c id)
  id_swapped id = found_swapped (λ a. bytes_eq a.id id) (λ a. refl) c

  -- after the use of the pending argument, if there is one, the rows are the same as before the change
  settled_rows_swapped : (p : Option (Text × List Text)) (rows : List Row)
      → settled_rows d p rows ≡ settled_rows c p rows
  settled_rows_swapped None rows = refl
  settled_rows_swapped (Some p) rows =
      ap (λ o. used_by_id o p.1 rows) (id_swapped p.0) ∙ by_id_swapped (arg_by_id c p.0) p.1 rows

  -- after the use of the pending argument, what clap holds (`Held`) is the same as before the change
  pub settled_swapped : (h : Held) → settled d h ≡ settled c h
  settled_swapped h =
      λ i. record h { rows = settled_rows_swapped h.pending h.rows i; pending = None }

  -- after the use of the pending argument and then of this one, what clap holds is the same as before the change
  pub reacted_swapped : (a : Rule) (values : List Text) (h : Held)
      → reacted d (swapped a) values h ≡ reacted c a values h
  reacted_swapped a values h =
      λ i. record h { rows = used_swapped a values (settled_swapped h i).rows i; pending = None }

  -- an option, with the value attached to it if there is one, comes to the same as before the change
  option_met_swapped : (a : Rule) (v : Option Text) (h : Held)
      → option_met d (swapped a) v h ≡ option_met c a v h
  option_met_swapped a (Some v) h = λ i. (reacted_swapped a (v ∷ []) h i, done)
  option_met_swapped a None h =
      λ i. (record (settled_swapped h i) { pending = Some (a.id, []) }, waits a.id)

  -- a flag comes to the same as before the change, whether a value is attached to it or not
  flag_met_swapped : (a : Rule) (v : Option Text) (h : Held)
      → flag_met d (swapped a) v h ≡ flag_met c a v h
  flag_met_swapped a (Some v) h = refl
  flag_met_swapped a None h = λ i. (reacted_swapped a [] h i, done)

  -- a word `--name` or `--name=value` comes to the same as before the change
  long_met_swapped : (o : Option Rule) (v : Option Text) (h : Held)
      → long_met d (option_map swapped o) v h ≡ long_met c o v h
  long_met_swapped None v h = refl
  long_met_swapped (Some a) v h =
      λ i. cond (takes_values a) (option_met_swapped a v h i) (flag_met_swapped a v h i)

  -- one character of a word `-abc` comes to the same as before the change
  short_met_swapped : (o : Option Rule) (rest : Text) (h : Held) (go : Held → Held × Outcome)
      → short_met d (option_map swapped o) rest h go ≡ short_met c o rest h go
  short_met_swapped None rest h go = refl
  short_met_swapped (Some a) rest h go = λ i. cond (takes_values a)
      (option_met_swapped a (attached_value rest) h i) (go (reacted_swapped a [] h i))

  -- one step through a word `-abc` comes to the same as before the change
  step_swapped : (o : Option ℕ) (flags : Text) (skip : ℕ) (so_far : Outcome) (h : Held)
      (go : Text → ℕ → Outcome → Held → Held × Outcome)
      → bundle_step d o flags skip so_far h go ≡ bundle_step c o flags skip so_far h go
  step_swapped (Some x) flags zero so_far h go =
      let rest = drop (length (encode_utf8 x)) flags in
      ap (λ o. short_met d o rest h (go rest 0 done)) (found_swapped _ (λ a. refl) c)
      ∙ short_met_swapped (arg_by_short c x) rest h (go rest 0 done)
  step_swapped (Some x) flags (suc skip) so_far h go = refl
  step_swapped None flags skip so_far h go = refl

  -- the characters of a word `-abc` come to the same as before the change
  bundle_met_swapped : (k : ℕ) (flags : Text) (skip : ℕ) (so_far : Outcome) (h : Held)
      → bundle_met d k flags skip so_far h ≡ bundle_met c k flags skip so_far h
  unfolding bundle_met
  bundle_met_swapped zero flags skip so_far h = refl
  bundle_met_swapped (suc k) flags skip so_far h =
      let first = slice_get (chars flags) 0 in
      (λ i. bundle_step d first flags skip so_far h (λ t n x y. bundle_met_swapped k t n x y i))
      ∙ step_swapped first flags skip so_far h (bundle_met c k)

  -- a word that is the value of a waiting option comes to the same as before the change
  option_word_swapped : (o : Option Rule) (id word : Text) (h : Held)
      → option_word (option_map swapped o) id word h ≡ option_word o id word h
  option_word_swapped None id word h = refl
  option_word_swapped (Some a) id word h = refl

  -- a word that is no flag comes to the same as before the change
  plain_word_swapped : (waiting : Waiting) (word : Text) (h : Held)
      → plain_word d waiting word h ≡ plain_word c waiting word h
  plain_word_swapped (option id) word h =
      ap (λ (x : Held × Waiting). (x.0, next x.1))
      (ap (λ o. option_word o id word h) (id_swapped id)
      ∙ option_word_swapped (arg_by_id c id) id word h)
  plain_word_swapped waiting word h = refl

  -- after the test of a word for a flag, whatever its outcome, clap goes on as before the change
  after_flag_swapped : (waiting : Waiting) (word : Text) (h : Held) (outcome : Outcome)
      → after_flag d waiting word h outcome ≡ after_flag c waiting word h outcome
  after_flag_swapped waiting word h done = refl
  after_flag_swapped waiting word h (waits id) = refl
  after_flag_swapped waiting word h other = plain_word_swapped waiting word h

  -- a word that begins with one `-`, or with none, comes to the same as before the change
  short_or_plain_swapped : (waiting : Waiting) (word : Text) (o : Option Text) (h : Held)
      → short_or_plain d waiting word o h ≡ short_or_plain c waiting word o h
  short_or_plain_swapped waiting word (Some flags) h =
      let same = bundle_met_swapped (length flags) flags h.skip plain (record h { skip = 0 }) in
      λ i. after_flag_swapped waiting word (same i).0 (same i).1 i
  short_or_plain_swapped waiting word None h = plain_word_swapped waiting word h

  -- a word comes to the same as before the change, whether it begins with `--` or not
  long_or_other_swapped : (waiting : Waiting) (word : Text) (o : Option (Text × Option Text))
      (h : Held)
      → long_or_other d waiting word o h ≡ long_or_other c waiting word o h
  long_or_other_swapped waiting word (Some p) h =
      let same : long_met d (arg_by_long d p.0) p.1 h
      ≡ long_met c (arg_by_long c p.0) p.1 h = ap (λ o. long_met d o p.1 h) (found_swapped _ (λ a. refl) c)
      ∙ long_met_swapped (arg_by_long c p.0) p.1 h in
      λ i. after_flag_swapped waiting word (same i).0 (same i).1 i
  long_or_other_swapped waiting word None h =
      short_or_plain_swapped waiting word (short_of word) h

  -- a word comes to the same as before the change, whether it names a subcommand or not
  subcommand_or_other_swapped : (o : Option Text) (waiting : Waiting) (position : ℕ) (word : Text)
      (h : Held)
      → subcommand_or_other d o waiting position word h
      ≡ subcommand_or_other c o waiting position word h
  subcommand_or_other_swapped (Some name) waiting position word h = refl
  subcommand_or_other_swapped None waiting position word h =
      λ i. cond (bytes_eq word (45 ∷ 45 ∷ [])) (h, trailing position)
      (long_or_other_swapped waiting word (long_of word) h i)

  -- what clap takes a word for, and what it holds after that, is the same as before the change
  pub word_met_swapped : (names : Names) (is_trailing : Bool) (waiting : Waiting) (position : ℕ)
      (word : Text) (h : Held)
      → word_met d names is_trailing waiting position word h
      ≡ word_met c names is_trailing waiting position word h
  word_met_swapped names is_trailing waiting position word h =
      λ i. cond is_trailing (h, value)
      (subcommand_or_other_swapped (subcommand_met names waiting word) waiting position word h i)

  -- a word that goes to a positional argument comes to the same as before the change
  to_positional_swapped : (o : Option Rule) (word : Text) (w : Walk) (h : Held)
      → to_positional d (option_map swapped o) word w h ≡ to_positional c o word w h
  to_positional_swapped None word w h = refl
  to_positional_swapped (Some a) word w h = λ i. record {
    held = pushed a.id word (cond (is_pending a h.pending && takes_several a) h (settled_swapped h i));
    waiting = cond (is_multiple a) positional idle;
    position = next_position a w.position;
    is_trailing = w.is_trailing || a.trailing_var_arg;
    stopped = None;
  }

  -- the walk after the step of a word is the same as before the change
  after_step_swapped : (word : Text) (w : Walk) (h : Held) (step : Step)
      → after_step d word w h step ≡ after_step c word w h step
  after_step_swapped word w h value =
      ap (λ o. to_positional d o word w h) (found_swapped _ (λ a. refl) c)
      ∙ to_positional_swapped (arg_by_index c w.position) word w h
  after_step_swapped word w h step = refl

  -- the walk after one more word is the same as before the change, whether it had stopped before this word or not
  walked_from_swapped : (names : Names) (o : Option (Text × List Text)) (w : Walk) (word : Text)
      → walked_from d names o w word ≡ walked_from c names o w word
  walked_from_swapped names (Some p) w word = refl
  walked_from_swapped names None w word =
      let same = word_met_swapped names w.is_trailing w.waiting w.position word w.held in
      λ i. after_step_swapped word w (same i).0 (same i).1 i

  -- the walk after one more word is the same as before the change
  pub walked_swapped : (names : Names) (w : Walk) (word : Text)
      → walked d names w word ≡ walked c names w word
  unfolding walked
  walked_swapped names w word = walked_from_swapped names w.stopped w word

  -- the walk over all the words is the same as before the change
  pub walk_swapped : (names : Names) (h : Held) (words : List Text)
      → walk d names h words ≡ walk c names h words
  walk_swapped names h words =
      λ i. fold (λ (w : Walk) (word : Text). walked_swapped names w word i) (walk_from h) words

-- ---- the rows after the walk
-- the rows with the default values of one argument are the same as before the change
pub with_default_swapped : (rows : List Row) (a : Rule)
    → with_default rows (swapped a) ≡ with_default rows a
with_default_swapped rows a =
    λ i. cond (has_row a.id rows) rows (default_rows a.id (same_reading a.parser i) a.defaults rows)

-- the rows at the end of a walk are the same as before the change
pub finished_swapped : (c : List Rule) (h : Held) → finished (map swapped c) h ≡ finished c h
finished_swapped c h =
    (λ i. fold with_default (settled_swapped c h i).rows (map swapped c))
    ∙ fold-map with_default swapped (settled c h).rows c
    ∙ (λ i. fold (λ (rows : List Row) (a : Rule). with_default_swapped rows a i) (settled c h).rows c)

-- the rows of a command's own arguments on these words are the same as before the change
pub rows_after_swapped : (c : List Rule) (names : Names) (words : List Text)
    → rows_after (map swapped c) names words ≡ rows_after c names words
rows_after_swapped c names words =
    λ i. finished_swapped c (walk_swapped c names nothing_held words i).held i
