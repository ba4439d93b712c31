-- Clap refuses words for the same reasons, wherever in memory the names that parsers take lie. A row is what clap found
-- for one argument.
use Rattle.std.proofs.Common.{◌≡◌, ◌∙◌, refl, sym, ap, ap₂, Bool, cond, not, ℕ, zero, suc, List, [], ◌∷◌, map, Option, Some, None, ◌&&◌, ◌||◌, drop, encode_utf8, is_some, length, option_map}
use Rattle.std.proofs.Common.{slice_get, bytes_eq, chars}
use Rattle.std.specs.List.{list_any}
use Rattle.std.specs.Option.{option_map_or}
use Rattle.clap.specs.Facts.{explicit_source, unwrap_or_range}
use Rattle.clap.specs.Faults.{action_fault, bundle_step_fault, check_fault, count_fault, default_fault, defaults_fault, flag_word_fault, flags_fault, level_fault, long_fault, option_fault}
use Rattle.clap.specs.Faults.{other_fault, positional_fault, react_fault, repeat_fault, set_fault, settle_fault, short_fault, step_fault, stray_fault, turn_fault, use_fault, values_fault, walk_fault}
use Rattle.clap.specs.Lexer.{long_of, short_of}
use Rattle.clap.specs.Kinds.{Kinds, check_kinds, or_else, range_kinds, request_kinds}
use Rattle.clap.specs.{Simple.Shape, Takes.is_given}
use Rattle.clap.specs.Walk.{Held, Names, Row, Rule, Step, Text, Walk, action_of, arg_by_id, arg_by_index, arg_by_long, arg_by_short, attached_value}
use Rattle.clap.specs.Walk.{has_row, is_empty, is_pending, most_values, subcommand_met, takes_several}
use Rattle.clap.specs.Walk.{takes_values, value, values_or_missing, walk, walk_from}
use Rattle.clap.proofs.WalkLemmas.{list_any-map}
use Rattle.clap.specs.declared.builder.action.ArgAction.{ArgAction}
use Rattle.clap.specs.declared.builder.action.ArgAction.TheVariants.{Set, Append, SetTrue, SetFalse, Count}
use Rattle.clap.specs.declared.error.kind.ErrorKind.TheVariants as kind
use Rattle.mb_program.proofs.SameWalk.{finished_swapped, found_swapped, id_swapped, reacted_swapped, same_accepts, same_kind, settled_swapped, swapped}
use Rattle.mb_program.proofs.SameWalk.{walk_swapped, walked_swapped, with_default_swapped, word_met_swapped}

-- a command with the parsers of its arguments changed
abbrev pub with_swapped : Shape → Shape
with_swapped shape = record shape { rules = map swapped shape.rules }

-- Each lemma from here on says of a function of clap that it finds the same faults, over the other parsers and over
-- those before the change. Most are named after that function, with `same` for `fault`.

-- ---- one use of an argument
-- the values of an argument have the same faults as before the change
values_same : (a : Rule) (values : List Text) → values_fault (swapped a) values ≡ values_fault a values
values_same a [] = refl
values_same a (v ∷ values) = λ i. or_else
    (cond (same_accepts a.ignore_case a.parser v i) [] (same_kind a.parser i ∷ []))
    (values_same a values i)

-- an argument that is set has the same faults as before the change
set_same : (again : Bool) (a : Rule) (values : List Text) (rows : List Row)
    → set_fault again (swapped a) values rows ≡ set_fault again a values rows
set_same again a values rows = λ i. or_else (repeat_fault again a.id rows) (values_same a values i)

-- an argument that counts its uses has the same faults as before the change
count_same : (a : Rule) (values : List Text) (rows : List Row)
    → count_fault (swapped a) values rows ≡ count_fault a values rows
count_same a [] rows =
    ap₂ (λ x k. cond x [] (k ∷ [])) (same_accepts a.ignore_case a.parser _) (same_kind a.parser)
count_same a (v ∷ values) rows = values_same a (v ∷ values)

-- one use of an argument with this action has the same faults as before the change
action_same : (action : ArgAction) (again : Bool) (a : Rule) (values : List Text)
    (rows : List Row)
    → action_fault action again (swapped a) values rows ≡ action_fault action again a values rows
action_same Set again a values rows = set_same again a values rows
action_same SetTrue again a values rows = set_same again a values rows
action_same SetFalse again a values rows = set_same again a values rows
action_same Append again a values rows = values_same a values
action_same Count again a values rows = count_same a values rows
action_same other again a values rows = refl

-- one use of an argument has the same faults as before the change
use_same : (again : Bool) (a : Rule) (values : List Text) (rows : List Row)
    → use_fault again (swapped a) values rows ≡ use_fault again a values rows
use_same again a values rows = λ i. or_else
    (range_kinds (unwrap_or_range a.range).start_inclusive (most_values a) (length values))
    (action_same (action_of a) again a (values_or_missing a values) rows i)

-- one use of an argument that was found, if one was, has the same faults as before the change
by_id_same : (again : Bool) (values : List Text) (rows : List Row) (o : Option Rule)
    → option_map_or (λ a. use_fault again a values rows) (option_map swapped o) []
    ≡ option_map_or (λ a. use_fault again a values rows) o []
by_id_same again values rows None = refl
by_id_same again values rows (Some a) = use_same again a values rows

-- ---- the walk, over the arguments c
module _ (c : List Rule) (again : Bool) where
  -- the arguments c with their parsers changed
  abbrev d : List Rule
  d = map swapped c

  -- the use of the pending argument, if there is one, has the same faults as before the change
  pending_same : (p : Option (Text × List Text)) (rows : List Row)
      → option_map_or
      (λ p. option_map_or (λ a. use_fault again a p.1 rows) (arg_by_id d p.0) []) p []
      ≡ option_map_or
      (λ p. option_map_or (λ a. use_fault again a p.1 rows) (arg_by_id c p.0) []) p []
  pending_same None rows = refl
  pending_same (Some p) rows =
      ap (λ o. option_map_or (λ a. use_fault again a p.1 rows) o []) (id_swapped c p.0)
      ∙ by_id_same again p.1 rows (arg_by_id c p.0)

  -- the use of the pending argument that clap holds has the same faults as before the change
  settle_same : (h : Held) → settle_fault d again h ≡ settle_fault c again h
  settle_same h = pending_same h.pending h.rows

  -- the uses of the pending argument and then of this one have the same faults as before the change
  react_same : (a : Rule) (values : List Text) (h : Held)
      → react_fault d again (swapped a) values h ≡ react_fault c again a values h
  react_same a values h =
      λ i. or_else (settle_same h i) (use_same again a values (settled_swapped c h i).rows i)

  -- an option, with the value attached to it if there is one, has the same faults as before the change
  option_same : (a : Rule) (v : Option Text) (h : Held)
      → option_fault d again (swapped a) v h ≡ option_fault c again a v h
  option_same a (Some v) h = react_same a (v ∷ []) h
  option_same a None h = settle_same h

  -- a word `--name` or `--name=value` has the same faults as before the change
  long_same : (o : Option Rule) (v : Option Text) (h : Held)
      → long_fault d again (option_map swapped o) v h ≡ long_fault c again o v h
  long_same None v h = refl
  long_same (Some a) v h = λ i. cond (takes_values a) (option_same a v h i)
      (cond (is_some v) (kind.TooManyValues ∷ []) (react_same a [] h i))

  -- one character of a word `-abc` has the same faults as before the change
  short_same : (o : Option Rule) (rest : Text) (h : Held) (go : Held → Kinds)
      → short_fault d again (option_map swapped o) rest h go ≡ short_fault c again o rest h go
  short_same None rest h go = refl
  short_same (Some a) rest h go =
      λ i. cond (takes_values a) (option_same a (attached_value rest) h i)
      (or_else (react_same a [] h i) (go (reacted_swapped c a [] h i)))

  -- one step through a word `-abc` has the same faults as before the change
  step_of_bundle_same : (o : Option ℕ) (flags : Text) (skip : ℕ) (h : Held)
      (go : Text → ℕ → Held → Kinds)
      → bundle_step_fault d again o flags skip h go ≡ bundle_step_fault c again o flags skip h go
  step_of_bundle_same (Some x) flags zero h go =
      let rest = drop (length (encode_utf8 x)) flags in
      ap (λ o. short_fault d again o rest h (go rest 0)) (found_swapped _ (λ a. refl) c)
      ∙ short_same (arg_by_short c x) rest h (go rest 0)
  step_of_bundle_same (Some x) flags (suc skip) h go = refl
  step_of_bundle_same None flags skip h go = refl

  -- the characters of a word `-abc` have the same faults as before the change
  flags_same : (k : ℕ) (flags : Text) (skip : ℕ) (h : Held)
      → flags_fault d again k flags skip h ≡ flags_fault c again k flags skip h
  unfolding flags_fault
  flags_same zero flags skip h = refl
  flags_same (suc k) flags skip h =
      let first = slice_get (chars flags) 0 in
      (λ i. bundle_step_fault d again first flags skip h (λ t n x. flags_same k t n x i))
      ∙ step_of_bundle_same first flags skip h (flags_fault c again k)

  -- a word `-abc`, if it is one, has the same faults as before the change
  shorts_same : (o : Option Text) (h : Held)
      → option_map_or
      (λ flags. flags_fault d again (length flags) flags h.skip (record h { skip = 0 })) o []
      ≡ option_map_or
      (λ flags. flags_fault c again (length flags) flags h.skip (record h { skip = 0 })) o []
  shorts_same None h = refl
  shorts_same (Some flags) h = flags_same (length flags) flags h.skip (record h { skip = 0 })

  -- a word that may be a flag has the same faults as before the change
  flag_word_same : (o : Option (Text × Option Text)) (word : Text) (h : Held)
      → flag_word_fault d again o word h ≡ flag_word_fault c again o word h
  flag_word_same (Some p) word h =
      ap (λ o. long_fault d again o p.1 h) (found_swapped _ (λ a. refl) c)
      ∙ long_same (arg_by_long c p.0) p.1 h
  flag_word_same None word h = shorts_same (short_of word) h

  -- a word for a positional argument, if there is one, has the same faults as before the change
  positional_same : (stray : Kinds) (o : Option Rule) (h : Held)
      → option_map_or (λ a. positional_fault d again a h) (option_map swapped o) stray
      ≡ option_map_or (λ a. positional_fault c again a h) o stray
  positional_same stray None h = refl
  positional_same stray (Some a) h =
      λ i. cond (is_pending a h.pending && takes_several a) [] (settle_same h i)

-- ---- faults of defaults
-- the default values of one argument have the same faults as before the change
default_same : (rows : List Row) (a : Rule) → default_fault rows (swapped a) ≡ default_fault rows a
default_same rows a = λ i. cond (has_row a.id rows || is_empty a.defaults) []
    (or_else (request_kinds (action_of a)) (values_same a a.defaults i))

-- the default values of all arguments have the same faults as before the change
defaults_same : (rows : List Row) (c : List Rule)
    → defaults_fault rows (map swapped c) ≡ defaults_fault rows c
unfolding defaults_fault
defaults_same rows [] = refl
defaults_same rows (a ∷ c) = λ i. or_else (default_same rows a i)
    (defaults_same (with_default_swapped rows a i) c i)

-- ---- the walk of a command
module _ (top : Shape) where
  -- the command `top` with the parsers of its arguments changed
  abbrev other : Shape
  other = with_swapped top

  -- a word that is no subcommand's name has the same faults as before the change
  other_same : (o : Option Text) (word : Text) (h : Held)
      → other_fault other o word h ≡ other_fault top o word h
  other_same (Some name) word h = refl
  other_same None word h = λ i. cond (bytes_eq word (45 ∷ 45 ∷ [])) []
      (flag_word_same top.rules top.args_override_self (long_of word) word h i)

  -- the step of a word has the same faults as before the change
  step_same : (position : ℕ) (h : Held) (step : Step)
      → step_fault other position h step ≡ step_fault top position h step
  step_same position h value =
      ap (λ o. option_map_or (λ a. positional_fault other.rules top.args_override_self a h) o
      (stray_fault top)) (found_swapped _ (λ a. refl) top.rules)
      ∙ positional_same top.rules top.args_override_self (stray_fault top)
      (arg_by_index top.rules position) h
  step_same position h step = refl

  -- one more word has the same faults as before the change
  turn_same : (names : Names) (w : Walk) (word : Text)
      → turn_fault other names w word ≡ turn_fault top names w word
  turn_same names w word =
      let same = word_met_swapped top.rules names w.is_trailing w.waiting w.position word w.held in
      λ i. cond (is_some w.stopped) [] (or_else
      (cond w.is_trailing [] (other_same (subcommand_met names w.waiting word) word w.held i))
      (step_same w.position (same i).0 (same i).1 i))

  -- all the words have the same faults as before the change
  walk_same : (names : Names) (w : Walk) (words : List Text)
      → walk_fault other names w words ≡ walk_fault top names w words
  unfolding walk_fault
  walk_same names w [] = refl
  walk_same names w (word ∷ words) = λ i. or_else (turn_same names w word i)
      (walk_same names (walked_swapped top.rules names w word i) words i)

  -- ---- the faults after the walk
  -- the tests after the walk find the same faults in its rows as before the change
  check_same : (rows : List Row) (has_subcommand : Bool)
      → check_fault other rows has_subcommand ≡ check_fault top rows has_subcommand
  check_same rows has_subcommand = λ i. check_kinds
      (not has_subcommand &&
      (top.arg_required_else_help && not (list_any (λ (r : Row). explicit_source r.source) rows)))
      (not has_subcommand && top.subcommand_required)
      (not (top.subcommand_negates_reqs && has_subcommand)
      && sym (list_any-map (λ (a : Rule). a.required && not (is_given a.id rows)) swapped top.rules) i)

  -- ---- all faults of the command
  -- the command has the same faults as before: those of the walk, else `below` (its subcommand's), else later ones
  pub level_fault_same : (names : Names) (h : Held) (words : List Text) (has_subcommand : Bool)
      (below : Kinds)
      → level_fault other names h words has_subcommand below
      ≡ level_fault top names h words has_subcommand below
  level_fault_same names h words has_subcommand below =
      let ends : (walk other.rules names h words).held
      ≡ (walk top.rules names h words).held = λ i. (walk_swapped top.rules names h words i).held in
      λ i. or_else (walk_same names (walk_from h) words i)
      (or_else below (or_else (settle_same top.rules top.args_override_self (ends i) i)
      (or_else (defaults_same (settled_swapped top.rules (ends i) i).rows top.rules i)
      (check_same (finished_swapped top.rules (ends i) i) has_subcommand i))))
