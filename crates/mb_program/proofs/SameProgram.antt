-- Clap reads and refuses the words of a command with subcommands alike, wherever in memory the names that parsers take
-- lie. A row is what clap found for one argument.
use Rattle.std.proofs.Common.{◌≡◌, ◌∙◌, refl, sym, ap, ap₂, false, List, [], map, Option, Some, None}
use Rattle.std.specs.Prelude.{find, is_some, option_map}
use Rattle.std.specs.Option.{option_map_or}
use Rattle.std.proofs.lemmas.Simd.{map-map}
use Rattle.clap.specs.Faults.{built_fault, entered_fault, level_fault}
use Rattle.clap.specs.Kinds.{Kinds}
use Rattle.clap.specs.Simple.{App, Shape, entered, label_of, names_of, rows_at}
use Rattle.clap.specs.Walk.{Held, Row, Text, answers_to, nothing_held, walk}
use Rattle.clap.proofs.WalkLemmas.{find-map}
use Rattle.mb_program.proofs.SameFaults.{level_fault_same, with_swapped}
use Rattle.mb_program.proofs.SameWalk.{rows_after_swapped}

-- the subcommands with the parsers of their arguments changed
abbrev pub below_swapped : App → App
below_swapped app = record app { subs = map with_swapped app.subs }

-- ---- the subcommand that is entered: its rows and its faults
-- the rows of a subcommand are the same as before the change
rows_at_same : (o : Option Shape) (words : List Text)
    → option_map (λ x. rows_at x words) (option_map with_swapped o)
    ≡ option_map (λ x. rows_at x words) o
rows_at_same None words = refl
rows_at_same (Some x) words =
    ap (λ (rows : List Row). Some (x.name, rows)) (rows_after_swapped x.rules [] words)

-- the name of the subcommand that is entered, and its rows, are the same as before the change
pub entered_same : (app : App) (stop : Option (Text × List Text))
    → entered (below_swapped app) stop ≡ entered app stop
entered_same app None = refl
entered_same app (Some p) =
    ap (option_map (λ x. rows_at x p.1)) (sym (find-map (λ x. answers_to p.0 (label_of x)) with_swapped app.subs))
    ∙ rows_at_same (find (λ x. answers_to p.0 (label_of x)) app.subs) p.1

-- a subcommand has the same faults as before the change
sub_fault_same : (o : Option Shape) (words : List Text)
    → option_map_or (λ x. level_fault x [] nothing_held words false [])
    (option_map with_swapped o) []
    ≡ option_map_or (λ x. level_fault x [] nothing_held words false []) o []
sub_fault_same None words = refl
sub_fault_same (Some x) words = level_fault_same x [] nothing_held words false []

-- the subcommand that is entered has the same faults as before the change
entered_fault_same : (app : App) (stop : Option (Text × List Text))
    → entered_fault (below_swapped app) stop ≡ entered_fault app stop
entered_fault_same app None = refl
entered_fault_same app (Some p) =
    ap (λ o. option_map_or (λ x. level_fault x [] nothing_held p.1 false []) o [])
    (sym (find-map (λ x. answers_to p.0 (label_of x)) with_swapped app.subs))
    ∙ sub_fault_same (find (λ x. answers_to p.0 (label_of x)) app.subs) p.1

-- ---- the whole command line
-- clap refuses words for the same reasons as before the change
pub fault_same : (app : App) (h : Held) (words : List Text)
    → built_fault (below_swapped app) h words ≡ built_fault app h words
fault_same app h words =
    let other = below_swapped app in
    let names = map-map label_of with_swapped app.subs in
    let stop = (walk app.top.rules (names_of app) h words).stopped in
    ap (λ ns. level_fault app.top ns h words
    (is_some (entered other (walk app.top.rules ns h words).stopped))
    (entered_fault other (walk app.top.rules ns h words).stopped)) names
    ∙ ap₂ (λ x (y : Kinds). level_fault app.top (names_of app) h words (is_some x) y)
    (entered_same app stop) (entered_fault_same app stop)
