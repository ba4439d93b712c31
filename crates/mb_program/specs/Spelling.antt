-- How a ratifier script is spelled.
use Rattle.std.specs.Prelude.{ℕ, ◌<◌, ◌^◌, List, [], ◌∷◌, codes, map}
use Rattle.std.specs.List.{join_with_byte, AllByRecursion}
use Rattle.std.specs.Fmt.{decimal}
use Rattle.mb_script.specs.Vocabulary.{table_name}
use Rattle.mb_program.specs.RatifyScript.{Script}

-- the words of each line of a script
abbrev pub script_words : Script → List (List (List ℕ))
script_words s =
    (codes "ratify" ∷ table_name s.table ∷ decimal s.values ∷ [])
    ∷ (codes "inputs" ∷ map decimal s.inputs)
    ∷ (codes "turns" ∷ map decimal s.turns)
    ∷ []

-- the lines of a script: between two words of a line stands one space
abbrev pub script_lines : Script → List (List ℕ)
script_lines s = map (join_with_byte 32) (script_words s)

-- each number of a script is below 2^64
pub record HasSpelling (s : Script) : Type 0 where
  pub values : s.values < 2 ^ 64
  pub inputs : AllByRecursion (λ n. n < 2 ^ 64) s.inputs
  pub turns : AllByRecursion (λ n. n < 2 ^ 64) s.turns
