-- The segments of a list that has ended are ended one after the other. What they had left is given back.
use Rattle.std.specs.Prelude.{List, [], ◌++◌, ◌∷◌, ◌≡◌}
use Rattle.mb_segment.specs.Vocabulary.{HasLeft}
use Rattle.mb_channel.specs.Types.{Ending, Global, Home, Knows, Left, Rest}
use Rattle.mb_channel.specs.Lives.{HaveEnded, HaveLived, all_left, end_in}

-- these values are left, in this order
abbrev pub AreLeft : {T : Type 0} → List (Left T Global) → List T → Type 0
AreLeft [] back = back ≡ []
AreLeft {T} (x ∷ xs) back = (l : List T) × (more : List T) × (back ≡ l ++ more) × HasLeft x l × AreLeft xs more

-- of all segments that there ever were, the first have ended, and the others are in the list
pub record IsEnding {T : Type 0} (hs : List (Home T)) (e : Ending T) : Type 0 where
  pub ended : List (Home T)
  pub ls : List (List T)
  pub all : hs ≡ ended ++ e.list.items
  pub whole : HaveEnded ended ls
  pub back : AreLeft e.lefts.items (all_left ls)

abbrev pub HasRest : {T : Type 0} → Rest T → List T → Type 0
HasRest r back = AreLeft r.lefts.items back

-- all segments have ended, and had these values left. What is given back is those values, and with what the ends did it is
-- one life
abbrev pub RestOfLife : {T : Type 0} → Knows T → List (Home T) → Rest T → Type 0
RestOfLife {T} v hs r = (ls : List (List T)) × HaveEnded hs ls × HasRest r (all_left ls)
    × HaveLived (end_in v hs) (all_left ls)
