-- Turns and their acts, and which acts a list has.
use Rattle.std.proofs.Common.{◌≡◌, ◌≢◌, suc, List, [], ◌∷◌, ◌++◌, map, length, inr, refl, ap}
use Rattle.mb_deciding.specs.{Act, Turn, acts, Has}
use Rattle.mb_deciding.proofs.Histories.{not_empty}

-- the acts of two joined lists of turns are the acts of each list, joined
pub acts-append : (xs ys : List Turn) → acts (xs ++ ys) ≡ acts xs ++ acts ys
acts-append [] ys = refl
acts-append (x ∷ xs) ys = ap (λ zs. x.act ∷ zs) (acts-append xs ys)

-- the acts of a list of turns are as many as the turns
pub length-acts : (xs : List Turn) → length (acts xs) ≡ length xs
length-acts [] = refl
length-acts (x ∷ xs) = ap suc (length-acts xs)

-- a list of turns without acts is empty
pub no_acts : (xs : List Turn) → acts xs ≡ [] → xs ≡ []
no_acts [] e = refl
no_acts (x ∷ xs) e = absurd (not_empty x.act (acts xs) e)

-- turns that make these acts, with 0 for each random word
pub turns_for : List Act → List Turn
turns_for xs = map (λ x. record { act = x; word = 0 }) xs

-- the acts of the turns made for these acts are the acts themselves
pub acts-turns_for : (xs : List Act) → acts (turns_for xs) ≡ xs
unfolding turns_for
acts-turns_for [] = refl
acts-turns_for (x ∷ xs) = ap (λ zs. x ∷ zs) (acts-turns_for xs)

-- a list that has an act is not empty
pub has_some : (xs : List Act) (c : Act) → Has xs c → xs ≢ []
has_some [] c k e = k
has_some (x ∷ xs) c k e = not_empty x xs e

-- a list of turns that has an act is not empty
pub has_turns : (turns : List Turn) (c : Act) → Has (acts turns) c → turns ≢ []
has_turns turns c k e = has_some (acts turns) c k (ap acts e)

-- an act of a list is still in it with later acts in front
pub has_later : (xs ys : List Act) (c : Act) → Has ys c → Has (xs ++ ys) c
has_later [] ys c h = h
has_later (x ∷ xs) ys c h = inr (has_later xs ys c h)
