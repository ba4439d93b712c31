-- The text of an act.
use Rattle.std.specs.Prelude.{ℕ, List, ◌++◌, codes}
use Rattle.std.specs.Fmt.{decimal}
use Rattle.mb_deciding.specs.declared.access.Reg.{Reg}
use Rattle.mb_deciding.specs.declared.access.Reg.TheVariants.{Value, Proposal, Quorum, Last}
use Rattle.mb_deciding.specs.declared.access.Act.{Act}
use Rattle.mb_deciding.specs.declared.access.Act.TheVariants.{Load, Store, Exchange}

-- the name of a word: of a conciliator's word, the proposal, a quorum register with its index, or a last object's word
abbrev pub reg_text : Reg → List ℕ
reg_text Value = codes "c"
reg_text Proposal = codes "p"
reg_text (Quorum i) = codes "q" ++ decimal i
reg_text Last = codes "l"

-- the text of an act: what was done, to which word, and the value of the word. For an exchange it is the value that is
-- stored if the word is 0, and after it comes the value that was found.
abbrev pub act_text : Act → List ℕ
act_text (Load reg value) = codes "load " ++ reg_text reg ++ codes " " ++ decimal value
act_text (Store reg value) = codes "store " ++ reg_text reg ++ codes " " ++ decimal value
act_text (Exchange reg value found) =
    codes "exchange " ++ reg_text reg ++ codes " " ++ decimal value ++ codes " " ++ decimal found
