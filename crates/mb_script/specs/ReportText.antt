-- The text of a report: two lines for each lane, and then a line for each diary.
use Rattle.std.specs.Prelude.{ℕ, suc, List, [], ◌∷◌, ◌++◌, codes, if◌then◌else◌}
use Rattle.std.specs.List.{flat_map}
use Rattle.std.specs.Fmt.{decimal}
use Rattle.mb_world.specs.declared.report.Note.{Note}
use Rattle.mb_world.specs.declared.report.Note.TheVariants.{Took, Lost, Undecided}
use Rattle.mb_world.specs.Theorem.{DiaryView, LaneView, ReportView}

-- the text of items: each after a space
abbrev pub items_text : List ℕ → List ℕ
items_text items = flat_map (λ x. codes " " ++ decimal x) items

-- the first line of a lane: its number, whether it has ended, and the items put
abbrev pub put_text : ℕ → LaneView → List ℕ
put_text p l =
    codes "lane " ++ decimal p ++ (if l.ended then codes " ended put" else codes " open put") ++ items_text l.put
    ++ codes "\n"

-- the second line of a lane: its number, and the items left
abbrev pub left_text : ℕ → LaneView → List ℕ
left_text p l = codes "left " ++ decimal p ++ items_text l.left ++ codes "\n"

-- the lines of these lanes, which are numbered from `first` on
abbrev pub lanes_text : ℕ → List LaneView → List ℕ
lanes_text first [] = []
lanes_text first (l ∷ ls) = put_text first l ++ left_text first l ++ lanes_text (suc first) ls

-- the text of a note, after a space
abbrev pub note_text : Note → List ℕ
note_text (Took item) = codes " took " ++ decimal item
note_text (Lost winner) = codes " lost " ++ decimal winner
note_text Undecided = codes " undecided"

-- the line of a diary: its consumer, its lane, its notes, and whether a claim after them is begun
abbrev pub diary_text : DiaryView → List ℕ
diary_text d =
    codes "diary " ++ decimal d.consumer ++ codes " " ++ decimal d.lane ++ flat_map note_text d.notes
    ++ (if d.begun then codes " begun\n" else codes "\n")

-- the text of a report: the lanes in their order, and then the diaries in theirs
abbrev pub report_text : ReportView → List ℕ
report_text r = lanes_text 0 r.lanes ++ flat_map diary_text r.diaries
