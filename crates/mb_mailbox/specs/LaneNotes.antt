-- The notes of a consumer in the order of time. Each is stored as a mark, which has its lane, and for some marks a
-- word more. Then the same notes lane by lane, and diaries filled from marks.
use Rattle.std.specs.Prelude.{ℕ, zero, suc, ◌≡◌, ◌+◌, ◌-◌, ◌^◌, ◌%◌, ◌≤◌, List, [], ◌∷◌, ◌++◌, if◌then◌else◌, length, map, nat_eq, nat_lt, slice_get, sum_by, take}
use Rattle.std.specs.Option.{option_map_or}
use Rattle.mb_world.specs.Theorem.{DiaryView}
use Rattle.mb_mailbox.specs.Imports.{Note}
use Rattle.mb_mailbox.specs.Imports.{Took, Lost, Undecided}
use Rattle.mb_mailbox.specs.declared.notes.marks.Mark.{Mark}
use Rattle.mb_mailbox.specs.declared.notes.marks.Mark.TheVariants as mark

-- what proofs see of a consumer's notes: those on each lane, and how many there is room for on all lanes together
pub record NotesView : Type 0 where
  pub lists : List (List Note)
  pub room : ℕ

-- a note with its lane beside it
pub record Noted : Type 0 where
  pub lane : ℕ
  pub note : Note

-- this note with lane p beside it
abbrev pub noted : ℕ → Note → Noted
noted p n = record { lane = p; note = n }

-- the notes on lane p, in their order
abbrev pub on_lane : ℕ → List Noted → List Note
on_lane p [] = []
on_lane p (x ∷ xs) = if nat_eq p x.lane then x.note ∷ on_lane p xs else on_lane p xs

-- the notes of this many lanes from p on
abbrev pub on_lanes : ℕ → ℕ → List Noted → List (List Note)
on_lanes p zero xs = []
on_lanes p (suc n) xs = on_lane p xs ∷ on_lanes (suc p) n xs

-- the notes of the first n lanes
abbrev pub by_lane : ℕ → List Noted → List (List Note)
by_lane n xs = on_lanes 0 n xs

-- ---- marks and words
-- how many words a mark needs
abbrev pub words_in : Mark → ℕ
words_in (mark.Took p) = 1
words_in (mark.Lost p w) = 0
words_in (mark.LostFar p) = 1
words_in (mark.Undecided p) = 0

-- how many words these marks need
abbrev pub words_among : List Mark → ℕ
words_among [] = 0
words_among (m ∷ ms) = words_in m + words_among ms

-- the note that this mark and this word stand for
abbrev pub told : Mark → ℕ → Noted
told (mark.Took p) x = noted p (Took x)
told (mark.Lost p w) x = noted p (Lost w)
told (mark.LostFar p) x = noted p (Lost (if nat_lt x (2 ^ 32) then x else 0))
told (mark.Undecided p) x = noted p Undecided

-- the mark that these two bytes stand for. The first is the lane, plus 16 for Lost, 32 for LostFar and 48 for Undecided.
-- For Lost the other is one more than the winner, modulo 256. Else it says nothing
abbrev pub unpacked : ℕ → ℕ → Mark
unpacked h n =
    if nat_lt h 16 then mark.Took h
    else if nat_lt h 32 then mark.Lost (h - 16) ((n + 255) % 256)
    else if nat_lt h 48 then mark.LostFar (h - 32)
    else mark.Undecided (h - 48)

-- the word at a place, or 0 past the last
abbrev pub word_at : List ℕ → ℕ → ℕ
word_at ws t = option_map_or (λ w. w) (slice_get ws t) 0

-- the notes of these marks. Their words are those from t on
abbrev pub told_from : ℕ → List Mark → List ℕ → List Noted
told_from t [] ws = []
told_from t (m ∷ ms) ws = told m (word_at ws t) ∷ told_from (t + words_in m) ms ws

-- the notes of all these marks and words, in the order of time
abbrev pub all_told : List Mark → List ℕ → List Noted
all_told ms ws = told_from 0 ms ws

-- the marks have just these words, and each mark is of one of the first `lanes` lanes. There are at most 16 lanes
pub record AreMarked (lanes : ℕ) (ms : List Mark) (ws : List ℕ) : Type 0 where
  pub few : lanes ≤ 16
  pub words : words_among ms ≡ length ws
  pub count : length ms ≡ sum_by length (by_lane lanes (all_told ms ws))

-- ---- diaries filled from marks
-- the diary at place p of this list has the notes on lane p among those of the first k marks. Notes on lanes without a
-- diary are left out
pub record AreFiled (ms : List Mark) (ws : List ℕ) (k : ℕ) (row : List DiaryView) : Type 0 where
  pub within : k ≤ length ms
  pub notes : map (λ d. d.notes) row ≡ by_lane (length row) (all_told (take k ms) ws)

-- the marks from place `from` on and before place k are losses on lane p that need no word. `new` is `old` with their
-- notes at its end
pub record AreLosses (p from k : ℕ) (ms : List Mark) (old new : List Note) : Type 0 where
  pub since : from ≤ k
  pub within : k ≤ length ms
  -- the consumers that won the items
  pub winners : List ℕ
  pub marks : take k ms ≡ take from ms ++ map (λ w. mark.Lost p w) winners
  pub notes : new ≡ old ++ map (λ w. Lost w) winners
