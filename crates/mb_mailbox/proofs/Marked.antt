-- Notes as marks and words: what one more mark, with or without a word, adds to them.
use Rattle.std.proofs.Common.{◌≡◌, ℕ, zero, suc, ◌+◌, ◌<◌, ◌≤◌, List, [], ◌∷◌, ◌++◌, length, map, refl, ap, ◌∙◌, append-nil, arith}
use Rattle.std.proofs.lemmas.List.{length-append}
use Rattle.std.specs.Prelude.{Option, Some, None}
use Rattle.std.specs.Option.{option_map_or}
use Rattle.mb_mailbox.specs.Imports.{Lost}
use Rattle.mb_mailbox.specs.LaneNotes.{Noted, all_told, noted, told, told_from, word_at, words_among, words_in}
use Rattle.mb_mailbox.specs.declared.notes.marks.Mark.{Mark}
use Rattle.mb_mailbox.specs.declared.notes.marks.Mark.TheVariants as mark

-- ---- how many notes, marks and words there are
-- there are as many notes as marks
pub told_length : (t : ℕ) (ms : List Mark) (ws : List ℕ) → length (told_from t ms ws) ≡ length ms
told_length t [] ws = refl
told_length t (m ∷ ms) ws = ap suc (told_length (t + words_in m) ms ws)

pub one_word : (m : Mark) → words_in m ≤ 1
one_word (mark.Took p) = omega arith
one_word (mark.Lost p w) = omega arith
one_word (mark.LostFar p) = omega arith
one_word (mark.Undecided p) = omega arith

-- there are no more words than marks
pub few_words : (ms : List Mark) → words_among ms ≤ length ms
few_words [] = omega arith
few_words (m ∷ ms) = let one = one_word m in let rest = few_words ms in omega (arith, one, rest)

-- with one more mark at the end, the marks need as many words more as that mark needs
pub among_end : (ms : List Mark) (m : Mark) → words_among (ms ++ m ∷ []) ≡ words_among ms + words_in m
among_end [] m = omega arith
among_end (x ∷ ms) m = let rest = among_end ms m in omega (arith, rest)

-- a mark's word does not change the lane of its note
pub told_lane : (m : Mark) (w : ℕ) → (told m 0).lane ≡ (told m w).lane
told_lane (mark.Took p) w = refl
told_lane (mark.Lost p v) w = refl
told_lane (mark.LostFar p) w = refl
told_lane (mark.Undecided p) w = refl

-- ---- a mark at the end
-- a mark at the end adds one note at the end. The note's word is the first after the words of the marks before
told_end : (t : ℕ) (ms : List Mark) (m : Mark) (ws : List ℕ)
    → told_from t (ms ++ m ∷ []) ws ≡ told_from t ms ws ++ told m (word_at ws (t + words_among ms)) ∷ []
told_end t [] m ws =
    let same : t ≡ t + 0 = omega arith in
    ap (λ (n : ℕ). told m (word_at ws n) ∷ []) same
told_end t (x ∷ ms) m ws =
    let same : (t + words_in x) + words_among ms ≡ t + (words_in x + words_among ms) = omega arith in
    ap (λ (ns : List Noted). told x (word_at ws t) ∷ ns)
    (told_end (t + words_in x) ms m ws
    ∙ ap (λ (n : ℕ). told_from (t + words_in x) ms ws ++ told m (word_at ws n) ∷ []) same)

-- in `all_told`, too, a mark at the end adds one note at the end, with the word after those of the marks before
pub told_last : (ms : List Mark) (m : Mark) (ws : List ℕ)
    → all_told (ms ++ m ∷ []) ws ≡ all_told ms ws ++ told m (word_at ws (words_among ms)) ∷ []
told_last ms m ws =
    let same : 0 + words_among ms ≡ words_among ms = omega arith in
    told_end 0 ms m ws ∙ ap (λ (n : ℕ). all_told ms ws ++ told m (word_at ws n) ∷ []) same

-- ---- losses at the end
-- the marks of losses on a lane need no words
among_only : (p : ℕ) (to : List ℕ) → words_among (map (λ (w : ℕ). mark.Lost p w) to) ≡ 0
among_only p [] = refl
among_only p (w ∷ to) = let rest = among_only p to in omega (arith, rest)

-- marks with losses on a lane added at the end need as many words as before
pub among_losses : (ms : List Mark) (p : ℕ) (to : List ℕ) → words_among (ms ++ map (λ (w : ℕ). mark.Lost p w) to)
    ≡ words_among ms
among_losses [] p to = among_only p to
among_losses (m ∷ ms) p to = let rest = among_losses ms p to in omega (arith, rest)

-- the marks of losses on lane p stand for notes that say to whom the items were lost
told_only : (t p : ℕ) (to ws : List ℕ) → told_from t (map (λ (w : ℕ). mark.Lost p w) to) ws
    ≡ map (λ (w : ℕ). noted p (Lost w)) to
told_only t p [] ws = refl
told_only t p (w ∷ to) ws = ap (λ (ns : List Noted). noted p (Lost w) ∷ ns) (told_only (t + 0) p to ws)

-- marks of losses at the end add the notes of these losses at the end
pub told_losses : (t : ℕ) (ms : List Mark) (p : ℕ) (to ws : List ℕ)
    → told_from t (ms ++ map (λ (w : ℕ). mark.Lost p w) to) ws
    ≡ told_from t ms ws ++ map (λ (w : ℕ). noted p (Lost w)) to
told_losses t [] p to ws = told_only t p to ws
told_losses t (m ∷ ms) p to ws =
    ap (λ (ns : List Noted). told m (word_at ws t) ∷ ns) (told_losses (t + words_in m) ms p to ws)

-- ---- a word at the end
-- after a word is added at the end, each word before it is the same
word_kept : (ws : List ℕ) (w t : ℕ) → t < length ws → word_at (ws ++ w ∷ []) t ≡ word_at ws t
word_kept [] w t low = absurd (omega (arith, low))
word_kept (x ∷ ws) w zero low = refl
word_kept (x ∷ ws) w (suc t) low = word_kept ws w t (omega (arith, low))

-- the word added at the end has as its place the number of words before it
word_last : (ws : List ℕ) (w : ℕ) → word_at (ws ++ w ∷ []) (length ws) ≡ w
word_last [] w = refl
word_last (x ∷ ws) w = word_last ws w

-- a word added at the end does not change the note of a mark that has its word already, or needs none
told_kept : (m : Mark) (ws : List ℕ) (w t : ℕ) → t + words_in m ≤ length ws
    → told m (word_at (ws ++ w ∷ []) t) ≡ told m (word_at ws t)
told_kept (mark.Took p) ws w t low = ap (told (mark.Took p)) (word_kept ws w t (omega (arith, low)))
told_kept (mark.Lost p u) ws w t low = refl
told_kept (mark.LostFar p) ws w t low = ap (told (mark.LostFar p)) (word_kept ws w t (omega (arith, low)))
told_kept (mark.Undecided p) ws w t low = refl

-- a word added at the end does not change the notes of marks that have all their words already
told_more : (t : ℕ) (ms : List Mark) (ws : List ℕ) (w : ℕ) → t + words_among ms ≤ length ws
    → told_from t ms (ws ++ w ∷ []) ≡ told_from t ms ws
told_more t [] ws w low = refl
told_more t (m ∷ ms) ws w low = λ i.
    told_kept m ws w t (omega (arith, low)) i ∷ told_more (t + words_in m) ms ws w (omega (arith, low)) i

-- ---- a note at the end: its mark, and its word if it needs one
-- a mark that needs no word has the same note with any word
told_any : (m : Mark) (x y : ℕ) → words_in m ≡ 0 → told m x ≡ told m y
told_any (mark.Took p) x y e = absurd (omega (arith, e))
told_any (mark.Lost p u) x y e = refl
told_any (mark.LostFar p) x y e = absurd (omega (arith, e))
told_any (mark.Undecided p) x y e = refl

-- if a mark is added, and its word if it needs one, one note is added at the end: the note of this mark and this word
pub told_push : (ms : List Mark) (ws : List ℕ) (m : Mark) (o : Option ℕ) → words_among ms ≡ length ws
    → words_in m ≡ option_map_or (λ w. 1) o 0
    → all_told (ms ++ m ∷ []) (ws ++ option_map_or (λ w. w ∷ []) o [])
    ≡ all_told ms ws ++ told m (option_map_or (λ w. w) o 0) ∷ []
told_push ms ws m None even none =
    ap (λ (zs : List ℕ). all_told (ms ++ m ∷ []) zs) (append-nil ws)
    ∙ told_last ms m ws
    ∙ ap (λ (n : Noted). all_told ms ws ++ n ∷ []) (told_any m (word_at ws (words_among ms)) 0 none)
told_push ms ws m (Some w) even one =
    told_last ms m (ws ++ w ∷ [])
    ∙ (λ i. told_more 0 ms ws w (omega (arith, even)) i
    ++ told m (word_at (ws ++ w ∷ []) (even i)) ∷ [])
    ∙ ap (λ (x : ℕ). all_told ms ws ++ told m x ∷ []) (word_last ws w)

-- if a mark is added, and its word if it needs one, there are still as many words as the marks need
pub words_push : (ms : List Mark) (ws : List ℕ) (m : Mark) (o : Option ℕ) → words_among ms ≡ length ws
    → words_in m ≡ option_map_or (λ w. 1) o 0
    → words_among (ms ++ m ∷ []) ≡ length (ws ++ option_map_or (λ w. w ∷ []) o [])
words_push ms ws m None even none =
    let more = among_end ms m in
    let same = ap length (append-nil ws) in
    omega (arith, more, same, even, none)
words_push ms ws m (Some w) even one =
    let more = among_end ms m in
    let long = length-append ws (w ∷ []) in
    omega (arith, more, long, even, one)
