-- A list of notes with their lanes, cut by lane: `by_lane` makes a list for each lane. How these grow and fill diaries.
use Rattle.std.proofs.Common.{◌≡◌, ℕ, zero, suc, ◌+◌, ◌<◌, ◌≤◌, List, [], ◌∷◌, ◌++◌, length, map, take, get_or, refl, sym, ap, ◌∙◌, append-nil, append_assoc, length-set, Bool, true, false, arith}
use Rattle.std.specs.Prelude.{Option, Some, if◌then◌else◌, nat_eq, slice_get, slice_set, sum_by}
use Rattle.std.specs.Option.{option_map_or}
use Rattle.std.proofs.lemmas.Bool.{ne_eqb, eq-eqb}
use Rattle.std.proofs.lemmas.List.{length-append, length-map, length-take, map_push, take_all, take_more}
use Rattle.std.proofs.lemmas.List.Sums.{sum_by-cons}
use Rattle.mb_world.specs.Theorem.{DiaryView}
use Rattle.mb_mailbox.specs.Filling.{AreEmptyDiaries, with_notes}
use Rattle.mb_mailbox.specs.Imports.{Lost, Note}
use Rattle.mb_mailbox.specs.LaneNotes.{AreFiled, AreLosses, AreMarked, Noted, all_told, by_lane, noted, on_lane, on_lanes, told, word_at, words_among, words_in}
use Rattle.mb_mailbox.specs.Steps.{notes_on, with_note}
use Rattle.mb_mailbox.specs.declared.notes.marks.Mark.{Mark}
use Rattle.mb_mailbox.specs.declared.notes.marks.Mark.TheVariants as mark
use Rattle.mb_mailbox.proofs.Lists.{map_get, map_set, set_here, set_same, set_twice, some_same}
use Rattle.mb_mailbox.proofs.Marked.{among_end, among_losses, few_words, told_last, told_length, told_losses}

-- ---- how many lanes there are
-- cut by lane, a list becomes one list for each of n lanes
lanes_count : (p n : ℕ) (xs : List Noted) → length (on_lanes p n xs) ≡ n
lanes_count p zero xs = refl
lanes_count p (suc n) xs = ap suc (lanes_count (suc p) n xs)

pub lanes_counted : (n : ℕ) (xs : List Noted) → length (by_lane n xs) ≡ n
lanes_counted n xs = lanes_count 0 n xs

-- a lane of marked notes is one of at most 16
pub lane_low : (p lanes : ℕ) (ms : List Mark) (ws : List ℕ) (ls : List (List Note)) → AreMarked lanes ms ws
    → by_lane lanes (all_told ms ws) ≡ ls → p < length ls → p < 16
lane_low p lanes ms ws ls are is low =
    let count = ap length (sym is) ∙ lanes_counted lanes (all_told ms ws) in
    let few = are.few in
    omega (arith, low, count, few)

-- ---- an empty list, cut by lane
-- cut by lane, the empty list becomes an empty list for each lane
no_list : (p n q : ℕ) (l : List Note) → slice_get (on_lanes p n []) q ≡ Some l → l ≡ []
no_list p zero q l e = absurd (cc)
no_list p (suc n) zero l e = sym (some_same [] l e)
no_list p (suc n) (suc q) l e = no_list (suc p) n q l e

pub no_lists : (n q : ℕ) (l : List Note) → slice_get (by_lane n []) q ≡ Some l → l ≡ []
no_lists n q l e = no_list 0 n q l e

-- cut by lane, the empty list has no note on all lanes together
no_sum : (p n : ℕ) → sum_by length (on_lanes p n []) ≡ 0
no_sum p zero = refl
no_sum p (suc n) =
    let first = sum_by-cons length [] (on_lanes (suc p) n []) in
    let rest = no_sum (suc p) n in
    omega (arith, first, rest)

pub none_counted : (n : ℕ) → sum_by length (by_lane n []) ≡ 0
none_counted n = no_sum 0 n

-- ---- a list with one note more, cut by lane
-- after a note is added to a list, the list of lane q has it at its end if it is on lane q, and else is as before
on_end : (q : ℕ) (xs : List Noted) (x : Noted) → on_lane q (xs ++ x ∷ []) ≡ on_lane q xs ++ on_lane q (x ∷ [])
on_end q [] x = refl
on_end q (y ∷ ys) x = by (nat_eq q y.lane) (on_end q ys x)
  where
    by : (b : Bool) → on_lane q (ys ++ x ∷ []) ≡ on_lane q ys ++ on_lane q (x ∷ [])
        → (if b then y.note ∷ on_lane q (ys ++ x ∷ []) else on_lane q (ys ++ x ∷ []))
        ≡ (if b then y.note ∷ on_lane q ys else on_lane q ys) ++ on_lane q (x ∷ [])
    by true rest = ap (λ zs. y.note ∷ zs) rest
    by false rest = rest

-- a note on this lane is added at the end of the lane's list
on_here : (q : ℕ) (xs : List Noted) (x : Noted) → x.lane ≡ q → on_lane q (xs ++ x ∷ [])
    ≡ on_lane q xs ++ x.note ∷ []
on_here q xs x e =
    on_end q xs x
    ∙ ap (λ b. on_lane q xs ++ (if b then x.note ∷ [] else [])) (eq-eqb q x.lane (sym e))

-- a note on another lane changes nothing on this one
on_other : (q : ℕ) (xs : List Noted) (x : Noted) → (x.lane ≡ q → ⊥) → on_lane q (xs ++ x ∷ []) ≡ on_lane q xs
on_other q xs x ne =
    on_end q xs x
    ∙ ap (λ b. on_lane q xs ++ (if b then x.note ∷ [] else [])) (ne_eqb q x.lane (λ e. ne (sym e)))
    ∙ append-nil (on_lane q xs)

-- a note changes nothing on the lanes from p on, if its lane is before p
on_rest : (p n : ℕ) (xs : List Noted) (x : Noted) → x.lane < p → on_lanes p n (xs ++ x ∷ []) ≡ on_lanes p n xs
on_rest p zero xs x low = refl
on_rest p (suc n) xs x low = λ i.
    on_other p xs x (λ e. omega (arith, low, e)) i ∷ on_rest (suc p) n xs x (omega (arith, low)) i

-- among the lanes from p on, a note on lane p + q is added to list q
on_more : (p n q : ℕ) (xs : List Noted) (x : Noted) → x.lane ≡ p + q
    → on_lanes p n (xs ++ x ∷ []) ≡ with_note q (Some x.note) (on_lanes p n xs)
on_more p zero q xs x e = refl
on_more p (suc n) zero xs x e =
    let here : x.lane ≡ p = omega (arith, e) in
    λ i. on_here p xs x here i ∷ on_rest (suc p) n xs x (omega (arith, e)) i
on_more p (suc n) (suc q) xs x e =
    let other : x.lane ≡ p → ⊥ = λ f. omega (arith, e, f) in
    λ i. on_other p xs x other i ∷ on_more (suc p) n q xs x (omega (arith, e)) i

-- a note is added to the list of its lane
pub cut_more : (n : ℕ) (xs : List Noted) (x : Noted) → by_lane n (xs ++ x ∷ [])
    ≡ with_note x.lane (Some x.note) (by_lane n xs)
cut_more n xs x = on_more 0 n x.lane xs x (omega arith)

-- a note with lane p beside it is added to the list of lane p
pub noted_more : (n p : ℕ) (note : Note) (xs : List Noted) → by_lane n (xs ++ noted p note ∷ [])
    ≡ with_note p (Some note) (by_lane n xs)
noted_more n p note xs = cut_more n xs (noted p note)

-- ---- how many notes there are on all lanes together
-- with one note more on some lane, there is one note more on all lanes together
pub sum_more : (ls : List (List Note)) (p : ℕ) (n : Note) → p < length ls
    → sum_by length (with_note p (Some n) ls) ≡ suc (sum_by length ls)
sum_more [] p n low = absurd (omega (arith, low))
sum_more (l ∷ ls) zero n low =
    let new = sum_by-cons length (l ++ n ∷ []) ls in
    let old = sum_by-cons length l ls in
    let more = length-append l (n ∷ []) in
    omega (arith, new, old, more)
sum_more (l ∷ ls) (suc p) n low =
    let new = sum_by-cons length l (with_note p (Some n) ls) in
    let old = sum_by-cons length l ls in
    let rest = sum_more ls p n (omega (arith, low)) in
    omega (arith, new, old, rest)

-- ---- the list after one note more
-- after one more note is pushed, the note is added to the list of its lane
pub grown : (lanes p : ℕ) (note : Note) (x : Noted) (xs ys : List Noted) → ys ≡ xs ++ x ∷ [] → x ≡ noted p note
    → by_lane lanes ys ≡ with_note p (Some note) (by_lane lanes xs)
grown lanes p note x xs ys e f =
    ap (by_lane lanes) (e ∙ ap (λ (z : Noted). xs ++ z ∷ []) f) ∙ noted_more lanes p note xs

-- after one more note is pushed, there still are as many notes on all lanes together as in the one list
pub counted_on : (lanes p : ℕ) (note : Note) (x : Noted) (xs ys : List Noted) → ys ≡ xs ++ x ∷ [] → x ≡ noted p note
    → p < length (by_lane lanes xs) → length xs ≡ sum_by length (by_lane lanes xs) → length ys
    ≡ sum_by length (by_lane lanes ys)
counted_on lanes p note x xs ys e f low is =
    let more = sum_more (by_lane lanes xs) p note low in
    let new = ap (sum_by length) (grown lanes p note x xs ys e f) in
    let long : length ys ≡ length xs + 1 = ap length e ∙ length-append xs (x ∷ []) in
    omega (arith, more, new, long, is)

-- a lane has no more notes than there are on all lanes
lane_few : (q : ℕ) (xs : List Noted) → length (on_lane q xs) ≤ length xs
lane_few q [] = omega arith
lane_few q (y ∷ ys) = by (nat_eq q y.lane) (lane_few q ys)
  where
    by : (b : Bool) → length (on_lane q ys) ≤ length ys
        → length (if b then y.note ∷ on_lane q ys else on_lane q ys) ≤ suc (length ys)
    by true rest = omega (arith, rest)
    by false rest = omega (arith, rest)

-- the list of a lane has no more notes than there are on all lanes
list_few : (p n q : ℕ) (xs : List Noted) (l : List Note) → slice_get (on_lanes p n xs) q ≡ Some l → length l ≤ length xs
list_few p zero q xs l e = absurd (cc)
list_few p (suc n) zero xs l e =
    let few = lane_few p xs in
    let same : length (on_lane p xs) ≡ length l = ap length (some_same (on_lane p xs) l e) in
    omega (arith, few, same)
list_few p (suc n) (suc q) xs l e = list_few (suc p) n q xs l e

-- ---- several losses on one lane
-- if losses on one lane come at the end of all notes, they come at the end of that lane's list
losses_more : (n p : ℕ) (to : List ℕ) (xs : List Noted) (l : List Note) → slice_get (by_lane n xs) p ≡ Some l
    → by_lane n (xs ++ map (λ (w : ℕ). noted p (Lost w)) to)
    ≡ slice_set (by_lane n xs) p (l ++ map (λ (w : ℕ). Lost w) to)
losses_more n p [] xs l at =
    ap (by_lane n) (append-nil xs)
    ∙ sym (set_same (by_lane n xs) p (l ++ []) (at ∙ ap Some (sym (append-nil l))))
losses_more n p (w ∷ ws) xs l at =
    let x = noted p (Lost w) in
    let old = by_lane n xs in
    let own : notes_on p old ≡ l = ap (λ (o : Option (List Note)). option_map_or (λ (ns : List Note). ns) o []) at in
    let more : by_lane n (xs ++ x ∷ []) ≡ slice_set old p (l ++ Lost w ∷ []) = noted_more n p (Lost w) xs
    ∙ ap (λ (ns : List Note). slice_set old p (ns ++ Lost w ∷ [])) own in
    ap (by_lane n) (sym (append_assoc xs (x ∷ []) (map (λ (v : ℕ). noted p (Lost v)) ws)))
    ∙ losses_more n p ws (xs ++ x ∷ []) (l ++ Lost w ∷ [])
    (ap (λ (ls : List (List Note)). slice_get ls p) more ∙ set_here old p (l ++ Lost w ∷ []) l at)
    ∙ (λ j. slice_set (more j) p (append_assoc l (Lost w ∷ []) (map (λ (v : ℕ). Lost v) ws) j))
    ∙ set_twice old p (l ++ Lost w ∷ []) (l ++ Lost w ∷ map (λ (v : ℕ). Lost v) ws)

-- ---- the diaries into which notes are filed, one for each lane
-- diaries without notes, one for each lane, have the lists of the empty list cut by lane
none_from : (p n : ℕ) (ds : List DiaryView) → length ds ≡ n
    → ((q : ℕ) (d : DiaryView) → slice_get ds q ≡ Some d → d.notes ≡ [])
    → map (λ (d : DiaryView). d.notes) ds ≡ on_lanes p n []
none_from p zero [] e each = refl
none_from p zero (d ∷ ds) e each = absurd (omega (arith, e))
none_from p (suc n) [] e each = absurd (omega (arith, e))
none_from p (suc n) (d ∷ ds) e each = λ i.
    each 0 d refl i ∷ none_from (suc p) n ds (omega (arith, e)) (λ q w f. each (suc q) w f) i

-- `AreFiled` holds of diaries without notes and of the first 0 marks
pub none_filed : (n : ℕ) (ms : List Mark) (ws : List ℕ) (ds : List DiaryView) → AreEmptyDiaries n ds
    → AreFiled ms ws 0 ds
none_filed n ms ws ds none = record {
  within = omega arith;
  notes = none_from 0 (length ds) ds refl none.empty;
}

-- among the notes of all diaries, those on lane p are those of diary p
on_own : (ds : List DiaryView) (p : ℕ) (d : DiaryView) → slice_get ds p ≡ Some d
    → notes_on p (map (λ (d : DiaryView). d.notes) ds) ≡ d.notes
on_own ds p d e =
    ap (λ (o : Option (List Note)). option_map_or (λ (l : List Note). l) o [])
    (map_get (λ (d : DiaryView). d.notes) ds p d e)

-- if diary p gets one more note, the notes of all diaries get that note on lane p
pub filed_on : (ds : List DiaryView) (p : ℕ) (n : Note) (d e : DiaryView) → slice_get ds p ≡ Some d
    → e ≡ with_notes (d.notes ++ n ∷ []) d
    → map (λ (d : DiaryView). d.notes) (slice_set ds p e) ≡ with_note p (Some n) (map (λ (d : DiaryView). d.notes) ds)
filed_on ds p n d e at put =
    map_set (λ (d : DiaryView). d.notes) ds p e
    ∙ ap (λ (l : List Note). slice_set (map (λ (d : DiaryView). d.notes) ds) p l)
    (ap (λ (d : DiaryView). d.notes) put ∙ ap (λ (l : List Note). l ++ n ∷ []) (sym (on_own ds p d at)))

-- if a diary changes in its notes only, the diaries without their notes are as before
pub same_beside : (ds : List DiaryView) (p : ℕ) (d e : DiaryView) → slice_get ds p ≡ Some d
    → with_notes [] e ≡ with_notes [] d → map (with_notes []) (slice_set ds p e) ≡ map (with_notes []) ds
same_beside ds p d e at same =
    map_set (with_notes []) ds p e
    ∙ ap (λ (z : DiaryView). slice_set (map (with_notes []) ds) p z) same
    ∙ set_same (map (with_notes []) ds) p (with_notes [] d) (map_get (with_notes []) ds p d at)

-- two lists of diaries that are the same without their notes have the same length
pub same_count : (new old : List DiaryView) → map (with_notes []) new ≡ map (with_notes []) old
    → length new ≡ length old
same_count new old same = sym (length-map new (with_notes [])) ∙ ap length same ∙ length-map old (with_notes [])

-- ---- marks that are filed one after the other
-- the first k marks need at most k words
pub few_read : (k : ℕ) (ms : List Mark) → words_among (take k ms) ≤ k
few_read k ms = let few = few_words (take k ms) in let long = length-take k ms in omega (arith, few, long)

-- the first k + 1 marks need the words of the first k, and those of mark k
pub read_more : (ms : List Mark) (k : ℕ) (d : Mark) → k < length ms
    → words_among (take (k + 1) ms) ≡ words_among (take k ms) + words_in (get_or ms k d)
read_more ms k d low = ap words_among (take_more ms k d low) ∙ among_end (take k ms) (get_or ms k d)

-- `AreFiled` holds of one mark more after the note of that mark and the next word is added to the diary of its lane
pub filed_more : (ms : List Mark) (ws : List ℕ) (k read : ℕ) (m d : Mark) (old new : List DiaryView) → k < length ms
    → m ≡ get_or ms k d → read ≡ words_among (take k ms) → AreFiled ms ws k old
    → map (λ (d : DiaryView). d.notes) new ≡ with_note (told m (word_at ws read)).lane
    (Some (told m (word_at ws read)).note) (map (λ (d : DiaryView). d.notes) old)
    → map (with_notes []) new ≡ map (with_notes []) old → AreFiled ms ws (k + 1) new
filed_more ms ws k read m d old new low is words before put same =
    let front = take k ms in
    let filed : ℕ → Noted = λ t. told m (word_at ws t) in
    let more : take (k + 1) ms ≡ front ++ m ∷ [] = take_more ms k d low ∙ ap (λ (z : Mark). front ++ z ∷ []) (sym is) in
    let all : all_told (take (k + 1) ms) ws ≡ all_told front ws ++ filed (words_among front) ∷ [] =
    ap (λ (zs : List Mark). all_told zs ws) more ∙ told_last front m ws in
    record {
      within = omega (arith, low);
      notes = put
          ∙ (λ j. with_note (filed (words j)).lane (Some (filed (words j)).note) (before.notes j))
          ∙ sym (cut_more (length old) (all_told front ws) (filed (words_among front)))
          ∙ (λ j. by_lane (sym (same_count new old same) j) (sym all j));
    }

-- if all marks are filed, the diaries have the notes of all marks
pub all_filed : (lanes : ℕ) (ms : List Mark) (ws : List ℕ) (k : ℕ) (ds : List DiaryView) → AreFiled ms ws k ds
    → length ms ≤ k → length ds ≡ lanes → map (λ (d : DiaryView). d.notes) ds ≡ by_lane lanes (all_told ms ws)
all_filed lanes ms ws k ds filed all count =
    filed.notes ∙ (λ j. by_lane (count j) (all_told (take_all k ms all j) ws))

-- ---- losses that are filed together
-- `AreLosses` holds of no marks at all, and of notes that did not change
pub no_losses : (p from k : ℕ) (ms : List Mark) (old : List Note) → from ≤ length ms → k ≡ from
    → AreLosses p from k ms old old
no_losses p from k ms old low same = record {
  since = omega (arith, same);
  within = omega (arith, low, same);
  winners = [];
  marks = ap (λ (n : ℕ). take n ms) same ∙ sym (append-nil (take from ms));
  notes = sym (append-nil old);
}

-- `AreLosses` holds of one mark more, if that is a loss on the lane and its note is added
pub loss_more : (p from k j w : ℕ) (ms : List Mark) (d : Mark) (old new all : List Note) → AreLosses p from k ms old new
    → k < length ms → get_or ms k d ≡ mark.Lost p w → j ≡ k + 1 → all ≡ new ++ Lost w ∷ []
    → AreLosses p from j ms old all
loss_more p from k j w ms d old new all before low is next put =
    let loss : ℕ → Mark = λ v. mark.Lost p v in
    let note : ℕ → Note = λ v. Lost v in
    let ws = before.winners in
    let since = before.since in
    record {
      since = omega (arith, since, next);
      within = omega (arith, low, next);
      winners = ws ++ w ∷ [];
      marks = ap (λ (n : ℕ). take n ms) next ∙ take_more ms k d low ∙ (λ i. before.marks i ++ is i ∷ [])
          ∙ append_assoc (take from ms) (map loss ws) (loss w ∷ [])
          ∙ ap (λ (zs : List Mark). take from ms ++ zs) (sym (map_push loss ws w));
      notes = put ∙ ap (λ (ns : List Note). ns ++ note w ∷ []) before.notes
          ∙ append_assoc old (map note ws) (note w ∷ [])
          ∙ ap (λ (ns : List Note). old ++ ns) (sym (map_push note ws w));
    }

-- the marks before the losses need as many words as those up to the end of the losses
pub losses_read : (p from k : ℕ) (ms : List Mark) (old new : List Note) → AreLosses p from k ms old new
    → words_among (take k ms) ≡ words_among (take from ms)
losses_read p from k ms old new are = ap words_among are.marks ∙ among_losses (take from ms) p are.winners

-- a diary has no more notes than marks were filed
pub filed_few : (ms : List Mark) (ws : List ℕ) (k p : ℕ) (ds : List DiaryView) (d : DiaryView) → AreFiled ms ws k ds
    → slice_get ds p ≡ Some d → length d.notes ≤ k
filed_few ms ws k p ds d filed at =
    let xs = all_told (take k ms) ws in
    let few : length d.notes ≤ length xs = list_few 0 (length ds) p xs d.notes
    (ap (λ (ls : List (List Note)). slice_get ls p) (sym filed.notes)
    ∙ map_get (λ (d : DiaryView). d.notes) ds p d at) in
    let same = told_length 0 (take k ms) ws in
    let long = length-take k ms in
    omega (arith, few, same, long)

-- `AreFiled` holds of all losses, too, after their notes are added to the diary of their lane
pub losses_filed : (ms : List Mark) (ws : List ℕ) (p from k : ℕ) (ds : List DiaryView) (d e : DiaryView)
    → slice_get ds p ≡ Some d → AreLosses p from k ms d.notes e.notes → AreFiled ms ws from ds
    → AreFiled ms ws k (slice_set ds p e)
losses_filed ms ws p from k ds d e at are filed =
    let xs = all_told (take from ms) ws in
    let n = length ds in
    let front : slice_get (by_lane n xs) p ≡ Some d.notes = ap (λ (ls : List (List Note)). slice_get ls p)
    (sym filed.notes) ∙ map_get (λ (d : DiaryView). d.notes) ds p d at in
    let all : all_told (take k ms) ws ≡ xs ++ map (λ (w : ℕ). noted p (Lost w)) are.winners =
    ap (λ (zs : List Mark). all_told zs ws) are.marks ∙ told_losses 0 (take from ms) p are.winners ws in
    record {
      within = are.within;
      notes = map_set (λ (d : DiaryView). d.notes) ds p e
          ∙ (λ j. slice_set (filed.notes j) p (are.notes j))
          ∙ sym (losses_more n p are.winners xs d.notes front)
          ∙ (λ j. by_lane (sym (length-set ds p e) j) (sym all j));
    }
