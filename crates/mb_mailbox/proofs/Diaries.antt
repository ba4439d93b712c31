-- The diaries of consumers, one consumer after the other: their outlines, to which the notes are added.
use Rattle.std.proofs.Common.{◌≡◌, ℕ, zero, suc, ◌+◌, ◌-◌, ◌*◌, ◌<◌, ◌≤◌, Bool, List, [], ◌∷◌, ◌++◌, length, map, take, drop, refl, sym, ◌∙◌, ap, subst, inl, inr, arith, append-nil, append_assoc}
use Rattle.std.specs.Prelude.{Option, Some, None, Vec, slice_get}
use Rattle.std.specs.Option.{option_map_or}
use Rattle.std.specs.Vec.{with_items_from}
use Rattle.std.proofs.lemmas.Bool.{cases_lt}
use Rattle.std.proofs.lemmas.List.{drop_all, drop_at, length-append, length-map, length_push, take_all, take_at, with_items_is}
use Rattle.std.proofs.lemmas.Option.{slice_get_within}
use Rattle.std.proofs.Math.Nat.{mul-le-mul_right}
use Rattle.mb_world.proofs.Positions.{get-front}
use Rattle.mb_world.proofs.StateNotes.{any_below-same}
use Rattle.mb_world.specs.Theorem.{DiaryView}
use Rattle.mb_world.specs.Reporting.{any_below, is_took}
use Rattle.mb_mailbox.specs.Filling.{AreEmptyDiaries, with_notes}
use Rattle.mb_mailbox.specs.Gathering.{AreDiaries, begun_of, diary_in, diary_outline, is_taken_in, kept_at, notes_among, notes_in, outline_row}
use Rattle.mb_mailbox.specs.Hubs.{ConsumerRecordView, HubView, IsHub}
use Rattle.mb_mailbox.specs.Imports.{Note}
use Rattle.mb_mailbox.proofs.Listed.{within_grid}
use Rattle.mb_mailbox.proofs.Lists.{get_some, map_get, some_same}
use Rattle.mb_mailbox.proofs.Turned.{get_end}

-- ---- one consumer
-- the notes on lane p in the hub's record of a consumer, or none if there is no record
abbrev notes_of : ℕ → Option ConsumerRecordView → List Note
notes_of p kept =
    option_map_or (λ (l : ConsumerRecordView). option_map_or (λ (ns : List Note). ns) (slice_get l.notes p) []) kept []

-- these are the first n diaries of consumer c
record IsRow (c n : ℕ) (h : HubView) (ds : List DiaryView) : Type 0 where
  pub count : length ds ≡ n
  pub each : (p : ℕ) → p < n → slice_get ds p ≡ Some (diary_in c p h)

-- `outline_row` has an outline for each of n lanes
outlines_count : (c n : ℕ) (kept : Option ConsumerRecordView) → length (outline_row c kept n) ≡ n
outlines_count c zero kept = refl
outlines_count c (suc n) kept =
    let more = length_push (outline_row c kept n) (diary_outline c n kept) in
    let rest = outlines_count c n kept in
    omega (arith, more, rest)

-- element p of `outline_row` is the outline of the diary on lane p
outline_at : (c n p : ℕ) (kept : Option ConsumerRecordView) → p < n
    → slice_get (outline_row c kept n) p ≡ Some (diary_outline c p kept)
outline_at c zero p kept low = absurd (omega (arith, low))
outline_at c (suc n) p kept low = elim (cases_lt p n) [
  | inl before ↦
      get-front (outline_row c kept n) (diary_outline c n kept ∷ []) p (diary_outline c p kept)
      (outline_at c n p kept before)
  | inr past ↦
      let last : p ≡ n = omega (arith, low, past) in
      get_end (outline_row c kept n) (diary_outline c n kept) p (last ∙ sym (outlines_count c n kept))
      ∙ ap (λ i. Some (diary_outline c i kept)) (sym last)
]

-- the outlines have no notes
pub outlines_empty : (c n m : ℕ) (kept : Option ConsumerRecordView) → m ≡ n
    → AreEmptyDiaries m (outline_row c kept n)
outlines_empty c n m kept same = record {
  count = outlines_count c n kept ∙ sym same;
  empty = λ p d at.
      let within = slice_get_within (outline_row c kept n) p d at in
      let low : p < n = omega (arith, within, outlines_count c n kept) in
      ap (λ (z : DiaryView). z.notes) (some_same d (diary_outline c p kept) (sym at ∙ outline_at c n p kept low));
}

-- if `kept_at` gives x for number n, element n of the list is x
kept_there : {X : Type 0} (xs : List (Option X)) (n : ℕ) (x : X) → Some x ≡ kept_at xs n
    → slice_get xs n ≡ Some (Some x)
kept_there [] n x e = absurd (cc)
kept_there (o ∷ xs) zero x e = ap Some (sym e)
kept_there (o ∷ xs) (suc n) x e = kept_there xs n x e

-- the record of each consumer that was returned has a list of notes for each lane
pub notes_full : (h : HubView) (c : ℕ) (l : ConsumerRecordView) → IsHub h → Some l ≡ kept_at h.records c
    → length l.notes ≡ h.cells.table.size.lanes
notes_full h c l i e = (i.taken c l (kept_there h.records c l e)).2.2.notes_count

-- a consumer without a record has no notes, so its outlines are its diaries
row_without : (c n : ℕ) (h : HubView) → None ≡ kept_at h.records c → IsRow c n h (outline_row c None n)
row_without c n h none = record {
  count = outlines_count c n None;
  each = λ p low. outline_at c n p None low ∙ ap (λ (o : Option ConsumerRecordView). Some (record {
    consumer = c;
    lane = p;
    notes = notes_of p o;
    begun = begun_of p o;
  })) none;
}

-- a diary is determined by its notes and by what it is without them
diary_is : (d e : DiaryView) → with_notes [] d ≡ with_notes [] e → d.notes ≡ e.notes → d ≡ e
diary_is d e same notes = λ j. record {
  consumer = (same j).consumer;
  lane = (same j).lane;
  notes = notes j;
  begun = (same j).begun;
}

-- if diaries have the notes of a consumer's record, and are its outlines in all else, they are its diaries
row_with : (c n : ℕ) (h : HubView) (l : ConsumerRecordView) (ds : List DiaryView) → Some l ≡ kept_at h.records c
    → map (λ (d : DiaryView). d.notes) ds ≡ l.notes
    → map (with_notes []) ds ≡ map (with_notes []) (outline_row c (Some l) n) → IsRow c n h ds
row_with c n h l ds kept notes same = record { count = count; each = each }
  where
    count : length ds ≡ n
    count = sym (length-map ds (with_notes [])) ∙ ap length same ∙ length-map (outline_row c (Some l) n) (with_notes [])
        ∙ outlines_count c n (Some l)

    each : (p : ℕ) → p < n → slice_get ds p ≡ Some (diary_in c p h)
    each p low =
        let t = get_some ds p (omega (arith, low, count)) in
        let here : slice_get l.notes p ≡ Some t.0.notes =
        ap (λ (ns : List (List Note)). slice_get ns p) (sym notes)
        ∙ map_get (λ (d : DiaryView). d.notes) ds p t.0 t.1 in
        let told : t.0.notes ≡ notes_in c p h =
        ap (λ (z : Option (List Note)). option_map_or (λ (ns : List Note). ns) z []) (sym here)
        ∙ ap (notes_of p) kept in
        let outline : with_notes [] t.0 ≡ diary_outline c p (Some l) =
        some_same (with_notes [] t.0) (diary_outline c p (Some l))
        (sym (map_get (with_notes []) ds p t.0 t.1) ∙ ap (λ (es : List DiaryView). slice_get es p) same
        ∙ map_get (with_notes []) (outline_row c (Some l) n) p (diary_outline c p (Some l))
        (outline_at c n p (Some l) low)) in
        t.1 ∙ ap Some (diary_is t.0 (diary_in c p h) (outline ∙ ap (diary_outline c p) kept) told)

-- ---- one consumer after the other
-- element j of the second of two joined lists comes j places after the end of the first
get_past : {X : Type 0} (xs ys : List X) (i j : ℕ) → i ≡ length xs + j → slice_get (xs ++ ys) i ≡ slice_get ys j
get_past [] ys i j e = let same : i ≡ j = omega (arith, e) in ap (slice_get ys) same
get_past (x ∷ xs) ys zero j e = absurd (omega (arith, e))
get_past (x ∷ xs) ys (suc i) j e = get_past xs ys i j (omega (arith, e))

-- c + 1 consumers with w diaries each have w diaries more than c consumers
pub next_row : (c w : ℕ) → (c + 1) * w ≡ c * w + w
next_row c w = grind arith

-- if diary q of consumer e, at place e * w + q, is not before c * w, then e is not below c. `not_past` is of e above c
not_before : (w c e q : ℕ) → q < w → c * w ≤ e * w + q → e < c → ⊥
not_before w c e q low from less =
    let most : (e + 1) * w ≤ c * w = mul-le-mul_right w (omega (arith, less)) in
    let more = next_row e w in
    omega (arith, most, more, from, low)

not_past : (w c e q : ℕ) → e * w + q < (c + 1) * w → c < e → ⊥
not_past w c e q to less =
    let most : (c + 1) * w ≤ e * w = mul-le-mul_right w (omega (arith, less)) in
    omega (arith, most, to)

row_is : (w c e q : ℕ) → q < w → c * w ≤ e * w + q → e * w + q < (c + 1) * w → e ≡ c
row_is w c e q low from to = elim (cases_lt e c) [
  | inl less ↦ absurd (not_before w c e q low from less)
  | inr least ↦ elim (cases_lt c e) [
    | inl more ↦ absurd (not_past w c e q to more)
    | inr most ↦ omega (arith, least, most)
  ]
]

-- the diaries of the first c consumers, and then those of consumer c, are the diaries of the first c + 1 consumers
rows_more : (w c : ℕ) (h : HubView) (ds row : List DiaryView) → AreDiaries w h (c * w) ds → IsRow c w h row
    → AreDiaries w h ((c + 1) * w) (ds ++ row)
rows_more w c h ds row old new = record {
  count =
      let all = length-append ds row in
      let most = next_row c w in
      omega (arith, all, most, old.count, new.count);
  each = λ e q low less. elim (cases_lt (e * w + q) (c * w)) [
    | inl before ↦ get-front ds row (e * w + q) (diary_in e q h) (old.each e q low before)
    | inr past ↦
        let here : e ≡ c = row_is w c e q low past less in
        let at : e * w + q ≡ length ds + q = ap (λ i. i * w + q) here ∙ ap (λ i. i + q) (sym old.count) in
        get_past ds row (e * w + q) q at ∙ new.each q low ∙ ap (λ i. Some (diary_in i q h)) (sym here)
  ];
}

-- ---- a list whose last elements are written
-- the part of the list xs ++ ys from the end of xs on is ys
pub part_past : {X : Type 0} (xs ys zs : List X) (first end : ℕ) → zs ≡ xs ++ ys → first ≡ length xs
    → end ≡ length zs → take (end - first) (drop first zs) ≡ ys
part_past xs ys zs first end e at all =
    let count = ap length e ∙ length-append xs ys in
    ap (λ us. take (end - first) (drop first us)) e ∙ ap (take (end - first)) (drop_at xs ys first (sym at))
    ∙ take_all (end - first) ys (omega (arith, count, at, all))

-- if all elements after xs are overwritten by ws, the list is xs and then ws
rewritten : {X Z : Type 0} (v : Vec X Z) (xs ys ws : List X) (first : ℕ) → v.items ≡ xs ++ ys → first ≡ length xs
    → length ws ≡ length ys → (with_items_from v first ws).items ≡ xs ++ ws
rewritten {X} v xs ys ws first e at same =
    with_items_is v (take first v.items ++ (ws ++ drop (length ws) (drop first v.items)))
    (ap length is ∙ length-append xs ws ∙ ap (λ n. length xs + n) same ∙ sym (length-append xs ys) ∙ ap length (sym e)
    ∙ sym v.ok.0)
    ∙ is
  where
    front : take first v.items ≡ xs
    front = ap (take first) e ∙ take_at xs ys first (sym at)

    back : drop first v.items ≡ ys
    back = ap (drop first) e ∙ drop_at xs ys first (sym at)

    end : drop (length ws) (drop first v.items) ≡ []
    end = ap (drop (length ws)) back ∙ drop_all (length ws) ys (omega (arith, same))

    is : take first v.items ++ (ws ++ drop (length ws) (drop first v.items)) ≡ xs ++ ws
    is = (λ j. front j ++ (ws ++ end j)) ∙ ap (λ (zs : List X). xs ++ zs) (append-nil ws)

-- ---- one consumer more
-- the outlines of the first p lanes, and then that of lane p, are the outlines of the first p + 1 lanes
pub outlines_more : (c p : ℕ) (kept : Option ConsumerRecordView) (old now new : List DiaryView) (made : DiaryView)
    → new ≡ now ++ made ∷ [] → now ≡ old ++ outline_row c kept p → made ≡ diary_outline c p kept
    → new ≡ old ++ outline_row c kept (p + 1)
outlines_more c p kept old now new made more before is =
    more ∙ (λ j. before j ++ is j ∷ [])
    ∙ append_assoc old (outline_row c kept p) (diary_outline c p kept ∷ [])
    ∙ ap (λ n. old ++ outline_row c kept n) next
  where
    next : suc p ≡ p + 1
    next = omega arith

-- if `told` and `kept` are the same record of a consumer, outlines made by the first are those made by the second
pub outlined : (c n : ℕ) (ds all : List DiaryView) (told kept here : Option ConsumerRecordView)
    → all ≡ ds ++ outline_row c told n → told ≡ here → kept ≡ here → all ≡ ds ++ outline_row c kept n
outlined c n ds all told kept here is e f =
    is ∙ ap (λ (o : Option ConsumerRecordView). ds ++ outline_row c o n) (e ∙ sym f)

-- if the outlines `part` of a consumer that was returned are replaced by `filled`, which has its notes, the list has
-- its diaries at the end
pub row_filled : {Z : Type 0} (w c : ℕ) (h : HubView) (l : ConsumerRecordView) (v : Vec DiaryView Z)
    (ds part filled : List DiaryView) (first : ℕ) (notes : List (List Note)) → AreDiaries w h (c * w) ds
    → Some l ≡ kept_at h.records c → v.items ≡ ds ++ outline_row c (Some l) w → first ≡ length ds
    → part ≡ outline_row c (Some l) w → map (λ (d : DiaryView). d.notes) filled ≡ notes → notes ≡ l.notes
    → map (with_notes []) filled ≡ map (with_notes []) part
    → AreDiaries w h ((c + 1) * w) (with_items_from v first filled).items
row_filled w c h l v ds part filled first notes old kept more at is told its same =
    subst (AreDiaries w h ((c + 1) * w))
    (sym (rewritten v ds (outline_row c (Some l) w) filled first more at
    (row.count ∙ sym (outlines_count c w (Some l)))))
    (rows_more w c h ds filled old row)
  where
    row : IsRow c w h filled
    row = row_with c w h l filled kept (told ∙ its) (same ∙ ap (map (with_notes [])) is)

-- if a consumer has no record, the list has its diaries at the end once its outlines are added
pub row_kept : (w c : ℕ) (h : HubView) (ds all : List DiaryView) → AreDiaries w h (c * w) ds
    → None ≡ kept_at h.records c → all ≡ ds ++ outline_row c None w → AreDiaries w h ((c + 1) * w) all
row_kept w c h ds all old none more =
    subst (AreDiaries w h ((c + 1) * w)) (sym more)
    (rows_more w c h ds (outline_row c None w) old (row_without c w h none))

-- ---- which items were taken, by the diaries
-- the notes of a consumer in the diaries are those in the hub's record of it
among_told : (w n c p : ℕ) (h : HubView) (ds : List DiaryView) → AreDiaries w h (n * w) ds → c < n → p < w
    → notes_among w c p ds ≡ notes_in c p h
among_told w n c p h ds all known low =
    ap (λ (z : Option DiaryView). option_map_or (λ (d : DiaryView). d.notes) z [])
    (all.each c p low (within_grid w n c p known low))

-- if `told` says by the diaries whether an item was taken, the hub's records say the same
pub taken_told : (w n p j : ℕ) (h : HubView) (ds : List DiaryView) (told : Bool) → AreDiaries w h (n * w) ds → p < w
    → told ≡ any_below n (λ c. is_took (slice_get (notes_among w c p ds) j)) → told ≡ is_taken_in n p j h
taken_told w n p j h ds told all low is =
    is ∙ any_below-same n (λ c. is_took (slice_get (notes_among w c p ds) j))
    (λ c. is_took (slice_get (notes_in c p h) j))
    (λ c known. ap (λ (ns : List Note). is_took (slice_get ns j)) (among_told w n c p h ds all known low))
