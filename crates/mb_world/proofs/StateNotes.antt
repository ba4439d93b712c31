-- The notes of a world's state, read along the cells of a lane.
use Rattle.std.proofs.Common.{◌≡◌, ℕ, zero, suc, ◌+◌, ◌<◌, ◌++◌, take, get_or, Bool, true, false, List, [], ◌∷◌, length, map, filter, Option}
use Rattle.std.proofs.Common.{Some, None, refl, sym, ◌∙◌, ap, subst, inl, inr, arith}
use Rattle.std.specs.Prelude.{reverse, slice_get, cond}
use Rattle.std.specs.List.{filter_map}
use Rattle.std.proofs.lemmas.Bool.{cases_eq, or_left, or_right}
use Rattle.std.proofs.lemmas.List.{append-nil}
use Rattle.std.proofs.lemmas.List.Elements.{filter_map-append}
use Rattle.mb_world.specs.declared.report.Note.{Note}
use Rattle.mb_world.specs.declared.report.Note.TheVariants.{Took}
use Rattle.mb_world.specs.Imports.{Entry, Has, History, linked_cells, put_list}
use Rattle.mb_cells.specs.Lanes.{entry_at}
use Rattle.mb_world.specs.Theorem.{items_where}
use Rattle.mb_world.specs.Reporting.{any_below, is_took}
use Rattle.mb_world.proofs.Tracks.{AreEnds}
use mathlib.Core.List.{reverse-cons}

-- if a number c below n passes the test, `any_below` says so
pub any_below-some : (n c : ℕ) (test : ℕ → Bool) → c < n → test c ≡ true → any_below n test ≡ true
any_below-some zero c test less e = absurd (omega arith)
any_below-some (suc n) c test less e = elim (cases_eq c n) [
  | inl same ↦ or_left (test n) (any_below n test) (subst (λ i. test i ≡ true) same e)
  | inr other ↦ or_right (test n) (any_below n test) (any_below-some n c test (omega (arith, less, other)) e)
]

-- if two tests agree below n, `any_below` says the same of both
pub any_below-same : (n : ℕ) (f g : ℕ → Bool) → ((c : ℕ) → c < n → f c ≡ g c) → any_below n f ≡ any_below n g
any_below-same zero f g same = refl
any_below-same (suc n) f g same =
    rw (same n (omega arith), any_below-same n f g (λ c less. same c (omega (arith, less)))) refl

-- if a cell has a note, the list of notes of this cell alone is that note
one_noted : (f : ℕ → Option Note) (q : ℕ) (n : Note) → f q ≡ Some n → filter_map f (q ∷ []) ≡ n ∷ []
one_noted f q n e = rw e refl

-- if ns are the notes of the cells qs, both the last first, the notes along the cells from the first on are ns reversed
pub noted : (f : ℕ → Option Note) (qs : List ℕ) (ns : List Note) → AreEnds (λ k n. f k ≡ Some n) qs ns
    → filter_map f (reverse qs) ≡ reverse ns
noted f [] [] h = refl
noted f [] (n ∷ ns) h = absurd h
noted f (q ∷ qs) [] h = absurd h
noted f (q ∷ qs) (n ∷ ns) h =
    ap (filter_map f) (reverse-cons q qs)
    ∙ (filter_map-append f (reverse qs) (q ∷ [])
    ∙ (ap (λ ms. ms ++ filter_map f (q ∷ [])) (noted f qs ns h.1)
    ∙ (ap (λ ms. reverse ns ++ ms) (one_noted f q n h.0) ∙ sym (reverse-cons n ns))))

-- the list of notes of cells without a note is empty
pub none_noted : (f : ℕ → Option Note) (xs : List ℕ) → ((k : ℕ) → Has xs k → f k ≡ None) → filter_map f xs ≡ []
none_noted f [] none = refl
none_noted f (x ∷ xs) none = rw (none x (inl refl)) (none_noted f xs (λ k has. none k (inr has)))

-- the note of a cell, or none if there is no cell
abbrev pub note_by : (ℕ → Option Note) → Option ℕ → Option Note
note_by f None = None
note_by f (Some k) = f k

-- if no cell of a list has a note, there is none at any position of the list
none_by : (f : ℕ → Option Note) (xs : List ℕ) (j : ℕ) → ((k : ℕ) → Has xs k → f k ≡ None)
    → note_by f (slice_get xs j) ≡ None
none_by f [] zero none = refl
none_by f [] (suc j) none = refl
none_by f (x ∷ xs) zero none = none x (inl refl)
none_by f (x ∷ xs) (suc j) none = none_by f xs j (λ k has. none k (inr has))

-- the empty list has no note at any position
get_nil : (j : ℕ) → slice_get {X = Note} [] j ≡ None
get_nil zero = refl
get_nil (suc j) = refl

-- if the cells with notes come first, each note has the position of its cell
pub note_placed : (f : ℕ → Option Note) (xs ys : List ℕ) (j : ℕ) → ((k : ℕ) → Has xs k → (n : Note) × (f k ≡ Some n))
    → ((k : ℕ) → Has ys k → f k ≡ None) → slice_get (filter_map f (xs ++ ys)) j ≡ note_by f (slice_get (xs ++ ys) j)
note_placed f [] ys j some none = rw (none_noted f ys none) (get_nil j ∙ sym (none_by f ys j none))
note_placed f (x ∷ xs) ys zero some none = let q = some x (inl refl) in rw (q.1) refl
note_placed f (x ∷ xs) ys (suc j) some none =
    let q = some x (inl refl) in
    rw (q.1) (note_placed f xs ys j (λ k has. some k (inr has)) none)

-- if t passes a position exactly if `test` passes the cell there, both choose the same items
pub items_chosen : (item : ℕ → ℕ) (t : ℕ → Bool) (test : ℕ → Bool) (ks : List ℕ)
    → ((j k : ℕ) → slice_get ks j ≡ Some k → t j ≡ test k)
    → map item (filter test ks) ≡ items_where t (map item ks)
items_chosen item t test [] same = refl
items_chosen item t test (k ∷ ks) same =
    rw (same 0 k refl) (by (items_chosen item (λ j. t (suc j)) test ks (λ j i e. same (suc j) i e)) (test k))
  where
    by : map item (filter test ks) ≡ items_where (λ j. t (suc j)) (map item ks) → (b : Bool)
        → map item (cond b (k ∷ filter test ks) (filter test ks))
        ≡ cond b (item k ∷ items_where (λ j. t (suc j)) (map item ks)) (items_where (λ j. t (suc j)) (map item ks))
    by rest true = ap (λ zs. item k ∷ zs) rest
    by rest false = rest

-- the cells of a list of entries with e at its end are the cells of the list, and then that of e
cells_snoc : (es : List Entry) (e : Entry)
    → map (λ (e : Entry). e.cell) (es ++ e ∷ []) ≡ map (λ (e : Entry). e.cell) es ++ e.cell ∷ []
cells_snoc [] e = refl
cells_snoc (d ∷ es) e = ap (λ zs. d.cell ∷ zs) (cells_snoc es e)

-- if entries are made of these cells, the cells of the entries reversed are these cells reversed
entry_cells : (pool : History) (ks : List ℕ)
    → map (λ (e : Entry). e.cell) (reverse (map (λ k. entry_at k pool) ks)) ≡ reverse ks
entry_cells pool [] = refl
entry_cells pool (k ∷ ks) =
    ap (map (λ (e : Entry). e.cell)) (reverse-cons (entry_at k pool) (map (λ k. entry_at k pool) ks))
    ∙ (cells_snoc (reverse (map (λ k. entry_at k pool) ks)) (entry_at k pool)
    ∙ (ap (λ zs. zs ++ k ∷ []) (entry_cells pool ks) ∙ sym (reverse-cons k ks)))

-- the cells of the put list are those linked, the first linked first
pub put_cells : (p : ℕ) (pool : History) → map (λ (e : Entry). e.cell) (put_list p pool) ≡ reverse (linked_cells p pool)
put_cells p pool = entry_cells pool (linked_cells p pool)

-- a note that the item was taken passes the test `is_took`
pub took_some : (o : Option Note) (n : Note) (v : ℕ) → o ≡ Some n → n ≡ Took v → is_took o ≡ true
took_some o n v e same = rw (e, same) refl

-- the notes along the first i + 1 cells are those along the first i, and then the next cell's note if it has one
take_more : (f : ℕ → Option Note) (xs : List ℕ) (i d : ℕ) → i < length xs
    → filter_map f (take (suc i) xs) ≡ filter_map f (take i xs) ++ filter_map f (get_or xs i d ∷ [])
take_more f [] i d less = absurd (omega arith)
take_more f (x ∷ xs) zero d less = refl
take_more f (x ∷ xs) (suc i) d less = by (f x) refl (take_more f xs i d (omega arith))
  where
    by : (o : Option Note) → f x ≡ o
        → filter_map f (take (suc i) xs) ≡ filter_map f (take i xs) ++ filter_map f (get_or xs i d ∷ [])
        → filter_map f (x ∷ take (suc i) xs) ≡ filter_map f (x ∷ take i xs) ++ filter_map f (get_or xs i d ∷ [])
    by None e rest = rw e rest
    by (Some n) e rest = rw e (ap (λ zs. n ∷ zs) rest)

-- if the next cell has the note n, the notes along the cells with it are those before, and then n
pub note_read : (f : ℕ → Option Note) (xs : List ℕ) (i d : ℕ) (ns : List Note) (n : Note) → i < length xs
    → ns ≡ filter_map f (take i xs) → f (get_or xs i d) ≡ Some n → ns ++ n ∷ [] ≡ filter_map f (take (i + 1) xs)
note_read f xs i d ns n less old here =
    let next : i + 1 ≡ suc i = omega arith in
    rw next (sym (take_more f xs i d less
    ∙ (ap (λ ms. filter_map f (take i xs) ++ ms) (one_noted f (get_or xs i d) n here)
    ∙ ap (λ ms. ms ++ n ∷ []) (sym old))))

-- if the next cell has no note, the notes along the cells with it are those before
pub note_missed : (f : ℕ → Option Note) (xs : List ℕ) (i d : ℕ) (ns : List Note) → i < length xs
    → ns ≡ filter_map f (take i xs) → ((n : Note) → f (get_or xs i d) ≡ Some n → ⊥)
    → ns ≡ filter_map f (take (i + 1) xs)
note_missed f xs i d ns less old none =
    let next : i + 1 ≡ suc i = omega arith in
    rw next (old ∙ sym (take_more f xs i d less
    ∙ (ap (λ ms. filter_map f (take i xs) ++ ms) (by (f (get_or xs i d)) refl)
    ∙ append-nil (filter_map f (take i xs)))))
  where
    by : (o : Option Note) → f (get_or xs i d) ≡ o → filter_map f (get_or xs i d ∷ []) ≡ []
    by None e = rw e refl
    by (Some n) e = absurd (none n e)
