-- A walk along a lane: looks at its head, then at one link after another. A look finds a cell, nothing, or the end.
use Rattle.std.proofs.Common.{◌≡◌, ℕ, ◌<◌, ◌≤◌, ◌++◌, Bool, true, false, List, [], ◌∷◌, length, map, refl, sym, ◌∙◌, ap, subst, inl, inr, arith}
use Rattle.std.specs.Prelude.{if◌then◌else◌}
use Rattle.mb_cells.specs.declared.answer.Look.TheVariants as look
use Rattle.mb_cells.specs.declared.cursor.Cursor.{Cursor}
use Rattle.mb_cells.specs.declared.cursor.Cursor.TheVariants as cursor
use Rattle.mb_cells.specs.Reading.{Reads}
use Rattle.mb_cells.specs.State.{IsAfter, PoolState, item_in, look_in}
use Rattle.mb_cells.specs.Lanes.{lane_end}
use Rattle.mb_world.specs.Imports.{Entry, Has, History, IsOnceEach, has_ended, linked_cells, put_list}
use Rattle.std.proofs.Common.{append-nil, eqb, eqb-true, length-append, ◌||◌}
use Rattle.std.specs.List.{AllByRecursion, IsDistinct, list_any}
use Rattle.std.proofs.lemmas.Bool.{ne_eqb, cases_Bool, false≢true}
use Rattle.std.proofs.lemmas.List.{length-reverse}
use Rattle.std.proofs.lemmas.Map.Steps.{length-le_from_distinct_below}
use Rattle.mb_world.proofs.StateNotes.{put_cells}
use Rattle.mb_world.specs.Reporting.{values_put}
use Rattle.mb_world.specs.StateReport.{IsWalk, IsWalked}

-- the cells of entries of a put list
abbrev pub cells_in : List Entry → List ℕ
cells_in es = map (λ (e : Entry). e.cell) es

-- the items of entries of a put list
abbrev pub values_in : List Entry → List ℕ
values_in es = map (λ (e : Entry). e.value) es

-- after a history, lane p has first these cells, with the pool's items, and looks from the cursor on find the rest
pub record WalksTo (s : PoolState) (p : ℕ) (ks : List ℕ) (at : Cursor) (pool : History) : Type 0 where
  pub rest : List Entry
  pub cells : cells_in (put_list p pool) ≡ ks ++ cells_in rest
  pub values : values_put p pool ≡ map (λ k. item_in k s) ks ++ values_in rest
  pub reads : Reads (λ c. look_in c s) (λ k. item_in k s) at rest (lane_end p pool)

-- after each history that leaves the pool, lane p has these cells first, and looks from the cursor on find the rest
abbrev pub WalksOn : PoolState → ℕ → List ℕ → Cursor → Type 0
WalksOn s p ks at = (pool : History) → IsAfter pool s → WalksTo s p ks at pool

-- if looks from the head on find the put list of lane p, a walk begins there, past no cell
pub walk_begins : (s : PoolState) (p : ℕ) → ((pool : History) → IsAfter pool s
    → Reads (λ c. look_in c s) (λ k. item_in k s) (cursor.Head p) (put_list p pool) (lane_end p pool))
    → WalksOn s p [] (cursor.Head p)
walk_begins s p shows pool after =
    record { rest = put_list p pool; cells = refl; values = refl; reads = shows pool after }

-- an element moves from the second of two joined lists to the end of the first
append_more : {A : Type 0} (xs : List A) (y : A) (ys : List A) → xs ++ y ∷ ys ≡ (xs ++ y ∷ []) ++ ys
append_more [] y ys = refl
append_more (x ∷ xs) y ys = ap (λ zs. x ∷ zs) (append_more xs y ys)

-- f of each element of a list, and then f of y, is f of each element of the list with y at its end
map_more : (f : ℕ → ℕ) (xs : List ℕ) (y : ℕ) → map f xs ++ f y ∷ [] ≡ map f (xs ++ y ∷ [])
map_more f [] y = refl
map_more f (x ∷ xs) y = ap (λ zs. f x ∷ zs) (map_more f xs y)

-- a look that finds nothing or the end does not find cell k
not_cell : (b : Bool) (k : ℕ) → (if b then look.Ended else look.Nothing) ≡ look.Cell k → ⊥
not_cell true k e = cc
not_cell false k e = cc

-- if a look finds cell k, it is the next one of the put list, and the walk goes on past it
walk_step : (s : PoolState) (p k : ℕ) (ks : List ℕ) (at : Cursor) (pool : History) → look_in at s ≡ look.Cell k
    → (es : List Entry) → cells_in (put_list p pool) ≡ ks ++ cells_in es
    → values_put p pool ≡ map (λ i. item_in i s) ks ++ values_in es
    → Reads (λ c. look_in c s) (λ i. item_in i s) at es (lane_end p pool)
    → WalksTo s p (ks ++ k ∷ []) (cursor.Past k) pool
walk_step s p k ks at pool seen [] cells values reads = absurd (not_cell (has_ended p pool) k (sym reads ∙ seen))
walk_step s p k ks at pool seen (e ∷ es) cells values reads =
    let two : look.Cell e.cell ≡ look.Cell k = sym reads.0 ∙ seen in
    let same : e.cell ≡ k = cc in
    record {
      rest = es;
      cells = cells ∙ (append_more ks e.cell (cells_in es) ∙ ap (λ i. (ks ++ i ∷ []) ++ cells_in es) same);
      values =
          values ∙ (append_more (map (λ i. item_in i s) ks) e.value (values_in es)
          ∙ ap (λ zs. zs ++ values_in es)
          (ap (λ v. map (λ i. item_in i s) ks ++ v ∷ []) (sym reads.1 ∙ ap (λ i. item_in i s) same)
          ∙ map_more (λ i. item_in i s) ks k));
      reads = subst (λ i. Reads (λ c. look_in c s) (λ j. item_in j s) (cursor.Past i) es (lane_end p pool)) same
          reads.2;
    }

-- if a look at the cursor finds cell k, the walk goes on past cell k
pub walk_goes : (s : PoolState) (p k : ℕ) (ks : List ℕ) (at : Cursor) → look_in at s ≡ look.Cell k → WalksOn s p ks at
    → WalksOn s p (ks ++ k ∷ []) (cursor.Past k)
walk_goes s p k ks at seen walks pool after =
    let w = walks pool after in walk_step s p k ks at pool seen w.rest w.cells w.values w.reads

-- if two equal looks find no cell, both find the end mark or neither does
end_is : (b e : Bool) → (if e then look.Ended else look.Nothing) ≡ (if b then look.Ended else look.Nothing) → b ≡ e
end_is true true e = refl
end_is true false e = absurd (cc)
end_is false true e = absurd (cc)
end_is false false e = refl

-- a look that finds cell k finds neither nothing nor the end
is_cell : (b : Bool) (k : ℕ) → look.Cell k ≡ (if b then look.Ended else look.Nothing) → ⊥
is_cell true k e = cc
is_cell false k e = cc

-- if a look finds no cell, `ks` are all cells of the put list, and the look says whether the lane has ended
walk_end : (s : PoolState) (p : ℕ) (ks : List ℕ) (at : Cursor) (ended : Bool) (pool : History)
    → look_in at s ≡ (if ended then look.Ended else look.Nothing)
    → (es : List Entry) → cells_in (put_list p pool) ≡ ks ++ cells_in es
    → values_put p pool ≡ map (λ i. item_in i s) ks ++ values_in es
    → Reads (λ c. look_in c s) (λ i. item_in i s) at es (lane_end p pool)
    → IsWalk s p ks ended pool
walk_end s p ks at ended pool seen [] cells values reads = record {
  cells = cells ∙ append-nil ks;
  values = values ∙ append-nil (map (λ i. item_in i s) ks);
  ended = end_is (has_ended p pool) ended (sym seen ∙ reads);
}
walk_end s p ks at ended pool seen (e ∷ es) cells values reads = absurd (is_cell ended e.cell (sym reads.0 ∙ seen))

-- if a look at the cursor finds no cell, the walk is past all cells of the lane, and the look says whether it has ended
pub walk_ends : (s : PoolState) (p : ℕ) (ks : List ℕ) (at : Cursor) (ended : Bool)
    → look_in at s ≡ (if ended then look.Ended else look.Nothing) → WalksOn s p ks at → IsWalked s p ks ended
walk_ends s p ks at ended seen walks pool after =
    let w = walks pool after in walk_end s p ks at ended pool seen w.rest w.cells w.values w.reads

-- a number that is not in a list differs from each number there
apart : (x : ℕ) (xs : List ℕ) → (Has xs x → ⊥) → AllByRecursion (λ y. eqb x y ≡ false) xs
apart x [] none = tt
apart x (y ∷ ys) none = (ne_eqb x y (λ e. none (inl (sym e))), apart x ys (λ has. none (inr has)))

-- if a list has each number once, the library's `IsDistinct` holds of it
distinct : (xs : List ℕ) → IsOnceEach xs → IsDistinct eqb xs
unfolding IsDistinct
distinct [] once = tt
distinct (x ∷ xs) once = (apart x xs once.0, distinct xs once.1)

-- a number that `list_any` finds in a list is in the list
listed : (xs : List ℕ) (q : ℕ) → list_any (eqb q) xs ≡ true → Has xs q
listed [] q is = absurd (false≢true is)
listed (x ∷ xs) q is = elim (cases_Bool (eqb q x)) [
  | inl same ↦ inl (sym (eqb-true q x same))
  | inr other ↦ inr (listed xs q (sym (ap (λ b. b || list_any (eqb q) xs) other) ∙ is))
]

-- if each cell of the lane is below n and linked once, fewer than n cells were met before a look finds one more
pub walk_fits : (s : PoolState) (p k n : ℕ) (ks : List ℕ) (at : Cursor) → look_in at s ≡ look.Cell k → WalksOn s p ks at
    → (pool : History) → IsAfter pool s → IsOnceEach (linked_cells p pool)
    → ((i : ℕ) → Has (linked_cells p pool) i → i < n) → length ks < n
walk_fits s p k n ks at seen walks pool after once below =
    let w = walk_goes s p k ks at seen walks pool after in
    let fits : length (linked_cells p pool) ≤ n =
    length-le_from_distinct_below (linked_cells p pool) n (distinct (linked_cells p pool) once)
    (λ q is. below q (listed (linked_cells p pool) q is)) in
    let same : length (cells_in (put_list p pool)) ≡ length (linked_cells p pool) =
    ap length (put_cells p pool) ∙ length-reverse (linked_cells p pool) in
    omega (
      arith,
      fits,
      same,
      ap length w.cells,
      length-append (ks ++ k ∷ []) (cells_in w.rest),
      length-append ks (k ∷ []),
    )
