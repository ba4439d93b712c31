-- How many cells and items the lanes of a lawful history have.
use Rattle.std.proofs.Common.{List, None, Some, [], ap, arith, cond, eq-eqb, eqb-true, inl, inr, length, length-append, refl, subst, suc, sym, zero, ℕ}
use Rattle.std.proofs.Common.{⊎_elim, ◌++◌, ◌+◌, ◌<◌, ◌∙◌, ◌∷◌, ◌≡◌, ◌≢◌, ◌≤◌, ◌⊎◌}
use Rattle.std.specs.Prelude.{map, nat_eq}
use Rattle.std.proofs.lemmas.Bool.{cases_eq, cond_both, false≢true}
use Rattle.std.proofs.lemmas.List.{length-map, length-reverse}
use Rattle.mb_cells.specs.{AllLinked, END, Entry, FetchAdd, Has, History, LaneIsAt, IsLaneAfter, IsOnceEach, IsPoolLawful, Item, Lane, Phase, PoolAccess}
use Rattle.mb_cells.specs.{PoolSize, Producer, Store, WasIssued, Word, entry_at, fetch, groups, items_put, linked_cells, next_link, part, part_at}
use Rattle.mb_cells.specs.{place_after, push_store, put_list, stage_of, stage_push_store, store, stored_by}
use Rattle.mb_cells.specs.Place.{Ended, Full, Offered, Open, Stored}
use Rattle.mb_cells.proofs.Counts.{all_issued}
use Rattle.mb_cells.proofs.Histories.{cells_at, cells_of, storer_of}
use Rattle.mb_cells.proofs.Items.{cell_within, once_each, one_lane}
use Rattle.mb_cells.proofs.Names.{is_same_process-refl}
use Rattle.mb_cells.proofs.Parts.{Has-part}

-- the list without the first element m
without : ℕ → List ℕ → List ℕ
without m [] = []
without m (k ∷ ks) = cond (nat_eq k m) ks (k ∷ without m ks)

-- a list without its first m is shorter by one at most
length_without : (m : ℕ) (ks : List ℕ) → length ks ≤ suc (length (without m ks))
unfolding without
length_without m [] = omega arith
length_without m (k ∷ ks) =
    let rest = length_without m ks in
    cond_both (nat_eq k m) ks (k ∷ without m ks) (λ l. suc (length ks) ≤ suc (length l)) (λ _. omega arith)
    (λ _. omega arith)

-- without one of its elements a list is shorter
shorter_without : (m : ℕ) (ks : List ℕ) → Has ks m → suc (length (without m ks)) ≤ length ks
unfolding without
shorter_without m [] has = absurd has
shorter_without m (k ∷ ks) has =
    cond_both (nat_eq k m) ks (k ∷ without m ks) (λ l. suc (length l) ≤ suc (length ks)) (λ _. omega arith)
    (λ f. ⊎_elim (λ (e : k ≡ m). absurd (false≢true (sym f ∙ eq-eqb k m e)))
    (λ (r : Has ks m). let s = shorter_without m ks r in omega arith) has)

-- if no element is in a list twice, each element left without m is in the list and is not m
has_without : (m : ℕ) (ks : List ℕ) (j : ℕ) → IsOnceEach ks → Has (without m ks) j → Has ks j × (j ≢ m)
unfolding without
has_without m [] j once h = absurd h
has_without m (k ∷ ks) j once h =
    cond_both (nat_eq k m) ks (k ∷ without m ks) (λ l. Has l j → Has (k ∷ ks) j × (j ≢ m))
    (λ t had. (inr had, λ e. once.0 (subst (Has ks) (e ∙ sym (eqb-true k m t)) had)))
    (λ f had. ⊎_elim (λ (e : k ≡ j). (inl e, λ z. false≢true (sym f ∙ eq-eqb k m (e ∙ z))))
    (λ (r : Has (without m ks) j). let t = has_without m ks j once.1 r in (inr t.0, t.1)) had) h

-- each element other than m is still in the list without its first m
still_without : (m : ℕ) (ks : List ℕ) (j : ℕ) → Has ks j → j ≢ m → Has (without m ks) j
unfolding without
still_without m [] j has apart = absurd has
still_without m (k ∷ ks) j has apart =
    cond_both (nat_eq k m) ks (k ∷ without m ks) (λ l. Has l j)
    (λ t. ⊎_elim (λ (e : k ≡ j). absurd (apart (sym e ∙ eqb-true k m t))) (λ (r : Has ks j). r) has)
    (λ f. ⊎_elim (λ (e : k ≡ j). inl e) (λ (r : Has ks j). inr (still_without m ks j r apart)) has)

-- if no element is in a list twice, none is twice in the list without its first m
once_without : (m : ℕ) (ks : List ℕ) → IsOnceEach ks → IsOnceEach (without m ks)
unfolding without
once_without m [] once = tt
once_without m (k ∷ ks) once =
    cond_both (nat_eq k m) ks (k ∷ without m ks) IsOnceEach (λ _. once.1)
    (λ _. ((λ h. once.0 (has_without m ks k once.1 h).0), once_without m ks once.1))

-- a list of different numbers below m has at most m elements
at_most : (m : ℕ) (ks : List ℕ) → IsOnceEach ks → ((k : ℕ) → Has ks k → k < m) → length ks ≤ m
at_most zero [] once low = omega arith
at_most zero (k ∷ ks) once low = let l = low k (inl refl) in absurd (omega arith)
at_most (suc m) ks once low =
    let rest = at_most m (without m ks) (once_without m ks once)
    (λ j h. let t = has_without m ks j once h in let l = low j t.0 in let ne = t.1 in omega arith) in
    let long = length_without m ks in
    omega arith

-- a list that has all numbers below m has at least m elements
at_least : (m : ℕ) (ks : List ℕ) → ((k : ℕ) → k < m → Has ks k) → m ≤ length ks
at_least zero ks all = omega arith
at_least (suc m) ks all =
    let rest = at_least m (without m ks) (λ k low. still_without m ks k (all k (omega arith)) (λ e. omega arith)) in
    let short = shorter_without m ks (all m (omega arith)) in
    omega arith

-- a lane's put list is as long as the list of its linked cells
length_put : (p : ℕ) (h : History) → length (put_list p h) ≡ length (linked_cells p h)
length_put p h =
    length-reverse (map (λ k. entry_at k h) (linked_cells p h)) ∙ length-map (linked_cells p h) (λ k. entry_at k h)

-- a lane has no more cells than the pool
pub few_cells : (size : PoolSize) (h : History) (p : ℕ) → IsPoolLawful size h
    → length (linked_cells p h) ≤ size.cells
few_cells size h p l =
    at_most size.cells (linked_cells p h) (once_each size h p l) (λ k has. (cell_within size h p k l has).1)

-- no more items are put into a lane than the pool has cells
pub few_items : (size : PoolSize) (h : History) (p : ℕ) → IsPoolLawful size h → length (put_list p h) ≤ size.cells
few_items size h p l = omega (arith, few_cells size h p l, length_put p h)

-- the cells of the first n lanes
cells_in : ℕ → History → List ℕ
cells_in zero h = []
cells_in (suc n) h = linked_cells n h ++ cells_in n h

-- the cells of the first n lanes are as many as the items put there
length_cells : (n : ℕ) (h : History) → length (cells_in n h) ≡ items_put n h
unfolding cells_in
length_cells zero h = refl
length_cells (suc n) h =
    omega (
      arith,
      length-append (linked_cells n h) (cells_in n h),
      length_cells n h,
      length_put n h,
    )

-- an element of the first list is in the two joined
has_first : (xs ys : List ℕ) (k : ℕ) → Has xs k → Has (xs ++ ys) k
has_first [] ys k has = absurd has
has_first (x ∷ xs) ys k (inl e) = inl e
has_first (x ∷ xs) ys k (inr has) = inr (has_first xs ys k has)

-- an element of the second list is in the two joined
has_second : (xs ys : List ℕ) (k : ℕ) → Has ys k → Has (xs ++ ys) k
has_second [] ys k has = has
has_second (x ∷ xs) ys k has = inr (has_second xs ys k has)

-- an element of both joined is in one of them
has_either : (xs ys : List ℕ) (k : ℕ) → Has (xs ++ ys) k → Has xs k ⊎ Has ys k
has_either [] ys k has = inr has
has_either (x ∷ xs) ys k (inl e) = inl (inl e)
has_either (x ∷ xs) ys k (inr has) =
    ⊎_elim (λ t. inl (inr t)) (λ t. inr t) (has_either xs ys k has)

-- if two lists have no element twice, and none in common, the two joined have no element twice
once_both : (xs ys : List ℕ) → IsOnceEach xs → IsOnceEach ys → ((k : ℕ) → Has xs k → Has ys k → ⊥)
    → IsOnceEach (xs ++ ys)
once_both [] ys a b apart = b
once_both (x ∷ xs) ys a b apart = (
  (λ has. ⊎_elim (λ t. a.0 t) (λ t. apart x (inl refl) t) (has_either xs ys x has)),
  once_both xs ys a.1 b (λ k s t. apart k (inr s) t),
)

-- each cell of the first n lanes is in one of these lanes
in_lane : (n : ℕ) (h : History) (k : ℕ) → Has (cells_in n h) k → (p : ℕ) × ((p < n) × Has (linked_cells p h) k)
unfolding cells_in
in_lane zero h k has = absurd has
in_lane (suc n) h k has =
    ⊎_elim (λ (t : Has (linked_cells n h) k). (n, (omega arith, t)))
    (λ (t : Has (cells_in n h) k).
    let x = in_lane n h k t in let low = x.1.0 in (x.0, (omega arith, x.1.1)))
    (has_either (linked_cells n h) (cells_in n h) k has)

-- each cell linked into one of the first n lanes is among the cells of the first n lanes
lane_in : (n : ℕ) (h : History) (p k : ℕ) → p < n → Has (linked_cells p h) k → Has (cells_in n h) k
unfolding cells_in
lane_in zero h p k low has = absurd (omega arith)
lane_in (suc n) h p k low has = elim (cases_eq p n) [
  | inl same ↦ has_first (linked_cells n h) (cells_in n h) k (subst (λ z. Has (linked_cells z h) k) same has)
  | inr other ↦ has_second (linked_cells n h) (cells_in n h) k (lane_in n h p k (omega (arith, other)) has)
]

-- no cell is twice among the cells of the first n lanes
once_all : (size : PoolSize) (h : History) (n : ℕ) → IsPoolLawful size h → IsOnceEach (cells_in n h)
unfolding cells_in
once_all size h zero l = tt
once_all size h (suc n) l =
    once_both (linked_cells n h) (cells_in n h) (once_each size h n l) (once_all size h n l)
    (λ k has there.
    let x = in_lane n h k there in
    let same : n ≡ x.0 = one_lane size h n x.0 k l has x.1.1 in
    let low = x.1.0 in
    omega (arith, same, low))

-- all lanes together have no more items than there are cells
pub few_in_all : (size : PoolSize) (h : History) → IsPoolLawful size h → items_put size.lanes h ≤ size.cells
few_in_all size h l =
    let most = at_most size.cells (cells_in size.lanes h) (once_all size h size.lanes l)
    (λ k has. let x = in_lane size.lanes h k has in (cell_within size h x.0 k l x.1.1).1) in
    omega (arith, most, length_cells size.lanes h)

-- each cell below the counter was found by the fetch-add of some producer
got_by : (size : PoolSize) (h : History) (k : ℕ) → IsPoolLawful size h → WasIssued k h
    → (p : ℕ) × ((e : Entry) × (Has h (fetch p e) × (e.cell ≡ k)))
got_by size h k l (a, (has, (word, (x, act)))) =
    let s = storer_of size h a (k + 1) l has (ap stored_by act) in
    elim s.how [
      | inl add ↦
          let acts : FetchAdd add.0.value add.0.cell
          ≡ FetchAdd x k = sym (ap (λ (z : PoolAccess). z.act) add.1) ∙ act in
          let same : add.0.cell ≡ k = cc in
          (s.maker, (add.0, (subst (Has h) add.1 has, same)))
      | inr own ↦ absurd (let acts : FetchAdd x k ≡ Store (k + 1) = sym act ∙ own.0 in cc)
    ]

-- if a fetch-add found no cell, and each cell that a producer got is linked, there are as many items as cells
pub all_items : (size : PoolSize) (h : History) (p : ℕ) (e : Entry) → IsPoolLawful size h → Has h (fetch p e)
    → size.cells ≤ e.cell → AllLinked size h → items_put size.lanes h ≡ size.cells
all_items size h p e l has high linked =
    let most = few_in_all size h l in
    let least = at_least size.cells (cells_in size.lanes h)
    (λ k low.
    let x = got_by size h k l (all_issued size h p k e l has high low) in
    let at : Has (linked_cells x.0 h) k =
    subst (Has (linked_cells x.0 h)) x.1.1.1
    (linked x.0 x.1.0 x.1.1.0 (subst (λ z. z < size.cells) (sym x.1.1.1) low)) in
    lane_in size.lanes h x.0 k (cell_within size h x.0 k l at).0 at) in
    omega (arith, most, least, length_cells size.lanes h)

-- a store is no fetch-add
not_fetch : (p : ℕ) (w : Word) (v : ℕ) (e : Entry) → store p w v ≡ fetch p e → ⊥
not_fetch p w v e is = let acts : Store v ≡ FetchAdd e.value e.cell = ap (λ (z : PoolAccess). z.act) is in cc

-- equal fetch-adds gave equal numbers
cell_is : (p : ℕ) (x e : Entry) → fetch p x ≡ fetch p e → x.cell ≡ e.cell
cell_is p x e is =
    let acts : FetchAdd x.value x.cell ≡ FetchAdd e.value e.cell = ap (λ (z : PoolAccess). z.act) is in cc

-- a fetch-add in the groups gave the cell of one of their entries
in_groups : (p : ℕ) (es : List Entry) (e : Entry) → Has (groups p es) (fetch p e) → Has (cells_of es) e.cell
in_groups p [] e has = absurd has
in_groups p (x ∷ es) e (inl is) = absurd (not_fetch p (place_after p es) (x.cell + 1) e is)
in_groups p (x ∷ es) e (inr (inl is)) = absurd (not_fetch p (Item x.cell) x.value e is)
in_groups p (x ∷ es) e (inr (inr (inl is))) = inl (cell_is p x e is)
in_groups p (x ∷ es) e (inr (inr (inr has))) = inr (in_groups p es e has)

-- if a push would store nothing, each cell that the producer got is the cell of one of its entries
in_part : (cells p : ℕ) (es : List Entry) (phase : Phase) (lane : Lane) (done : History) (e : Entry)
    → LaneIsAt cells p es phase done → lane.stage ≡ stage_of phase → push_store p lane ≡ None
    → Has done (fetch p e) → e.cell < cells → Has (cells_of es) e.cell
in_part cells p es phase lane done e at stage idle has low =
    by phase at (ap (stage_push_store (next_link p lane)) (sym stage) ∙ idle) (subst (λ d. Has d (fetch p e)) at.is has)
  where
    past : (x : Entry) → cells ≤ x.cell → fetch p x ≡ fetch p e → ⊥
    past x high is = let same = cell_is p x e is in omega arith

    by : (phase : Phase) → LaneIsAt cells p es phase done → stage_push_store (next_link p lane) (stage_of phase) ≡ None
        → Has (part_at p es phase) (fetch p e) → Has (cells_of es) e.cell
    by Open a idle has = in_groups p es e has
    by (Offered x) a idle has = absurd (cc)
    by (Stored x) a idle has = absurd (cc)
    by (Full x) a idle (inl is) = absurd (past x a.fits is)
    by (Full x) a idle (inr has) = in_groups p es e has
    by (Ended None) a idle (inl is) = absurd (not_fetch p (place_after p es) END e is)
    by (Ended None) a idle (inr has) = in_groups p es e has
    by (Ended (Some x)) a idle (inl is) = absurd (not_fetch p (place_after p es) END e is)
    by (Ended (Some x)) a idle (inr (inl is)) = absurd (past x a.fits is)
    by (Ended (Some x)) a idle (inr (inr has)) = in_groups p es e has

-- if a push would store nothing, each cell that the producer got is linked into its lane
pub idle_linked : (size : PoolSize) (h : History) (p : ℕ) (lane : Lane) (e : Entry) → IsPoolLawful size h
    → IsLaneAfter size.cells p lane (part (Producer p) h) → push_store p lane ≡ None → Has h (fetch p e)
    → e.cell < size.cells → Has (linked_cells p h) e.cell
idle_linked size h p lane e l after idle has low =
    subst (λ ks. Has ks e.cell) (sym (cells_at size p h after.entries after.phase l.sized after.at))
    (in_part size.cells p after.entries after.phase lane (part (Producer p) h) e after.at after.stage idle
    (Has-part (Producer p) h (fetch p e) has (is_same_process-refl (Producer p))) low)
