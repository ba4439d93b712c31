-- The counter is at most the number of cells and of producers refused together. Each number below it was found.
use Rattle.std.proofs.Common.{Bool, List, [], ap, arith, cond, eq-eqb, false, inl, inr, le-leb, refl, subst, suc, sym, true, zero, ℕ, ◌++◌, ◌+◌, ◌<◌, ◌||◌, ◌∙◌, ◌∷◌, ◌≡◌, ◌≤◌}
use Rattle.std.specs.Prelude.{nat_le}
use Rattle.std.proofs.lemmas.Bool.{cases_Bool, cases_eq, cases_lt, cond_both, lt-leb}
use Rattle.mb_cells.specs.{AllCellsBelow, Counter, Entry, FetchAdd, Has, History, LaneIsAt, IsLoad, IsPoolLawful, IsReaderPath, Phase, PoolAccess, PoolAct}
use Rattle.mb_cells.specs.{PoolSize, Process, ProcessFits, Producer, Reader, Steps, Store, WasIssued, ends_lane, ends_refused, fetch, fetch_adds_on}
use Rattle.mb_cells.specs.{fills_cell, finds_none, groups, is_same_process, links_cell, part, stored_by, takes_cell, value_in}
use Rattle.mb_cells.proofs.Counter.{IsCounted, counted-tail, counter_count, counter_step, fetch-below, fetch-found}
use Rattle.mb_cells.proofs.Histories.{lawful-counted, lawful-tail, place_of, storer_of}
use Rattle.mb_cells.proofs.Names.{own_process}
use Rattle.mb_cells.proofs.OneStep.{older_lawful}
use Rattle.mb_cells.proofs.Parts.{part-own}
use Rattle.mb_cells.proofs.Places.{came_from}

-- whether the act is a fetch-add that found no cell, in a pool of `cells` cells
abbrev pub refused_act : ℕ → PoolAct → Bool
refused_act cells (FetchAdd x n) = nat_le cells n
refused_act cells _ = false

-- whether producer p was refused a cell: one of its fetch-adds found none
abbrev pub has_refused : ℕ → ℕ → History → Bool
has_refused p cells [] = false
has_refused p cells (a ∷ h) = cond (is_same_process (Producer p) a.process)
    (refused_act cells a.act || has_refused p cells h) (has_refused p cells h)

-- how many of the first n producers were refused a cell
abbrev pub refusals : ℕ → ℕ → History → ℕ
refusals cells zero h = 0
refusals cells (suc n) h = cond (has_refused n cells h) 1 0 + refusals cells n h

-- of the first n producers at most n were refused a cell
refusals-bound : (cells n : ℕ) (h : History) → refusals cells n h ≤ n
refusals-bound cells zero h = omega arith
refusals-bound cells (suc n) h =
    cond_both (has_refused n cells h) 1 0 (λ z. z + refusals cells n h ≤ suc n)
    (λ _. omega (arith, refusals-bound cells n h)) (λ _. omega (arith, refusals-bound cells n h))

-- a producer that was refused a cell still counts as refused after a further access
refused-more : (p cells : ℕ) (a : PoolAccess) (h : History) → has_refused p cells h ≡ true
    → has_refused p cells (a ∷ h) ≡ true
refused-more p cells a h is =
    cond_both (is_same_process (Producer p) a.process) (refused_act cells a.act || has_refused p cells h)
    (has_refused p cells h) (λ z. z ≡ true)
    (λ _. rw is (elim (refused_act cells a.act) as (λ z. (z || true) ≡ true) [ true ↦ refl | false ↦ refl ])) (λ _. is)

-- if c is true whenever b is, c counts (1 if true, else 0) at least as much as b
one-more : (b c : Bool) → (b ≡ true → c ≡ true) → cond {A = ℕ} b 1 0 ≤ cond {A = ℕ} c 1 0
one-more true c h = rw (h refl) (omega arith)
one-more false c h = omega arith

-- a further access does not lower the number of producers refused
refusals-more : (cells n : ℕ) (a : PoolAccess) (h : History) → refusals cells n h ≤ refusals cells n (a ∷ h)
refusals-more cells zero a h = omega arith
refusals-more cells (suc n) a h =
    omega (
      arith,
      refusals-more cells n a h,
      one-more (has_refused n cells h) (has_refused n cells (a ∷ h)) (refused-more n cells a h),
    )

-- the number of producers refused rises if an access is the first with which producer p was refused
refusals-new : (cells n p : ℕ) (a : PoolAccess) (h : History) → p < n → has_refused p cells h ≡ false
    → has_refused p cells (a ∷ h) ≡ true → refusals cells n h + 1 ≤ refusals cells n (a ∷ h)
refusals-new cells zero p a h lt before now = absurd (omega arith)
refusals-new cells (suc n) p a h lt before now =
    elim (cases_eq p n) [
      | inl e ↦
          let b : cond {A = ℕ} (has_refused n cells h) 1 0 ≡ 0 =
          ap (λ z. cond {A = ℕ} z 1 0) (subst (λ z. has_refused z cells h ≡ false) e before) in
          let w : cond {A = ℕ} (has_refused n cells (a ∷ h)) 1 0 ≡ 1 =
          ap (λ z. cond {A = ℕ} z 1 0) (subst (λ z. has_refused z cells (a ∷ h) ≡ true) e now) in
          omega (arith, refusals-more cells n a h, b, w)
      | inr ne ↦
          let more = one-more (has_refused n cells h) (has_refused n cells (a ∷ h)) (refused-more n cells a h) in
          omega (arith, refusals-new cells n p a h (omega arith) before now, more)
    ]

-- whether a producer was refused a cell is the same in its own part as in the whole history
refused-part : (p cells : ℕ) (h : History) → has_refused p cells h ≡ has_refused p cells (part (Producer p) h)
refused-part p cells [] = refl
refused-part p cells (a ∷ h) =
    elim (cases_Bool (is_same_process (Producer p) a.process)) [
      | inl own ↦ rw (own, own) (ap (λ z. refused_act cells a.act || z) (refused-part p cells h))
      | inr other ↦ rw other (refused-part p cells h)
    ]

-- a producer that has made groups alone was not refused a cell
none-groups : (p cells : ℕ) (es : List Entry) → AllCellsBelow cells es → has_refused p cells (groups p es) ≡ false
none-groups p cells [] b = refl
none-groups p cells (e ∷ es) b =
    let low : nat_le cells e.cell ≡ false = lt-leb cells e.cell b.0 in
    rw (eq-eqb p p refl, low) (none-groups p cells es b.1)

-- a fetch-add that finds no cell is the first of its producer that finds none
first_refusal : (p cells : ℕ) (es fs : List Entry) (was now : Phase) (a : PoolAccess) (d : History) (x n : ℕ)
    → Steps cells p es was a fs now → LaneIsAt cells p es was d
    → a.act ≡ FetchAdd x n → cells ≤ n → has_refused p cells d ≡ false
first_refusal p cells es fs was now a d x n (takes_cell _ e b) at is high =
    absurd (let g : n ≡ e.cell = cc in omega arith)
first_refusal p cells es fs was now a d x n (finds_none _ e b) at is high =
    ap (has_refused p cells) at.is ∙ none-groups p cells es at.below
first_refusal p cells es fs was now a d x n (fills_cell _ e) at is high = absurd (cc)
first_refusal p cells es fs was now a d x n (links_cell _ e) at is high = absurd (cc)
first_refusal p cells es fs was now a d x n (ends_lane _) at is high = absurd (cc)
first_refusal p cells es fs was now a d x n (ends_refused _ e) at is high = absurd (cc)

-- a fetch-add that finds no cell raises the number of producers refused
new-refusal : (size : PoolSize) (a : PoolAccess) (h : History) (x n : ℕ) → IsPoolLawful size (a ∷ h)
    → a.act ≡ FetchAdd x n → size.cells ≤ n
    → refusals size.cells size.lanes h + 1 ≤ refusals size.cells size.lanes (a ∷ h)
new-refusal size a h x n l is high =
    let by : (who : Process) → a.process ≡ who
    → refusals size.cells size.lanes h + 1 ≤ refusals size.cells size.lanes (a ∷ h) =
    λ (who : Process). elim who as (λ z. a.process ≡ z
    → refusals size.cells size.lanes h + 1 ≤ refusals size.cells size.lanes (a ∷ h)) [
      | Producer p ↦ λ e.
          let own = own_process (Producer p) a e in
          let lane : p < size.lanes = subst (ProcessFits size.lanes) e l.fits.1 in
          let place = place_of size (a ∷ h) p l in
          let at : LaneIsAt size.cells p place.entries place.phase (a ∷ part (Producer p) h) =
          subst (LaneIsAt size.cells p place.entries place.phase) (part-own (Producer p) a h own) place.at in
          let before_a = came_from size.cells p place.entries place.phase a (part (Producer p) h) at in
          let before : has_refused p size.cells h ≡ false =
          refused-part p size.cells h
          ∙ first_refusal p size.cells before_a.entries place.entries before_a.was place.phase a
          (part (Producer p) h) x n before_a.by before_a.at is high in
          let yes : refused_act size.cells a.act ≡ true = ap (refused_act size.cells) is ∙ le-leb size.cells n high in
          let now : has_refused p size.cells (a ∷ h) ≡ true = rw (own, yes) refl in
          refusals-new size.cells size.lanes p a h lane before now
      | Reader r ↦ λ e.
          let own = own_process (Reader r) a e in
          let path : IsReaderPath size.lanes (a ∷ part (Reader r) h) =
          subst (IsReaderPath size.lanes) (part-own (Reader r) a h own) (l.readers r) in
          absurd (subst IsLoad is path.0)
    ] in
    by a.process refl

-- the counter is at most the number of cells plus the number of producers refused
counted : (size : PoolSize) (h : History) → IsPoolLawful size h
    → value_in Counter h ≤ size.cells + refusals size.cells size.lanes h
counted size [] l = omega arith
counted size (a ∷ h) l =
    let rest = counted size h (lawful-tail size a h l) in
    let more = refusals-more size.cells size.lanes a h in
    elim (counter_step a h (lawful-counted size (a ∷ h) l)) [
      | inl stays ↦ omega (arith, rest, more, stays.value)
      | inr adds ↦
          let now = adds.value in
          elim (cases_lt (value_in Counter h) size.cells) [
            | inl low ↦ omega (arith, now)
            | inr high ↦
                let refused = new-refusal size a h adds.item (value_in Counter h) l adds.act high in
                omega (arith, rest, now, refused)
          ]
    ]

-- the counter is at most the number of cells plus the number of lanes
pub counter_bound : (size : PoolSize) (h : History) → IsPoolLawful size h → value_in Counter h ≤ size.cells + size.lanes
counter_bound size h l = omega (arith, counted size h l, refusals-bound size.cells size.lanes h)

-- each number below the counter was found by a fetch-add
pub issued : (h : History) (k : ℕ) → IsCounted h → k < value_in Counter h → WasIssued k h
issued [] k c lt = absurd (omega arith)
issued (a ∷ h) k c lt =
    let deeper : k < value_in Counter h → WasIssued k (a ∷ h) =
    λ low. let x = issued h k (counted-tail a h c) low in (x.0, (inr x.1.0, x.1.1)) in
    elim (counter_step a h c) [
      | inl stays ↦ deeper (omega (arith, stays.value))
      | inr adds ↦
          let now = adds.value in
          elim (cases_eq k (value_in Counter h)) [
            | inl is ↦ (a, (inl refl, (adds.word, (adds.item, adds.act ∙ ap (FetchAdd adds.item) (sym is)))))
            | inr ne ↦ deeper (omega (arith, now, ne))
          ]
    ]

-- when a fetch-add finds no cell, none was left
pub all_issued : (size : PoolSize) (h : History) (p k : ℕ) (e : Entry) → IsPoolLawful size h
    → Has h (fetch p e) → size.cells ≤ e.cell → k < size.cells → WasIssued k h
all_issued size h p k e l has high lt =
    let c = lawful-counted size h l in
    issued h k c (omega (arith, fetch-below h p e c has))

-- each fetch-add finds the number of older ones on its word
pub found_count : (size : PoolSize) (later older : History) (a : PoolAccess) (x n : ℕ)
    → IsPoolLawful size (later ++ a ∷ older) → a.act ≡ FetchAdd x n → n ≡ fetch_adds_on a.word older
found_count size later older a x n l is =
    let here : IsPoolLawful size (a ∷ older) = older_lawful size later (a ∷ older) l in
    let c = lawful-counted size (a ∷ older) here in
    let s = storer_of size (a ∷ older) a (n + 1) here (inl refl) (ap stored_by is) in
    elim s.how [
      | inl add ↦
          let acts : FetchAdd add.0.value add.0.cell ≡ FetchAdd x n = sym (ap (λ (z : PoolAccess). z.act) add.1) ∙ is in
          let same : n ≡ add.0.cell = cc in
          let word : Counter ≡ a.word = sym (ap (λ (z : PoolAccess). z.word) add.1) in
          same ∙ fetch-found a older s.maker add.0 c add.1 ∙ counter_count older (counted-tail a older c)
          ∙ ap (λ w. fetch_adds_on w older) word
      | inr own ↦ absurd (let acts : FetchAdd x n ≡ Store (n + 1) = sym is ∙ own.0 in cc)
    ]
