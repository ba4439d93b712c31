-- A reader path, taken apart into the loads on each lane, and put together again.
use Rattle.std.proofs.Common.{Bool, List, [], ap, eq-eqb, eqb-true, false, inl, inr, refl, subst, sym, true, ℕ, ◌++◌, ◌+◌, ◌||◌, ◌∙◌, ◌∷◌, ◌≡◌, ◌≢◌}
use Rattle.std.specs.Prelude.{filter, nat_eq}
use Rattle.std.proofs.lemmas.Bool.{cases_Bool, cond_both, false≢true}
use Rattle.mb_cells.specs.{Counter, END, Gave, Has, HasLoaded, HasMet, Head, History, IsGift, IsLinkWord, IsOnceEach, IsPoolLawful, IsReaderPath, Item}
use Rattle.mb_cells.specs.{Link, Load, MayRead, PoolAccess, PoolSize, Reader, Word, has_cell, is_of_lane, is_same_process, linked_cells, load, part}
use Rattle.mb_cells.specs.{part_on, place_past}
use Rattle.mb_cells.proofs.Histories.{met_all, met_start}
use Rattle.mb_cells.proofs.Items.{gift-load, given, once_each, one_lane}
use Rattle.mb_cells.proofs.Names.{access_is, is_same_process-refl}
use Rattle.mb_cells.proofs.Parts.{Has-of_part, Has-part, part_by}
use Rattle.mb_cells.proofs.ReaderChains.{HasMet-more, met-of, on_chain}

-- a cell that some of the accesses gave was given by all of them together
Gave-filter : (test : PoolAccess → Bool) (d : History) (k : ℕ) → Gave k (filter test d) → Gave k d
Gave-filter test [] k gave = gave
Gave-filter test (a ∷ d) k gave =
    cond_both (test a) (a ∷ filter test d) (filter test d) (λ l. Gave k l → Gave k (a ∷ d))
    (λ _ g. elim g [ inl gift ↦ inl gift | inr older ↦ inr (Gave-filter test d k older) ])
    (λ _ g. inr (Gave-filter test d k g)) gave

-- a word that a reader may load after some of the accesses, it may load after all of them
MayRead-filter : (lanes : ℕ) (test : PoolAccess → Bool) (d : History) (w : Word) → MayRead lanes w (filter test d)
    → MayRead lanes w d
MayRead-filter lanes test d Counter may = may
MayRead-filter lanes test d (Head p) may = may
MayRead-filter lanes test d (Link k) may = Gave-filter test d k may
MayRead-filter lanes test d (Item k) may = Gave-filter test d k may

-- if the accesses that pass a test are a reader path, so are those among the older ones
path-older : (lanes : ℕ) (test : PoolAccess → Bool) (a : PoolAccess) (d : History)
    → IsReaderPath lanes (filter test (a ∷ d)) → IsReaderPath lanes (filter test d)
path-older lanes test a d path =
    cond_both (test a) (a ∷ filter test d) (filter test d)
    (λ l. IsReaderPath lanes l → IsReaderPath lanes (filter test d))
    (λ _ x. x.2) (λ _ x. x) path

-- if each access passes one of the tests, and for each test those that pass it are a reader path, so are all together
pub path_of_parts : (lanes : ℕ) (test : ℕ → PoolAccess → Bool) (d : History)
    → ((a : PoolAccess) → Has d a → (p : ℕ) × (test p a ≡ true))
    → ((p : ℕ) → IsReaderPath lanes (filter (test p) d)) → IsReaderPath lanes d
path_of_parts lanes test [] all paths = tt
path_of_parts lanes test (a ∷ d) all paths =
    let own = all a (inl refl) in
    let here : IsReaderPath lanes (a ∷ filter (test own.0) d) =
    cond_both (test own.0 a) (a ∷ filter (test own.0) d) (filter (test own.0) d)
    (λ l. IsReaderPath lanes l → IsReaderPath lanes (a ∷ filter (test own.0) d))
    (λ _ x. x) (λ no_pass x. absurd (false≢true (sym no_pass ∙ own.1))) (paths own.0) in
    let before = path_of_parts lanes test d (λ b has. all b (inr has)) (λ p. path-older lanes (test p) a d (paths p)) in
    (here.0, MayRead-filter lanes (test own.0) d a.word here.1, before)

-- if a cell is in the list, `has_cell` is true
pub has_cell-true : (ks : List ℕ) (k : ℕ) → Has ks k → has_cell ks k ≡ true
has_cell-true [] k has = absurd has
has_cell-true (j ∷ js) k (inl is) = let same : nat_eq j k ≡ true = eq-eqb j k is in rw same refl
has_cell-true (j ∷ js) k (inr has) = rw (has_cell-true js k has) (or-true (nat_eq j k))
  where
    -- `b || true` is true
    or-true : (b : Bool) → (b || true) ≡ true
    or-true true = refl
    or-true false = refl

-- if `has_cell` is true, the cell is in the list
pub cell-of_true : (ks : List ℕ) (k : ℕ) → has_cell ks k ≡ true → Has ks k
cell-of_true [] k is = absurd (false≢true is)
cell-of_true (j ∷ js) k is =
    elim (cases_Bool (nat_eq j k)) [
      | inl same ↦ inl (eqb-true j k same)
      | inr other ↦ inr (cell-of_true js k (sym (ap (λ b. b || has_cell js k) other) ∙ is))
    ]

-- if a list is `later`, then k, then `ks`, it has cell k
start-cell : (later ks ls : List ℕ) (k : ℕ) → later ++ k ∷ ks ≡ ls → Has ls k
start-cell [] ks ls k is = subst (λ l. Has l k) is (inl refl)
start-cell (j ∷ later) ks ls k is = subst (λ l. Has l k) is (inr (start-cell later ks (later ++ k ∷ ks) k refl))

-- a cell that a reader met on lane p is linked there
pub met-cell : (size : PoolSize) (h : History) (r p k : ℕ) (ks : List ℕ) → IsPoolLawful size h → HasMet r p (k ∷ ks) h
    → Has (linked_cells p h) k
met-cell size h r p k ks l met = let s = met_start size h r p (k ∷ ks) l met in
    start-cell s.0 ks (linked_cells p h) k s.1

-- reader r made each access of d, and each is in h
abbrev pub AreOf : ℕ → History → History → Type 0
AreOf r h d = (a : PoolAccess) → Has d a → Has h a × (a.process ≡ Reader r)

-- a load that gave a cell linked into lane p was of that lane's head, or of the link of a cell in that lane
gift-lane : (size : PoolSize) (h : History) (r p k : ℕ) (a : PoolAccess) (d : History) → IsPoolLawful size h
    → AreOf r h (a ∷ d) → IsReaderPath size.lanes (a ∷ d)
    → IsGift k a.word a.act → Has (linked_cells p h) k → is_of_lane p (linked_cells p h) a.word ≡ true
gift-lane size h r p k a d l own path gift put_here =
    by a.word refl
  where
    loaded : (w : Word) → a.word ≡ w → HasLoaded r w (k + 1) h
    loaded w e =
        let x = gift-load k a.word a.act gift in
        let o = own a (inl refl) in
        subst (Has h) (access_is a (Reader r) w (Load (k + 1)) o.1 e x.loads) o.0

    no_end : k + 1 ≢ END
    no_end = (gift-load k a.word a.act gift).no_end

    by : (w : Word) → a.word ≡ w → is_of_lane p (linked_cells p h) w ≡ true
    by Counter e = absurd (subst (λ w. MayRead size.lanes w d) e path.1)
    by (Head q) e =
        let same : p ≡ q = one_lane size h p q k l put_here
        (met-cell size h r q k [] l (loaded (Head q) e, no_end, tt)) in
        eq-eqb p q same
    by (Link j) e =
        let gave : Gave j d = subst (λ w. MayRead size.lanes w d) e path.1 in
        let chain = met-of size.lanes r d j (λ b has. (own b (inr has)).1) path.2 gave in
        let met = HasMet-more r chain.0 d h (j ∷ chain.1.0) (λ b has. (own b (inr has)).0) chain.1.1 in
        let here = met-cell size h r chain.0 j chain.1.0 l met in
        let next = met-cell size h r chain.0 k (j ∷ chain.1.0) l (loaded (Link j) e, no_end, met) in
        let same : p ≡ chain.0 = one_lane size h p chain.0 k l put_here next in
        has_cell-true (linked_cells p h) j (subst (λ q. Has (linked_cells q h) j) (sym same) here)
    by (Item j) e = absurd (let x = (gift-load k a.word a.act gift).link in subst IsLinkWord e x)

-- if a reader's accesses gave a cell of lane p, its accesses on lane p alone gave it
gave-on : (size : PoolSize) (h : History) (r p k : ℕ) (d : History) → IsPoolLawful size h → AreOf r h d
    → IsReaderPath size.lanes d → Has (linked_cells p h) k → Gave k d
    → Gave k (filter (λ a. is_of_lane p (linked_cells p h) a.word) d)
gave-on size h r p k [] l own path put_here gave = gave
gave-on size h r p k (a ∷ d) l own path put_here (inl gift) =
    rw (gift-lane size h r p k a d l own path gift put_here) (inl gift)
gave-on size h r p k (a ∷ d) l own path put_here (inr gave) =
    let rest = gave-on size h r p k d l (λ b has. own b (inr has)) path.2 put_here gave in
    cond_both (is_of_lane p (linked_cells p h) a.word) (a ∷ filter (λ b. is_of_lane p (linked_cells p h) b.word) d)
    (filter (λ b. is_of_lane p (linked_cells p h) b.word) d) (λ x. Gave k x)
    (λ _. inr rest) (λ _. rest)

-- a word of lane p that a reader may load, it may load by its own loads on lane p alone
may-on : (size : PoolSize) (h : History) (r p : ℕ) (d : History) (w : Word) → IsPoolLawful size h → AreOf r h d
    → IsReaderPath size.lanes d → is_of_lane p (linked_cells p h) w ≡ true
    → MayRead size.lanes w d → MayRead size.lanes w (filter (λ a. is_of_lane p (linked_cells p h) a.word) d)
may-on size h r p d Counter l own path on may = may
may-on size h r p d (Head q) l own path on may = may
may-on size h r p d (Link k) l own path on may =
    gave-on size h r p k d l own path (cell-of_true (linked_cells p h) k on) may
may-on size h r p d (Item k) l own path on may =
    gave-on size h r p k d l own path (cell-of_true (linked_cells p h) k on) may

-- the accesses of a reader path on lane p are a reader path by themselves
path-on : (size : PoolSize) (h : History) (r p : ℕ) (d : History) → IsPoolLawful size h → AreOf r h d
    → IsReaderPath size.lanes d
    → IsReaderPath size.lanes (filter (λ a. is_of_lane p (linked_cells p h) a.word) d)
path-on size h r p [] l own path = tt
path-on size h r p (a ∷ d) l own path =
    let rest = path-on size h r p d l (λ b has. own b (inr has)) path.2 in
    cond_both (is_of_lane p (linked_cells p h) a.word) (a ∷ filter (λ b. is_of_lane p (linked_cells p h) b.word) d)
    (filter (λ b. is_of_lane p (linked_cells p h) b.word) d) (IsReaderPath size.lanes)
    (λ on. (path.0, may-on size h r p d a.word l (λ b has. own b (inr has)) path.2 on path.1, rest)) (λ _. rest)

-- the part of a reader on a lane is a reader path by itself
pub lane_path : (size : PoolSize) (h : History) (r p : ℕ) → IsPoolLawful size h
    → IsReaderPath size.lanes (part_on r p h)
lane_path size h r p l =
    path-on size h r p (part (Reader r) h) l (λ a has. (Has-of_part (Reader r) h a has, part_by (Reader r) h a has))
    (l.readers r)

-- a word that a reader has loaded, it may load again
pub may-now : (lanes : ℕ) (d : History) (a : PoolAccess) → IsReaderPath lanes d → Has d a → MayRead lanes a.word d
may-now lanes [] a path has = absurd has
may-now lanes (b ∷ d) a path (inl is) = subst (λ (x : PoolAccess). MayRead lanes x.word (b ∷ d)) is (more b.word path.1)
  where
    more : (w : Word) → MayRead lanes w d → MayRead lanes w (b ∷ d)
    more Counter may = may
    more (Head p) may = may
    more (Link k) may = inr may
    more (Item k) may = inr may
may-now lanes (b ∷ d) a path (inr has) = more a.word (may-now lanes d a path.2 has)
  where
    more : (w : Word) → MayRead lanes w d → MayRead lanes w (b ∷ d)
    more Counter may = may
    more (Head p) may = may
    more (Link k) may = inr may
    more (Item k) may = inr may

-- each access of a reader is on some lane
pub some_lane_on : (size : PoolSize) (h : History) (r : ℕ) (a : PoolAccess) → IsPoolLawful size h
    → Has (part (Reader r) h) a → (p : ℕ) × (is_of_lane p (linked_cells p h) a.word ≡ true)
some_lane_on size h r a l has =
    by a.word (may-now size.lanes (part (Reader r) h) a (l.readers r) has)
  where
    by : (w : Word) → MayRead size.lanes w (part (Reader r) h) → (p : ℕ) × (is_of_lane p (linked_cells p h) w ≡ true)
    by Counter may = absurd may
    by (Head p) may = (p, eq-eqb p p refl)
    by (Link k) may = let g = given size h r k l may in (g.0, has_cell-true (linked_cells g.0 h) k g.1)
    by (Item k) may = let g = given size h r k l may in (g.0, has_cell-true (linked_cells g.0 h) k g.1)

-- a reader that loaded a lane's end mark has met all cells linked there
pub all_met : (size : PoolSize) (h : History) (r p : ℕ) (w : Word) → IsPoolLawful size h → IsLinkWord w
    → is_of_lane p (linked_cells p h) w ≡ true → HasLoaded r w END h → HasMet r p (linked_cells p h) h
all_met size h r p Counter l link on loaded = absurd link
all_met size h r p (Head q) l link on loaded =
    let same : q ≡ p = sym (eqb-true p q on) in
    let here : HasLoaded r (Head p) END h = subst (λ x. HasLoaded r (Head x) END h) same loaded in
    subst (λ ks. HasMet r p ks h) (met_all size h r p [] l tt here) tt
all_met size h r p (Link k) l link on loaded =
    let put_here : Has (linked_cells p h) k = cell-of_true (linked_cells p h) k on in
    let own : is_same_process (Reader r) (Reader r) ≡ true = is_same_process-refl (Reader r) in
    let mine = Has-part (Reader r) h (load r (Link k) END) loaded own in
    let gave : Gave k (part (Reader r) h) =
    may-now size.lanes (part (Reader r) h) (load r (Link k) END) (l.readers r) mine in
    let chain = on_chain size h r k l gave in
    let ks = chain.1.0 in
    let there = met-cell size h r chain.0 k ks l chain.1.1 in
    let same : chain.0 ≡ p = one_lane size h chain.0 p k l there put_here in
    let met : HasMet r p (k ∷ ks) h = subst (λ q. HasMet r q (k ∷ ks) h) same chain.1.1 in
    subst (λ js. HasMet r p js h) (met_all size h r p (k ∷ ks) l met loaded) met
all_met size h r p (Item k) l link on loaded = absurd link

-- cells that a reader met in a history, it met in its own part of that history
pub met_own : (h : History) (r p : ℕ) (ks : List ℕ) → HasMet r p ks h → HasMet r p ks (part (Reader r) h)
met_own h r p [] met = tt
met_own h r p (k ∷ ks) met = (
  Has-part (Reader r) h (load r (place_past p ks) (k + 1)) met.0 (is_same_process-refl (Reader r)),
  met.1,
  met_own h r p ks met.2,
)

-- a reader that loaded the link word of cell k had loaded a link to cell k
pub gave_link : (size : PoolSize) (h : History) (r k v : ℕ) → IsPoolLawful size h → HasLoaded r (Link k) v h
    → Gave k (part (Reader r) h)
gave_link size h r k v l has =
    may-now size.lanes (part (Reader r) h) (load r (Link k) v) (l.readers r)
    (Has-part (Reader r) h (load r (Link k) v) has (is_same_process-refl (Reader r)))

-- a reader that loaded the item word of cell k had loaded a link to cell k
pub gave_item : (size : PoolSize) (h : History) (r k v : ℕ) → IsPoolLawful size h → HasLoaded r (Item k) v h
    → Gave k (part (Reader r) h)
gave_item size h r k v l has =
    may-now size.lanes (part (Reader r) h) (load r (Item k) v) (l.readers r)
    (Has-part (Reader r) h (load r (Item k) v) has (is_same_process-refl (Reader r)))

-- a cell in the middle of a list is in it
has_behind : (xs js : List ℕ) (k : ℕ) → Has (xs ++ k ∷ js) k
has_behind [] js k = inl refl
has_behind (y ∷ xs) js k = inr (has_behind xs js k)

-- if a list has no cell twice, what comes after cell k is the same however the list is split at k
one_rest : (later other ks js : List ℕ) (k : ℕ) → IsOnceEach (later ++ k ∷ ks) → later ++ k ∷ ks ≡ other ++ k ∷ js
    → ks ≡ js
one_rest [] [] ks js k once is = tail_is ks js k is
  where
    tail_is : (ks js : List ℕ) (k : ℕ) → k ∷ ks ≡ k ∷ js → ks ≡ js
    tail_is ks js k is = cc
one_rest [] (x ∷ other) ks js k once is =
    absurd (once.0 (subst (λ l. Has l k) (sym (tail_is ks (other ++ k ∷ js) k x is)) (has_behind other js k)))
  where
    tail_is : (ks ls : List ℕ) (k x : ℕ) → k ∷ ks ≡ x ∷ ls → ks ≡ ls
    tail_is ks ls k x is = cc
one_rest (x ∷ later) [] ks js k once is =
    absurd (once.0 (subst (λ z. Has (later ++ k ∷ ks) z) (sym (head_is x k (later ++ k ∷ ks) js is))
    (has_behind later ks k)))
  where
    head_is : (x k : ℕ) (ls js : List ℕ) → x ∷ ls ≡ k ∷ js → x ≡ k
    head_is x k ls js is = cc
one_rest (x ∷ later) (y ∷ other) ks js k once is =
    one_rest later other ks js k once.1 (tails (later ++ k ∷ ks) (other ++ k ∷ js) x y is)
  where
    tails : (ls ms : List ℕ) (x y : ℕ) → x ∷ ls ≡ y ∷ ms → ls ≡ ms
    tails ls ms x y is = cc

-- two lists of the cells that a reader met on a lane before cell k are equal
pub one_way : (size : PoolSize) (h : History) (r p k : ℕ) (ks js : List ℕ) → IsPoolLawful size h
    → HasMet r p (k ∷ ks) h → HasMet r p (k ∷ js) h → ks ≡ js
one_way size h r p k ks js l met also =
    let s = met_start size h r p (k ∷ ks) l met in
    let t = met_start size h r p (k ∷ js) l also in
    one_rest s.0 t.0 ks js k (subst IsOnceEach (sym s.1) (once_each size h p l)) (s.1 ∙ sym t.1)
