-- One more access of a producer, after which the history of a world stays lawful.
use Rattle.std.proofs.Common.{◌≡◌, ◌⊎◌, ℕ, Bool, true, false, ◌&&◌, ◌||◌, cond, List, ◌∷◌, Option, Some, None, refl, sym, ◌∙◌, ap, subst, inl, inr, eq-eqb, eqb-true}
use Rattle.std.specs.Prelude.{filter, nat_eq}
use Rattle.std.proofs.lemmas.Bool.{and_parts, cases_Bool, cases_eq, ne_eqb}
use Rattle.mb_cells.proofs.Items.{linked_cells-more}
use Rattle.mb_cells.proofs.Names.{is_same_process-eq}
use Rattle.mb_world.specs.Imports.{Counter, Has, Head, History, IsOnceEach, IsPoolLawful, Item, Link, PoolAccess, Process, Producer, Reader, Word, has_cell}
use Rattle.mb_world.specs.Imports.{is_of_lane, is_same_process, link_of, linked_cells, push_if}
use Rattle.mb_world.specs.Plan.{Plan, size_of}
use Rattle.mb_world.specs.World.{IsBy, ToCells, ToClaims, WorldAccess, WorldHistory, is_on, lane_part, pool_accesses}
use Rattle.mb_world.specs.ConsumerPath.{ConsumerPath}
use Rattle.mb_world.specs.Worlds.{IsOnLane, IsWorldLawful}
use Rattle.mb_world.proofs.Cells.{cell-of_true, has_cell-true}
use Rattle.mb_world.proofs.LaneParts.{filter_same}

-- an access of producer p leaves the list of linked cells of any other producer's lane as it is
linked_other : (p q : ℕ) (a : PoolAccess) (h : History) → a.process ≡ Producer p → (q ≡ p → ⊥)
    → linked_cells q (a ∷ h) ≡ linked_cells q h
linked_other p q a h own other =
    ap (λ (w : Process). cond (is_same_process (Producer q) w) (push_if (link_of a.word a.act) (linked_cells q h))
    (linked_cells q h)) own
    ∙ ap (λ (b : Bool). cond b (push_if (link_of a.word a.act) (linked_cells q h)) (linked_cells q h))
    (ne_eqb q p other)

-- an access of producer p adds to the lane of p the cell that it links, if it links one
linked_own : (p : ℕ) (a : PoolAccess) (h : History) → a.process ≡ Producer p
    → linked_cells p (a ∷ h) ≡ push_if (link_of a.word a.act) (linked_cells p h)
linked_own p a h own =
    ap (λ (w : Process). cond (is_same_process (Producer p) w) (push_if (link_of a.word a.act) (linked_cells p h))
    (linked_cells p h)) own
    ∙ ap (λ (b : Bool). cond b (push_if (link_of a.word a.act) (linked_cells p h)) (linked_cells p h)) (eq-eqb p p refl)

-- an access of a producer is in no consumer's part
is_on_none : (c q p : ℕ) (ls : List ℕ) (a : PoolAccess) → a.process ≡ Producer p → is_on c q ls (ToCells a) ≡ false
is_on_none c q p ls a own = ap (λ (w : Process). is_same_process (Reader c) w && is_of_lane q ls a.word) own

-- one more cell makes no difference to whether a word is of the lane, if the word is not of that cell
word_same : (q k : ℕ) (ls : List ℕ) (w : Word) → ((j : ℕ) → (w ≡ Link j) ⊎ (w ≡ Item j) → k ≡ j → ⊥)
    → is_of_lane q (k ∷ ls) w ≡ is_of_lane q ls w
word_same q k ls Counter apart = refl
word_same q k ls (Head i) apart = refl
word_same q k ls (Link j) apart = ap (λ (b : Bool). b || has_cell ls j) (ne_eqb k j (apart j (inl refl)))
word_same q k ls (Item j) apart = ap (λ (b : Bool). b || has_cell ls j) (ne_eqb k j (apart j (inr refl)))

module _ (plan : Plan) (h : WorldHistory) (lawful : IsWorldLawful plan h)
    (p : ℕ) (a : PoolAccess) (maker : a.process ≡ Producer p) (now : IsPoolLawful (size_of plan) (a ∷ pool_accesses h))
    (one : (p q k : ℕ) → Has (linked_cells p (a ∷ pool_accesses h)) k → Has (linked_cells q (a ∷ pool_accesses h)) k
    → p ≡ q)
    (once : (p : ℕ) → IsOnceEach (linked_cells p (a ∷ pool_accesses h))) where
  -- a cell that the access links was on no lane
  new_cell : (k : ℕ) → link_of a.word a.act ≡ Some k → (q : ℕ) → Has (linked_cells q (pool_accesses h)) k → ⊥
  new_cell k is q has = by (cases_eq q p)
    where
      -- the list of linked cells of lane p then begins with the new cell
      own : linked_cells p (a ∷ pool_accesses h) ≡ k ∷ linked_cells p (pool_accesses h)
      own = linked_own p a (pool_accesses h) maker
          ∙ ap (λ (o : Option ℕ). push_if o (linked_cells p (pool_accesses h))) is

      by : (q ≡ p) ⊎ (q ≡ p → ⊥) → ⊥
      by (inl same) =
          let o : IsOnceEach (k ∷ linked_cells p (pool_accesses h)) = subst IsOnceEach own (once p) in
          o.0 (subst (λ (i : ℕ). Has (linked_cells i (pool_accesses h)) k) same has)
      by (inr ne) =
          ne (one q p k (linked_cells-more q a (pool_accesses h) k has)
          (subst (λ (ls : List ℕ). Has ls k) (sym own) (inl refl)))

  -- the access's new cell makes no difference to which accesses of a consumer are on a lane
  on_same : (c q k : ℕ) → link_of a.word a.act ≡ Some k → (x : WorldAccess) → Has h x
      → is_on c q (k ∷ linked_cells q (pool_accesses h)) x ≡ is_on c q (linked_cells q (pool_accesses h)) x
  on_same c q k is (ToClaims x) has = by (cases_Bool (nat_eq x.consumer c))
    where
      by : (nat_eq x.consumer c ≡ true) ⊎ (nat_eq x.consumer c ≡ false) → is_on c q (k ∷ linked_cells q
          (pool_accesses h)) (ToClaims x) ≡ is_on c q (linked_cells q (pool_accesses h)) (ToClaims x)
      by (inl e) =
          let y = lawful.no_others c (ToClaims x) has (eqb-true x.consumer c e) in
          let here = cell-of_true (linked_cells y.lane (pool_accesses h)) x.cell
          (and_parts (nat_eq x.consumer c) (has_cell (linked_cells y.lane (pool_accesses h)) x.cell) y.on).1 in
          let apart : k ≡ x.cell
          → ⊥ = λ f. new_cell k is y.lane (subst (Has (linked_cells y.lane (pool_accesses h))) (sym f) here) in
          ap (λ (b : Bool). nat_eq x.consumer c && (b || has_cell (linked_cells q (pool_accesses h)) x.cell))
          (ne_eqb k x.cell apart)
      by (inr e) = rw e refl
  on_same c q k is (ToCells x) has = by (cases_Bool (is_same_process (Reader c) x.process))
    where
      by : (is_same_process (Reader c) x.process ≡ true) ⊎ (is_same_process (Reader c) x.process ≡ false)
          → is_on c q (k ∷ linked_cells q (pool_accesses h)) (ToCells x)
          ≡ is_on c q (linked_cells q (pool_accesses h)) (ToCells x)
      by (inl e) =
          let y = lawful.no_others c (ToCells x) has (sym (is_same_process-eq (Reader c) x.process e)) in
          let here = (and_parts (is_same_process (Reader c) x.process)
          (is_of_lane y.lane (linked_cells y.lane (pool_accesses h)) x.word) y.on).1 in
          ap (λ (b : Bool). is_same_process (Reader c) x.process && b)
          (word_same q k (linked_cells q (pool_accesses h)) x.word (apart y.lane here))
        where
          -- an access of a consumer on a lane is not to a word of the new cell
          apart : (l : ℕ) → is_of_lane l (linked_cells l (pool_accesses h)) x.word ≡ true → (j : ℕ)
              → (x.word ≡ Link j) ⊎ (x.word ≡ Item j) → k ≡ j → ⊥
          apart l here j (inl w) f =
              new_cell k is l (subst (Has (linked_cells l (pool_accesses h))) (sym f)
              (cell-of_true (linked_cells l (pool_accesses h)) j
              (subst (λ (v : Word). is_of_lane l (linked_cells l (pool_accesses h)) v ≡ true) w here)))
          apart l here j (inr w) f =
              new_cell k is l (subst (Has (linked_cells l (pool_accesses h))) (sym f)
              (cell-of_true (linked_cells l (pool_accesses h)) j
              (subst (λ (v : Word). is_of_lane l (linked_cells l (pool_accesses h)) v ≡ true) w here)))
      by (inr e) = rw e refl

  -- the parts of all consumers on all lanes stay as they are
  pub parts_stay : (d q : ℕ) → lane_part d q (ToCells a ∷ h) ≡ lane_part d q h
  parts_stay d q =
      ap (λ (b : Bool). cond b (ToCells a ∷ filter (is_on d q (linked_cells q (a ∷ pool_accesses h))) h)
      (filter (is_on d q (linked_cells q (a ∷ pool_accesses h))) h))
      (is_on_none d q p (linked_cells q (a ∷ pool_accesses h)) a maker)
      ∙ by (cases_eq q p)
    where
      -- the parts of all consumers stay as they are, whether the access links a cell or not
      by_link : (o : Option ℕ) → link_of a.word a.act ≡ o
          → filter (is_on d q (push_if o (linked_cells q (pool_accesses h)))) h ≡ lane_part d q h
      by_link None is = refl
      by_link (Some k) is = filter_same (is_on d q (k ∷ linked_cells q (pool_accesses h)))
          (is_on d q (linked_cells q (pool_accesses h))) h (on_same d q k is)

      by : (q ≡ p) ⊎ (q ≡ p → ⊥) → filter (is_on d q (linked_cells q (a ∷ pool_accesses h))) h ≡ lane_part d q h
      by (inl same) =
          ap (λ (ls : List ℕ). filter (is_on d q ls) h)
          (linked_own q a (pool_accesses h) (maker ∙ ap Producer (sym same)))
          ∙ by_link (link_of a.word a.act) refl
      by (inr ne) = ap (λ (ls : List ℕ). filter (is_on d q ls) h) (linked_other p q a (pool_accesses h) maker ne)

  -- the longer history is lawful
  pub producer_goes_on : IsWorldLawful plan (ToCells a ∷ h)
  producer_goes_on = record {
    sized = lawful.sized;
    cells_fit = now.fits;
    claims_fit = lawful.claims_fit;
    cells_memory = now.memory;
    claims_memory = lawful.claims_memory;
    producers = now.producers;
    consumers = λ d q ds qs.
        let y = lawful.consumers d q ds qs in
        record {
          cells = y.cells;
          notes = y.notes;
          held = y.held;
          path = subst (λ (l : WorldHistory). ConsumerPath plan.claims d q l y.cells y.notes y.held)
              (sym (parts_stay d q)) y.path;
        };
    no_others = λ d x has by_d. on_some_lane d x has by_d;
  }
    where
      -- an access that is on a lane is still on it after more cells were linked there
      lane_more : (q : ℕ) (ls ms : List ℕ) → ((k : ℕ) → Has ls k → Has ms k) → (d : ℕ) (x : WorldAccess)
          → is_on d q ls x ≡ true → is_on d q ms x ≡ true
      lane_more q ls ms more d (ToClaims x) on =
          let y = and_parts (nat_eq x.consumer d) (has_cell ls x.cell) on in
          rw (y.0, has_cell-true ms x.cell (more x.cell (cell-of_true ls x.cell y.1))) refl
      lane_more q ls ms more d (ToCells x) on =
          let y = and_parts (is_same_process (Reader d) x.process) (is_of_lane q ls x.word) on in
          rw (y.0, word_more x.word y.1) refl
        where
          -- a word of the lane is still one after more cells were linked there
          word_more : (w : Word) → is_of_lane q ls w ≡ true → is_of_lane q ms w ≡ true
          word_more Counter e = e
          word_more (Head i) e = e
          word_more (Link k) e = has_cell-true ms k (more k (cell-of_true ls k e))
          word_more (Item k) e = has_cell-true ms k (more k (cell-of_true ls k e))

      -- each access of a consumer is still on some lane
      on_some_lane : (d : ℕ) (x : WorldAccess) → Has (ToCells a ∷ h) x → IsBy d x → IsOnLane plan d x (ToCells a ∷ h)
      on_some_lane d x (inl e) by_d =
          let f : a.process ≡ Reader d = subst (IsBy d) (sym e) by_d in
          absurd (let g : Producer p ≡ Reader d = sym maker ∙ f in cc)
      on_some_lane d x (inr has) by_d =
          let y = lawful.no_others d x has by_d in
          record {
            known = y.known;
            lane = y.lane;
            below = y.below;
            on = lane_more y.lane (linked_cells y.lane (pool_accesses h)) (linked_cells y.lane (a ∷ pool_accesses h))
                (linked_cells-more y.lane a (pool_accesses h)) d x y.on;
          }
