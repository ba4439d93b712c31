-- The cells that a lawful history links into lanes, and the items that their item words hold.
use Rattle.std.proofs.Common.{List, None, Option, Some, [], ap, arith, eq-eqb, false, inl, inr, ne_eqb, refl, subst, sym, ℕ, ◌+◌, ◌-◌, ◌<◌, ◌∙◌, ◌∷◌, ◌≡◌}
use Rattle.std.specs.Prelude.{map, nat_eq, reverse}
use Rattle.std.proofs.lemmas.Bool.{cases_Bool, cond_both}
use Rattle.mb_cells.specs.{AllCellsBelow, AllFit, Counter, END, Entry, FetchAdd, Gave, Has, HasLoaded, Head, History, IsGift, IsLinkWord, IsOnceEach}
use Rattle.mb_cells.specs.{IsPoolLawful, IsReaderPath, Item, Link, Load, MayRead, PoolAccess, PoolAct, PoolSize, ProcessFits, Producer, Reader, ReadsLast}
use Rattle.mb_cells.specs.{Store, Word, entry_of, fetch, groups, is_same_process, is_same_word, item_after, item_of, link_of, linked_cells, part}
use Rattle.mb_cells.specs.{place_past, push_if, put_list, stored_by, value_in}
use Rattle.mb_cells.proofs.Counter.{IsCounted, counted-tail, fetch-below, fetch-one}
use Rattle.mb_cells.proofs.Histories.{cells_at, cells_of, chained, falls, lawful-counted, lawful-tail, linked_cells-part, place_of, same-maker, stays, storer_of}
use Rattle.mb_cells.proofs.Names.{access_is, is_same_word-eq, own_process, stores_or_not, value_in-kept, value_in-other, value_in-stored}
use Rattle.mb_cells.proofs.Parts.{Has-of_part, part-own, part_by}
use Rattle.mb_cells.proofs.ProducerWords.{AreFalling, IsChained, groups_in}

-- some entry of `es` has cell k, its fetch-add is in the groups, and if `es` is a chain, the cell holds its item
record IsEntryOf (p k : ℕ) (es : List Entry) : Type 0 where
  pub entry : Entry
  pub cell : entry.cell ≡ k
  pub fetched : Has (groups p es) (fetch p entry)
  pub holds : (m : Word → ℕ) → IsChained m p es → m (Item k) ≡ entry.value

-- each cell of these entries has an entry as `IsEntryOf` describes it
linked_entry : (p k : ℕ) (es : List Entry) → Has (cells_of es) k → IsEntryOf p k es
linked_entry p k [] has = absurd has
linked_entry p k (e ∷ es) (inl is) = record {
  entry = e;
  cell = is;
  fetched = inr (inr (inl refl));
  holds = λ m ch. subst (λ x. m (Item x) ≡ e.value) is ch.1;
}
linked_entry p k (e ∷ es) (inr has) =
    let rest = linked_entry p k es has in
    record {
      entry = rest.entry;
      cell = rest.cell;
      fetched = inr (inr (inr rest.fetched));
      holds = λ m ch. rest.holds m ch.2;
    }

-- producer p made a fetch-add that gave cell k, and the item word of k holds that fetch-add's item
pub record IsPutAt (h : History) (p k : ℕ) : Type 0 where
  pub entry : Entry
  pub cell : entry.cell ≡ k
  pub fetched : Has h (fetch p entry)
  pub holds : value_in (Item k) h ≡ entry.value

-- each cell linked into lane p was given by a fetch-add of producer p, and holds that fetch-add's item
pub is_put_at : (size : PoolSize) (h : History) (p k : ℕ) → IsPoolLawful size h → Has (linked_cells p h) k
    → IsPutAt h p k
is_put_at size h p k l has =
    let place = place_of size h p l in
    let all = cells_at size p h place.entries place.phase l.sized place.at in
    let found = linked_entry p k place.entries (subst (λ x. Has x k) all has) in
    let done : Has (part (Producer p) h) (fetch p found.entry) =
    subst (λ x. Has x (fetch p found.entry)) (sym place.at.is)
    (groups_in p place.entries place.phase (fetch p found.entry) found.fetched) in
    record {
      entry = found.entry;
      cell = found.cell;
      fetched = Has-of_part (Producer p) h (fetch p found.entry) done;
      holds = found.holds (λ w. value_in w h) (chained size p h place.entries place.phase l place.at);
    }

-- no cell is linked into two lanes
pub one_lane : (size : PoolSize) (h : History) (p q k : ℕ) → IsPoolLawful size h → Has (linked_cells p h) k
    → Has (linked_cells q h) k → p ≡ q
one_lane size h p q k l x y =
    let c = lawful-counted size h l in
    let a = is_put_at size h p k l x in
    let b = is_put_at size h q k l y in
    same-maker p q a.entry b.entry (fetch-one h p q a.entry b.entry c a.fetched b.fetched (a.cell ∙ sym b.cell))

-- if all entries have cells below n, and k is one of their cells, then k is below n
pub lower : (n k : ℕ) (es : List Entry) → AllCellsBelow n es → Has (cells_of es) k → k < n
lower n k [] b has = absurd has
lower n k (e ∷ es) b (inl is) = subst (λ x. x < n) is b.0
lower n k (e ∷ es) b (inr has) = lower n k es b.1 has

-- if the cells of the entries fall, none of them is in the list twice
once : (es : List Entry) → AreFalling es → IsOnceEach (cells_of es)
once [] f = tt
once (e ∷ es) f = (λ has. let l : e.cell < e.cell = lower e.cell e.cell es f.0 has in absurd (omega arith), once es f.1)

-- no cell is linked into a lane twice
pub once_each : (size : PoolSize) (h : History) (p : ℕ) → IsPoolLawful size h → IsOnceEach (linked_cells p h)
once_each size h p l =
    let place = place_of size h p l in
    let f = falls size p h place.entries place.phase l place.at in
    subst IsOnceEach (sym (cells_at size p h place.entries place.phase l.sized place.at)) (once place.entries f.0)

-- an act on the counter leaves the offered item of each cell that was found before it
item_after-older : (k : ℕ) (act : PoolAct) (h : History) (x : ℕ) → k < value_in Counter h
    → ReadsLast Counter act h → item_after k act x ≡ x
item_after-older k (FetchAdd y n) h x low told =
    let found : n ≡ value_in Counter h = told in
    let other : nat_eq n k ≡ false = ne_eqb n k (λ e. absurd (omega (arith, e, found, low))) in
    rw other refl
item_after-older k _ h x low told = refl

-- an access leaves the offered item of each cell that was found before it
item_of-older : (k : ℕ) (b : PoolAccess) (h d : History) → k < value_in Counter h → ReadsLast b.word b.act h
    → item_of k (b ∷ d) ≡ item_of k d
item_of-older k b h d low told =
    let was = item_of k d in
    cond_both (is_same_word b.word Counter) (item_after k b.act was) was (λ x. x ≡ was)
    (λ same.
    let on : b.word ≡ Counter = is_same_word-eq b.word Counter same in
    item_after-older k b.act h was low (subst (λ w. ReadsLast w b.act h) on told))
    (λ _. refl)

-- the item of a cell is the item of the one fetch-add that gave the cell
pub item_of-fetch : (h : History) (p : ℕ) (e : Entry) → IsCounted h → Has h (fetch p e) → item_of e.cell h ≡ e.value
item_of-fetch [] p e m has = absurd has
item_of-fetch (b ∷ h) p e m (inl is) =
    subst (λ x. item_of e.cell (x ∷ h) ≡ e.value) (sym is) (rw (eq-eqb e.cell e.cell refl))
item_of-fetch (b ∷ h) p e m (inr has) =
    let before = counted-tail b h m in
    item_of-older e.cell b h h (fetch-below h p e before has) m.memory.0 ∙ item_of-fetch h p e before has

-- an access of the history that stored the value in the word
record IsStored (h : History) (w : Word) (v : ℕ) : Type 0 where
  pub access : PoolAccess
  pub has : Has h access
  pub word : access.word ≡ w
  pub stores : stored_by access.act ≡ Some v

-- if a word holds a value other than 0, some access stored that value there
was_stored : (h : History) (w : Word) (v : ℕ) → value_in w h ≡ v → (v ≡ 0 → ⊥) → IsStored h w v
was_stored [] w v is some = absurd (some (sym is))
was_stored (b ∷ h) w v is some =
    let deeper : value_in w h ≡ v → IsStored (b ∷ h) w v =
    λ e. let r = was_stored h w v e some in
    record { access = r.access; has = inr r.has; word = r.word; stores = r.stores } in
    elim (cases_Bool (is_same_word b.word w)) [
      | inl same ↦
          let here : b.word ≡ w = is_same_word-eq b.word w same in
          elim (stores_or_not b.act) [
            | inl stores ↦
                let value : stores.0 ≡ v = sym (value_in-stored b h w stores.0 here stores.1) ∙ is in
                record { access = b; has = inl refl; word = here; stores = stores.1 ∙ ap Some value }
            | inr none ↦ deeper (sym (value_in-kept b h w none) ∙ is)
          ]
      | inr other ↦ deeper (sym (value_in-other b h w other) ∙ is)
    ]

-- a store of k + 1 to a head or link links cell k, if k + 1 is not the end mark
pub link_of-store : (w : Word) (k : ℕ) → IsLinkWord w → (k + 1 ≡ END → ⊥) → link_of w (Store (k + 1)) ≡ Some k
link_of-store Counter k l n = absurd l
link_of-store (Head p) k l n = let ne : nat_eq (k + 1) END ≡ false = ne_eqb (k + 1) END n in
    let m : (k + 1) - 1 ≡ k = omega arith in rw (ne, m)
link_of-store (Link j) k l n = let ne : nat_eq (k + 1) END ≡ false = ne_eqb (k + 1) END n in
    let m : (k + 1) - 1 ≡ k = omega arith in rw (ne, m)
link_of-store (Item j) k l n = absurd l

-- if a list has cell k, it still has k with one cell more in front, or none
Has-push : (o : Option ℕ) (ks : List ℕ) (k : ℕ) → Has ks k → Has (push_if o ks) k
Has-push None ks k has = has
Has-push (Some j) ks k has = inr has

-- a cell that was linked stays linked
pub linked_cells-more : (p : ℕ) (a : PoolAccess) (h : History) (k : ℕ) → Has (linked_cells p h) k
    → Has (linked_cells p (a ∷ h)) k
linked_cells-more p a h k has =
    cond_both (is_same_process (Producer p) a.process) (push_if (link_of a.word a.act) (linked_cells p h))
    (linked_cells p h) (λ x. Has x k)
    (λ _. Has-push (link_of a.word a.act) (linked_cells p h) k has) (λ _. has)

-- if producer q stored k + 1, which is not the end mark, in a head or link, cell k is linked into its lane
stored_linked : (h : History) (a : PoolAccess) (q k : ℕ) → Has h a → a.process ≡ Producer q → IsLinkWord a.word
    → a.act ≡ Store (k + 1) → (k + 1 ≡ END → ⊥) → Has (linked_cells q h) k
stored_linked [] a q k has who w is n = absurd has
stored_linked (b ∷ h) a q k (inl e) who w is n =
    let own = own_process (Producer q) b (ap (λ (x : PoolAccess). x.process) e ∙ who) in
    let act : b.act ≡ Store (k + 1) = ap (λ (x : PoolAccess). x.act) e ∙ is in
    let word : IsLinkWord b.word = subst (λ (x : PoolAccess). IsLinkWord x.word) (sym e) w in
    let some : link_of b.word b.act ≡ Some k = ap (link_of b.word) act ∙ link_of-store b.word k word n in
    rw (own, some) (inl refl)
stored_linked (b ∷ h) a q k (inr has) who w is n = linked_cells-more q b h k (stored_linked h a q k has who w is n)

-- if a head or link holds k + 1, which is not the end mark, cell k is linked into some lane
pub leads_to : (size : PoolSize) (h : History) (w : Word) (k : ℕ) → IsPoolLawful size h → IsLinkWord w
    → value_in w h ≡ k + 1 → (k + 1 ≡ END → ⊥) → (q : ℕ) × Has (linked_cells q h) k
leads_to size h w k l link is n =
    let s = was_stored h w (k + 1) is (λ e. absurd (omega arith)) in
    let a = s.access in
    let at : IsLinkWord a.word = subst IsLinkWord (sym s.word) link in
    let by = storer_of size h a (k + 1) l s.has s.stores in
    elim by.how [
      | inl add ↦ absurd (subst (λ (x : PoolAccess). IsLinkWord x.word) add.1 at)
      | inr own ↦ (by.maker, stored_linked h a by.maker k s.has by.process at own.0 n)
    ]

-- the act is a load of k + 1, not the end mark, from a head or link: it leads to cell k
pub record IsLeading (k : ℕ) (w : Word) (act : PoolAct) : Type 0 where
  pub link : IsLinkWord w
  pub loads : act ≡ Load (k + 1)
  pub no_end : k + 1 ≡ END → ⊥

-- an act that gives cell k (`IsGift`) loads a link that leads to k
pub gift-load : (k : ℕ) (w : Word) (act : PoolAct) → IsGift k w act → IsLeading k w act
gift-load k (Head p) (Load v) g = record { link = tt; loads = ap Load g.0; no_end = λ e. g.1 (g.0 ∙ e) }
gift-load k (Link p) (Load v) g = record { link = tt; loads = ap Load g.0; no_end = λ e. g.1 (g.0 ∙ e) }
gift-load k _ _ g = absurd g

-- an access of the history whose load leads to cell k
record IsGiver (h : History) (k : ℕ) : Type 0 where
  pub access : PoolAccess
  pub has : Has h access
  pub leads : IsLeading k access.word access.act

-- if accesses gave cell k (`Gave`), one of them is a load that leads to it
gave-load : (h : History) (k : ℕ) → Gave k h → IsGiver h k
gave-load [] k g = absurd g
gave-load (a ∷ h) k (inl g) = record { access = a; has = inl refl; leads = gift-load k a.word a.act g }
gave-load (a ∷ h) k (inr g) =
    let x = gave-load h k g in record { access = x.access; has = inr x.has; leads = x.leads }

-- if a reader loaded a link to cell k, cell k is linked into some lane
pub given : (size : PoolSize) (h : History) (r k : ℕ) → IsPoolLawful size h → Gave k (part (Reader r) h)
    → (q : ℕ) × Has (linked_cells q h) k
given size h r k l g =
    let x = gave-load (part (Reader r) h) k g in
    let a = x.access in
    let link = x.leads.link in
    let mine = part_by (Reader r) h a x.has in
    let whole = access_is a (Reader r) a.word (Load (k + 1)) mine refl x.leads.loads in
    let has : HasLoaded r a.word (k + 1) h = subst (Has h) whole (Has-of_part (Reader r) h a x.has) in
    let holds = stays size h r a.word (k + 1) l link has (λ e. absurd (omega arith)) in
    leads_to size h a.word k l link holds x.leads.no_end

-- cell k is linked into the lane of the producer whose fetch-add gave it, and v is that fetch-add's item
pub record IsItemOf (h : History) (k v : ℕ) : Type 0 where
  pub lane : ℕ
  pub entry : Entry
  pub cell : entry.cell ≡ k
  pub value : v ≡ entry.value
  pub fetched : Has h (fetch lane entry)
  pub is_put : Has (linked_cells lane h) k

-- if a reader loaded v from the item word of cell k, then k is linked, and v is the item of the fetch-add that gave k
pub item_load : (size : PoolSize) (h : History) (r k v : ℕ) → IsPoolLawful size h → HasLoaded r (Item k) v h
    → IsItemOf h k v
item_load size [] r k v l has = absurd has
item_load size (a ∷ h) r k v l (inl is) =
    let before = lawful-tail size a h l in
    let who : a.process ≡ Reader r = ap (λ (x : PoolAccess). x.process) is in
    let own = own_process (Reader r) a who in
    let path : IsReaderPath size.lanes (a ∷ part (Reader r) h) =
    subst (IsReaderPath size.lanes) (part-own (Reader r) a h own) (l.readers r) in
    let gave : Gave k (part (Reader r) h) =
    subst (λ (x : PoolAccess). MayRead size.lanes x.word (part (Reader r) h)) is path.1 in
    let lane = given size h r k before gave in
    let put = is_put_at size h lane.0 k before lane.1 in
    let told : v ≡ value_in (Item k) h = subst (λ (x : PoolAccess). ReadsLast x.word x.act h) is l.memory.0 in
    record {
      lane = lane.0;
      entry = put.entry;
      cell = put.cell;
      value = told ∙ put.holds;
      fetched = inr put.fetched;
      is_put = linked_cells-more lane.0 a h k lane.1;
    }
item_load size (a ∷ h) r k v l (inr has) =
    let x = item_load size h r k v (lawful-tail size a h l) has in
    record {
      lane = x.lane;
      entry = x.entry;
      cell = x.cell;
      value = x.value;
      fetched = inr x.fetched;
      is_put = linked_cells-more x.lane a h k x.is_put;
    }

-- what a reader loaded from a cell's item word is the item offered for that cell
pub item_value : (size : PoolSize) (h : History) (r k v : ℕ) → IsPoolLawful size h → HasLoaded r (Item k) v h
    → v ≡ item_of k h
item_value size h r k v l has =
    let x = item_load size h r k v l has in
    x.value ∙ sym (item_of-fetch h x.lane x.entry (lawful-counted size h l) x.fetched) ∙ ap (λ k. item_of k h) x.cell

-- a cell whose item word a reader loaded is linked into some lane
pub item_put : (size : PoolSize) (h : History) (r k v : ℕ) → IsPoolLawful size h → HasLoaded r (Item k) v h
    → (p : ℕ) × Has (linked_cells p h) k
item_put size h r k v l has = let x = item_load size h r k v l has in (x.lane, x.is_put)

-- the words lead from the head of lane p through these cells, the last first
abbrev pub LeadThrough : (Word → ℕ) → ℕ → List ℕ → Type 0
LeadThrough m p [] = Unit {0}
LeadThrough m p (k ∷ ks) = (m (place_past p ks) ≡ k + 1) × LeadThrough m p ks

-- if the memory holds these entries as a chain, its words lead through their cells
leads : (m : Word → ℕ) (p : ℕ) (es : List Entry) → IsChained m p es → LeadThrough m p (cells_of es)
leads m p [] ch = tt
leads m p (e ∷ []) ch = (ch.0, tt)
leads m p (e ∷ d ∷ es) ch = (ch.0, leads m p (d ∷ es) ch.2)

-- the words that a lawful history leaves lead through all cells of each lane
pub lead_through : (size : PoolSize) (h : History) (p : ℕ) → IsPoolLawful size h
    → LeadThrough (λ w. value_in w h) p (linked_cells p h)
lead_through size h p l =
    let place = place_of size h p l in
    subst (LeadThrough (λ w. value_in w h) p) (sym (cells_at size p h place.entries place.phase l.sized place.at))
    (leads (λ w. value_in w h) p place.entries (chained size p h place.entries place.phase l place.at))

-- the item word of a linked cell holds the item that was offered for the cell
pub item_held : (size : PoolSize) (h : History) (p k : ℕ) → IsPoolLawful size h → Has (linked_cells p h) k
    → value_in (Item k) h ≡ item_of k h
item_held size h p k l has =
    let x = is_put_at size h p k l has in
    x.holds ∙ sym (item_of-fetch h p x.entry (lawful-counted size h l) x.fetched) ∙ ap (λ k. item_of k h) x.cell

-- if all accesses of a history are in range, the process of each one is in range
all-fit : (lanes : ℕ) (h : History) (a : PoolAccess) → AllFit lanes h → Has h a → ProcessFits lanes a.process
all-fit lanes [] a f has = absurd has
all-fit lanes (b ∷ h) a f (inl is) = subst (λ (x : PoolAccess). ProcessFits lanes x.process) is f.1
all-fit lanes (b ∷ h) a f (inr has) = all-fit lanes h a f.2 has

-- a cell that is linked is one of the pool, in a lane of the pool
pub cell_within : (size : PoolSize) (h : History) (p k : ℕ) → IsPoolLawful size h → Has (linked_cells p h) k
    → (p < size.lanes) × (k < size.cells)
cell_within size h p k l has =
    let x = is_put_at size h p k l has in
    let place = place_of size h p l in
    let is = cells_at size p h place.entries place.phase l.sized place.at in (
      all-fit size.lanes h (fetch p x.entry) l.fits x.fetched,
      lower size.cells k place.entries place.at.below (subst (λ z. Has z k) is has),
    )

-- in a producer's own part, too, the item of a cell that it got is the item of the fetch-add that gave the cell
item_of-part : (h : History) (p : ℕ) (e : Entry) → IsCounted h → Has h (fetch p e)
    → item_of e.cell (part (Producer p) h) ≡ e.value
item_of-part [] p e m has = absurd has
item_of-part (b ∷ h) p e m (inl is) =
    subst (λ x. item_of e.cell (part (Producer p) (x ∷ h)) ≡ e.value) (sym is)
    (rw (eq-eqb p p refl, eq-eqb e.cell e.cell refl))
item_of-part (b ∷ h) p e m (inr has) =
    let before = counted-tail b h m in
    let mine = part (Producer p) h in
    let rest : item_of e.cell mine ≡ e.value = item_of-part h p e before has in
    let low = fetch-below h p e before has in
    cond_both (is_same_process (Producer p) b.process) (b ∷ mine) mine (λ x. item_of e.cell x ≡ e.value)
    (λ _. item_of-older e.cell b h mine low m.memory.0 ∙ rest) (λ _. rest)

-- entries made of the same cells are equal if both functions give each of these cells the same item
pub same_map : (f g : ℕ → ℕ) (ks : List ℕ) → ((k : ℕ) → Has ks k → f k ≡ g k)
    → map (entry_of f) ks ≡ map (entry_of g) ks
same_map f g [] same = refl
same_map f g (k ∷ ks) same =
    let here : entry_of f k ≡ entry_of g k = ap (λ v. record { cell = k; value = v }) (same k (inl refl)) in
    let rest : map (entry_of f) ks ≡ map (entry_of g) ks = same_map f g ks (λ j i. same j (inr i)) in
    ap (λ e. e ∷ map (entry_of f) ks) here ∙ ap (λ es. entry_of g k ∷ es) rest

-- the put list of a lane is the same in its producer's part as in the whole history
pub put_list-part : (size : PoolSize) (h : History) (p : ℕ) → IsPoolLawful size h
    → put_list p h ≡ put_list p (part (Producer p) h)
put_list-part size h p l =
    let same = same_map (λ k. item_of k h) (λ k. item_of k (part (Producer p) h)) (linked_cells p h)
    (λ k has.
    let x = is_put_at size h p k l has in
    sym (ap (λ k. item_of k h) x.cell) ∙ item_of-fetch h p x.entry (lawful-counted size h l) x.fetched
    ∙ sym (item_of-part h p x.entry (lawful-counted size h l) x.fetched)
    ∙ ap (λ k. item_of k (part (Producer p) h)) x.cell) in
    ap reverse same ∙ ap (λ ks. reverse (map (entry_of (λ k. item_of k (part (Producer p) h))) ks))
    (linked_cells-part p h)
