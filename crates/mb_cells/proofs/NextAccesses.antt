-- Which access a producer or a reader may make next, and that its word and its value are in range.
use Rattle.std.proofs.Common.{List, None, Some, [], ap, arith, inl, inr, refl, subst, sym, ℕ, ◌+◌, ◌<◌, ◌^◌, ◌∙◌, ◌∷◌, ◌≡◌, ◌⊎◌}
use Rattle.mb_cells.specs.Place as phase
use Rattle.mb_cells.specs.{ActFits, AllCellsBelow, AllFit, Counter, END, Entry, FetchAdd, Has, Head, History, LaneIsAt, IsLaneAfter, IsLanePrefix}
use Rattle.mb_cells.specs.{IsPoolLawful, IsPoolWord, IsReaderPath, IsLaneWord, Item, Lane, Link, MayRead, Phase, PhaseFits, PoolAccess, PoolSize, Process}
use Rattle.mb_cells.specs.{ProcessFits, Producer, Reader, Steps, Store, Word, ends_lane, ends_refused, fetch, fills_cell, finds_none, finish_refusal}
use Rattle.mb_cells.specs.{links_cell, next_link, offer_refusal, part, place_after, push_store, stage_finish_refusal, stage_of, stage_offer_refusal}
use Rattle.mb_cells.specs.{stage_push_store, store, takes_cell}
use Rattle.mb_cells.proofs.Histories.{lawful-tail, place_of}
use Rattle.mb_cells.proofs.Items.{cell_within, given}
use Rattle.mb_cells.proofs.LaneSteps.{next_place}
use Rattle.mb_cells.proofs.Names.{own_process}
use Rattle.mb_cells.proofs.Parts.{Has-of_part, part-own}
use Rattle.mb_cells.proofs.Places.{IsFetchOrStore, came_from, step_kind, steps_only}

-- if a producer's step is a fetch-add, the phase before it refuses no offer
fetch_step : (cells p : ℕ) (es fs : List Entry) (was now : Phase) (a : PoolAccess) (e : Entry) → a ≡ fetch p e
    → Steps cells p es was a fs now → stage_offer_refusal (stage_of was) ≡ None
fetch_step cells p es fs was now a e is (takes_cell _ f b) = refl
fetch_step cells p es fs was now a e is (finds_none _ f b) = refl
fetch_step cells p es fs was now a e is (fills_cell _ f) =
    absurd (let acts : Store f.value ≡ FetchAdd e.value e.cell = ap (λ (x : PoolAccess). x.act) is in cc)
fetch_step cells p es fs was now a e is (links_cell _ f) =
    absurd (let acts : Store (f.cell + 1) ≡ FetchAdd e.value e.cell = ap (λ (x : PoolAccess). x.act) is in cc)
fetch_step cells p es fs was now a e is (ends_lane _) =
    absurd (let acts : Store END ≡ FetchAdd e.value e.cell = ap (λ (x : PoolAccess). x.act) is in cc)
fetch_step cells p es fs was now a e is (ends_refused _ f) =
    absurd (let acts : Store END ≡ FetchAdd e.value e.cell = ap (λ (x : PoolAccess). x.act) is in cc)

-- if a producer's part goes on with a fetch-add, its place before refuses no offer
pub fetches_only : (cells p : ℕ) (lane : Lane) (done : History) (e : Entry) → IsLaneAfter cells p lane done
    → IsLanePrefix cells p (fetch p e ∷ done) → offer_refusal lane ≡ None
fetches_only cells p lane done e x prefix =
    let n = steps_only cells p x.entries x.phase (fetch p e) done x.at prefix in
    ap stage_offer_refusal x.stage ∙ fetch_step cells p x.entries n.entries x.phase n.then (fetch p e) e refl n.step

-- the store of v in w is the one that a push makes at this place, or the one that a finish makes
abbrev pub IsStoreAt : ℕ → List Entry → Phase → Word → ℕ → Type 0
IsStoreAt p es was w v =
    (stage_push_store (place_after p es) (stage_of was) ≡ Some (w, v))
    ⊎ ((stage_finish_refusal (stage_of was) ≡ None) × ((w ≡ place_after p es) × (v ≡ END)))

-- if a producer's step is a store, it is the store that a push or a finish makes
store_step : (cells p : ℕ) (es fs : List Entry) (was now : Phase) (a : PoolAccess) (w : Word) (v : ℕ) → a ≡ store p w v
    → Steps cells p es was a fs now → IsStoreAt p es was w v
store_step cells p es fs was now a w v is (takes_cell _ f b) =
    absurd (let acts : FetchAdd f.value f.cell ≡ Store v = ap (λ (x : PoolAccess). x.act) is in cc)
store_step cells p es fs was now a w v is (finds_none _ f b) =
    absurd (let acts : FetchAdd f.value f.cell ≡ Store v = ap (λ (x : PoolAccess). x.act) is in cc)
store_step cells p es fs was now a w v is (fills_cell _ f) =
    let acts : Store f.value ≡ Store v = ap (λ (x : PoolAccess). x.act) is in
    let word : Item f.cell ≡ w = ap (λ (x : PoolAccess). x.word) is in
    let value : f.value ≡ v = cc in
    inl (ap Some (ap (λ z. (z, f.value)) word ∙ ap (λ z. (w, z)) value))
store_step cells p es fs was now a w v is (links_cell _ f) =
    let acts : Store (f.cell + 1) ≡ Store v = ap (λ (x : PoolAccess). x.act) is in
    let word : place_after p es ≡ w = ap (λ (x : PoolAccess). x.word) is in
    let value : f.cell + 1 ≡ v = cc in
    inl (ap Some (ap (λ z. (z, f.cell + 1)) word ∙ ap (λ z. (w, z)) value))
store_step cells p es fs was now a w v is (ends_lane _) =
    let acts : Store END ≡ Store v = ap (λ (x : PoolAccess). x.act) is in
    inr (refl, (sym (ap (λ (x : PoolAccess). x.word) is), cc))
store_step cells p es fs was now a w v is (ends_refused _ f) =
    let acts : Store END ≡ Store v = ap (λ (x : PoolAccess). x.act) is in
    inr (refl, (sym (ap (λ (x : PoolAccess). x.word) is), cc))

-- if a producer's part goes on with a store, it is the store that a push or a finish makes at its place
pub stores_only : (cells p : ℕ) (lane : Lane) (done : History) (w : Word) (v : ℕ) → IsLaneAfter cells p lane done
    → IsLanePrefix cells p (store p w v ∷ done)
    → (push_store p lane ≡ Some (w, v)) ⊎ ((finish_refusal lane ≡ None) × ((w ≡ next_link p lane) × (v ≡ END)))
stores_only cells p lane done w v x prefix =
    let n = steps_only cells p x.entries x.phase (store p w v) done x.at prefix in
    let link : next_link p lane ≡ place_after p x.entries = next_place p lane x.entries x.last in
    elim (store_step cells p x.entries n.entries x.phase n.then (store p w v) w v refl n.step) [
      | inl push_is ↦
          inl (ap (stage_push_store (next_link p lane)) x.stage ∙ ap (λ z. stage_push_store z (stage_of x.phase)) link
          ∙ push_is)
      | inr end_is ↦ inr (ap stage_finish_refusal x.stage ∙ end_is.0, (end_is.1.0 ∙ sym link, end_is.1.1))
    ]

-- if a producer's part goes on with an access, that is a fetch-add or a store
pub kinds_only : (cells p : ℕ) (lane : Lane) (done : History) (a : PoolAccess) → IsLaneAfter cells p lane done
    → IsLanePrefix cells p (a ∷ done)
    → IsFetchOrStore p a
kinds_only cells p lane done a x prefix =
    let n = steps_only cells p x.entries x.phase a done x.at prefix in
    step_kind cells p x.entries n.entries x.phase n.then a n.step

-- the word past the entries is one of the pool
place-word : (size : PoolSize) (p : ℕ) (es : List Entry) → p < size.lanes → AllCellsBelow size.cells es
    → IsLaneWord size (place_after p es)
place-word size p [] lt b = lt
place-word size p (e ∷ es) lt b = b.0

-- the word that the lane's place names for its next link is a word of the pool
pub link_within : (size : PoolSize) (p : ℕ) (lane : Lane) (done : History) → p < size.lanes
    → IsLaneAfter size.cells p lane done → IsLaneWord size (next_link p lane)
link_within size p lane done lt x =
    subst (IsLaneWord size) (sym (next_place p lane x.entries x.last)) (place-word size p x.entries lt x.at.below)

-- if all accesses of a history are in range, the act of each one is in range
pub act-fits : (lanes : ℕ) (h : History) (a : PoolAccess) → AllFit lanes h → Has h a → ActFits a.act
act-fits lanes [] a f has = absurd has
act-fits lanes (b ∷ h) a f (inl is) = subst (λ (x : PoolAccess). ActFits x.act) is f.0
act-fits lanes (b ∷ h) a f (inr has) = act-fits lanes h a f.2 has

-- the store of a push at a place: of the item that was offered, or of the link to the cell that holds it
pub data PushAt (p : ℕ) (es : List Entry) : Phase → Word × ℕ → Type 0 where
  of_item : (e : Entry) → PushAt p es (phase.Offered e) (Item e.cell, e.value)
  of_link : (e : Entry) → PushAt p es (phase.Stored e) (place_after p es, e.cell + 1)

-- each store that a push makes is of the item or of the link, as `PushAt` says
push_at : (p : ℕ) (es : List Entry) (phase : Phase) (s : Word × ℕ)
    → stage_push_store (place_after p es) (stage_of phase) ≡ Some s → PushAt p es phase s
push_at p es phase.Open s is = absurd (let e : None ≡ Some s = is in cc)
push_at p es (phase.Offered e) s is =
    let pair : (Item e.cell, e.value) ≡ s = cc in
    subst (PushAt p es (phase.Offered e)) pair (of_item e)
push_at p es (phase.Stored e) s is =
    let pair : (place_after p es, e.cell + 1) ≡ s = cc in
    subst (PushAt p es (phase.Stored e)) pair (of_link e)
push_at p es (phase.Full e) s is = absurd (let n : None ≡ Some s = is in cc)
push_at p es (phase.Ended None) s is = absurd (let n : None ≡ Some s = is in cc)
push_at p es (phase.Ended (Some e)) s is = absurd (let n : None ≡ Some s = is in cc)

-- the store that a push makes at the producer's place is of the item or of the link, as `PushAt` says
push_here : (cells p : ℕ) (lane : Lane) (done : History) (s : Word × ℕ) (x : IsLaneAfter cells p lane done)
    → push_store p lane ≡ Some s → PushAt p x.entries x.phase s
push_here cells p lane done s x is =
    let link : next_link p lane ≡ place_after p x.entries = next_place p lane x.entries x.last in
    push_at p x.entries x.phase s
    (ap (λ z. stage_push_store z (stage_of x.phase)) (sym link)
    ∙ sym (ap (stage_push_store (next_link p lane)) x.stage) ∙ is)

-- the store of a push is to a word of the pool
pub push_within : (size : PoolSize) (p : ℕ) (lane : Lane) (done : History) (w : Word) (v : ℕ) → p < size.lanes
    → IsLaneAfter size.cells p lane done → push_store p lane ≡ Some (w, v) → IsLaneWord size w
push_within size p lane done w v lt x is =
    by x.phase (w, v) x.at (push_here size.cells p lane done (w, v) x is)
  where
    by : (phase : Phase) (s : Word × ℕ) → LaneIsAt size.cells p x.entries phase done → PushAt p x.entries phase s
        → IsLaneWord size s.0
    by phase.Open s at push = elim push [ ]
    by (phase.Offered e) s at (of_item _) = at.fits
    by (phase.Stored e) s at (of_link _) = place-word size p x.entries lt at.below
    by (phase.Full _) s at push = elim push [ ]
    by (phase.Ended _) s at push = elim push [ ]

-- the value that a push stores is a word of 64 bits
pub push_value : (size : PoolSize) (h : History) (p : ℕ) (lane : Lane) (w : Word) (v : ℕ) → IsPoolLawful size h
    → IsLaneAfter size.cells p lane (part (Producer p) h) → push_store p lane ≡ Some (w, v) → v < 2 ^ 64
push_value size h p lane w v l x is =
    by x.phase (w, v) x.at (push_here size.cells p lane (part (Producer p) h) (w, v) x is)
  where
    by : (phase : Phase) (s : Word × ℕ) → LaneIsAt size.cells p x.entries phase (part (Producer p) h)
        → PushAt p x.entries phase s → s.1 < 2 ^ 64
    by phase.Open s at push = elim push [ ]
    by (phase.Offered e) s at (of_item _) =
        let has : Has (part (Producer p) h) (fetch p e) = subst (λ d. Has d (fetch p e)) (sym at.is) (inl refl) in
        (act-fits size.lanes h (fetch p e) l.fits (Has-of_part (Producer p) h (fetch p e) has)).0
    by (phase.Stored e) s at (of_link _) = omega (arith, at.fits, l.sized)
    by (phase.Full _) s at push = elim push [ ]
    by (phase.Ended _) s at push = elim push [ ]

-- each word that a reader may load is a word of the pool
pub read_within : (size : PoolSize) (h : History) (r : ℕ) (w : Word) → IsPoolLawful size h
    → MayRead size.lanes w (part (Reader r) h) → IsLaneWord size w
read_within size h r Counter l may = may
read_within size h r (Head p) l may = may
read_within size h r (Link k) l may = let g = given size h r k l may in (cell_within size h g.0 k l g.1).1
read_within size h r (Item k) l may = let g = given size h r k l may in (cell_within size h g.0 k l g.1).1

-- a head, link or item of the pool is one of its words
word-of_pool : (size : PoolSize) (w : Word) → IsLaneWord size w → IsPoolWord size w
word-of_pool size Counter within = absurd within
word-of_pool size (Head p) within = within
word-of_pool size (Link k) within = within
word-of_pool size (Item k) within = within

-- the access of a producer's step is to a word of the pool
step-word : (size : PoolSize) (p : ℕ) (es fs : List Entry) (was now : Phase) (a : PoolAccess) → p < size.lanes
    → AllCellsBelow size.cells es → PhaseFits size.cells was → Steps size.cells p es was a fs now
    → IsPoolWord size a.word
step-word size p es fs was now a lt below fits (takes_cell _ e b) = tt
step-word size p es fs was now a lt below fits (finds_none _ e b) = tt
step-word size p es fs was now a lt below fits (fills_cell _ e) = fits
step-word size p es fs was now a lt below fits (links_cell _ e) =
    word-of_pool size (place_after p es) (place-word size p es lt below)
step-word size p es fs was now a lt below fits (ends_lane _) =
    word-of_pool size (place_after p es) (place-word size p es lt below)
step-word size p es fs was now a lt below fits (ends_refused _ e) =
    word-of_pool size (place_after p es) (place-word size p es lt below)

-- the newest access of a lawful history is to a word of the pool
pub newest_within : (size : PoolSize) (h : History) (a : PoolAccess) → IsPoolLawful size (a ∷ h)
    → IsPoolWord size a.word
newest_within size h a l =
    by a.process refl
  where
    by : (who : Process) → a.process ≡ who → IsPoolWord size a.word
    by (Producer p) e =
        let own = own_process (Producer p) a e in
        let lane : p < size.lanes = subst (ProcessFits size.lanes) e l.fits.1 in
        let s = place_of size (a ∷ h) p l in
        let at : LaneIsAt size.cells p s.entries s.phase (a ∷ part (Producer p) h) =
        subst (LaneIsAt size.cells p s.entries s.phase) (part-own (Producer p) a h own) s.at in
        let c = came_from size.cells p s.entries s.phase a (part (Producer p) h) at in
        step-word size p c.entries s.entries c.was s.phase a lane c.at.below c.at.fits c.by
    by (Reader r) e =
        let own = own_process (Reader r) a e in
        let path : IsReaderPath size.lanes (a ∷ part (Reader r) h) =
        subst (IsReaderPath size.lanes) (part-own (Reader r) a h own) (l.readers r) in
        word-of_pool size a.word (read_within size h r a.word (lawful-tail size a h l) path.1)

-- each access of a lawful history is to a word of the pool
pub all_within : (size : PoolSize) (h : History) (a : PoolAccess) → IsPoolLawful size h → Has h a
    → IsPoolWord size a.word
all_within size [] a l has = absurd has
all_within size (b ∷ h) a l (inl is) =
    subst (λ (x : PoolAccess). IsPoolWord size x.word) is (newest_within size h b l)
all_within size (b ∷ h) a l (inr has) = all_within size h a (lawful-tail size b h l) has
