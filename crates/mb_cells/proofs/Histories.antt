-- Facts of every lawful history: who stores to which word, how lanes link their cells, and what readers meet of them.
use Rattle.std.proofs.Common.{List, None, Some, [], ap, append_assoc, arith, eq-eqb, false, inl, inr, ne_eqb, refl, subst, sym, ℕ, ◌++◌, ◌+◌, ◌-◌, ◌<◌, ◌∙◌, ◌∷◌, ◌≡◌, ◌⊎◌}
use Rattle.std.specs.Prelude.{nat_eq}
use Rattle.std.proofs.lemmas.Bool.{cases_Bool, cases_eq, cond_both}
use Rattle.mb_cells.specs.{AllCellsBelow, Counter, END, Entry, Has, HasLoaded, HasMet, Head, History, LaneIsAt, IsLanePrefix, IsLinkWord, IsLoad}
use Rattle.mb_cells.specs.{IsPoolLawful, IsReaderPath, IsStart, Item, Link, Load, Phase, PoolAccess, PoolAct, PoolSize, Process, Producer, Reader}
use Rattle.mb_cells.specs.{ReadsLast, Steps, Store, Word, ends_lane, ends_refused, fetch, fills_cell, finds_none, groups, is_fetch_add, is_same_process}
use Rattle.mb_cells.specs.{is_same_word, link_of, linked_cells, links_cell, part, part_at, place_after, place_past, push_if, stored_by, takes_cell}
use Rattle.mb_cells.specs.{value_in}
use Rattle.mb_cells.specs.Place.{Ended, Full, Offered, Open, Stored}
use Rattle.mb_cells.proofs.Counter.{AreRising, IsCounted, fetch-one, rising, rising-part}
use Rattle.mb_cells.proofs.Names.{is_same_word-eq, own_process, stores_or_not, value_in-kept, value_in-other}
use Rattle.mb_cells.proofs.Parts.{Has-of_part, Has-part, part-own, value_in-part}
use Rattle.mb_cells.proofs.Places.{IsSomewhere, came_from, kind_at, somewhere}
use Rattle.mb_cells.proofs.ProducerWords.{IsChained, IsFallingAt, IsOwned, chain_owned, chained-agree, chained_at, end_value, falling_at, next_at, owned-more, owned_next, stores_owned}

-- without its newest access a prefix of a lane path is still one
tail-prefix : (cells p : ℕ) (a : PoolAccess) (d : History) → IsLanePrefix cells p (a ∷ d) → IsLanePrefix cells p d
tail-prefix cells p a d h = record {
  path = h.path;
  later = h.later ++ a ∷ [];
  lawful = h.lawful;
  is = append_assoc h.later (a ∷ []) d ∙ h.is;
}

-- without its newest access a lawful history is still lawful
pub lawful-tail : (size : PoolSize) (a : PoolAccess) (h : History) → IsPoolLawful size (a ∷ h) → IsPoolLawful size h
lawful-tail size a h l = record {
  sized = l.sized;
  fits = l.fits.2;
  memory = l.memory.1;
  producers = λ p. cond_both (is_same_process (Producer p) a.process) (a ∷ part (Producer p) h) (part (Producer p) h)
      (λ x. IsLanePrefix size.cells p x → IsLanePrefix size.cells p (part (Producer p) h))
      (λ _ x. tail-prefix size.cells p a (part (Producer p) h) x) (λ _ x. x) (l.producers p);
  readers = λ r. cond_both (is_same_process (Reader r) a.process) (a ∷ part (Reader r) h) (part (Reader r) h)
      (λ x. IsReaderPath size.lanes x → IsReaderPath size.lanes (part (Reader r) h))
      (λ _ x. x.2) (λ _ x. x) (l.readers r);
}

-- each access of a reader path is a load
reader-loads : (lanes : ℕ) (h : History) (a : PoolAccess) → IsReaderPath lanes h → Has h a → IsLoad a.act
reader-loads lanes [] a p m = absurd m
reader-loads lanes (b ∷ h) a p (inl is) = subst (λ x. IsLoad x.act) is p.0
reader-loads lanes (b ∷ h) a p (inr m) = reader-loads lanes h a p.2 m

-- two fetch-adds that are equal were made by the same producer
pub same-maker : (p q : ℕ) (e f : Entry) → fetch p e ≡ fetch q f → p ≡ q
same-maker p q e f is =
    let e : Producer p ≡ Producer q = ap (λ (a : PoolAccess). a.process) is in cc

-- in a lawful history each producer stands at some place of its path
pub place_of : (size : PoolSize) (h : History) (p : ℕ) → IsPoolLawful size h
    → IsSomewhere size.cells p (part (Producer p) h)
place_of size h p l = somewhere size.cells p (part (Producer p) h) (l.producers p)

-- a load stores nothing
load-stores : (act : PoolAct) → IsLoad act → stored_by act ≡ None
load-stores (Load v) is = refl
load-stores _ is = absurd is

-- access a stored v: its producer, and whether it is a fetch-add or a store to a word of that producer's own
pub record IsStorer (h : History) (a : PoolAccess) (v : ℕ) : Type 0 where
  pub maker : ℕ
  pub process : a.process ≡ Producer maker
  -- a fetch-add of the counter, or a store to a word of the producer's own
  pub how :
      ((e : Entry) × (a ≡ fetch maker e)) ⊎ ((a.act ≡ Store v) × IsOwned maker h a.word)

-- each access that stores a value was made by a producer
pub storer_of : (size : PoolSize) (h : History) (a : PoolAccess) (v : ℕ) → IsPoolLawful size h → Has h a
    → stored_by a.act ≡ Some v → IsStorer h a v
storer_of size h a v l has stores =
    by a.process refl
  where
    by : (who : Process) → a.process ≡ who → IsStorer h a v
    by (Producer q) e =
        let s = place_of size h q l in
        let own = own_process (Producer q) a e in
        let mine = Has-part (Producer q) h a has own in
        elim (kind_at size.cells q (part (Producer q) h) s.entries s.phase a s.at mine) [
          | inl fetched ↦ record { maker = q; process = e; how = inl fetched }
          | inr put ↦
              let value = put.1.0 in
              let act : a.act ≡ Store value = ap (λ (x : PoolAccess). x.act) put.1.1 in
              let some : Some value ≡ Some v = sym (ap stored_by act) ∙ stores in
              let same : value ≡ v = cc in
              let stored : a.act ≡ Store v = act ∙ ap Store same in
              let there : Has (part_at q s.entries s.phase) a = subst (λ x. Has x a) s.at.is mine in
              let owned : IsOwned q (part (Producer q) h) a.word =
              subst (λ x. IsOwned q x a.word) (sym s.at.is) (stores_owned q s.entries s.phase a v there stored) in
              let more = owned-more q (part (Producer q) h) h a.word (Has-of_part (Producer q) h) owned in
              record { maker = q; process = e; how = inr (stored, more) }
        ]
    by (Reader r) e =
        let own = own_process (Reader r) a e in
        let mine = Has-part (Reader r) h a has own in
        let load : IsLoad a.act = reader-loads size.lanes (part (Reader r) h) a (l.readers r) mine in
        absurd (let none : None ≡ Some v = sym (load-stores a.act load) ∙ stores in cc)

-- in a lawful history only fetch-adds store to the counter
pub lawful-counted : (size : PoolSize) (h : History) → IsPoolLawful size h → IsCounted h
lawful-counted size h l = record {
  memory = l.memory;
  adds = λ a v has at stores.
      let s = storer_of size h a v l has stores in
      elim s.how [
        | inl add ↦ ap (λ (x : PoolAccess). is_fetch_add x.act) add.1
        | inr own ↦ absurd (subst (IsOwned s.maker h) at own.1)
      ];
}

-- no word is owned by two producers (`IsOwned`: a word that only its owner stores to)
pub owned-one : (h : History) (p q : ℕ) (w : Word) → IsCounted h → IsOwned p h w → IsOwned q h w → p ≡ q
owned-one h p q Counter m x y = absurd x
owned-one h p q (Head k) m x y = x ∙ sym y
owned-one h p q (Link k) m x y = same-maker p q x.0 y.0 (fetch-one h p q x.0 y.0 m x.1.1 y.1.1 (x.1.0 ∙ sym y.1.0))
owned-one h p q (Item k) m x y = same-maker p q x.0 y.0 (fetch-one h p q x.0 y.0 m x.1.1 y.1.1 (x.1.0 ∙ sym y.1.0))

-- the numbers of the cells that a producer got fall, from its newest cell to its oldest
pub falls : (size : PoolSize) (p : ℕ) (h : History) (es : List Entry) (phase : Phase) → IsPoolLawful size h
    → LaneIsAt size.cells p es phase (part (Producer p) h) → IsFallingAt es phase
falls size p h es phase l at =
    falling_at p es phase (subst AreRising at.is (rising-part (Producer p) h (rising h (lawful-counted size h l))))

-- a word that producer p owns holds what p's part alone leaves in it
pub local : (size : PoolSize) (h : History) (p : ℕ) (w : Word) → IsPoolLawful size h → IsOwned p h w
    → value_in w h ≡ value_in w (part (Producer p) h)
local size h p w l o =
    value_in-part (Producer p) w h
    (λ a v has at stores.
    let s = storer_of size h a v l has stores in
    elim s.how [
      | inl add ↦
          let counter : w ≡ Counter = sym at ∙ ap (λ (x : PoolAccess). x.word) add.1 in
          absurd (subst (IsOwned p h) counter o)
      | inr own ↦
          let mine : IsOwned s.maker h w = subst (IsOwned s.maker h) at own.1 in
          let same : s.maker ≡ p = owned-one h s.maker p w (lawful-counted size h l) mine o in
          own_process (Producer p) a (s.process ∙ ap Producer same)
    ])

-- a word that producer p owns by its part alone, it owns by the whole history
owned_part : (p : ℕ) (h d : History) (w : Word) → part (Producer p) h ≡ d → IsOwned p d w → IsOwned p h w
owned_part p h d w e o = owned-more p (part (Producer p) h) h w (Has-of_part (Producer p) h)
    (subst (λ x. IsOwned p x w) (sym e) o)

-- in the words that a lawful history leaves, links lead through each lane's cells, and each cell holds its item
pub chained : (size : PoolSize) (p : ℕ) (h : History) (es : List Entry) (phase : Phase) → IsPoolLawful size h
    → LaneIsAt size.cells p es phase (part (Producer p) h) → IsChained (λ w. value_in w h) p es
chained size p h es phase l at =
    let f = falls size p h es phase l at in
    chained-agree (λ w. value_in w (part_at p es phase)) (λ w. value_in w h) p es
    (λ w i. local size h p w l (owned_part p h (part_at p es phase) w at.is (chain_owned p es phase w i))
    ∙ ap (λ x. value_in w x) at.is)
    (chained_at p es phase f)

-- the word past a lane's last cell holds the end mark if the producer's phase is Ended, else 0
pub next_is : (size : PoolSize) (p : ℕ) (h : History) (es : List Entry) (phase : Phase) → IsPoolLawful size h
    → LaneIsAt size.cells p es phase (part (Producer p) h) → value_in (place_after p es) h ≡ end_value phase
next_is size p h es phase l at =
    local size h p (place_after p es) l
    (owned_part p h (part_at p es phase) (place_after p es) at.is (owned_next p es phase))
    ∙ ap (λ x. value_in (place_after p es) x) at.is
    ∙ next_at p es phase (falls size p h es phase l at).0

-- the cells of these entries
abbrev pub cells_of : List Entry → List ℕ
cells_of [] = []
cells_of (e ∷ es) = e.cell ∷ cells_of es

-- the cells linked into a lane are the same in its producer's part as in the whole history
pub linked_cells-part : (p : ℕ) (h : History) → linked_cells p h ≡ linked_cells p (part (Producer p) h)
linked_cells-part p [] = refl
linked_cells-part p (a ∷ h) =
    elim (cases_Bool (is_same_process (Producer p) a.process)) [
      | inl own ↦ rw (own, own) (ap (push_if (link_of a.word a.act)) (linked_cells-part p h))
      | inr other ↦ rw (other) (linked_cells-part p h)
    ]

-- a store of k + 1 to the word past the entries links cell k, if that is one of the pool's cells
link_of-cell : (p : ℕ) (es : List Entry) (k cells : ℕ) → cells < END → k < cells
    → link_of (place_after p es) (Store (k + 1)) ≡ Some k
link_of-cell p [] k cells c b =
    let ne : nat_eq (k + 1) END ≡ false = ne_eqb (k + 1) END (λ e. absurd (omega arith)) in
    let m : (k + 1) - 1 ≡ k = omega arith in
    rw (ne, m)
link_of-cell p (e ∷ es) k cells c b =
    let ne : nat_eq (k + 1) END ≡ false = ne_eqb (k + 1) END (λ e. absurd (omega arith)) in
    let m : (k + 1) - 1 ≡ k = omega arith in
    rw (ne, m)

-- a store of the end mark to the word past the entries links no cell
link_of-end : (p : ℕ) (es : List Entry) → link_of (place_after p es) (Store END) ≡ None
link_of-end p [] = refl
link_of-end p (e ∷ es) = refl

-- the groups of these entries link exactly the cells of the entries
linked_cells-groups : (p cells : ℕ) (es : List Entry) → cells < END → AllCellsBelow cells es
    → linked_cells p (groups p es) ≡ cells_of es
linked_cells-groups p cells [] c b = refl
linked_cells-groups p cells (e ∷ es) c b =
    rw (eq-eqb p p refl, link_of-cell p es e.cell cells c b.0)
    (ap (λ l. e.cell ∷ l) (linked_cells-groups p cells es c b.1))

-- at each place, what the producer has done links exactly the cells of its entries
linked_cells-part_at : (p cells : ℕ) (es : List Entry) (phase : Phase) → cells < END → AllCellsBelow cells es
    → linked_cells p (part_at p es phase) ≡ cells_of es
linked_cells-part_at p cells es Open c b = linked_cells-groups p cells es c b
linked_cells-part_at p cells es (Offered e) c b = rw (eq-eqb p p refl) (linked_cells-groups p cells es c b)
linked_cells-part_at p cells es (Stored e) c b = rw (eq-eqb p p refl) (linked_cells-groups p cells es c b)
linked_cells-part_at p cells es (Full e) c b = rw (eq-eqb p p refl) (linked_cells-groups p cells es c b)
linked_cells-part_at p cells es (Ended None) c b =
    rw (eq-eqb p p refl, link_of-end p es) (linked_cells-groups p cells es c b)
linked_cells-part_at p cells es (Ended (Some e)) c b =
    rw (eq-eqb p p refl, link_of-end p es) (linked_cells-groups p cells es c b)

-- the cells linked into lane p are those of the entries at its producer's place
pub cells_at : (size : PoolSize) (p : ℕ) (h : History) (es : List Entry) (phase : Phase) → size.cells < END
    → LaneIsAt size.cells p es phase (part (Producer p) h) → linked_cells p h ≡ cells_of es
cells_at size p h es phase c at =
    linked_cells-part p h ∙ ap (linked_cells p) at.is ∙ linked_cells-part_at p size.cells es phase c at.below

-- the word past the cells `ks` leads to the cell that comes next among the entries' cells, and it is one of the pool
pub record IsFollowed (m : Word → ℕ) (p cells : ℕ) (es : List Entry) (ks : List ℕ) : Type 0 where
  pub cell : ℕ
  pub below : cell < cells
  pub holds : m (place_past p ks) ≡ cell + 1
  pub later : List ℕ
  pub whole : later ++ cell ∷ ks ≡ cells_of es

-- if `ks` are the first cells of a chain, they are all its cells, or the word past them leads to the next one
chain-next : (m : Word → ℕ) (p cells : ℕ) (es : List Entry) (later ks : List ℕ) → IsChained m p es
    → AllCellsBelow cells es → later ++ ks ≡ cells_of es
    → ((later ≡ []) × (place_past p ks ≡ place_after p es)) ⊎ IsFollowed m p cells es ks
chain-next m p cells [] [] ks ch b is = inl (refl, ap (place_past p) is)
chain-next m p cells (e ∷ es) [] ks ch b is = inl (refl, ap (place_past p) is)
chain-next m p cells [] (x ∷ later) ks ch b is = absurd (cc)
chain-next m p cells (e ∷ es) (x ∷ later) ks ch b is =
    let below : later ++ ks ≡ cells_of es = cc in
    elim (chain-next m p cells es later ks ch.2 b.1 below) [
      | inl last ↦
          let whole : ks ≡ cells_of es = subst (λ l. l ++ ks ≡ cells_of es) last.0 below in
          inr (record {
            cell = e.cell;
            below = b.0;
            holds = ap m last.1 ∙ ch.0;
            later = [];
            whole = ap (λ l. e.cell ∷ l) whole;
          })
      | inr more ↦ inr (record {
        cell = more.cell;
        below = more.below;
        holds = more.holds;
        later = e.cell ∷ more.later;
        whole = ap (λ l. e.cell ∷ l) more.whole;
      })
    ]

-- a producer's step that stores to a head or link stores to the word past its entries, which holds 0 before
link_step : (cells q : ℕ) (es fs : List Entry) (was now : Phase) (a : PoolAccess) (v : ℕ)
    → Steps cells q es was a fs now → a.act ≡ Store v → IsLinkWord a.word
    → (end_value was ≡ 0) × (a.word ≡ place_after q es)
link_step cells q es fs was now a v (takes_cell _ e b) is w = absurd (cc)
link_step cells q es fs was now a v (finds_none _ e b) is w = absurd (cc)
link_step cells q es fs was now a v (fills_cell _ e) is w = absurd w
link_step cells q es fs was now a v (links_cell _ e) is w = (refl, refl)
link_step cells q es fs was now a v (ends_lane _) is w = (refl, refl)
link_step cells q es fs was now a v (ends_refused _ e) is w = (refl, refl)

-- if an access stores to a head or link, that word held 0 before
written_once : (size : PoolSize) (h : History) (a : PoolAccess) (v : ℕ) → IsPoolLawful size (a ∷ h)
    → stored_by a.act ≡ Some v → IsLinkWord a.word → value_in a.word h ≡ 0
written_once size h a v l stores w =
    let s = storer_of size (a ∷ h) a v l (inl refl) stores in
    elim s.how [
      | inl add ↦ absurd (subst (λ (x : PoolAccess). IsLinkWord x.word) add.1 w)
      | inr own ↦ by s.maker s.process own.0
    ]
  where
    by : (q : ℕ) → a.process ≡ Producer q → a.act ≡ Store v → value_in a.word h ≡ 0
    by q who is =
        let own = own_process (Producer q) a who in
        let place = place_of size (a ∷ h) q l in
        let at : LaneIsAt size.cells q place.entries place.phase (a ∷ part (Producer q) h) =
        subst (LaneIsAt size.cells q place.entries place.phase) (part-own (Producer q) a h own) place.at in
        let before = came_from size.cells q place.entries place.phase a (part (Producer q) h) at in
        let step = link_step size.cells q before.entries place.entries before.was place.phase a v before.by is w in
        ap (λ x. value_in x h) step.1
        ∙ next_is size q h before.entries before.was (lawful-tail size a h l) before.at ∙ step.0

-- what a reader loaded from a head or link, if not 0, stays there
pub stays : (size : PoolSize) (h : History) (r : ℕ) (w : Word) (v : ℕ) → IsPoolLawful size h → IsLinkWord w
    → HasLoaded r w v h → (v ≡ 0 → ⊥) → value_in w h ≡ v
stays size [] r w v l link has some = absurd has
stays size (a ∷ h) r w v l link (inl is) some =
    let told : v ≡ value_in w h = subst (λ (x : PoolAccess). ReadsLast x.word x.act h) is l.memory.0 in
    value_in-kept a h w (ap (λ (x : PoolAccess). stored_by x.act) is) ∙ sym told
stays size (a ∷ h) r w v l link (inr has) some =
    let before : value_in w h ≡ v = stays size h r w v (lawful-tail size a h l) link has some in
    elim (cases_Bool (is_same_word a.word w)) [
      | inl same ↦
          let here : a.word ≡ w = is_same_word-eq a.word w same in
          elim (stores_or_not a.act) [
            | inl stores ↦
                let empty : value_in a.word h ≡ 0 =
                written_once size h a stores.0 l stores.1 (subst IsLinkWord (sym here) link) in
                absurd (some (sym before ∙ ap (λ x. value_in x h) (sym here) ∙ empty))
            | inr none ↦ value_in-kept a h w none ∙ before
          ]
      | inr other ↦ value_in-other a h w other ∙ before
    ]

-- the word past these cells is a head or link
pub link-place : (p : ℕ) (ks : List ℕ) → IsLinkWord (place_past p ks)
link-place p [] = tt
link-place p (k ∷ ks) = tt

-- a list joined with the empty list is itself
append-nil : (ks : List ℕ) → ks ++ [] ≡ ks
append-nil [] = refl
append-nil (k ∷ ks) = ap (λ l. k ∷ l) (append-nil ks)

-- the value of the word past the last cell is 0 or the end mark, whatever the phase
end-or-zero : (phase : Phase) → (end_value phase ≡ 0) ⊎ (end_value phase ≡ END)
end-or-zero Open = inl refl
end-or-zero (Offered _) = inl refl
end-or-zero (Stored _) = inl refl
end-or-zero (Full _) = inl refl
end-or-zero (Ended _) = inr refl

-- the cells that a reader has met on a lane are the first cells of that lane
pub met_start : (size : PoolSize) (h : History) (r p : ℕ) (ks : List ℕ) → IsPoolLawful size h → HasMet r p ks h
    → IsStart ks (linked_cells p h)
met_start size h r p [] l met = (linked_cells p h, append-nil (linked_cells p h))
met_start size h r p (k ∷ ks) l met =
    let place = place_of size h p l in
    let all = cells_at size p h place.entries place.phase l.sized place.at in
    let start = met_start size h r p ks l met.2 in
    let holds : value_in (place_past p ks) h ≡ k + 1 =
    stays size h r (place_past p ks) (k + 1) l (link-place p ks) met.0 (λ e. absurd (omega arith)) in
    elim (chain-next (λ w. value_in w h) p size.cells place.entries start.0 ks
    (chained size p h place.entries place.phase l place.at) place.at.below (start.1 ∙ all)) [
      | inl last ↦
          let e : k + 1 ≡ end_value place.phase =
          sym holds ∙ ap (λ w. value_in w h) last.1 ∙ next_is size p h place.entries place.phase l place.at in
          elim (end-or-zero place.phase) [
            | inl z ↦ absurd (omega arith)
            | inr z ↦ absurd (met.1 (e ∙ z))
          ]
      | inr more ↦
          let same : more.cell ≡ k = omega (arith, sym holds ∙ more.holds) in
          (more.later, subst (λ x. more.later ++ x ∷ ks ≡ linked_cells p h) same (more.whole ∙ sym all))
    ]

-- if a reader loaded v from a head or link, v is 0, or what the word holds after the history
pub link_load : (size : PoolSize) (h : History) (r v : ℕ) (w : Word) → IsPoolLawful size h → IsLinkWord w
    → HasLoaded r w v h → (v ≡ 0) ⊎ (v ≡ value_in w h)
link_load size h r v w l link has =
    elim (cases_eq v 0) [
      | inl e ↦ inl e
      | inr ne ↦ inr (sym (stays size h r w v l link has ne))
    ]

-- a word that only producer p stores to holds what p's part alone leaves in it
pub held_alone : (h : History) (p : ℕ) (w : Word)
    → ((a : PoolAccess) (v : ℕ) → Has h a → a.word ≡ w → stored_by a.act ≡ Some v → a.process ≡ Producer p)
    → value_in w h ≡ value_in w (part (Producer p) h)
held_alone h p w only =
    value_in-part (Producer p) w h
    (λ a v has at is. own_process (Producer p) a (only a v has at is))

-- a reader that loaded the end mark past the cells that it met has met all cells of the lane
pub met_all : (size : PoolSize) (h : History) (r p : ℕ) (ks : List ℕ) → IsPoolLawful size h → HasMet r p ks h
    → HasLoaded r (place_past p ks) END h → ks ≡ linked_cells p h
met_all size h r p ks l met end =
    let place = place_of size h p l in
    let all = cells_at size p h place.entries place.phase l.sized place.at in
    let start = met_start size h r p ks l met in
    let holds : value_in (place_past p ks) h ≡ END =
    stays size h r (place_past p ks) END l (link-place p ks) end (λ e. absurd (omega arith)) in
    elim (chain-next (λ w. value_in w h) p size.cells place.entries start.0 ks
    (chained size p h place.entries place.phase l place.at) place.at.below (start.1 ∙ all)) [
      | inl last ↦ subst (λ x. x ++ ks ≡ linked_cells p h) last.0 start.1
      | inr more ↦ absurd (omega (arith, sym holds ∙ more.holds, more.below))
    ]
