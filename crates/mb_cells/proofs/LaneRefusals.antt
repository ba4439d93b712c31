-- Why a lane refuses a call, by what its producer has done.
use Rattle.std.proofs.Common.{Bool, List, None, Some, [], ap, arith, false, inl, inr, refl, subst, sym, true, ℕ, ◌+◌, ◌<◌, ◌≤◌, ◌∙◌, ◌∷◌, ◌≡◌, ◌↔◌, ◌⊎◌}
use Rattle.std.proofs.lemmas.Bool.{cases_Bool}
use Rattle.mb_cells.specs.declared.answer.Finish.TheVariants as finish
use Rattle.mb_cells.specs.declared.answer.Offer.TheVariants as offer
use Rattle.mb_cells.specs.{AllCellsBelow, Entry, FetchAdd, Has, HasFoundNone, HasPending, History, LaneIsAt, IsLaneAfter, IsPoolLawful, Item, Lane, Load}
use Rattle.mb_cells.specs.{Phase, PoolAccess, PoolAct, PoolSize, Producer, Store, Word, fetch, finish_refusal, groups, has_ended, linked_cells, next_link}
use Rattle.mb_cells.specs.{offer_refusal, part, part_at, place_after, push_store, stage_finish_refusal, stage_of, stage_offer_refusal, stage_push_store}
use Rattle.mb_cells.specs.{store}
use Rattle.mb_cells.specs.Place.{Ended, Full, Offered, Open, Stored}
use Rattle.mb_cells.proofs.EndMarks.{ended_is, is_ended}
use Rattle.mb_cells.proofs.Histories.{cells_at, cells_of, falls}
use Rattle.mb_cells.proofs.Items.{lower}
use Rattle.mb_cells.proofs.Names.{own_process}
use Rattle.mb_cells.proofs.Parts.{Has-of_part, Has-part}

-- whether in this phase an item has a cell that is not linked yet
abbrev is_pending : Phase → Bool
is_pending Open = false
is_pending (Offered e) = true
is_pending (Stored e) = true
is_pending (Full e) = false
is_pending (Ended r) = false

-- whether in this phase the last fetch-add found no cell, and the lane has not ended
abbrev found_none : Phase → Bool
found_none Open = false
found_none (Offered e) = false
found_none (Stored e) = false
found_none (Full e) = true
found_none (Ended r) = false

-- ---- when each call is refused, by the producer's phase
-- an offer is refused as Closed exactly after the end mark
closed_at : (phase : Phase) → (stage_offer_refusal (stage_of phase) ≡ Some offer.Closed) ↔ (is_ended phase ≡ true)
closed_at Open = (λ e. cc, λ e. cc)
closed_at (Offered x) = (λ e. cc, λ e. cc)
closed_at (Stored x) = (λ e. cc, λ e. cc)
closed_at (Full x) = (λ e. cc, λ e. cc)
closed_at (Ended None) = (λ e. refl, λ e. refl)
closed_at (Ended (Some x)) = (λ e. refl, λ e. refl)

-- an offer is refused as Busy exactly while an item is pending
busy_at : (phase : Phase) → (stage_offer_refusal (stage_of phase) ≡ Some offer.Busy) ↔ (is_pending phase ≡ true)
busy_at Open = (λ e. cc, λ e. cc)
busy_at (Offered x) = (λ e. refl, λ e. refl)
busy_at (Stored x) = (λ e. refl, λ e. refl)
busy_at (Full x) = (λ e. cc, λ e. cc)
busy_at (Ended None) = (λ e. cc, λ e. cc)
busy_at (Ended (Some x)) = (λ e. cc, λ e. cc)

-- an offer is refused as Full exactly after a fetch-add that found no cell, until the end mark
full_at : (phase : Phase) → (stage_offer_refusal (stage_of phase) ≡ Some offer.Full) ↔ (found_none phase ≡ true)
full_at Open = (λ e. cc, λ e. cc)
full_at (Offered x) = (λ e. cc, λ e. cc)
full_at (Stored x) = (λ e. cc, λ e. cc)
full_at (Full x) = (λ e. refl, λ e. refl)
full_at (Ended None) = (λ e. cc, λ e. cc)
full_at (Ended (Some x)) = (λ e. cc, λ e. cc)

-- a phase that is not Ended, with no item pending and no refused fetch-add, refuses no offer
free_at : (phase : Phase) → is_ended phase ≡ false → is_pending phase ≡ false → found_none phase ≡ false
    → stage_offer_refusal (stage_of phase) ≡ None
free_at Open e f g = refl
free_at (Offered x) e f g = absurd (cc)
free_at (Stored x) e f g = absurd (cc)
free_at (Full x) e f g = absurd (cc)
free_at (Ended r) e f g = absurd (cc)

-- a push stores nothing exactly if no item is pending
idle_at : (link : Word) (phase : Phase) → (stage_push_store link (stage_of phase) ≡ None) ↔ (is_pending phase ≡ false)
idle_at link Open = (λ e. refl, λ e. refl)
idle_at link (Offered x) = (λ e. cc, λ e. cc)
idle_at link (Stored x) = (λ e. cc, λ e. cc)
idle_at link (Full x) = (λ e. refl, λ e. refl)
idle_at link (Ended None) = (λ e. refl, λ e. refl)
idle_at link (Ended (Some x)) = (λ e. refl, λ e. refl)

-- a finish is refused as Closed exactly after the end mark
over_at : (phase : Phase) → (stage_finish_refusal (stage_of phase) ≡ Some finish.Closed) ↔ (is_ended phase ≡ true)
over_at Open = (λ e. cc, λ e. cc)
over_at (Offered x) = (λ e. cc, λ e. cc)
over_at (Stored x) = (λ e. cc, λ e. cc)
over_at (Full x) = (λ e. cc, λ e. cc)
over_at (Ended None) = (λ e. refl, λ e. refl)
over_at (Ended (Some x)) = (λ e. refl, λ e. refl)

-- a finish is refused as Busy exactly while an item is pending
held_at : (phase : Phase) → (stage_finish_refusal (stage_of phase) ≡ Some finish.Busy) ↔ (is_pending phase ≡ true)
held_at Open = (λ e. cc, λ e. cc)
held_at (Offered x) = (λ e. refl, λ e. refl)
held_at (Stored x) = (λ e. refl, λ e. refl)
held_at (Full x) = (λ e. cc, λ e. cc)
held_at (Ended None) = (λ e. cc, λ e. cc)
held_at (Ended (Some x)) = (λ e. cc, λ e. cc)

-- a phase that is not Ended, with no item pending, refuses no finish
done_at : (phase : Phase) → is_ended phase ≡ false → is_pending phase ≡ false
    → stage_finish_refusal (stage_of phase) ≡ None
done_at Open e f = refl
done_at (Offered x) e f = absurd (cc)
done_at (Stored x) e f = absurd (cc)
done_at (Full x) e f = refl
done_at (Ended r) e f = absurd (cc)

-- ---- which numbers a producer's fetch-adds gave, by its phase
-- the number that a fetch-add gave, and 0 for any other act
abbrev number_of : PoolAct → ℕ
number_of (FetchAdd x n) = n
number_of (Store v) = 0
number_of (Load v) = 0

-- equal fetch-adds gave equal numbers
same_cell : (p : ℕ) (e f : Entry) → fetch p e ≡ fetch p f → e.cell ≡ f.cell
same_cell p e f is = ap (λ (a : PoolAccess). number_of a.act) is

-- whether an act is a fetch-add
abbrev is_add : PoolAct → Bool
is_add (FetchAdd x n) = true
is_add (Store v) = false
is_add (Load v) = false

-- a store is no fetch-add
no_store : (p v : ℕ) (w : Word) (e : Entry) → store p w v ≡ fetch p e → ⊥
no_store p v w e is = let f : false ≡ true = ap (λ (a : PoolAccess). is_add a.act) is in cc

-- a fetch-add in the groups gave the cell of one of the entries
add_in : (p : ℕ) (es : List Entry) (e : Entry) → Has (groups p es) (fetch p e) → Has (cells_of es) e.cell
add_in p [] e has = absurd has
add_in p (x ∷ es) e (inl is) = absurd (no_store p (x.cell + 1) (place_after p es) e is)
add_in p (x ∷ es) e (inr (inl is)) = absurd (no_store p x.value (Item x.cell) e is)
add_in p (x ∷ es) e (inr (inr (inl is))) = inl (same_cell p x e is)
add_in p (x ∷ es) e (inr (inr (inr has))) = inr (add_in p es e has)

-- n may be a fetch-add's number since the last link: a cell's while an item is pending, past the cells if Full or Ended
abbrev IsLast : ℕ → Phase → ℕ → Type 0
IsLast cells Open n = ⊥
IsLast cells (Offered x) n = n < cells
IsLast cells (Stored x) n = n < cells
IsLast cells (Full x) n = cells ≤ n
IsLast cells (Ended r) n = cells ≤ n

-- each fetch-add of a producer gave the cell of a linked entry, or a number that `IsLast` allows
add_at : (cells p : ℕ) (es : List Entry) (phase : Phase) (d : History) → LaneIsAt cells p es phase d → (e : Entry)
    → Has (part_at p es phase) (fetch p e) → Has (cells_of es) e.cell ⊎ IsLast cells phase e.cell
add_at cells p es Open d at e has = inl (add_in p es e has)
add_at cells p es (Offered x) d at e (inl is) = inr (omega (arith, same_cell p x e is, at.fits))
add_at cells p es (Offered x) d at e (inr has) = inl (add_in p es e has)
add_at cells p es (Stored x) d at e (inl is) = absurd (no_store p x.value (Item x.cell) e is)
add_at cells p es (Stored x) d at e (inr (inl is)) = inr (omega (arith, same_cell p x e is, at.fits))
add_at cells p es (Stored x) d at e (inr (inr has)) = inl (add_in p es e has)
add_at cells p es (Full x) d at e (inl is) = inr (omega (arith, same_cell p x e is, at.fits))
add_at cells p es (Full x) d at e (inr has) = inl (add_in p es e has)
add_at cells p es (Ended None) d at e (inl is) = absurd (no_store p _ (place_after p es) e is)
add_at cells p es (Ended None) d at e (inr has) = inl (add_in p es e has)
add_at cells p es (Ended (Some x)) d at e (inl is) = absurd (no_store p _ (place_after p es) e is)
add_at cells p es (Ended (Some x)) d at e (inr (inl is)) = inr (omega (arith, same_cell p x e is, at.fits))
add_at cells p es (Ended (Some x)) d at e (inr (inr has)) = inl (add_in p es e has)

-- ---- the phase and the history say the same
module _ (size : PoolSize) (h : History) (p : ℕ) (lawful : IsPoolLawful size h) where
  module _ (es : List Entry) (phase : Phase) (at : LaneIsAt size.cells p es phase (part (Producer p) h)) where
    -- producer p made the fetch-add of this entry
    abbrev IsMade : Entry → Type 0
    IsMade e = Has h (fetch p e)

    -- each fetch-add in the producer's part is in the history
    made : (e : Entry) → Has (part_at p es phase) (fetch p e) → IsMade e
    made e has = Has-of_part (Producer p) h (fetch p e) (subst (λ d. Has d (fetch p e)) (sym at.is) has)

    -- each fetch-add of the producer gave a cell that is linked, or a number that `IsLast` allows
    add_of : (e : Entry) → IsMade e → Has (linked_cells p h) e.cell ⊎ IsLast size.cells phase e.cell
    add_of e has =
        elim (add_at size.cells p es phase (part (Producer p) h) at e
        (subst (λ d. Has d (fetch p e)) at.is
        (Has-part (Producer p) h (fetch p e) has (own_process (Producer p) (fetch p e) refl)))) [
          | inl there ↦ inl (subst (λ ks. Has ks e.cell) (sym (cells_at size p h es phase lawful.sized at)) there)
          | inr last ↦ inr last
        ]

    -- a cell above the cells of all entries is not linked
    no_link : (x : Entry) → AllCellsBelow x.cell es → Has (linked_cells p h) x.cell → ⊥
    no_link x above has =
        let less : x.cell < x.cell =
        lower x.cell x.cell es above (subst (λ ks. Has ks x.cell) (cells_at size p h es phase lawful.sized at) has) in
        omega (arith, less)

    -- a linked cell is one of the pool
    link_within : (e : Entry) → Has (linked_cells p h) e.cell → e.cell < size.cells
    link_within e has =
        lower size.cells e.cell es at.below
        (subst (λ ks. Has ks e.cell) (cells_at size p h es phase lawful.sized at) has)

  -- if the phase has an item pending, so has the history
  pending_at : (es : List Entry) (phase : Phase) (at : LaneIsAt size.cells p es phase (part (Producer p) h))
      → is_pending phase ≡ true → HasPending size.cells p h
  pending_at es Open at e = absurd (cc)
  pending_at es (Offered x) at e = record {
    entry = x;
    offered = made es (Offered x) at x (inl refl);
    got = at.fits;
    unlinked = no_link es (Offered x) at x (falls size p h es (Offered x) lawful at).1;
  }
  pending_at es (Stored x) at e = record {
    entry = x;
    offered = made es (Stored x) at x (inr (inl refl));
    got = at.fits;
    unlinked = no_link es (Stored x) at x (falls size p h es (Stored x) lawful at).1;
  }
  pending_at es (Full x) at e = absurd (cc)
  pending_at es (Ended r) at e = absurd (cc)

  -- if `IsLast` allows n, and n is a cell's number, the phase has an item pending
  last_pending : (phase : Phase) (n : ℕ) → n < size.cells → IsLast size.cells phase n → is_pending phase ≡ true
  last_pending Open n got last = absurd last
  last_pending (Offered x) n got last = refl
  last_pending (Stored x) n got last = refl
  last_pending (Full x) n got last = absurd (omega (arith, got, last))
  last_pending (Ended r) n got last = absurd (omega (arith, got, last))

  -- if the history has an item pending, so has the phase
  pending_tells : (es : List Entry) (phase : Phase) → LaneIsAt size.cells p es phase (part (Producer p) h)
      → HasPending size.cells p h → is_pending phase ≡ true
  pending_tells es phase at pending = elim (add_of es phase at pending.entry pending.offered) [
    | inl linked ↦ absurd (pending.unlinked linked)
    | inr last ↦ last_pending phase pending.entry.cell pending.got last
  ]

  -- if the phase says that a fetch-add found no cell, so does the history, and the lane has not ended
  none_at : (es : List Entry) (phase : Phase) (at : LaneIsAt size.cells p es phase (part (Producer p) h))
      → found_none phase ≡ true → (is_ended phase ≡ false) × HasFoundNone size.cells p h
  none_at es Open at e = absurd (cc)
  none_at es (Offered x) at e = absurd (cc)
  none_at es (Stored x) at e = absurd (cc)
  none_at es (Full x) at e =
      (refl, record { entry = x; offered = made es (Full x) at x (inl refl); past = at.fits })
  none_at es (Ended r) at e = absurd (cc)

  -- if `IsLast` allows n past the cells, and the lane has not ended, the phase says that a fetch-add found no cell
  last_none : (phase : Phase) (n : ℕ) → size.cells ≤ n → is_ended phase ≡ false → IsLast size.cells phase n
      → found_none phase ≡ true
  last_none Open n past still last = absurd last
  last_none (Offered x) n past still last = absurd (omega (arith, past, last))
  last_none (Stored x) n past still last = absurd (omega (arith, past, last))
  last_none (Full x) n past still last = refl
  last_none (Ended r) n past still last = absurd (cc)

  -- if in the history a fetch-add found no cell, and the lane has not ended, the phase says so
  none_tells : (es : List Entry) (phase : Phase) → LaneIsAt size.cells p es phase (part (Producer p) h)
      → is_ended phase ≡ false → HasFoundNone size.cells p h → found_none phase ≡ true
  none_tells es phase at still none = elim (add_of es phase at none.entry none.offered) [
    | inl linked ↦ absurd (omega (arith, none.past, link_within es phase at none.entry linked))
    | inr last ↦ last_none phase none.entry.cell none.past still last
  ]

  -- ---- when each call of a lane is refused, by the history
  module _ (lane : Lane) (here : IsLaneAfter size.cells p lane (part (Producer p) h)) where
    -- the lane has ended exactly if the phase is Ended
    ended : has_ended p h ≡ is_ended here.phase
    ended = ended_is size.cells p h here.entries here.phase lawful.sized here.at

    -- the lane's stage refuses an offer, a finish and a push just as the phase does
    offers : offer_refusal lane ≡ stage_offer_refusal (stage_of here.phase)
    offers = ap stage_offer_refusal here.stage

    finishes : finish_refusal lane ≡ stage_finish_refusal (stage_of here.phase)
    finishes = ap stage_finish_refusal here.stage

    pushes : push_store p lane ≡ stage_push_store (next_link p lane) (stage_of here.phase)
    pushes = ap (stage_push_store (next_link p lane)) here.stage

    -- if the history has no item pending, nor has the phase
    not_pending : (HasPending size.cells p h → ⊥) → is_pending here.phase ≡ false
    not_pending none = elim (cases_Bool (is_pending here.phase)) [
      | inl e ↦ absurd (none (pending_at here.entries here.phase here.at e))
      | inr e ↦ e
    ]

    -- if the lane has not ended, and each fetch-add in the history found a cell, the phase says so too
    not_none : (is_ended here.phase ≡ false) → (HasFoundNone size.cells p h → ⊥) → found_none here.phase ≡ false
    not_none still none = elim (cases_Bool (found_none here.phase)) [
      | inl e ↦ absurd (none (none_at here.entries here.phase here.at e).1)
      | inr e ↦ e
    ]

    -- an offer is refused as Closed exactly if the lane has ended
    pub closed : (offer_refusal lane ≡ Some offer.Closed) ↔ (has_ended p h ≡ true)
    closed = (
      λ e. ended ∙ (closed_at here.phase).0 (sym offers ∙ e),
      λ e. offers ∙ (closed_at here.phase).1 (sym ended ∙ e),
    )

    -- an offer is refused as Busy exactly if an item is pending
    pub busy : (offer_refusal lane ≡ Some offer.Busy) ↔ HasPending size.cells p h
    busy = (
      λ e. pending_at here.entries here.phase here.at ((busy_at here.phase).0 (sym offers ∙ e)),
      λ pending. offers ∙ (busy_at here.phase).1 (pending_tells here.entries here.phase here.at pending),
    )

    -- an offer is refused as Full exactly if a fetch-add found no cell, and the lane has not ended
    pub full : (offer_refusal lane ≡ Some offer.Full) ↔ ((has_ended p h ≡ false) × HasFoundNone size.cells p h)
    full = (
      λ e.
          let none = none_at here.entries here.phase here.at ((full_at here.phase).0 (sym offers ∙ e)) in
          (ended ∙ none.0, none.1),
      λ none.
          offers
          ∙ (full_at here.phase).1 (none_tells here.entries here.phase here.at (sym ended ∙ none.0) none.1),
    )

    -- if the lane has not ended, no item is pending, and each fetch-add found a cell, an offer is not refused
    pub free : has_ended p h ≡ false → (HasPending size.cells p h → ⊥) → (HasFoundNone size.cells p h → ⊥)
        → offer_refusal lane ≡ None
    free still pending none =
        let e = sym ended ∙ still in
        offers ∙ free_at here.phase e (not_pending pending) (not_none e none)

    -- a push stores nothing exactly if no item is pending
    pub idle : (push_store p lane ≡ None) ↔ (HasPending size.cells p h → ⊥)
    idle = (
      λ e pending.
          let f : is_pending here.phase ≡ false = (idle_at (next_link p lane) here.phase).0 (sym pushes ∙ e) in
          let g : is_pending here.phase ≡ true = pending_tells here.entries here.phase here.at pending in
          cc,
      λ none. pushes ∙ (idle_at (next_link p lane) here.phase).1 (not_pending none),
    )

    -- a finish is refused as Closed exactly if the lane has ended
    pub over : (finish_refusal lane ≡ Some finish.Closed) ↔ (has_ended p h ≡ true)
    over = (
      λ e. ended ∙ (over_at here.phase).0 (sym finishes ∙ e),
      λ e. finishes ∙ (over_at here.phase).1 (sym ended ∙ e),
    )

    -- a finish is refused as Busy exactly if an item is pending
    pub held : (finish_refusal lane ≡ Some finish.Busy) ↔ HasPending size.cells p h
    held = (
      λ e. pending_at here.entries here.phase here.at ((held_at here.phase).0 (sym finishes ∙ e)),
      λ pending. finishes ∙ (held_at here.phase).1 (pending_tells here.entries here.phase here.at pending),
    )

    -- if the lane has not ended, and no item is pending, a finish is not refused
    pub may_finish : has_ended p h ≡ false → (HasPending size.cells p h → ⊥) → finish_refusal lane ≡ None
    may_finish still pending = finishes ∙ done_at here.phase (sym ended ∙ still) (not_pending pending)
