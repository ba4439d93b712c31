-- A prefix of a lane path puts its producer at one place, and at no other.
use Rattle.std.proofs.Common.{Bool, List, None, Option, Some, [], ap, arith, false, inl, inr, refl, subst, sym, true, ℕ, ◌++◌, ◌+◌, ◌∙◌, ◌∷◌, ◌≡◌, ◌⊎◌}
use Rattle.mb_cells.specs.{AllCellsBelow, END, Entry, FetchAdd, FindsNoCell, Has, History, LaneIsAt, IsLanePrefix, Item, Phase, PoolAccess, Steps, Store}
use Rattle.mb_cells.specs.{Word, ending, ends_lane, ends_refused, fetch, fills_cell, finds_none, groups, links_cell, part_at, place_after, refusal, store}
use Rattle.mb_cells.specs.{takes_cell}
use Rattle.mb_cells.specs.Place.{Ended, Full, Offered, Open, Stored}

-- a producer that has done this stands at some place
pub record IsSomewhere (cells p : ℕ) (done : History) : Type 0 where
  pub entries : List Entry
  pub phase : Phase
  pub at : LaneIsAt cells p entries phase done

-- a producer stands at some place if later accesses make what it did whole groups (a fetch-add and two stores each)
in_groups : (cells p : ℕ) (es : List Entry) (later done : History) → AllCellsBelow cells es
    → later ++ done ≡ groups p es → IsSomewhere cells p done
in_groups cells p es [] done b h =
    record { entries = es; phase = Open; at = record { below = b; fits = tt; is = h } }
in_groups cells p [] (x ∷ later) done b h = absurd (cc)
in_groups cells p (e ∷ es) (x ∷ []) done b h =
    record { entries = es; phase = Stored e; at = record { below = b.1; fits = b.0; is = cc } }
in_groups cells p (e ∷ es) (x ∷ y ∷ []) done b h =
    record { entries = es; phase = Offered e; at = record { below = b.1; fits = b.0; is = cc } }
in_groups cells p (e ∷ es) (x ∷ y ∷ z ∷ later) done b h = in_groups cells p es later done b.1 (cc)

-- a producer stands at some place if later accesses make what it did groups, and perhaps a fetch-add without a cell
in_refusal : (cells p : ℕ) (es : List Entry) (r : Option Entry) (later done : History) → AllCellsBelow cells es
    → FindsNoCell cells r → later ++ done ≡ refusal p r (groups p es) → IsSomewhere cells p done
in_refusal cells p es None later done b f h = in_groups cells p es later done b h
in_refusal cells p es (Some e) [] done b f h =
    record { entries = es; phase = Full e; at = record { below = b; fits = f; is = h } }
in_refusal cells p es (Some e) (x ∷ later) done b f h = in_groups cells p es later done b (cc)

-- a producer stands at some place if later accesses make what it did groups, perhaps a refusal, perhaps an end mark
in_ending : (cells p : ℕ) (es : List Entry) (r : Option Entry) (ended : Bool) (later done : History)
    → AllCellsBelow cells es → FindsNoCell cells r
    → later ++ done ≡ ending p (place_after p es) ended (refusal p r (groups p es)) → IsSomewhere cells p done
in_ending cells p es r false later done b f h = in_refusal cells p es r later done b f h
in_ending cells p es r true [] done b f h =
    record { entries = es; phase = Ended r; at = record { below = b; fits = f; is = h } }
in_ending cells p es r true (x ∷ later) done b f h = in_refusal cells p es r later done b f (cc)

-- a producer whose part is a prefix of a lane path stands at some place
pub somewhere : (cells p : ℕ) (done : History) → IsLanePrefix cells p done → IsSomewhere cells p done
somewhere cells p done h =
    in_ending cells p h.lawful.entries h.lawful.refused h.lawful.ended h.later done h.lawful.below h.lawful.above
    (h.is ∙ h.lawful.is)

-- if later accesses make what was done a whole path, what was done is a prefix of a lane path
whole : (cells p : ℕ) (es : List Entry) (r : Option Entry) (ended : Bool) → AllCellsBelow cells es
    → FindsNoCell cells r → (later done : History)
    → later ++ done ≡ ending p (place_after p es) ended (refusal p r (groups p es)) → IsLanePrefix cells p done
whole cells p es r ended b f later done h = record {
  path = later ++ done;
  later = later;
  lawful = record { entries = es; refused = r; ended = ended; below = b; above = f; is = h };
  is = refl;
}

-- what a producer at a place has done is a prefix of a lane path
pub prefix_at : (cells p : ℕ) (es : List Entry) (phase : Phase) (done : History) → LaneIsAt cells p es phase done
    → IsLanePrefix cells p done
prefix_at cells p es Open done h = whole cells p es None false h.below tt [] done h.is
prefix_at cells p es (Offered e) done h =
    whole cells p (e ∷ es) None false (h.fits, h.below) tt
    (store p (place_after p es) (e.cell + 1) ∷ store p (Item e.cell) e.value ∷ []) done
    (ap (λ l. store p (place_after p es) (e.cell + 1) ∷ store p (Item e.cell) e.value ∷ l) h.is)
prefix_at cells p es (Stored e) done h =
    whole cells p (e ∷ es) None false (h.fits, h.below) tt (store p (place_after p es) (e.cell + 1) ∷ []) done
    (ap (λ l. store p (place_after p es) (e.cell + 1) ∷ l) h.is)
prefix_at cells p es (Full e) done h = whole cells p es (Some e) false h.below h.fits [] done h.is
prefix_at cells p es (Ended r) done h = whole cells p es r true h.below h.fits [] done h.is

-- where a producer stood before its newest access
pub record CameFrom (cells p : ℕ) (es : List Entry) (phase : Phase) (a : PoolAccess) (d : History) : Type 0 where
  pub entries : List Entry
  pub was : Phase
  pub at : LaneIsAt cells p entries was d
  pub by : Steps cells p entries was a es phase

-- a producer at a place made its newest access by one step (`Steps`) from the place before
pub came_from : (cells p : ℕ) (es : List Entry) (phase : Phase) (a : PoolAccess) (d : History)
    → LaneIsAt cells p es phase (a ∷ d) → CameFrom cells p es phase a d
came_from cells p [] Open a d at = absurd (let e : a ∷ d ≡ [] = at.is in cc)
came_from cells p (e ∷ es) Open a d at =
    let whole : a ∷ d ≡ groups p (e ∷ es) = at.is in
    let first : a ≡ store p (place_after p es) (e.cell + 1) = cc in
    let rest : d ≡ part_at p es (Stored e) = cc in
    record {
      entries = es;
      was = Stored e;
      at = record { below = at.below.1; fits = at.below.0; is = rest };
      by = subst (λ x. Steps cells p es (Stored e) x (e ∷ es) Open) (sym first) (links_cell es e);
    }
came_from cells p es (Offered e) a d at =
    let whole : a ∷ d ≡ fetch p e ∷ groups p es = at.is in
    let first : a ≡ fetch p e = cc in
    let rest : d ≡ part_at p es Open = cc in
    record {
      entries = es;
      was = Open;
      at = record { below = at.below; fits = tt; is = rest };
      by = subst (λ x. Steps cells p es Open x es (Offered e)) (sym first) (takes_cell es e at.fits);
    }
came_from cells p es (Stored e) a d at =
    let whole : a ∷ d ≡ store p (Item e.cell) e.value ∷ fetch p e ∷ groups p es = at.is in
    let first : a ≡ store p (Item e.cell) e.value = cc in
    let rest : d ≡ part_at p es (Offered e) = cc in
    record {
      entries = es;
      was = Offered e;
      at = record { below = at.below; fits = at.fits; is = rest };
      by = subst (λ x. Steps cells p es (Offered e) x es (Stored e)) (sym first) (fills_cell es e);
    }
came_from cells p es (Full e) a d at =
    let whole : a ∷ d ≡ fetch p e ∷ groups p es = at.is in
    let first : a ≡ fetch p e = cc in
    let rest : d ≡ part_at p es Open = cc in
    record {
      entries = es;
      was = Open;
      at = record { below = at.below; fits = tt; is = rest };
      by = subst (λ x. Steps cells p es Open x es (Full e)) (sym first) (finds_none es e at.fits);
    }
came_from cells p es (Ended None) a d at =
    let whole : a ∷ d ≡ store p (place_after p es) END ∷ groups p es = at.is in
    let first : a ≡ store p (place_after p es) END = cc in
    let rest : d ≡ part_at p es Open = cc in
    record {
      entries = es;
      was = Open;
      at = record { below = at.below; fits = tt; is = rest };
      by = subst (λ x. Steps cells p es Open x es (Ended None)) (sym first) (ends_lane es);
    }
came_from cells p es (Ended (Some e)) a d at =
    let whole : a ∷ d ≡ store p (place_after p es) END ∷ (fetch p e ∷ groups p es) = at.is in
    let first : a ≡ store p (place_after p es) END = cc in
    let rest : d ≡ part_at p es (Full e) = cc in
    record {
      entries = es;
      was = Full e;
      at = record { below = at.below; fits = at.fits; is = rest };
      by = subst (λ x. Steps cells p es (Full e) x es (Ended (Some e))) (sym first) (ends_refused es e);
    }

-- a producer that makes a step stands after it at the place where the step leads
pub goes_on : (cells p : ℕ) (es fs : List Entry) (was now : Phase) (a : PoolAccess) (d : History)
    → Steps cells p es was a fs now → LaneIsAt cells p es was d → LaneIsAt cells p fs now (a ∷ d)
goes_on cells p es fs was now a d (takes_cell _ e b) at =
    record { below = at.below; fits = b; is = ap (λ l. fetch p e ∷ l) at.is }
goes_on cells p es fs was now a d (finds_none _ e b) at =
    record { below = at.below; fits = b; is = ap (λ l. fetch p e ∷ l) at.is }
goes_on cells p es fs was now a d (fills_cell _ e) at =
    record { below = at.below; fits = at.fits; is = ap (λ l. store p (Item e.cell) e.value ∷ l) at.is }
goes_on cells p es fs was now a d (links_cell _ e) at =
    record { below = (at.fits, at.below); fits = tt; is = ap (λ l. store p (place_after p es) (e.cell + 1) ∷ l) at.is }
goes_on cells p es fs was now a d (ends_lane _) at =
    record { below = at.below; fits = tt; is = ap (λ l. store p (place_after p es) END ∷ l) at.is }
goes_on cells p es fs was now a d (ends_refused _ e) at =
    record { below = at.below; fits = at.fits; is = ap (λ l. store p (place_after p es) END ∷ l) at.is }

-- equal accesses have equal acts
act_of : (a b : PoolAccess) → a ≡ b → a.act ≡ b.act
act_of a b e = ap (λ (x : PoolAccess). x.act) e

-- equal fetch-adds are of equal entries
same_entry : (e f : Entry) (p : ℕ) → fetch p e ≡ fetch p f → e ≡ f
same_entry e f p is =
    let acts : FetchAdd e.value e.cell ≡ FetchAdd f.value f.cell = act_of (fetch p e) (fetch p f) is in
    let cell : e.cell ≡ f.cell = cc in
    let value : e.value ≡ f.value = cc in
    ap (λ x. record { cell = x; value = e.value }) cell ∙ ap (λ x. record { cell = f.cell; value = x }) value

-- steps from one place by the same access lead to the same place
steps_once : (cells p : ℕ) (es fs gs : List Entry) (was now then : Phase) (a b : PoolAccess) → a ≡ b
    → Steps cells p es was a fs now → Steps cells p es was b gs then → (fs ≡ gs) × (now ≡ then)
steps_once cells p es fs gs was now then a b is (takes_cell _ e x) (takes_cell _ f y) =
    (refl, ap Offered (same_entry e f p is))
steps_once cells p es fs gs was now then a b is (takes_cell _ e x) (finds_none _ f y) =
    let same : e.cell ≡ f.cell = ap (λ (z : Entry). z.cell) (same_entry e f p is) in
    absurd (omega arith)
steps_once cells p es fs gs was now then a b is (takes_cell _ e x) (ends_lane _) =
    absurd (let acts : FetchAdd e.value e.cell ≡ Store END = act_of a b is in cc)
steps_once cells p es fs gs was now then a b is (finds_none _ e x) (takes_cell _ f y) =
    let same : e.cell ≡ f.cell = ap (λ (z : Entry). z.cell) (same_entry e f p is) in
    absurd (omega arith)
steps_once cells p es fs gs was now then a b is (finds_none _ e x) (finds_none _ f y) =
    (refl, ap Full (same_entry e f p is))
steps_once cells p es fs gs was now then a b is (finds_none _ e x) (ends_lane _) =
    absurd (let acts : FetchAdd e.value e.cell ≡ Store END = act_of a b is in cc)
steps_once cells p es fs gs was now then a b is (fills_cell _ e) (fills_cell _ f) = (refl, refl)
steps_once cells p es fs gs was now then a b is (links_cell _ e) (links_cell _ f) = (refl, refl)
steps_once cells p es fs gs was now then a b is (ends_lane _) (takes_cell _ f y) =
    absurd (let acts : Store END ≡ FetchAdd f.value f.cell = act_of a b is in cc)
steps_once cells p es fs gs was now then a b is (ends_lane _) (finds_none _ f y) =
    absurd (let acts : Store END ≡ FetchAdd f.value f.cell = act_of a b is in cc)
steps_once cells p es fs gs was now then a b is (ends_lane _) (ends_lane _) = (refl, refl)
steps_once cells p es fs gs was now then a b is (ends_refused _ e) (ends_refused _ f) = (refl, refl)

-- a producer that has done nothing has linked no entry, and its phase is Open
at_start : (cells p : ℕ) (es : List Entry) (phase : Phase) → LaneIsAt cells p es phase [] → (es ≡ []) × (phase ≡ Open)
at_start cells p [] Open at = (refl, refl)
at_start cells p (e ∷ es) Open at = absurd (let is : [] ≡ groups p (e ∷ es) = at.is in cc)
at_start cells p es (Offered e) at = absurd (let is : [] ≡ fetch p e ∷ groups p es = at.is in cc)
at_start cells p es (Stored e) at =
    absurd (let is : [] ≡ store p (Item e.cell) e.value ∷ fetch p e ∷ groups p es = at.is in cc)
at_start cells p es (Full e) at = absurd (let is : [] ≡ fetch p e ∷ groups p es = at.is in cc)
at_start cells p es (Ended r) at =
    absurd (let is : [] ≡ store p (place_after p es) END ∷ refusal p r (groups p es) = at.is in cc)

-- a producer stands at one place: two places that fit what it has done are the same
pub one_place : (cells p : ℕ) (es fs : List Entry) (phase other : Phase) (d : History) → LaneIsAt cells p es phase d
    → LaneIsAt cells p fs other d → (es ≡ fs) × (phase ≡ other)
one_place cells p es fs phase other [] x y =
    let s = at_start cells p es phase x in
    let t = at_start cells p fs other y in
    (s.0 ∙ sym t.0, s.1 ∙ sym t.1)
one_place cells p es fs phase other (a ∷ d) x y =
    let c = came_from cells p es phase a d x in
    let k = came_from cells p fs other a d y in
    let before = one_place cells p c.entries k.entries c.was k.was d c.at k.at in
    let step : Steps cells p k.entries k.was a es phase =
    subst (λ z. Steps cells p z k.was a es phase) before.0
    (subst (λ z. Steps cells p c.entries z a es phase) before.1 c.by) in
    steps_once cells p k.entries es fs k.was phase other a a refl step k.by

-- the access is a step of producer p from this place to some place
pub record NextStep (cells p : ℕ) (es : List Entry) (phase : Phase) (a : PoolAccess) : Type 0 where
  pub entries : List Entry
  pub then : Phase
  pub step : Steps cells p es phase a entries then

-- if a producer's part goes on with an access, that access is a step from its place
pub steps_only : (cells p : ℕ) (es : List Entry) (phase : Phase) (a : PoolAccess) (d : History)
    → LaneIsAt cells p es phase d
    → IsLanePrefix cells p (a ∷ d) → NextStep cells p es phase a
steps_only cells p es phase a d at prefix =
    let s = somewhere cells p (a ∷ d) prefix in
    let c = came_from cells p s.entries s.phase a d s.at in
    let same = one_place cells p c.entries es c.was phase d c.at at in
    record {
      entries = s.entries;
      then = s.phase;
      step = subst (λ z. Steps cells p z phase a s.entries s.phase) same.0
          (subst (λ z. Steps cells p c.entries z a s.entries s.phase) same.1 c.by);
    }

-- an access of producer p: a fetch-add for an item, or a store
abbrev pub IsFetchOrStore : ℕ → PoolAccess → Type 0
IsFetchOrStore p a = ((e : Entry) × (a ≡ fetch p e)) ⊎ ((w : Word) × ((v : ℕ) × (a ≡ store p w v)))

-- the access of each step is a fetch-add or a store
pub step_kind : (cells p : ℕ) (es fs : List Entry) (was now : Phase) (a : PoolAccess) → Steps cells p es was a fs now
    → IsFetchOrStore p a
step_kind cells p es fs was now a (takes_cell _ e b) = inl (e, refl)
step_kind cells p es fs was now a (finds_none _ e b) = inl (e, refl)
step_kind cells p es fs was now a (fills_cell _ e) = inr (Item e.cell, (e.value, refl))
step_kind cells p es fs was now a (links_cell _ e) = inr (place_after p es, (e.cell + 1, refl))
step_kind cells p es fs was now a (ends_lane _) = inr (place_after p es, (END, refl))
step_kind cells p es fs was now a (ends_refused _ e) = inr (place_after p es, (END, refl))

-- each access of a producer that stands at a place is a fetch-add or a store
pub kind_at : (cells p : ℕ) (d : History) (es : List Entry) (phase : Phase) (a : PoolAccess)
    → LaneIsAt cells p es phase d → Has d a → IsFetchOrStore p a
kind_at cells p [] es phase a at has = absurd has
kind_at cells p (b ∷ d) es phase a at (inl is) =
    let c = came_from cells p es phase b d at in
    subst (IsFetchOrStore p) is (step_kind cells p c.entries es c.was phase b c.by)
kind_at cells p (b ∷ d) es phase a at (inr has) =
    let c = came_from cells p es phase b d at in
    kind_at cells p d c.entries c.was a c.at has
