-- The items that are moved into the outline of a report, list by list, make the whole report.
use Rattle.std.proofs.Common.{◌≡◌, ◌≢◌, ℕ, zero, suc, ◌+◌, ◌<◌, ◌≤◌, List, [], ◌∷◌, ◌++◌, length, get_or, set, refl, sym, ap, ◌∙◌, subst, arith}
use Rattle.std.specs.Prelude.{Option, Some, None, slice_get}
use Rattle.std.specs.Option.{option_map, option_map_or}
use Rattle.mb_world.specs.Theorem.{LaneView, ReportView}
use Rattle.mb_mailbox.specs.Imports.{CellsName, ClaimTable, claims_at, consumer_count}
use Rattle.mb_mailbox.specs.Filling.{changed_at, changed_from, with_items}
use Rattle.mb_mailbox.specs.Gathering.{IsOutlineIn, IsReportIn, lane_in, lane_outline}
use Rattle.mb_mailbox.specs.Hubs.{HubView, IsHubOf, PutListView}
use Rattle.mb_mailbox.specs.Mailboxes.{MailboxView}
use Rattle.mb_mailbox.proofs.Listed.{within_grid}
use Rattle.mb_mailbox.proofs.Lists.{some_same}
use Rattle.mb_mailbox.proofs.TakenIn.{kept_of}

-- ---- changes that are made from the last one on
-- if the list of changes gets one more at its end, that one is made before all others
last_first : {X Y : Type 0} (change : Y → X → X) (n : ℕ) (ys : List Y) (y : Y) (xs : List X)
    → changed_from change n (ys ++ y ∷ []) xs
    ≡ changed_from change n ys (changed_at xs (n + length ys) (change y))
last_first change n [] y xs = let same : n ≡ n + 0 = omega arith in ap (λ i. changed_at xs i (change y)) same
last_first change n (z ∷ ys) y xs =
    let same : suc n + length ys ≡ n + suc (length ys) = omega arith in
    ap (λ us. changed_at us n (change z)) (last_first change (suc n) ys y xs
    ∙ ap (λ i. changed_from change (suc n) ys (changed_at xs i (change y))) same)

-- to set element i to what f makes of it is to change element i by f
set_changed : {X : Type 0} (xs : List X) (i : ℕ) (f : X → X) (x new : X) → i < length xs → x ≡ get_or xs i x
    → new ≡ f x → set xs i new ≡ changed_at xs i f
set_changed [] i f x new low is made = absurd (omega arith)
set_changed (y ∷ xs) zero f x new low is made = ap (λ z. z ∷ xs) (made ∙ ap f is)
set_changed (y ∷ xs) (suc i) f x new low is made =
    ap (λ zs. y ∷ zs) (set_changed xs i f x new (omega (arith, low)) is made)

-- if the last of the changes is taken off the list and made, the other changes lead to the same list as all of them
pub turned : {X Y : Type 0} (change : Y → X → X) (n : ℕ) (ys zs : List Y) (y : Y) (xs rest : List X) (i : ℕ) (x new : X)
    → zs ≡ ys ++ y ∷ [] → i ≡ n + length ys → i < length xs → x ≡ get_or xs i x → new ≡ change y x
    → changed_from change n zs xs ≡ rest → changed_from change n ys (set xs i new) ≡ rest
turned change n ys zs y xs rest i x new e at low is made same =
    ap (changed_from change n ys)
    (set_changed xs i (change y) x new low is made ∙ ap (λ j. changed_at xs j (change y)) at)
    ∙ sym (last_first change n ys y xs) ∙ ap (λ us. changed_from change n us xs) (sym e) ∙ same

-- ---- changes leave the length of a list as it is
changed_length : {X : Type 0} (xs : List X) (i : ℕ) (f : X → X) → length (changed_at xs i f) ≡ length xs
changed_length [] i f = refl
changed_length (x ∷ xs) zero f = refl
changed_length (x ∷ xs) (suc i) f = ap suc (changed_length xs i f)

-- a list whose elements are changed keeps its length
all_length : {X Y : Type 0} (change : Y → X → X) (n : ℕ) (ys : List Y) (xs : List X)
    → length (changed_from change n ys xs) ≡ length xs
all_length change n [] xs = refl
all_length change n (y ∷ ys) xs =
    changed_length (changed_from change (suc n) ys xs) n (change y) ∙ all_length change (suc n) ys xs

-- ---- the element at a place, in a list with changes
changed_here : {X : Type 0} (xs : List X) (i : ℕ) (f : X → X)
    → slice_get (changed_at xs i f) i ≡ option_map f (slice_get xs i)
changed_here [] i f = refl
changed_here (x ∷ xs) zero f = refl
changed_here (x ∷ xs) (suc i) f = changed_here xs i f

changed_else : {X : Type 0} (xs : List X) (i k : ℕ) (f : X → X) → k ≢ i
    → slice_get (changed_at xs i f) k ≡ slice_get xs k
changed_else [] i k f ne = refl
changed_else (x ∷ xs) zero zero f ne = absurd (ne refl)
changed_else (x ∷ xs) zero (suc k) f ne = refl
changed_else (x ∷ xs) (suc i) zero f ne = refl
changed_else (x ∷ xs) (suc i) (suc k) f ne = changed_else xs i k f (λ e. ne (ap suc e))

module _ {X Y : Type 0} (change : Y → X → X) where
  -- no element before the changes is changed
  before : (n k : ℕ) (ys : List Y) (xs : List X) → k < n → slice_get (changed_from change n ys xs) k ≡ slice_get xs k
  before n k [] xs low = refl
  before n k (y ∷ ys) xs low =
      let other : k ≢ n = λ e. omega (arith, e, low) in
      changed_else (changed_from change (suc n) ys xs) n k (change y) other
      ∙ before (suc n) k ys xs (omega (arith, low))

  -- no element past the changes is changed
  past : (n k : ℕ) (ys : List Y) (xs : List X) → n + length ys ≤ k
      → slice_get (changed_from change n ys xs) k ≡ slice_get xs k
  past n k [] xs high = refl
  past n k (y ∷ ys) xs high =
      let other : k ≢ n = λ e. omega (arith, e, high) in
      changed_else (changed_from change (suc n) ys xs) n k (change y) other
      ∙ past (suc n) k ys xs (omega (arith, high))

  -- element n + j is changed by change j, which is y
  within : (n j k : ℕ) (ys : List Y) (xs : List X) (y : Y) → slice_get ys j ≡ Some y → k ≡ n + j
      → slice_get (changed_from change n ys xs) k ≡ option_map (change y) (slice_get xs k)
  within n j k [] xs y e at = absurd (cc)
  within n zero k (z ∷ ys) xs y e at =
      let same : k ≡ n = omega (arith, at) in
      let rest = changed_from change (suc n) ys xs in
      ap (λ i. slice_get (changed_at rest n (change z)) i) same ∙ changed_here rest n (change z)
      ∙ (λ i. option_map (change (some_same z y e i)) (slice_get rest (sym same i)))
      ∙ ap (option_map (change y)) (before (suc n) k ys xs (omega (arith, same)))
  within n (suc j) k (z ∷ ys) xs y e at =
      let other : k ≢ n = λ f. omega (arith, f, at) in
      changed_else (changed_from change (suc n) ys xs) n k (change z) other
      ∙ within (suc n) j k ys xs y e (omega (arith, at))

-- if a list has no element at a place, the place is past its end
none_past : {X : Type 0} (xs : List X) (k : ℕ) → slice_get xs k ≡ None → length xs ≤ k
none_past [] k e = omega arith
none_past (x ∷ xs) zero e = absurd (cc)
none_past (x ∷ xs) (suc k) e = let low = none_past xs k e in omega (arith, low)

-- ---- the lanes of the report
-- the outline of a lane, with the items put added, is the lane of the report
put_is : (n p : ℕ) (h : HubView) (z : Option (Option PutListView)) → slice_get h.puts p ≡ z → (xs : List ℕ)
    → xs ≡ option_map_or (λ (l : PutListView). l.items) (kept_of z) []
    → record (lane_in n p h) { put = xs } ≡ lane_in n p h
put_is n p h z e xs is =
    ap (λ (ys : List ℕ). record (lane_in n p h) { put = ys })
    (is ∙ ap (λ o. option_map_or (λ (l : PutListView). l.items) (kept_of o) []) (sym e))

-- after the items are moved in, element p of the list is lane p of the report
lane_told : (n p : ℕ) (h : HubView) (ls : List LaneView) → slice_get ls p ≡ Some (lane_outline n p h)
    → slice_get (changed_from with_items 0 h.puts ls) p ≡ Some (lane_in n p h)
lane_told n p h ls out = by (slice_get h.puts p) refl
  where
    end : (o : Option PutListView) → slice_get h.puts p ≡ Some o
        → option_map (with_items o) (Some (lane_outline n p h)) ≡ Some (lane_in n p h)
    end None e = ap Some (put_is n p h (Some None) e [] refl)
    end (Some k) e = ap Some (put_is n p h (Some (Some k)) e k.items refl)

    by : (z : Option (Option PutListView)) → slice_get h.puts p ≡ z
        → slice_get (changed_from with_items 0 h.puts ls) p ≡ Some (lane_in n p h)
    by None e =
        past with_items 0 p h.puts ls (omega (arith, none_past h.puts p e)) ∙ out
        ∙ ap Some (put_is n p h None e [] refl)
    by (Some o) e = within with_items 0 p p h.puts ls o e (omega arith) ∙ ap (option_map (with_items o)) out ∙ end o e

-- ---- the report
-- the outline with all items moved in is the report
report_filled : (lanes consumers : ℕ) (h : HubView) (o : ReportView) (ls : List LaneView)
    → IsOutlineIn lanes consumers h o → ls ≡ changed_from with_items 0 h.puts o.lanes
    → IsReportIn lanes consumers h (record o { lanes = ls })
report_filled lanes consumers h o ls out is = record {
  lanes_count = ap length is ∙ all_length with_items 0 h.puts o.lanes ∙ out.each_lane.count;
  diaries_count = out.each_diary.count;
  lane = λ p low. ap (λ (xs : List LaneView). slice_get xs p) is
      ∙ lane_told consumers p h o.lanes (out.each_lane.each p low);
  diary = λ c p known low. out.each_diary.each c p low (within_grid lanes consumers c p known low);
}

-- the outline with all items moved in is the report, with the mailbox's numbers of lanes and of consumers
pub report_of : (m : MailboxView) (h : HubView) (o : ReportView) (ls : List LaneView) → IsHubOf m h
    → IsOutlineIn h.cells.table.size.lanes (claims_at h.claims.table).table.values h o
    → ls ≡ changed_from with_items 0 h.puts o.lanes
    → IsReportIn m.cells.size.lanes (consumer_count m.claims.layout) h (record o { lanes = ls })
report_of m h o ls belongs out is =
    let wide : h.cells.table.size.lanes ≡ m.cells.size.lanes = ap (λ (t : CellsName). t.size.lanes) belongs.cells in
    let many : (claims_at h.claims.table).table.values ≡ consumer_count m.claims.layout =
    ap (λ (t : ClaimTable). (claims_at t).table.values) belongs.claims in
    report_filled m.cells.size.lanes (consumer_count m.claims.layout) h o ls
    (subst (λ (z : ℕ × ℕ). IsOutlineIn z.0 z.1 h o) (λ j. (wide j, many j)) out) is
