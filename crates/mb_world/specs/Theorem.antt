-- The main theorem, of the report of every mailbox, whatever its threads did. A producer puts items (numbers) into its
-- *lane*, and may end it by an *end mark*. Consumers compete for each item: an attempt at one is a *claim*. A report
-- has of each lane the items put and those left, and of each consumer and lane a *diary*. Note j is on item j there:
--     Took x       the consumer took the item, which is x
--     Lost w       the consumer lost the item. Only consumer w can still take it, and perhaps never will
--     Undecided    the consumer's claim ended, and it neither took the item nor lost it
-- c, d, v, w are consumers, p is a lane or its producer, j a position: numbers (ℕ) from 0 on. r: report, t: assignment.
-- `n : K` says of what kind n is, the line `n .. = e` below it what n means. `f x y` is f of x and y, `λ x. e` the
-- function from x to e. A record of statements (`Type 0`) says that all of them hold. Skip `pub`, `abbrev`, `use`.
--     A → B    if A then B; a function from A to B      (x : A) → B    for all x of A: B     A ↔ B    A exactly if B
--     A × B    A and B             A ⊎ B    A or B      (x : A) × B    for some x of A: B    A → ⊥    not A
--     ≡, ≢     equal, not equal    suc j    j + 1       xs ++ ys   first xs, then ys         x ∷ xs   first x, then xs
--     nat_eq, nat_lt, is_none: whether =, <, None    IsSome o: not None    slice_get xs j: Some of element j, or None
--     option_map_or f o z: f of x if o is Some x, else z    filter_map f xs: each y such that f of an element is Some y
use Rattle.std.specs.Prelude.{ℕ, suc, ◌≡◌, ◌≢◌, ◌<◌, ◌≤◌, ◌↔◌, ◌⊎◌, ◌+◌, ◌*◌, Bool, true, false, nat_eq, nat_lt, List, [], ◌∷◌, ◌++◌, length, slice_get, Option, Some, None, IsSome, if◌then◌else◌}
use Rattle.std.specs.{List.filter_map, Option.is_none, Option.option_map_or}
use Rattle.mb_world.specs.declared.report.Note.{Note, TheVariants.Took, TheVariants.Lost, TheVariants.Undecided}
use Rattle.mb_world.specs.{Imports.History, Imports.Producer, Imports.has_ended, Imports.part, Plan.HasMetEnd}

pub record LaneView : Type 0 where
  pub put : List ℕ  -- the items put
  pub ended : Bool  -- whether the producer set its end mark (no point is about this field)
  pub left : List ℕ  -- the items that nobody took

pub record DiaryView : Type 0 where
  pub consumer : ℕ  -- whose diary it is, and of which lane (no point is about these two)
  pub lane : ℕ
  pub notes : List Note
  pub begun : Bool  -- whether a claim on the item after these notes is begun: it has made an access

pub record ReportView : Type 0 where
  pub lanes : List LaneView
  pub diaries : List DiaryView  -- consumer by consumer, lane by lane

abbrev pub items_put : ℕ → ReportView → List ℕ
items_put p r = option_map_or (λ l. l.put) (slice_get r.lanes p) []

abbrev pub items_left : ℕ → ReportView → List ℕ
items_left p r = option_map_or (λ l. l.left) (slice_get r.lanes p) []

abbrev pub diary : ℕ → ℕ → ReportView → Option DiaryView
diary c p r = if nat_lt p (length r.lanes) then slice_get r.diaries (c * length r.lanes + p) else None

abbrev pub notes : ℕ → ℕ → ReportView → List Note
notes c p r = option_map_or (λ d. d.notes) (diary c p r) []

abbrev pub is_begun : ℕ → ℕ → ReportView → Bool
is_begun c p r = option_map_or (λ d. d.begun) (diary c p r) false

abbrev pub note : ℕ → ℕ → ℕ → ReportView → Option Note  -- c's note on item j of lane p, if there is one
note c p j r = slice_get (notes c p r) j

abbrev pub HasTaken : ℕ → ℕ → ℕ → ReportView → Type 0
HasTaken c p j r = (x : ℕ) × (note c p j r ≡ Some (Took x))

abbrev pub HasLostTo : ℕ → ℕ → ℕ → ℕ → ReportView → Type 0
HasLostTo c w p j r = note c p j r ≡ Some (Lost w)

abbrev pub HasCompeted : ℕ → ℕ → ℕ → ReportView → Type 0  -- c has a note there, or has begun a claim there
HasCompeted c p j r = (j < length (notes c p r)) ⊎ ((length (notes c p r) ≡ j) × (is_begun c p r ≡ true))

abbrev pub HasTakenOrLost : ℕ → ℕ → ℕ → ReportView → Type 0
HasTakenOrLost c p j r = HasTaken c p j r ⊎ ((w : ℕ) × HasLostTo c w p j r)

abbrev pub item_taken : Note → Option ℕ
item_taken (Took x) = Some x
item_taken (Lost w) = None
item_taken Undecided = None

abbrev pub ledger : ℕ → ℕ → ReportView → List ℕ  -- the values that c took from lane p, in the order of its notes
ledger c p r = filter_map item_taken (notes c p r)

abbrev pub Assignment : Type 0  -- it gives each item (lane, position) to one consumer, or to nobody (None)
Assignment = ℕ → ℕ → Option ℕ

abbrev pub items_where : (ℕ → Bool) → List ℕ → List ℕ  -- the items at the positions that pass the test
items_where test [] = []
items_where test (x ∷ xs) = if test 0 then x ∷ items_where (λ j. test (suc j)) xs else items_where (λ j. test (suc j)) xs

abbrev pub is_consumer : ℕ → Option ℕ → Bool  -- whether it is Some c
is_consumer c None = false
is_consumer c (Some d) = nat_eq d c

abbrev pub share : Assignment → ℕ → ℕ → ReportView → List ℕ  -- the items of lane p that t gives to c, in the order put
share t c p r = items_where (λ j. is_consumer c (t p j)) (items_put p r)

abbrev pub rest : Assignment → ℕ → ReportView → List ℕ  -- the items of lane p that t gives to nobody
rest t p r = items_where (λ j. is_none (t p j)) (items_put p r)

pub record IsLossTo (t : Assignment) (c w p j : ℕ) (r : ReportView) : Type 0 where  -- what holds if c lost item j to w
  pub another : w ≢ c
  pub competed : HasCompeted w p j r
  pub only : (d v : ℕ) → HasLostTo d v p j r → v ≡ w  -- each loss of the item names w
  pub assigned : (t p j ≡ Some w) ⊎ (t p j ≡ None)  -- t gives it to w or to nobody

pub record AreGiven (t : Assignment) (r : ReportView) : Type 0 where
  -- README's point 1: c took an item exactly if t gives it to c, who competed. All losses of it name one other consumer
  pub taken : (c p j : ℕ) → HasTaken c p j r ↔ (t p j ≡ Some c)
  pub competitors : (c p j : ℕ) → t p j ≡ Some c → (j < length (items_put p r)) × HasCompeted c p j r
  pub losses : (c w p j : ℕ) → HasLostTo c w p j r → IsLossTo t c w p j r
  -- Point 2: what c took from lane p is exactly its share, in the order put. No note or begun claim is past the items
  pub ledgers : (c p : ℕ) → ledger c p r ≡ share t c p r
  pub within : (c p : ℕ) → length (notes c p r) ≤ length (items_put p r)
  pub begun_within : (c p : ℕ) → is_begun c p r ≡ true → length (notes c p r) < length (items_put p r)

abbrev pub AreLeft : Assignment → ReportView → Type 0  -- Point 3: the items given to nobody are reported as left
AreLeft t r = (p : ℕ) → items_left p r ≡ rest t p r

-- Point 4. `pool` has all accesses (loads, stores, fetch-adds) to lanes and cells, the newest first.
-- `part (Producer p) h`: those of h that producer p made. `has_ended p h`: in h lane p's end mark is stored.
-- `HasMetEnd q p h`: in h reader q loaded it. Consumer c loads as reader `reader_of c` (in `gather`: c)
pub record NothingFollowsEnds (pool : History) (reader_of : ℕ → ℕ) (r : ReportView) : Type 0 where
  pub silent : (later older : History) (p : ℕ) → later ++ older ≡ pool → has_ended p older ≡ true
      → part (Producer p) later ≡ []  -- after its end mark a producer makes no access
  pub noted : (c p j : ℕ) → IsSome (diary c p r) → HasMetEnd (reader_of c) p pool
      → j < length (items_put p r) → IsSome (note c p j r)  -- who met the end mark has a note on each item

abbrev pub IsSettled : ReportView → Type 0  -- Point 5: of an item's competitors one took it, or one did not lose it
IsSettled r =
    (c p j : ℕ) → j < length (items_put p r) → HasCompeted c p j r → ((d : ℕ) → HasTaken d p j r → ⊥)
    → (d : ℕ) × HasCompeted d p j r × (HasTakenOrLost d p j r → ⊥)

-- The main theorem, for some `assignment`. `Mailbox::gather` promises it by `IsGathered` of mb_mailbox: `pool` is what
-- was done (of a made-up one point 4 may say nothing). `lists` of `gather` promises each diary. `losses` imply point 5
pub record MainTheorem (pool : History) (reader_of : ℕ → ℕ) (r : ReportView) : Type 0 where
  pub assignment : Assignment
  pub given : AreGiven assignment r
  pub left : AreLeft assignment r
  pub ends : NothingFollowsEnds pool reader_of r
  pub settled : IsSettled r
