-- The objects of a layout: how many there are, of which kinds, and bounds on their number and words. Also what is left
-- of a row after some objects, and how a row is copied.
use Rattle.std.proofs.Common.{◌≡◌, ◌<◌, ◌≤◌, ◌+◌, ◌*◌, ℕ, zero, suc, Bool, true, false, Some, List, [], ◌∷◌, ◌++◌, drop, length, slice_get, set}
use Rattle.std.proofs.Common.{refl, ◌∙◌, sym, ap, subst, get_or, append-nil, length-append, arith}
use Rattle.std.proofs.lemmas.Option.{none-some, same_Some, slice_get-get_or, get_or_from_slice_get}
use Rattle.std.proofs.lemmas.Nat.{mul-le}
use Rattle.mb_quorum.specs.declared.values.TheConstants.{MAX_VALUES}
use Rattle.mb_quorum.specs.Vocabulary.{QuorumTable, IsQuorumTable}
use Rattle.mb_quorum.specs.TablesLaw.{chosen_lawful, chosen_within}
use Rattle.mb_quorum.specs.Width.{width_of}
use Rattle.mb_quorum.specs.WidthLaw.{width_is_least}
use Rattle.mb_deciding.specs.Course.{IsFitKind}
use Rattle.mb_deciding.specs.Vocabulary.{spread}
use Rattle.mb_claim.specs.{Conciliator, Ratifier, LastObject, Kind, Layout, Shape, pairs_of, fast_row, last_row, row_of, most_on_objects, quorums_of, kinds_of}
use Rattle.mb_claim.specs.{consumer_count, cell_words}
use Rattle.mb_claim.specs.declared.layout.TheConstants.{MAX_OBJECTS, MAX_PAIRS}
use Rattle.mb_claim.proofs.Addresses.{row_words-few}

-- ---- the objects of a row of pairs
-- a row of n pairs has 2 n objects
pub length-pairs_of : (s n : ℕ) → length (pairs_of s n) ≡ 2 * n
length-pairs_of s zero = omega arith
length-pairs_of s (suc n) = let h = length-pairs_of s n in omega arith

-- the first object of a pair is a conciliator
pub first_of_pair : (s n i o : ℕ) → o ≡ 2 * i → i < n → slice_get (pairs_of s n) o ≡ Some (Conciliator s)
first_of_pair s zero i o e h = absurd (omega arith)
first_of_pair s (suc n) i zero e h = refl
first_of_pair s (suc n) i (suc zero) e h = absurd (omega arith)
first_of_pair s (suc n) zero (suc (suc o)) e h = absurd (omega arith)
first_of_pair s (suc n) (suc i) (suc (suc o)) e h = first_of_pair s n i o (omega arith) (omega arith)

-- the second object of a pair is a ratifier
pub second_of_pair : (s n i o : ℕ) → o ≡ 2 * i + 1 → i < n → slice_get (pairs_of s n) o ≡ Some Ratifier
second_of_pair s zero i o e h = absurd (omega arith)
second_of_pair s (suc n) i zero e h = absurd (omega arith)
second_of_pair s (suc n) i (suc zero) e h = refl
second_of_pair s (suc n) zero (suc (suc o)) e h = absurd (omega arith)
second_of_pair s (suc n) (suc i) (suc (suc o)) e h = second_of_pair s n i o (omega arith) (omega arith)

-- ---- the objects of a row
-- at the positions of the first list, two lists joined have its elements
get_ahead : (xs ys : List Kind) (o : ℕ) → o < length xs → slice_get (xs ++ ys) o ≡ slice_get xs o
get_ahead [] ys o h = absurd (omega (arith, h))
get_ahead (x ∷ xs) ys zero h = refl
get_ahead (x ∷ xs) ys (suc o) h = get_ahead xs ys o (omega (arith, h))

-- after the positions of the first list, two lists joined have the second list's elements
get_behind : (xs ys : List Kind) (n o : ℕ) → n ≡ length xs + o → slice_get (xs ++ ys) n ≡ slice_get ys o
get_behind [] ys n o e = let same : n ≡ o = omega (arith, e) in ap (slice_get ys) same
get_behind (x ∷ xs) ys zero o e = absurd (omega (arith, e))
get_behind (x ∷ xs) ys (suc n) o e = get_behind xs ys n o (omega (arith, e))

-- if there is a pair or a last object, and no pair, there is a last object
pub last_without : (n : ℕ) (b : Bool) → 1 ≤ n + length (last_row b) → n ≡ 0 → b ≡ true
last_without n true some none = refl
last_without n false some none = absurd (omega (arith, some, none))

-- a fast path has two objects at most
fast_few : (b : Bool) → length (fast_row b) ≤ 2
fast_few true = omega arith
fast_few false = omega arith

-- after the pairs there is one object at most
pub last_few : (b : Bool) → length (last_row b) ≤ 1
last_few true = omega arith
last_few false = omega arith

-- a row has as many objects as its fast path has, two for each pair, and the last object if there is one
pub length-row_of :
    (shape : Shape) (s n : ℕ)
    → length (row_of shape s n) ≡ length (fast_row shape.fast) + 2 * n + length (last_row shape.last)
length-row_of shape s n =
    omega (
      arith,
      length-append (fast_row shape.fast) (pairs_of s n ++ last_row shape.last),
      length-append (pairs_of s n) (last_row shape.last),
      length-pairs_of s n,
    )

-- a row of pairs with nothing after them is the row of these pairs
pub row_plain : (s n : ℕ) → pairs_of s n ++ [] ≡ pairs_of s n
row_plain s n = append-nil (pairs_of s n)

-- an object of the fast path is a ratifier, whatever follows
fast_kind : (b : Bool) (ys : List Kind) (o : ℕ) → o < length (fast_row b)
    → slice_get (fast_row b ++ ys) o ≡ Some Ratifier
fast_kind true ys zero h = refl
fast_kind true ys (suc zero) h = refl
fast_kind true ys (suc (suc o)) h = absurd (omega (arith, h))
fast_kind false ys o h = absurd (omega (arith, h))

-- an object of a row's fast path is a ratifier
pub in_fast :
    (shape : Shape) (s n o : ℕ) → o < length (fast_row shape.fast) → slice_get (row_of shape s n) o ≡ Some Ratifier
in_fast shape s n o h = fast_kind shape.fast (pairs_of s n ++ last_row shape.last) o h

-- an object of a pair has the same kind in the row and among the pairs alone
pub in_pairs :
    (shape : Shape) (s n o place : ℕ) → o ≡ length (fast_row shape.fast) + place → place < 2 * n
    → slice_get (row_of shape s n) o ≡ slice_get (pairs_of s n) place
in_pairs shape s n o place e h =
    get_behind (fast_row shape.fast) (pairs_of s n ++ last_row shape.last) o place e
    ∙ get_ahead (pairs_of s n) (last_row shape.last) place (omega (arith, length-pairs_of s n, h))

-- the only object after the pairs is a last object
last_kind : (b : Bool) → 0 < length (last_row b) → slice_get (last_row b) 0 ≡ Some LastObject
last_kind true h = refl
last_kind false h = absurd (omega (arith, h))

-- the object of a row after its pairs is a last object
pub at_last :
    (shape : Shape) (s n o : ℕ) → o ≡ length (fast_row shape.fast) + 2 * n → o < length (row_of shape s n)
    → slice_get (row_of shape s n) o ≡ Some LastObject
at_last shape s n o e h =
    get_behind (fast_row shape.fast) (pairs_of s n ++ last_row shape.last) o (2 * n) e
    ∙ get_behind (pairs_of s n) (last_row shape.last) (2 * n) 0 (omega (arith, length-pairs_of s n))
    ∙ last_kind shape.last (omega (arith, length-row_of shape s n, e, h))

-- ---- bounds on what a layout has
-- the quorum table of a layout keeps the law of quorum tables
pub quorums_lawful : (layout : Layout) → IsQuorumTable (quorums_of layout)
quorums_lawful layout = chosen_lawful layout.table

-- a layout has at least one consumer, and at most `MAX_VALUES`
pub consumers_within : (layout : Layout) → (1 ≤ consumer_count layout) × (consumer_count layout ≤ MAX_VALUES)
consumers_within layout = chosen_within layout.table

-- if s is at most 63, each kind in a row of pairs is allowed (`IsFitKind`)
pub fit_in_pairs : (s n o : ℕ) (kind : Kind) → s ≤ 63 → slice_get (pairs_of s n) o ≡ Some kind → IsFitKind kind
fit_in_pairs s zero o kind h e = absurd (none-some kind e)
fit_in_pairs s (suc n) zero kind h e = subst IsFitKind (same_Some (Conciliator s) kind e) h
fit_in_pairs s (suc n) (suc zero) kind h e = subst IsFitKind (same_Some Ratifier kind e) tt
fit_in_pairs s (suc n) (suc (suc o)) kind h e = fit_in_pairs s n o kind h e

-- if each kind in two lists is allowed (`IsFitKind`), so is each in the two lists joined
fit_behind :
    (xs ys : List Kind) → ((o : ℕ) (kind : Kind) → slice_get xs o ≡ Some kind → IsFitKind kind)
    → ((o : ℕ) (kind : Kind) → slice_get ys o ≡ Some kind → IsFitKind kind) → (o : ℕ) (kind : Kind)
    → slice_get (xs ++ ys) o ≡ Some kind → IsFitKind kind
fit_behind [] ys f g o kind e = g o kind e
fit_behind (x ∷ xs) ys f g zero kind e = f 0 kind e
fit_behind (x ∷ xs) ys f g (suc o) kind e = fit_behind xs ys (λ n k h. f (suc n) k h) g o kind e

-- each kind of a fast path is allowed (`IsFitKind`)
fit_fast : (b : Bool) (o : ℕ) (kind : Kind) → slice_get (fast_row b) o ≡ Some kind → IsFitKind kind
fit_fast true zero kind e = subst IsFitKind (same_Some Ratifier kind e) tt
fit_fast true (suc zero) kind e = subst IsFitKind (same_Some Ratifier kind e) tt
fit_fast true (suc (suc o)) kind e = absurd (none-some kind e)
fit_fast false o kind e = absurd (none-some kind e)

-- the kind of a last object is allowed (`IsFitKind`)
fit_last : (b : Bool) (o : ℕ) (kind : Kind) → slice_get (last_row b) o ≡ Some kind → IsFitKind kind
fit_last true zero kind e = subst IsFitKind (same_Some LastObject kind e) tt
fit_last true (suc o) kind e = absurd (none-some kind e)
fit_last false o kind e = absurd (none-some kind e)

-- if s is at most 63, each kind in a row of any shape is allowed (`IsFitKind`)
pub fit_in_row :
    (shape : Shape) (s n o : ℕ) (kind : Kind) → s ≤ 63 → slice_get (row_of shape s n) o ≡ Some kind → IsFitKind kind
fit_in_row shape s n o kind h e =
    fit_behind (fast_row shape.fast) (pairs_of s n ++ last_row shape.last) (fit_fast shape.fast)
    (fit_behind (pairs_of s n) (last_row shape.last) (λ p k f. fit_in_pairs s n p k h f) (fit_last shape.last)) o kind e

-- the number s of a conciliator of a layout is at most 63
pub last_turn_small : (layout : Layout) → spread (quorums_of layout).values ≤ 63
last_turn_small layout =
    let m = (quorums_of layout).values in
    let quorum = quorums_lawful layout in
    let narrow : width_of m ≤ 6 = (width_is_least m).least 6 (omega (arith, quorum.few)) in
    omega (arith, narrow)

-- a row with at most MAX_PAIRS pairs has at most MAX_OBJECTS objects
pub objects_few : (shape : Shape) (s n : ℕ) → n ≤ MAX_PAIRS → length (row_of shape s n) ≤ MAX_OBJECTS
objects_few shape s n few =
    omega (arith, length-row_of shape s n, fast_few shape.fast, last_few shape.last, few)

-- a cell of a layout has at most 65 words for each of MAX_OBJECTS objects
pub cell_small : (layout : Layout) → cell_words layout ≤ 65 * MAX_OBJECTS
cell_small layout =
    let kinds = kinds_of layout in
    let r = (quorums_of layout).registers in
    let quorum = quorums_lawful layout in
    let few = objects_few layout.shape (spread (quorums_of layout).values) layout.pairs layout.few in
    omega (arith, row_words-few r kinds, mul-le (length kinds) (1 + r) MAX_OBJECTS 65 few (omega (arith, quorum.limit)))

-- ---- objects that are read, dropped and copied
-- if two rows have the same kind at a position, reading the second there gives the kind in the first
pub told_by_row :
    (xs ys : List Kind) (o : ℕ) (d : Kind) → o < length xs → slice_get xs o ≡ slice_get ys o
    → slice_get xs o ≡ Some (get_or ys o d)
told_by_row xs ys o d below same =
    let e = slice_get-get_or xs o d below in
    e ∙ ap Some (sym (get_or_from_slice_get ys o (get_or xs o d) d (sym same ∙ e)))

-- if all objects of a row are dropped, none is left that allows a turn
pub none_left : (t : QuorumTable) (kinds : List Kind) (o : ℕ) → length kinds ≤ o → most_on_objects t (drop o kinds) ≡ 0
none_left t [] zero h = refl
none_left t [] (suc o) h = refl
none_left t (k ∷ ks) zero h = absurd (omega arith)
none_left t (k ∷ ks) (suc o) h = none_left t ks o (omega arith)

-- if ys has the first i objects of xs, then with a store of xs's object at position i it has the first i + 1
pub copied_next :
    (xs ys : List Kind) (i : ℕ) (x : Kind) → i < length ys → slice_get xs i ≡ Some x
    → ((o : ℕ) → o < i → slice_get xs o ≡ slice_get ys o)
    → (o : ℕ) → o < i + 1 → slice_get xs o ≡ slice_get (set ys i x) o
copied_next xs [] i x h e same o below = absurd (omega arith)
copied_next xs (y ∷ ys) zero x h e same zero below = e
copied_next xs (y ∷ ys) zero x h e same (suc o) below = absurd (omega arith)
copied_next [] (y ∷ ys) (suc i) x h e same o below = absurd (none-some x e)
copied_next (k ∷ ks) (y ∷ ys) (suc i) x h e same zero below = same 0 (omega arith)
copied_next (k ∷ ks) (y ∷ ys) (suc i) x h e same (suc o) below =
    copied_next ks ys i x (omega arith) e (λ n b. same (suc n) (omega arith)) o (omega arith)
