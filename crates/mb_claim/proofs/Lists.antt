-- Facts about lists.
use Rattle.std.proofs.lemmas.Bool.{cases_lt}
use Rattle.std.proofs.lemmas.List.{get_or_append_left, get_or_push}
use Rattle.std.proofs.Common.{ℕ, ◌<◌, ◌≤◌, subst, get_or, arith, suc, length, slice_get, ◌≡◌, ◌⊎◌, inl, inr}
use Rattle.std.proofs.Common.{Option, Some, None, List, [], ◌∷◌, ◌++◌, refl, ◌∙◌, ap, sym, append-nil, filter_map}
use Rattle.std.proofs.Common.{option_and_then}
use Rattle.std.specs.List.{cons_option}
use Rattle.std.proofs.lemmas.Option.{none-some, same_Some}
pub use Rattle.mb_deciding.proofs.Histories.{nil_or, not_empty}

-- ---- empty lists, and lists joined
-- two empty lists joined are empty
pub append_nils : {A : Type 0} (xs ys : List A) → xs ≡ [] → ys ≡ [] → xs ++ ys ≡ []
append_nils xs ys p q = ap (λ zs. zs ++ ys) p ∙ q

-- an empty list before another adds nothing
pub append_nil_left : {A : Type 0} (xs ys : List A) → xs ≡ [] → xs ++ ys ≡ ys
append_nil_left xs ys p = ap (λ zs. zs ++ ys) p

-- an empty list after another adds nothing
pub append_nil_right : {A : Type 0} (xs ys : List A) → ys ≡ [] → xs ++ ys ≡ xs
append_nil_right xs ys p = ap (λ zs. xs ++ zs) p ∙ append-nil xs

-- if two lists joined are empty, the first list is empty
pub append_nil_parts : {A : Type 0} (xs ys : List A) → xs ++ ys ≡ [] → xs ≡ []
append_nil_parts [] ys e = refl
append_nil_parts (x ∷ xs) ys e = absurd (not_empty x (xs ++ ys) e)

-- if two lists joined are empty, the second list is empty
pub append_nil_rest : {A : Type 0} (xs ys : List A) → xs ++ ys ≡ [] → ys ≡ []
append_nil_rest [] ys e = e
append_nil_rest (x ∷ xs) ys e = absurd (not_empty x (xs ++ ys) e)

-- the first element, or d if there is none
abbrev head_or : {A : Type 0} → A → List A → A
head_or d [] = d
head_or d (x ∷ xs) = x

-- all but the first element
abbrev tail_of : {A : Type 0} → List A → List A
tail_of [] = []
tail_of (x ∷ xs) = xs

-- equal lists have equal first elements
pub heads : {A : Type 0} (x y : A) (xs ys : List A) → x ∷ xs ≡ y ∷ ys → x ≡ y
heads x y xs ys e = ap (head_or x) e

-- equal lists have the same elements after the first
pub tails : {A : Type 0} (x y : A) (xs ys : List A) → x ∷ xs ≡ y ∷ ys → xs ≡ ys
tails x y xs ys e = ap tail_of e

-- ---- picking elements of a list by a function (`filter_map`)
-- what is picked from a list with perhaps one element more is what is picked from that element and from the list
filter_map-cons_option :
    {A B : Type 0} (g : A → Option B) (o : Option A) (xs : List A)
    → filter_map g (cons_option o xs) ≡ cons_option (option_and_then g o) (filter_map g xs)
filter_map-cons_option g None xs = refl
filter_map-cons_option g (Some x) xs = refl

-- picking by f, and then by g from what was picked, is picking once by both
pub filter_map-filter_map :
    {A B C : Type 0} (g : B → Option C) (f : A → Option B) (h : List A)
    → filter_map g (filter_map f h) ≡ filter_map (λ a. option_and_then g (f a)) h
filter_map-filter_map g f [] = refl
filter_map-filter_map g f (a ∷ h) =
    filter_map-cons_option g (f a) (filter_map f h)
    ∙ ap (cons_option (option_and_then g (f a))) (filter_map-filter_map g f h)

-- two functions that agree at each element pick the same list
pub filter_map_agree :
    {A B : Type 0} (f g : A → Option B) → ((a : A) → f a ≡ g a) → (h : List A) → filter_map f h ≡ filter_map g h
filter_map_agree f g e [] = refl
filter_map_agree f g e (a ∷ h) =
    ap (λ o. cons_option o (filter_map f h)) (e a) ∙ ap (cons_option (g a)) (filter_map_agree f g e h)

-- ---- elements at positions
-- the element after the list xs is at position `length xs`
pub get_at : {A : Type 0} (xs : List A) (a : A) (ys : List A) → slice_get (xs ++ a ∷ ys) (length xs) ≡ Some a
get_at [] a ys = refl
get_at (x ∷ xs) a ys = get_at xs a ys

-- the position after the list xs and one element more has the first element of what follows
pub get_behind : {A : Type 0} (xs : List A) (a : A) (ys : List A)
    → slice_get (xs ++ a ∷ ys) (suc (length xs)) ≡ slice_get ys 0
get_behind [] a ys = refl
get_behind (x ∷ xs) a ys = get_behind xs a ys

-- a list with an element at position 0 begins with it
pub first_of : {A : Type 0} (ys : List A) (a : A) → slice_get ys 0 ≡ Some a → (rest : List A) × (ys ≡ a ∷ rest)
first_of [] a e = absurd (none-some a e)
first_of (y ∷ ys) a e = (ys, ap (λ b. b ∷ ys) (same_Some y a e))

-- a list without an element at position 0 is empty
pub none_of : {A : Type 0} (ys : List A) → slice_get ys 0 ≡ None → ys ≡ []
none_of [] e = refl
none_of (y ∷ ys) e = absurd (none-some y (sym e))

-- one element more at the end makes a list longer by one
pub length-push : {A : Type 0} (xs : List A) (a : A) → length (xs ++ a ∷ []) ≡ suc (length xs)
length-push [] a = refl
length-push (x ∷ xs) a = ap suc (length-push xs a)

-- what holds of each element, and of one more at the end, holds of each element of the longer list
pub all_push :
    {A : Type 0} (P : ℕ → A → Type 0) (xs : List A) (y : A) → ((k : ℕ) (d : A) → k < length xs → P k (get_or xs k d))
    → P (length xs) y → (k : ℕ) (d : A) → k < length (xs ++ y ∷ []) → P k (get_or (xs ++ y ∷ []) k d)
all_push P xs y all p k d below = by_place (cases_lt k (length xs))
  where
    -- P holds of the element at position k, by whether k is a position of the shorter list
    by_place : (k < length xs) ⊎ (length xs ≤ k) → P k (get_or (xs ++ y ∷ []) k d)
    by_place (inl l) = subst (P k) (sym (get_or_append_left xs (y ∷ []) d k l)) (all k d l)
    by_place (inr l) =
        let long : length (xs ++ y ∷ []) ≡ suc (length xs) = length-push xs y in
        let here : k ≡ length xs = omega arith in
        subst (λ n. P n (get_or (xs ++ y ∷ []) n d)) (sym here)
        (subst (P (length xs)) (sym (get_or_push xs y d (length xs) refl)) p)
