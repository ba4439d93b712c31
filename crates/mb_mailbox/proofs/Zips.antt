-- Two lists of one length, and relations that hold of them place by place.
use Rattle.std.proofs.Common.{◌≡◌, List, [], ◌∷◌, ◌++◌, length, sym, ap, ◌∙◌, append-nil, append_assoc}
use Rattle.std.specs.List.{AllZip}
use Rattle.std.proofs.lemmas.Slice.Zip.{AllZip-long}

-- a relation that holds place by place still does with one more pair at the end
pub zip_more : {A B : Type 0} (R : A → B → Type 0) (xs : List A) (ys : List B) (x : A) (y : B) → AllZip R xs ys → R x y
    → AllZip R (xs ++ x ∷ []) (ys ++ y ∷ [])
zip_more R [] [] x y z one = (one, tt)
zip_more R [] (w ∷ ws) x y z one = absurd z
zip_more R (v ∷ vs) [] x y z one = absurd z
zip_more R (v ∷ vs) (w ∷ ws) x y z one = (z.0, zip_more R vs ws x y z.1 one)

-- if R holds place by place of xs and ys, and S of ys and zs, then T, which follows from both, holds of xs and zs
pub zip_through : {A B C : Type 0} (R : A → B → Type 0) (S : B → C → Type 0) (T : A → C → Type 0)
    → ((a : A) (b : B) (c : C) → R a b → S b c → T a c)
    → (xs : List A) (ys : List B) (zs : List C) → AllZip R xs ys → AllZip S ys zs → AllZip T xs zs
zip_through R S T step [] [] [] r s = tt
zip_through R S T step [] [] (z ∷ zs) r s = absurd s
zip_through R S T step [] (y ∷ ys) zs r s = absurd r
zip_through R S T step (x ∷ xs) [] zs r s = absurd r
zip_through R S T step (x ∷ xs) (y ∷ ys) [] r s = absurd s
zip_through R S T step (x ∷ xs) (y ∷ ys) (z ∷ zs) r s = (step x y z r.0 s.0, zip_through R S T step xs ys zs r.1 s.1)

-- if R implies S, two lists related place by place by R are so by S, too
pub zip_as : {A B : Type 0} (R S : A → B → Type 0) → ((a : A) (b : B) → R a b → S a b)
    → (xs : List A) (ys : List B) → AllZip R xs ys → AllZip S xs ys
zip_as R S step [] [] z = tt
zip_as R S step [] (y ∷ ys) z = absurd z
zip_as R S step (x ∷ xs) [] z = absurd z
zip_as R S step (x ∷ xs) (y ∷ ys) z = (step x y z.0, zip_as R S step xs ys z.1)

-- if a relation holds of two lists place by place, they have the same length
pub zip_length : {A B : Type 0} (R : A → B → Type 0) (xs : List A) (ys : List B) → AllZip R xs ys
    → length xs ≡ length ys
zip_length R xs ys z = sym (AllZip-long R xs ys z)

-- if the first element not yet seen goes to the end of those seen, those seen and the rest still make up all
pub next_seen : {A : Type 0} (seen : List A) (x : A) (rest was all : List A) → seen ++ was ≡ all
    → was ≡ x ∷ rest → (seen ++ x ∷ []) ++ rest ≡ all
next_seen seen x rest was all whole first = append_assoc seen (x ∷ []) rest ∙ ap (λ l. seen ++ l) (sym first) ∙ whole

-- if the rest is empty, those seen are all
pub all_seen : {A : Type 0} (seen rest all : List A) → seen ++ rest ≡ all → rest ≡ [] → seen ≡ all
all_seen seen rest all whole none = sym (append-nil seen) ∙ ap (λ l. seen ++ l) (sym none) ∙ whole
