-- Two facts on tests of the elements of a list: one of a list after `map`, and one of bytes that are ASCII.
use Rattle.std.proofs.Common.{◌≡◌, ℕ, suc, ◌<◌, Bool, true, ◌||◌, List, [], ◌∷◌, map, refl, ap}
use Rattle.std.specs.Prelude.{slice_index}
use Rattle.std.specs.List.{list_any, list_all}
use Rattle.std.specs.Char.{is_ascii}
use Rattle.std.proofs.lemmas.Bool.{lt-ltb}

-- some element of the list after `map f` passes the test p exactly if f of some element passes it
pub list_any-map : {X Y : Type 0} (p : Y → Bool) (f : X → Y) (xs : List X)
    → list_any p (map f xs) ≡ list_any (λ x. p (f x)) xs
list_any-map p f [] = refl
list_any-map p f (x ∷ xs) = ap (λ (b : Bool). p (f x) || b) (list_any-map p f xs)

-- if each byte is below 128, all pass the test of ASCII
pub all_ascii : (bs : List ℕ) → ((i : ℕ) → slice_index bs i < 128) → list_all is_ascii bs ≡ true
all_ascii [] below = refl
all_ascii (b ∷ bs) below = rw (lt-ltb b 128 (below 0)) (all_ascii bs (λ i. below (suc i)))
