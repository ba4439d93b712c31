-- What a producer's part leaves in the words that only this producer stores to.
use Rattle.std.proofs.Common.{List, None, Some, [], arith, eq-eqb, false, inl, inr, ne_eqb, refl, subst, sym, ℕ, ◌+◌, ◌<◌, ◌∙◌, ◌∷◌, ◌≡◌, ◌⊎◌}
use Rattle.mb_cells.specs.{AllCellsBelow, Counter, END, Entry, Has, Head, History, Item, Link, Phase, PoolAccess, Store, Word, fetch, groups, is_same_word, part_at, place_after, value_in}
use Rattle.mb_cells.specs.Place.{Ended, Full, Offered, Open, Stored}
use Rattle.mb_cells.proofs.Counter.{AreRising}
use Rattle.mb_cells.proofs.Names.{is_same_word-refl}

-- the numbers of the cells fall, from the entry linked last to the first
abbrev pub AreFalling : List Entry → Type 0
AreFalling [] = Unit {0}
AreFalling (e ∷ es) = AllCellsBelow e.cell es × AreFalling es

-- if each fetch-add of the groups gave a number below n, all cells of the entries are below n
has_fetch : (p n : ℕ) (es : List Entry) → ((f : Entry) → Has (groups p es) (fetch p f) → f.cell < n)
    → AllCellsBelow n es
has_fetch p n [] h = tt
has_fetch p n (e ∷ es) h = (h e (inr (inr (inl refl))), has_fetch p n es (λ f m. h f (inr (inr (inr m)))))

-- if the numbers that the groups' fetch-adds gave rise in time, the cells of the entries fall (the last comes first)
falling : (p : ℕ) (es : List Entry) → AreRising (groups p es) → AreFalling es
falling p [] r = tt
falling p (e ∷ es) r =
    let fetches : AreRising (fetch p e ∷ groups p es) = r.1.1 in
    (has_fetch p e.cell es (λ f m. fetches.0 p p e f refl m), falling p es fetches.1)

-- the cell of the phase's entry, if it has one, is above the cells of all entries
abbrev pub IsAbove : List Entry → Phase → Type 0
IsAbove es Open = Unit {0}
IsAbove es (Offered e) = AllCellsBelow e.cell es
IsAbove es (Stored e) = AllCellsBelow e.cell es
IsAbove es (Full e) = AllCellsBelow e.cell es
IsAbove es (Ended r) = Unit {0}

-- the cells of the entries fall, and the cell of the phase is above them
abbrev pub IsFallingAt : List Entry → Phase → Type 0
IsFallingAt es phase = AreFalling es × IsAbove es phase

-- if the numbers that fetch-adds gave rise in time, the cells fall at each place
pub falling_at : (p : ℕ) (es : List Entry) (phase : Phase) → AreRising (part_at p es phase) → IsFallingAt es phase
falling_at p es Open r = (falling p es r, tt)
falling_at p es (Offered e) r = (falling p es r.1, has_fetch p e.cell es (λ f m. r.0 p p e f refl m))
falling_at p es (Stored e) r = (falling p es r.1.1, has_fetch p e.cell es (λ f m. r.1.0 p p e f refl m))
falling_at p es (Full e) r = (falling p es r.1, has_fetch p e.cell es (λ f m. r.0 p p e f refl m))
falling_at p es (Ended None) r = (falling p es r.1, tt)
falling_at p es (Ended (Some e)) r = (falling p es r.1.1, tt)

-- the word leads to one of the cells, or is the item word of one
abbrev pub IsInChain : ℕ → List Entry → Word → Type 0
IsInChain p [] w = ⊥
IsInChain p (e ∷ es) w = (w ≡ place_after p es) ⊎ ((w ≡ Item e.cell) ⊎ IsInChain p es w)

-- a chain: each word that leads to a cell holds its number + 1, and the cell's item word holds its item
abbrev pub IsChained : (Word → ℕ) → ℕ → List Entry → Type 0
IsChained m p [] = Unit {0}
IsChained m p (e ∷ es) = (m (place_after p es) ≡ e.cell + 1) × (m (Item e.cell) ≡ e.value) × IsChained m p es

-- if memory m holds a chain, so does each memory n that has the same values in the words of the chain
pub chained-agree : (m n : Word → ℕ) (p : ℕ) (es : List Entry) → ((w : Word) → IsInChain p es w → n w ≡ m w)
    → IsChained m p es → IsChained n p es
chained-agree m n p [] same h = tt
chained-agree m n p (e ∷ es) same h = (
  same (place_after p es) (inl refl) ∙ h.0,
  same (Item e.cell) (inr (inl refl))
      ∙ h.1,
  chained-agree m n p es (λ w i. same w (inr (inr i))) h.2,
)

-- the link word of a cell is not that of a cell with a smaller number
below-ne : (n k : ℕ) → k < n → is_same_word (Link n) (Link k) ≡ false
below-ne n k lt = ne_eqb n k (λ e. absurd (omega arith))

-- the word is not the counter, nor the item word or the link word of cell n
record IsApart (n : ℕ) (w : Word) : Type 0 where
  counter : is_same_word Counter w ≡ false
  item : is_same_word (Item n) w ≡ false
  link : is_same_word (Link n) w ≡ false

-- if all entries have cells below n, the word past them is not the counter, nor a word of cell n
apart-place : (p n : ℕ) (es : List Entry) → AllCellsBelow n es → IsApart n (place_after p es)
apart-place p n [] b = record { counter = refl; item = refl; link = refl }
apart-place p n (e ∷ es) b = record { counter = refl; item = refl; link = below-ne n e.cell b.0 }

-- if all entries have cells below n, no word of their chain is the counter, or a word of cell n
apart : (p n : ℕ) (es : List Entry) (w : Word) → AllCellsBelow n es → IsInChain p es w → IsApart n w
apart p n [] w b i = absurd i
apart p n (e ∷ es) w b (inl is) = subst (IsApart n) (sym is) (apart-place p n es b.1)
apart p n (e ∷ es) w b (inr (inl is)) =
    subst (IsApart n) (sym is) (record { counter = refl; item = below-ne n e.cell b.0; link = refl })
apart p n (e ∷ es) w b (inr (inr i)) = apart p n es w b.1 i

-- the word past the last cell of a chain is no word of the chain
apart-next : (p : ℕ) (es : List Entry) (w : Word) → AreFalling es → IsInChain p es w
    → is_same_word (place_after p es) w ≡ false
apart-next p [] w f i = absurd i
apart-next p (e ∷ es) w f (inl is) =
    subst (λ x. is_same_word (Link e.cell) x ≡ false) (sym is) (apart-place p e.cell es f.0).link
apart-next p (e ∷ es) w f (inr (inl is)) = subst (λ x. is_same_word (Link e.cell) x ≡ false) (sym is) refl
apart-next p (e ∷ es) w f (inr (inr i)) = (apart p e.cell es w f.0 i).link

-- the word past the entries is not the item word of a cell
place-item : (p k : ℕ) (es : List Entry) → is_same_word (place_after p es) (Item k) ≡ false
place-item p k [] = refl
place-item p k (e ∷ es) = refl

-- the item word of a cell is not the word past the entries
item-place : (p k : ℕ) (es : List Entry) → is_same_word (Item k) (place_after p es) ≡ false
item-place p k [] = refl
item-place p k (e ∷ es) = refl

-- if the cells of the entries fall, their groups leave them in memory as a chain
groups-chained : (p : ℕ) (es : List Entry) → AreFalling es → IsChained (λ w. value_in w (groups p es)) p es
groups-chained p [] f = tt
groups-chained p (e ∷ es) f = (
  rw (is_same_word-refl (place_after p es)),
  rw (place-item p e.cell es, eq-eqb e.cell e.cell refl),
  chained-agree (λ w. value_in w (groups p es)) (λ w. value_in w (groups p (e ∷ es))) p es
      (λ w i. let a = apart p e.cell es w f.0 i in rw (apart-next p es w f.1 i, a.item, a.counter))
      (groups-chained p es f.1),
)

-- groups leave 0 in the link word of cell n, if n is above the cells of all their entries
groups-fresh : (p n : ℕ) (es : List Entry) → AllCellsBelow n es → value_in (Link n) (groups p es) ≡ 0
groups-fresh p n [] b = refl
groups-fresh p n (e ∷ []) b = refl
groups-fresh p n (e ∷ d ∷ es) b =
    let ne : is_same_word (Link d.cell) (Link n) ≡ false = ne_eqb d.cell n (λ x. absurd (omega (arith, b.1.0))) in
    rw ne (groups-fresh p n (d ∷ es) b.1)

-- groups leave 0 in the word past their last cell
groups-next : (p : ℕ) (es : List Entry) → AreFalling es → value_in (place_after p es) (groups p es) ≡ 0
groups-next p [] f = refl
groups-next p (e ∷ []) f = refl
groups-next p (e ∷ d ∷ es) f =
    let ne : is_same_word (Link d.cell) (Link e.cell) ≡ false =
    ne_eqb d.cell e.cell (λ x. absurd (omega (arith, f.0.0))) in
    rw ne (groups-fresh p e.cell (d ∷ es) f.0)

-- what the word past the last cell holds, by the phase: the end mark if the lane has ended, else 0
abbrev pub end_value : Phase → ℕ
end_value Open = 0
end_value (Offered _) = 0
end_value (Stored _) = 0
end_value (Full _) = 0
end_value (Ended _) = END

-- the counter is not the word past the entries
counter-place : (p : ℕ) (es : List Entry) → is_same_word Counter (place_after p es) ≡ false
counter-place p [] = refl
counter-place p (e ∷ es) = refl

-- at each place the producer's part leaves its entries in memory as a chain
pub chained_at : (p : ℕ) (es : List Entry) (phase : Phase) → IsFallingAt es phase
    → IsChained (λ w. value_in w (part_at p es phase)) p es
chained_at p es Open f = groups-chained p es f.0
chained_at p es (Offered e) f =
    chained-agree (λ w. value_in w (groups p es)) (λ w. value_in w (part_at p es (Offered e))) p es
    (λ w i. let a = apart p e.cell es w f.1 i in rw a.counter) (groups-chained p es f.0)
chained_at p es (Stored e) f =
    chained-agree (λ w. value_in w (groups p es)) (λ w. value_in w (part_at p es (Stored e))) p es
    (λ w i. let a = apart p e.cell es w f.1 i in rw (a.item, a.counter)) (groups-chained p es f.0)
chained_at p es (Full e) f =
    chained-agree (λ w. value_in w (groups p es)) (λ w. value_in w (part_at p es (Full e))) p es
    (λ w i. let a = apart p e.cell es w f.1 i in rw a.counter) (groups-chained p es f.0)
chained_at p es (Ended None) f =
    chained-agree (λ w. value_in w (groups p es)) (λ w. value_in w (part_at p es (Ended None))) p es
    (λ w i. rw (apart-next p es w f.0 i)) (groups-chained p es f.0)
chained_at p es (Ended (Some e)) f =
    chained-agree (λ w. value_in w (groups p es)) (λ w. value_in w (part_at p es (Ended (Some e)))) p es
    (λ w i. let n = apart-next p es w f.0 i in let c = in_chain-counter p es w i in rw (n, c))
    (groups-chained p es f.0)
  where
    in_chain-counter : (p : ℕ) (es : List Entry) (w : Word) → IsInChain p es w → is_same_word Counter w ≡ false
    in_chain-counter p [] w i = absurd i
    in_chain-counter p (e ∷ es) w (inl is) = subst (λ x. is_same_word Counter x ≡ false) (sym is) (counter-place p es)
    in_chain-counter p (e ∷ es) w (inr (inl is)) = subst (λ x. is_same_word Counter x ≡ false) (sym is) refl
    in_chain-counter p (e ∷ es) w (inr (inr i)) = in_chain-counter p es w i

-- at each place the word past the last cell holds the end mark if the phase is Ended, else 0
pub next_at : (p : ℕ) (es : List Entry) (phase : Phase) → AreFalling es
    → value_in (place_after p es) (part_at p es phase) ≡ end_value phase
next_at p es Open f = groups-next p es f
next_at p es (Offered e) f = rw (counter-place p es) (groups-next p es f)
next_at p es (Stored e) f = rw (item-place p e.cell es, counter-place p es) (groups-next p es f)
next_at p es (Full e) f = rw (counter-place p es) (groups-next p es f)
next_at p es (Ended r) f = rw (is_same_word-refl (place_after p es))

-- the word is one that only producer q stores to: its head, or the link or the item of a cell that it got
abbrev pub IsOwned : ℕ → History → Word → Type 0
IsOwned q h Counter = ⊥
IsOwned q h (Head p) = q ≡ p
IsOwned q h (Link k) = (e : Entry) × ((e.cell ≡ k) × Has h (fetch q e))
IsOwned q h (Item k) = (e : Entry) × ((e.cell ≡ k) × Has h (fetch q e))

-- a word that a producer owns in one history, it owns in each history with the same accesses and more
pub owned-more : (q : ℕ) (h k : History) (w : Word) → ((a : PoolAccess) → Has h a → Has k a) → IsOwned q h w
    → IsOwned q k w
owned-more q h k Counter more o = o
owned-more q h k (Head p) more o = o
owned-more q h k (Link c) more o = (o.0, (o.1.0, more (fetch q o.0) o.1.1))
owned-more q h k (Item c) more o = (o.0, (o.1.0, more (fetch q o.0) o.1.1))

-- a producer owns the word past the cells of its groups
owned-place : (q : ℕ) (es : List Entry) → IsOwned q (groups q es) (place_after q es)
owned-place q [] = refl
owned-place q (e ∷ es) = (e, (refl, inr (inr (inl refl))))

-- each store of a producer's groups is to a word that the producer owns
pub groups-owned : (q : ℕ) (es : List Entry) (a : PoolAccess) (v : ℕ) → Has (groups q es) a → a.act ≡ Store v
    → IsOwned q (groups q es) a.word
groups-owned q [] a v has is = absurd has
groups-owned q (e ∷ es) a v (inl at) is =
    subst (λ x. IsOwned q (groups q (e ∷ es)) x.word) at
    (owned-more q (groups q es) (groups q (e ∷ es)) (place_after q es) (λ b m. inr (inr (inr m))) (owned-place q es))
groups-owned q (e ∷ es) a v (inr (inl at)) is =
    subst (λ x. IsOwned q (groups q (e ∷ es)) x.word) at (e, (refl, inr (inr (inl refl))))
groups-owned q (e ∷ es) a v (inr (inr (inl at))) is = absurd (cc)
groups-owned q (e ∷ es) a v (inr (inr (inr has))) is =
    owned-more q (groups q es) (groups q (e ∷ es)) a.word (λ b m. inr (inr (inr m))) (groups-owned q es a v has is)

-- at each place the producer owns the word past its last cell
pub owned_next : (q : ℕ) (es : List Entry) (phase : Phase) → IsOwned q (part_at q es phase) (place_after q es)
owned_next q es Open = owned-place q es
owned_next q es (Offered e) = owned-more q (groups q es) (part_at q es (Offered e)) (place_after q es) (λ b m. inr m)
    (owned-place q es)
owned_next q es (Stored e) = owned-more q (groups q es) (part_at q es (Stored e)) (place_after q es)
    (λ b m. inr (inr m)) (owned-place q es)
owned_next q es (Full e) = owned-more q (groups q es) (part_at q es (Full e)) (place_after q es) (λ b m. inr m)
    (owned-place q es)
owned_next q es (Ended None) =
    owned-more q (groups q es) (part_at q es (Ended None)) (place_after q es) (λ b m. inr m) (owned-place q es)
owned_next q es (Ended (Some e)) =
    owned-more q (groups q es) (part_at q es (Ended (Some e))) (place_after q es) (λ b m. inr (inr m))
    (owned-place q es)

-- at each place each store of the producer was to a word that it owns
pub stores_owned : (q : ℕ) (es : List Entry) (phase : Phase) (a : PoolAccess) (v : ℕ) → Has (part_at q es phase) a
    → a.act ≡ Store v → IsOwned q (part_at q es phase) a.word
stores_owned q es Open a v has is = groups-owned q es a v has is
stores_owned q es (Offered e) a v (inl at) is = absurd (cc)
stores_owned q es (Offered e) a v (inr has) is =
    owned-more q (groups q es) (part_at q es (Offered e)) a.word (λ b m. inr m) (groups-owned q es a v has is)
stores_owned q es (Stored e) a v (inl at) is =
    subst (λ x. IsOwned q (part_at q es (Stored e)) x.word) at (e, (refl, inr (inl refl)))
stores_owned q es (Stored e) a v (inr (inl at)) is = absurd (cc)
stores_owned q es (Stored e) a v (inr (inr has)) is =
    owned-more q (groups q es) (part_at q es (Stored e)) a.word (λ b m. inr (inr m)) (groups-owned q es a v has is)
stores_owned q es (Full e) a v (inl at) is = absurd (cc)
stores_owned q es (Full e) a v (inr has) is =
    owned-more q (groups q es) (part_at q es (Full e)) a.word (λ b m. inr m) (groups-owned q es a v has is)
stores_owned q es (Ended r) a v (inl at) is =
    subst (λ x. IsOwned q (part_at q es (Ended r)) x.word) at (owned_next q es (Ended r))
stores_owned q es (Ended None) a v (inr has) is =
    owned-more q (groups q es) (part_at q es (Ended None)) a.word (λ b m. inr m) (groups-owned q es a v has is)
stores_owned q es (Ended (Some e)) a v (inr (inl at)) is = absurd (cc)
stores_owned q es (Ended (Some e)) a v (inr (inr has)) is =
    owned-more q (groups q es) (part_at q es (Ended (Some e))) a.word (λ b m. inr (inr m))
    (groups-owned q es a v has is)

-- a producer owns all words of the chain of its groups
chain_owned-groups : (p : ℕ) (es : List Entry) (w : Word) → IsInChain p es w → IsOwned p (groups p es) w
chain_owned-groups p [] w i = absurd i
chain_owned-groups p (e ∷ es) w (inl is) =
    subst (IsOwned p (groups p (e ∷ es))) (sym is)
    (owned-more p (groups p es) (groups p (e ∷ es)) (place_after p es) (λ b m. inr (inr (inr m))) (owned-place p es))
chain_owned-groups p (e ∷ es) w (inr (inl is)) =
    subst (IsOwned p (groups p (e ∷ es))) (sym is) (e, (refl, inr (inr (inl refl))))
chain_owned-groups p (e ∷ es) w (inr (inr i)) =
    owned-more p (groups p es) (groups p (e ∷ es)) w (λ b m. inr (inr (inr m))) (chain_owned-groups p es w i)

-- the accesses of the groups are among all that the producer has done
pub groups_in : (p : ℕ) (es : List Entry) (phase : Phase) (a : PoolAccess) → Has (groups p es) a
    → Has (part_at p es phase) a
groups_in p es Open a m = m
groups_in p es (Offered e) a m = inr m
groups_in p es (Stored e) a m = inr (inr m)
groups_in p es (Full e) a m = inr m
groups_in p es (Ended None) a m = inr m
groups_in p es (Ended (Some e)) a m = inr (inr m)

-- at each place the producer owns all words of its chain
pub chain_owned : (p : ℕ) (es : List Entry) (phase : Phase) (w : Word) → IsInChain p es w
    → IsOwned p (part_at p es phase) w
chain_owned p es phase w i = owned-more p (groups p es) (part_at p es phase) w (groups_in p es phase)
    (chain_owned-groups p es w i)
