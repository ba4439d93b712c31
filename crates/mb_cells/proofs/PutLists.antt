-- How the put list of a lane grows.
use Rattle.std.proofs.Common.{None, Some, [], ap, arith, eq-eqb, false, map, nat_eq, ne_eqb, refl, reverse, sym, ℕ, ◌++◌, ◌+◌, ◌∙◌, ◌∷◌, ◌≡◌, ◌≢◌}
use Rattle.std.proofs.lemmas.Grind.{reverse_onto}
use Rattle.mb_cells.specs.{Counter, END, Entry, Has, Head, History, IsLinkWord, IsPoolLawful, Item, Link, PoolSize, Store, Word, entry_at, entry_of}
use Rattle.mb_cells.specs.{fetch, is_same_word, item_of, link_of, linked_cells, load, put_list, store}
use Rattle.mb_cells.proofs.Counter.{fetch-below, fetch-found}
use Rattle.mb_cells.proofs.Histories.{lawful-counted, lawful-tail}
use Rattle.mb_cells.proofs.Items.{is_put_at, link_of-store, same_map}
use Rattle.mb_cells.proofs.Names.{same_twice}

-- a store that links nothing leaves the list of cells linked as it is
kept_cells : (p q : ℕ) (w : Word) (v : ℕ) (h : History) → link_of w (Store v) ≡ None
    → linked_cells q (store p w v ∷ h) ≡ linked_cells q h
kept_cells p q w v h none =
    rw none (same_twice (nat_eq q p) (linked_cells q h))

-- a store leaves the items that were offered for cells as they are
item_of-store : (p : ℕ) (w : Word) (v k : ℕ) (h : History) → item_of k (store p w v ∷ h) ≡ item_of k h
item_of-store p w v k h = same_twice (is_same_word w Counter) (item_of k h)

-- put lists with equal cells and equal items are equal
same_list : (h k : History) (q : ℕ) → linked_cells q k ≡ linked_cells q h
    → ((j : ℕ) → Has (linked_cells q h) j → item_of j k ≡ item_of j h) → put_list q k ≡ put_list q h
same_list h k q cells items =
    ap (λ ks. reverse (map (entry_of (λ j. item_of j k)) ks)) cells
    ∙ ap reverse (same_map (λ j. item_of j k) (λ j. item_of j h) (linked_cells q h) items)

-- a store that links nothing leaves the put lists as they are
pub put_list-kept : (h : History) (p q : ℕ) (w : Word) (v : ℕ) → link_of w (Store v) ≡ None
    → put_list q (store p w v ∷ h) ≡ put_list q h
put_list-kept h p q w v none =
    same_list h (store p w v ∷ h) q (kept_cells p q w v h none) (λ j has. item_of-store p w v j h)

-- a store of the end mark leaves each put list as it is
pub put_list-end : (h : History) (p q : ℕ) (w : Word) → IsLinkWord w → put_list q (store p w END ∷ h) ≡ put_list q h
put_list-end h p q Counter link = absurd link
put_list-end h p q (Head j) link = put_list-kept h p q (Head j) END refl
put_list-end h p q (Link j) link = put_list-kept h p q (Link j) END refl
put_list-end h p q (Item j) link = absurd link

-- a store of another lane's producer leaves the put list as it is
pub put_list-other : (h : History) (p q v : ℕ) (w : Word) → p ≢ q → put_list q (store p w v ∷ h) ≡ put_list q h
put_list-other h p q v w ne =
    let other : nat_eq q p ≡ false = ne_eqb q p (λ e. ne (sym e)) in
    same_list h (store p w v ∷ h) q (rw other refl) (λ j has. item_of-store p w v j h)

-- a load leaves the put list as it is
pub put_list-load : (h : History) (r q v : ℕ) (w : Word) → put_list q (load r w v ∷ h) ≡ put_list q h
put_list-load h r q v w =
    same_list h (load r w v ∷ h) q refl (λ j has. same_twice (is_same_word w Counter) (item_of j h))

-- a fetch-add leaves the put list as it is
pub put_list-fetch : (size : PoolSize) (h : History) (p q : ℕ) (e : Entry) → IsPoolLawful size (fetch p e ∷ h)
    → put_list q (fetch p e ∷ h) ≡ put_list q h
put_list-fetch size h p q e l =
    let before = lawful-tail size (fetch p e) h l in
    let found = fetch-found (fetch p e) h p e (lawful-counted size (fetch p e ∷ h) l) refl in
    same_list h (fetch p e ∷ h) q (same_twice (nat_eq q p) (linked_cells q h))
    (λ j has.
    let x = is_put_at size h q j before has in
    let low = fetch-below h q x.entry (lawful-counted size h before) x.fetched in
    let other : nat_eq e.cell j ≡ false = ne_eqb e.cell j (λ same. absurd (omega (arith, same, low, found, x.cell))) in
    rw other refl)

-- the store of a link to cell k adds k with its item at the end of the lane's put list
pub put_list-link : (h : History) (p k : ℕ) (w : Word) → IsLinkWord w → k + 1 ≢ END
    → put_list p (store p w (k + 1) ∷ h) ≡ put_list p h ++ entry_at k h ∷ []
put_list-link h p k w link ne =
    let long = store p w (k + 1) ∷ h in
    let some : link_of w (Store (k + 1)) ≡ Some k = link_of-store w k link ne in
    let cells : linked_cells p long ≡ k ∷ linked_cells p h = rw (eq-eqb p p refl, some) refl in
    ap (λ ks. reverse (map (entry_of (λ j. item_of j long)) ks)) cells
    ∙ ap reverse (same_map (λ j. item_of j long) (λ j. item_of j h) (k ∷ linked_cells p h)
    (λ j has. item_of-store p w (k + 1) j h))
    ∙ reverse_onto (map (entry_of (λ j. item_of j h)) (linked_cells p h)) (entry_at k h) []
