-- What the laws of the cells say of the loads of one reader.
use Rattle.std.proofs.Common.{◌≡◌, ◌≢◌, ℕ, ◌+◌, ◌<◌, ◌≤◌, List, [], ◌∷◌, ◌++◌, length, map, refl, sym, ap, ◌∙◌, subst, inl, arith}
use Rattle.std.proofs.lemmas.List.{length-append, length-map, length-reverse}
use Rattle.mb_world.proofs.ReaderParts.{loaded-read}
use Rattle.mb_cells.specs.Vocabulary.{entry_at, put_list}
use Rattle.mb_mailbox.specs.Laws.{Laws}
use Rattle.mb_mailbox.specs.Imports.{END, FollowsLinks, Gave, Has, HasRead, History, IsOnceEach, IsPoolLawful, Item, Link, PoolSize, Reader}
use Rattle.mb_mailbox.specs.Imports.{cells_met, linked_cells, load, part, place_past}
use Rattle.mb_mailbox.proofs.Totals.{put_total, total, total_most}

-- what the laws say of a reader's loads in a lawful history: of the cells that it met, and of the cells that they gave
pub record Known (size : PoolSize) (reads : History) : Type 0 where
  pub apart : (p q k : ℕ) → Has (cells_met p reads) k → Has (cells_met q reads) k → p ≡ q
  pub once : (p : ℕ) → IsOnceEach (cells_met p reads)
  pub within : (p k : ℕ) → Has (cells_met p reads) k → k < size.cells
  pub given : (p k : ℕ) → Has (cells_met p reads) k → Gave k reads
  pub few : (p : ℕ) → length (cells_met p reads) ≤ size.cells
  pub share : total (λ p. length (cells_met p reads)) size.lanes ≤ size.cells
  pub link : (k v : ℕ) → HasRead (Link k) v reads → Gave k reads
  pub item : (k v : ℕ) → HasRead (Item k) v reads → Gave k reads

-- `Known` holds of each reader's part of a lawful history
known_of : Laws → (size : PoolSize) (r : ℕ) (h : History) → IsPoolLawful size h → Known size (part (Reader r) h)
known_of laws size r h lawful =
    let on : (p k : ℕ) → Has (cells_met p (part (Reader r) h)) k
    → Has (linked_cells p h) k = λ p k has. laws.on_lane size r p k h lawful has in
    let met : (p : ℕ) → length (cells_met p (part (Reader r) h)) ≤ length (put_list p h) = λ p.
    let ks = cells_met p (part (Reader r) h) in
    let s = laws.start size h r p ks lawful (laws.met r p h) in
    let long : length (s.0 ++ ks) ≡ length s.0 + length ks = length-append s.0 ks in
    let same : length (s.0 ++ ks) ≡ length (linked_cells p h) = ap length s.1 in
    let put : length (put_list p h) ≡ length (linked_cells p h) =
    length-reverse (map (λ k. entry_at k h) (linked_cells p h)) ∙ length-map (linked_cells p h) (λ k. entry_at k h) in
    omega (arith, long, same, put) in
    record {
      apart = λ p q k a b. laws.lane size h p q k lawful (on p k a) (on q k b);
      once = λ p. laws.once size r p h lawful;
      within = λ p k has. (laws.within size h p k lawful (on p k has)).1;
      given = λ p k has. laws.given r p k h has;
      few = λ p.
          let ks = cells_met p (part (Reader r) h) in
          let s = laws.start size h r p ks lawful (laws.met r p h) in
          let all = laws.few size h p lawful in
          let long : length (s.0 ++ ks) ≡ length s.0 + length ks = length-append s.0 ks in
          let same : length (s.0 ++ ks) ≡ length (linked_cells p h) = ap length s.1 in
          omega arith;
      share =
          let all = laws.share size h lawful in
          let sum = put_total size.lanes h in
          let most = total_most (λ p. length (cells_met p (part (Reader r) h)))
          (λ p. length (put_list p h)) size.lanes met in
          omega (arith, all, sum, most);
      link = λ k v read. laws.link size h r k v lawful (loaded-read r h (Link k) v read);
      item = λ k v read. laws.item size h r k v lawful (loaded-read r h (Item k) v read);
    }

-- `Known` holds of loads `reads` that are a reader's part of a lawful history
pub known : Laws → (size : PoolSize) (r : ℕ) (h reads : History) → IsPoolLawful size h
    → part (Reader r) h ≡ reads → Known size reads
known laws size r h reads lawful is = subst (Known size) is (known_of laws size r h lawful)

-- if lanes p and q differ and have no cell in common, the links past their cells differ
pub past_apart : (p q : ℕ) (ks js : List ℕ) → ((k : ℕ) → Has ks k → Has js k → p ≡ q) → p ≢ q
    → place_past p ks ≡ place_past q js → ⊥
past_apart p q [] [] one ne e = ne (cc)
past_apart p q [] (j ∷ js) one ne e = absurd (cc)
past_apart p q (k ∷ ks) [] one ne e = absurd (cc)
past_apart p q (k ∷ ks) (j ∷ js) one ne e = let same : k ≡ j = cc in ne (one k (inl refl) (inl (sym same)))

-- if the load of the link past the cells met finds a cell, no load before it gave that cell, and `Known` still holds
pub fresh : Laws → (size : PoolSize) (r p k : ℕ) (h reads : History) → FollowsLinks reads → k + 1 ≢ END
    → let a = load r (place_past p (cells_met p reads)) (k + 1) in
    IsPoolLawful size (a ∷ h) → part (Reader r) h ≡ reads → (Gave k reads → ⊥) × Known size (a ∷ reads)
fresh laws size r p k h reads follows ne lawful is =
    let a = load r (place_past p (cells_met p reads)) (k + 1) in
    let longer : part (Reader r) (a ∷ h) ≡ a ∷ reads = laws.own h a ∙ ap (λ (d : History). a ∷ d) is in
    let now = known laws size r (a ∷ h) (a ∷ reads) lawful longer in
    let met : cells_met p (a ∷ reads) ≡ k ∷ cells_met p reads = laws.cell r p k reads ne in
    let here : Has (linked_cells p h) k =
    laws.on_lane size r p k (a ∷ h) lawful
    (subst (λ (d : History). Has (cells_met p d) k) (sym longer) (subst (λ ks. Has ks k) (sym met) (inl refl))) in
    let once : IsOnceEach (k ∷ cells_met p reads) = subst IsOnceEach met (now.once p) in
    let was = laws.older size (a ∷ []) h lawful in (
      λ gave.
          let all = laws.has_met_all size r p h was (subst FollowsLinks (sym is) follows) in
          once.0 (subst (λ (d : History). Has (cells_met p d) k) is (all.all k (subst (Gave k) (sym is) gave) here)),
      now,
    )
