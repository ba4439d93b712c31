-- If a reader loaded a link to a cell, it met that cell on some lane: it loaded all links from the head to the cell.
use Rattle.std.proofs.Common.{List, [], ap, inl, inr, refl, ℕ, ◌+◌, ◌∙◌, ◌∷◌, ◌≡◌}
use Rattle.mb_cells.specs.{Gave, Has, HasLoaded, HasMet, Head, History, IsGift, IsPoolLawful, IsReaderPath, Link, Load, MayRead, PoolAccess, PoolAct, PoolSize, Reader, Word, part, place_past}
use Rattle.mb_cells.proofs.Names.{access_is}
use Rattle.mb_cells.proofs.Parts.{Has-of_part, part_by}

-- cells that a reader met in one history, it met in each history with the same accesses and more
pub HasMet-more : (r p : ℕ) (h k : History) (ks : List ℕ) → ((a : PoolAccess) → Has h a → Has k a) → HasMet r p ks h
    → HasMet r p ks k
HasMet-more r p h k [] more met = tt
HasMet-more r p h k (c ∷ ks) more met = (
  more (record { process = Reader r; word = place_past p ks; act = Load (c + 1) }) met.0,
  met.1,
  HasMet-more r p h k ks more met.2,
)

-- if a reader's part has a load of a link to cell k (`Gave`), the reader met k on some lane, past the cells `ks` there
pub met-of : (lanes r : ℕ) (d : History) (k : ℕ) → ((a : PoolAccess) → Has d a → a.process ≡ Reader r)
    → IsReaderPath lanes d → Gave k d → (p : ℕ) × ((ks : List ℕ) × HasMet r p (k ∷ ks) d)
met-of lanes r [] k mine path gave = absurd gave
met-of lanes r (a ∷ d) k mine path (inr gave) =
    let x = met-of lanes r d k (λ b m. mine b (inr m)) path.2 gave in
    (x.0, (x.1.0, HasMet-more r x.0 d (a ∷ d) (k ∷ x.1.0) (λ b m. inr m) x.1.1))
met-of lanes r (a ∷ d) k mine path (inl gift) =
    by (λ j g. met-of lanes r d j (λ b m. mine b (inr m)) path.2 g) a.word a.act refl refl gift path.1
  where
    here : (w : Word) (v : ℕ) → a.word ≡ w → a.act ≡ Load v → v ≡ k + 1 → HasLoaded r w (k + 1) (a ∷ d)
    here w v e f g =
        inl (access_is a (Reader r) w (Load (k + 1)) (mine a (inl refl)) e (f ∙ ap Load g))

    by : ((j : ℕ) → Gave j d → (p : ℕ) × ((ks : List ℕ) × HasMet r p (j ∷ ks) d)) → (w : Word) (act : PoolAct)
        → a.word ≡ w → a.act ≡ act → IsGift k w act → MayRead lanes w d
        → (p : ℕ) × ((ks : List ℕ) × HasMet r p (k ∷ ks) (a ∷ d))
    by older (Head p) (Load v) e f g may = (p, ([], (here (Head p) v e f g.0, (λ x. g.1 (g.0 ∙ x)), tt)))
    by older (Link j) (Load v) e f g may =
        let x = older j may in (
          x.0,
          (
            j ∷ x.1.0,
            (
              here (Link j) v e f g.0,
              (λ y. g.1 (g.0 ∙ y)),
              HasMet-more r x.0 d (a ∷ d) (j ∷ x.1.0) (λ b m. inr m) x.1.1,
            ),
          ),
        )
    by older _ _ e f g may = absurd g

-- in a lawful history: if a reader loaded a link to cell k, it met k on some lane
pub on_chain : (size : PoolSize) (h : History) (r k : ℕ) → IsPoolLawful size h → Gave k (part (Reader r) h)
    → (p : ℕ) × ((ks : List ℕ) × HasMet r p (k ∷ ks) h)
on_chain size h r k l gave =
    let x = met-of size.lanes r (part (Reader r) h) k (part_by (Reader r) h) (l.readers r) gave in
    (x.0, (x.1.0, HasMet-more r x.0 (part (Reader r) h) h (k ∷ x.1.0) (Has-of_part (Reader r) h) x.1.1))
