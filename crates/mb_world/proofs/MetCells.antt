-- The cells that `cells_met` reads off a consumer's own loads are all that the consumer met on the lane.
use Rattle.std.proofs.Common.{◌≡◌, ◌≢◌, ◌⊎◌, ℕ, ◌+◌, ◌-◌, ◌<◌, true, false, List, [], ◌∷◌, ◌++◌, Option, Some, None, refl, sym, ◌∙◌, ap, subst, inl, inr, arith}
use Rattle.std.proofs.lemmas.Bool.{cases_Bool, cases_eq, ne_eqb, eq-eqb}
use Rattle.mb_cells.proofs.Names.{access_is, is_same_word-eq}
use Rattle.mb_world.proofs.Cells.{once_start}
use Rattle.mb_world.specs.Imports.{Counter, END, FetchAdd, Gave, Has, HasMet, Head, History, IsGift, IsLinkWord, IsOnceEach, IsStart, Item, Link, Load}
use Rattle.mb_world.specs.Imports.{PoolAccess, PoolAct, Reader, Store, Word, is_same_word, linked_cells, part, place_past, push_if}
use Rattle.mb_world.specs.Plan.{Histories, Plan, consumers_of}
use Rattle.mb_world.specs.Fitting.{FollowsLinks, cell_given, cells_met, parts_of}
use Rattle.mb_world.specs.Reporting.{HasMetAll}
use Rattle.mb_world.specs.Known.{Known}
use Rattle.mb_world.proofs.PathLoads.{HasMet-more, met_elsewhere, met_there, one_given}
use Rattle.mb_world.proofs.Positions.{at_has, at_start, has_at}
use Rattle.mb_world.proofs.ReaderParts.{of_part}
use Rattle.mb_world.proofs.WorldFollows.{met_stay}

-- an act that leads to cell k is a load of k + 1, which is no end mark
given_load : (act : PoolAct) (k : ℕ) → cell_given act ≡ Some k → (act ≡ Load (k + 1)) × (k + 1 ≢ END)
given_load (Load v) k e = by (cases_eq v 0) (cases_eq v END)
  where
    by : (v ≡ 0) ⊎ (v ≡ 0 → ⊥) → (v ≡ END) ⊎ (v ≡ END → ⊥) → (Load v ≡ Load (k + 1)) × (k + 1 ≢ END)
    by (inl zero_v) end = absurd (let f : None ≡ Some k = rw (eq-eqb v 0 zero_v) at e in cc)
    by (inr some) (inl end) = absurd (let f : None ≡ Some k = rw (ne_eqb v 0 some, eq-eqb v END end) at e in cc)
    by (inr some) (inr more) =
        let f : Some (v - 1) ≡ Some k = rw (ne_eqb v 0 some, ne_eqb v END more) at e in
        let g : v - 1 ≡ k = cc in
        let h : v ≡ k + 1 = omega (arith, g, some) in
        (ap Load h, λ x. more (h ∙ x))
given_load (Store v) k e = absurd (cc)
given_load (FetchAdd x n) k e = absurd (cc)

-- an act that gives cell k is on a head or a link, and leads to cell k
gift_link : (w : Word) (act : PoolAct) (k : ℕ) → IsGift k w act → IsLinkWord w × (cell_given act ≡ Some k)
gift_link Counter act k g = absurd g
gift_link (Head p) (Load v) k g = (tt, ap (λ i. cell_given (Load i)) g.0 ∙ one_given k (λ e. g.1 (g.0 ∙ e)))
gift_link (Head p) (Store v) k g = absurd g
gift_link (Head p) (FetchAdd x n) k g = absurd g
gift_link (Link j) (Load v) k g = (tt, ap (λ i. cell_given (Load i)) g.0 ∙ one_given k (λ e. g.1 (g.0 ∙ e)))
gift_link (Link j) (Store v) k g = absurd g
gift_link (Link j) (FetchAdd x n) k g = absurd g
gift_link (Item j) act k g = absurd g

-- the cells that `cells_met` reads off a reader's loads were met in the history of these loads alone (`HasMet`)
met_cells : (q p : ℕ) (d : History) → ((a : PoolAccess) → Has d a → a.process ≡ Reader q) → HasMet q p (cells_met p d) d
met_cells q p [] own = tt
met_cells q p (a ∷ older) own =
    by (cases_Bool (is_same_word a.word (place_past p (cells_met p older))))
    (HasMet-more q p older (a ∷ older) (cells_met p older) (λ b m. inr m) (met_cells q p older (λ b m. own b (inr m))))
  where
    -- if the load leads to a cell, the reader has met this cell after those met before
    by_given : (o : Option ℕ) → cell_given a.act ≡ o → a.word ≡ place_past p (cells_met p older)
        → HasMet q p (cells_met p older) (a ∷ older) → HasMet q p (push_if o (cells_met p older)) (a ∷ older)
    by_given None e at older_met = older_met
    by_given (Some k) e at older_met =
        let l = given_load a.act k e in (
          inl (access_is a (Reader q) (place_past p (cells_met p older)) (Load (k + 1))
              (own a (inl refl)) at l.0),
          l.1,
          older_met,
        )

    by : (is_same_word a.word (place_past p (cells_met p older)) ≡ true)
        ⊎ (is_same_word a.word (place_past p (cells_met p older)) ≡ false)
        → HasMet q p (cells_met p older) (a ∷ older) → HasMet q p (cells_met p (a ∷ older)) (a ∷ older)
    by (inl same) older_met =
        let at = is_same_word-eq a.word (place_past p (cells_met p older)) same in
        subst (λ ks. HasMet q p ks (a ∷ older)) (sym (met_there p (cells_met p older) a older refl at))
        (by_given (cell_given a.act) refl at older_met)
    by (inr other) older_met =
        subst (λ ks. HasMet q p ks (a ∷ older)) (sym (met_elsewhere p a older other)) older_met

-- if loads follow the links, they met on some lane each cell that they gave
gave_met : (d : History) (k : ℕ) → FollowsLinks d → Gave k d → (p : ℕ) × Has (cells_met p d) k
gave_met [] k f g = absurd g
gave_met (a ∷ older) k f (inl g) =
    let l = gift_link a.word a.act k g in
    let lane = f.0 l.0 in (
      lane.0,
      subst (λ ks. Has ks k) (sym (met_there lane.0 (cells_met lane.0 older) a older refl lane.1
          ∙ ap (λ o. push_if o (cells_met lane.0 older)) l.1)) (inl refl),
    )
gave_met (a ∷ older) k f (inr g) = let q = gave_met older k f.1 g in (q.0, met_stay q.0 a older k q.1)

-- ---- the cells met by the part of a reader in a lawful history
-- the cells that `cells_met` reads off a reader's part were met in the whole history, too (`HasMet`)
pub met_in : (q p : ℕ) (h : History) → HasMet q p (cells_met p (part (Reader q) h)) h
met_in q p h =
    HasMet-more q p (part (Reader q) h) h (cells_met p (part (Reader q) h)) (λ a m. (of_part q h a m).0)
    (met_cells q p (part (Reader q) h) (λ a m. (of_part q h a m).1))

module _ (q : ℕ) (h : History)
    (start : (p : ℕ) (ks : List ℕ) → HasMet q p ks h → IsStart ks (linked_cells p h))
    (one_lane : (p r k : ℕ) → Has (linked_cells p h) k → Has (linked_cells r h) k → p ≡ r) where
  -- the cells that the reader's part met on a lane are linked there
  pub on_lane_in : (p k : ℕ) → Has (cells_met p (part (Reader q) h)) k → Has (linked_cells p h) k
  on_lane_in p k has =
      let s = start p (cells_met p (part (Reader q) h)) (met_in q p h) in
      let at = has_at (cells_met p (part (Reader q) h)) k has in
      subst (λ (ls : List ℕ). Has ls k) s.1
      (at_has (s.0 ++ cells_met p (part (Reader q) h)) at.0 k
      (at_start s.0 (cells_met p (part (Reader q) h)) at.0 k at.1))

  -- if each cell of the lane is linked there once, the reader's part met each once
  pub once_in : (p : ℕ) → IsOnceEach (linked_cells p h) → IsOnceEach (cells_met p (part (Reader q) h))
  once_in p once =
      let s = start p (cells_met p (part (Reader q) h)) (met_in q p h) in
      once_start s.0 (cells_met p (part (Reader q) h)) (subst IsOnceEach (sym s.1) once)

  -- the cells that the part met on a lane are all that the reader met there, if its loads follow the links
  pub all_met_in : (p : ℕ) → FollowsLinks (part (Reader q) h) → HasMetAll q p (cells_met p (part (Reader q) h)) h
  all_met_in p follows = record {
    met = met_in q p h;
    all = λ k gave here.
        let there = gave_met (part (Reader q) h) k follows gave in
        let same = one_lane there.0 p k (on_lane_in there.0 k there.1) here in
        subst (λ (r : ℕ). Has (cells_met r (part (Reader q) h)) k) same there.1;
  }

-- ---- the cells met by a consumer's own loads
module _ (plan : Plan) (hs : Histories) (known : Known plan hs) (c p : ℕ) (cs : c < consumers_of plan) where
  -- the loads of consumer c
  abbrev reads : History
  reads = (parts_of c hs).reads

  -- the cells that these loads met on a lane were met in the history
  met_on : (q : ℕ) → HasMet (hs.reader_of c) q (cells_met q reads) hs.pool
  met_on q =
      HasMet-more (hs.reader_of c) q reads hs.pool (cells_met q reads) (λ a m. (of_part (hs.reader_of c) hs.pool a m).0)
      (met_cells (hs.reader_of c) q reads (λ a m. (of_part (hs.reader_of c) hs.pool a m).1))

  -- the cells that these loads met on a lane are linked there
  on_lane : (q k : ℕ) → Has (cells_met q reads) k → Has (linked_cells q hs.pool) k
  on_lane q k has =
      let s = known.start (hs.reader_of c) q (cells_met q reads) (met_on q) in
      let at = has_at (cells_met q reads) k has in
      subst (λ (ls : List ℕ). Has ls k) s.1
      (at_has (s.0 ++ cells_met q reads) at.0 k (at_start s.0 (cells_met q reads) at.0 k at.1))

  -- the cells that `cells_met` reads off these loads are all that the consumer met on lane p
  pub all_met : HasMetAll (hs.reader_of c) p (cells_met p reads) hs.pool
  all_met = record {
    met = met_on p;
    all = λ k gave here.
        let there = gave_met reads k (known.fit c cs).follows gave in
        let same = known.one_lane there.0 p k (on_lane there.0 k there.1) here in
        subst (λ (q : ℕ). Has (cells_met q reads) k) same there.1;
  }
