-- A consumer that has loaded the end mark of a lane has a note at each position there.
use Rattle.std.proofs.Common.{◌≡◌, ◌⊎◌, ℕ, suc, ◌<◌, ◌≤◌, true, List, [], ◌∷◌, ◌++◌, length, refl, sym, subst, inl, inr, arith, eqb-true}
use Rattle.std.proofs.lemmas.Bool.{cases_lt}
use Rattle.mb_world.specs.Imports.{Counter, END, Gave, Has, HasLoaded, HasMet, Head, IsLinkWord, Item, Link, Reader, Word, is_of_lane, linked_cells, part, place_past}
use Rattle.mb_world.specs.Plan.{HasMetEnd, Histories, Plan, consumers_of}
use Rattle.mb_world.specs.Theorem.{DiaryView}
use Rattle.mb_world.specs.Reporting.{IsDiaryOf, values_put}
use Rattle.mb_world.proofs.Cells.{cell-of_true}
use Rattle.mb_world.proofs.Diaries.{met_at, passed, values_length}
use Rattle.mb_world.specs.Known.{Known}
use Rattle.mb_world.proofs.Loads.{gave-link, met_given, met_link}
use Rattle.mb_world.proofs.Positions.{HasPosition, at_has, at_some, at_start, at_within}
use Rattle.mb_world.proofs.ReaderParts.{read-loaded}

module _ (plan : Plan) (hs : Histories) (known : Known plan hs) where
  -- the reader has met all cells of the lane, and has loaded the end mark past the last
  pub record HasMetLane (q p : ℕ) : Type 0 where
    pub all : HasMet q p (linked_cells p hs.pool) hs.pool
    pub last : HasLoaded q (place_past p (linked_cells p hs.pool)) END hs.pool

  -- a reader that has loaded the end mark of a lane has met all of its cells, and loaded the mark past the last
  met_lane : (q p : ℕ) → HasMetEnd q p hs.pool → HasMetLane q p
  met_lane q p end = by_word end.0 end.1 end.2 end.3
    where
      -- if the reader met these cells of the lane, and loaded the end mark past them, they are all cells of the lane
      met_all : (ks : List ℕ) → HasMet q p ks hs.pool → HasLoaded q (place_past p ks) END hs.pool → HasMetLane q p
      met_all ks met loaded =
          let all = known.end q p ks met loaded in
          record {
            all = subst (λ ls. HasMet q p ls hs.pool) all met;
            last = subst (λ ls. HasLoaded q (place_past p ls) END hs.pool) all loaded;
          }

      -- if the reader loaded the end mark from the link of a cell of the lane, it has met all cells of the lane
      past_cell : (k : ℕ) → Has (linked_cells p hs.pool) k → HasLoaded q (Link k) END hs.pool → HasMetLane q p
      past_cell k here loaded = met_all (k ∷ chain.1.0) met loaded
        where
          gave : Gave k (part (Reader q) hs.pool)
          gave =
              let read = read-loaded q hs.pool (Link k) END loaded in
              gave-link plan.lanes (part (Reader q) hs.pool) read.0 k (known.path q) read.1 read.2

          chain : (i : ℕ) × ((older : List ℕ) × HasMet q i (k ∷ older) hs.pool)
          chain = known.chain q k gave

          same : chain.0 ≡ p
          same =
              let s = known.start q chain.0 (k ∷ chain.1.0) chain.1.1 in
              let at = at_start s.0 (k ∷ chain.1.0) (length chain.1.0) k (inl (refl, refl)) in
              known.one_lane chain.0 p k
              (subst (λ (ls : List ℕ). Has ls k) s.1 (at_has (s.0 ++ k ∷ chain.1.0) (length chain.1.0) k at)) here

          met : HasMet q p (k ∷ chain.1.0) hs.pool
          met = subst (λ (i : ℕ). HasMet q i (k ∷ chain.1.0) hs.pool) same chain.1.1

      -- a reader that loaded the end mark of the lane from this word has met all cells of the lane
      by_word : (w : Word) → IsLinkWord w → is_of_lane p (linked_cells p hs.pool) w ≡ true → HasLoaded q w END hs.pool
          → HasMetLane q p
      by_word Counter link on loaded = absurd link
      by_word (Head i) link on loaded =
          met_all [] tt (subst (λ (l : ℕ). HasLoaded q (Head l) END hs.pool) (sym (eqb-true p i on)) loaded)
      by_word (Link k) link on loaded = past_cell k (cell-of_true (linked_cells p hs.pool) k on) loaded
      by_word (Item k) link on loaded = absurd link

  module _ (c p : ℕ) (cs : c < consumers_of plan) (d : DiaryView) (diary : IsDiaryOf plan c p hs d) where
    -- a consumer that has loaded the end mark of the lane has a note at each position there
    pub ends_noted : (j : ℕ) → HasMetEnd (hs.reader_of c) p hs.pool → j < length (values_put p hs.pool)
        → j < length d.notes
    ends_noted j end inside = noted_there (cases_lt (suc j) (length (linked_cells p hs.pool)))
      where
        lane : HasMetLane (hs.reader_of c) p
        lane = met_lane (hs.reader_of c) p end

        -- some cell is at position j of the lane
        here : (x : ℕ) × HasPosition (linked_cells p hs.pool) j x
        here = at_some (linked_cells p hs.pool) j (omega (arith, inside, values_length p hs.pool))

        -- that cell is at position j of the cells that the consumer met
        there : HasPosition diary.cells j here.0
        there =
            met_at plan hs known c p cs d diary j here.0 here.1
            (met_given (hs.reader_of c) p hs.pool (linked_cells p hs.pool) here.0 lane.all
            (at_has (linked_cells p hs.pool) j here.0 here.1))

        -- if this cell is the last of the lane, the consumer loaded the end mark from its link
        last_link : (ls : List ℕ) → HasPosition ls j here.0 → length ls ≤ suc j
            → HasLoaded (hs.reader_of c) (place_past p ls) END hs.pool
            → HasLoaded (hs.reader_of c) (Link here.0) END hs.pool
        last_link [] at low loaded = absurd at
        last_link (k ∷ ks) (inl at) low loaded =
            subst (λ (x : ℕ). HasLoaded (hs.reader_of c) (Link x) END hs.pool) at.1 loaded
        last_link (k ∷ ks) (inr at) low loaded = absurd (omega (arith, low, at_within ks j here.0 at))

        -- the consumer loaded the cell's link, as it met the next cell or the end mark there. So there is a note at j
        noted_there : (suc j < length (linked_cells p hs.pool)) ⊎ (length (linked_cells p hs.pool) ≤ suc j)
            → j < length d.notes
        noted_there (inl more) =
            let l = met_link (hs.reader_of c) p hs.pool (linked_cells p hs.pool) j here.0 lane.all here.1 more in
            passed plan hs known c p cs d diary j here.0 l.0 there l.1
        noted_there (inr last) =
            passed plan hs known c p cs d diary j here.0 END there
            (last_link (linked_cells p hs.pool) here.1 last lane.last)
