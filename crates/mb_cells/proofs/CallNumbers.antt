-- Which cells the offers in a list of calls returned, when an offer returns Full, and what the counter holds.
use Rattle.std.proofs.Common.{List, None, Some, [], ap, arith, inl, inr, refl, subst, sym, ℕ, ◌<◌, ◌∙◌, ◌∷◌, ◌≡◌, ◌≤◌}
use Rattle.std.specs.Prelude.{nat_lt, slice_index_or, unwrap_or}
use Rattle.std.proofs.lemmas.Bool.{cases_Bool, ltb-false, ltb-true}
use Rattle.mb_cells.specs.declared.answer.Offer.TheVariants as offer
use Rattle.mb_cells.specs.declared.lane.LaneStage.TheVariants as stage
use Rattle.mb_cells.specs.Place as phase
use Rattle.mb_cells.specs.{Call, Counter, Finished, Has, HasMade, History, LaneIsAt, IsLaneAfter, Lane, LaneStage, Offered, Phase, PoolSize, PoolState}
use Rattle.mb_cells.specs.{Producer, Pushed, WasGivenBy, cell_count, fetch, fetch_adds_by, new_lane, offer_by_found, part, size_of, stage_by, stage_of}
use Rattle.mb_cells.specs.{stage_offer_refusal, value_in}
use Rattle.mb_cells.proofs.CallLaws.{calls_answer, made_stands}
use Rattle.mb_cells.proofs.Counter.{IsCounted, fetch-below}
use Rattle.mb_cells.proofs.Histories.{lawful-counted}
use Rattle.mb_cells.proofs.Parts.{Has-of_part}

-- if an offer whose fetch-add gives n returns cell k, then k is n, and one of the pool's cells
given_cell : (cells n k : ℕ) (z : LaneStage) → offer.Cell k ≡ unwrap_or (stage_offer_refusal z) (offer_by_found cells n)
    → (k ≡ n) × (k < cells)
given_cell cells n k (stage.Ended full) is = absurd (cc)
given_cell cells n k (stage.Offered cell item) is = absurd (cc)
given_cell cells n k (stage.Stored cell) is = absurd (cc)
given_cell cells n k stage.Full is = absurd (cc)
given_cell cells n k stage.Open is =
    elim (cases_Bool (nat_lt n cells)) [
      | inl low ↦
          let cell : offer.Cell k ≡ offer.Cell n = is ∙ rw low refl in
          let same : k ≡ n = cc in
          (same, subst (λ z. z < cells) (sym same) (ltb-true n cells low))
      | inr high ↦ absurd (let full : offer.Cell k ≡ offer.Full = is ∙ rw high refl in cc)
    ]

-- an offer returns the cell whose number is the number of fetch-adds before it, and that is one of the pool's cells
pub calls_cell : (size : PoolSize) (p x k : ℕ) (older : List Call) (s : PoolState)
    → HasMade size (Offered p x (offer.Cell k) ∷ older) s → (k ≡ fetch_adds_by older) × (k < size.cells)
calls_cell size p x k older s made =
    given_cell size.cells (fetch_adds_by older) k (stage_by p older)
    (calls_answer size (Offered p x (offer.Cell k)) older s made)

-- if a producer is at the stage Full, its fetch-add found no cell, so the counter is above the number of cells
full_at : (cells p : ℕ) (lane : Lane) (h : History) → IsCounted h → IsLaneAfter cells p lane (part (Producer p) h)
    → lane.stage ≡ stage.Full → cells < value_in Counter h
full_at cells p lane h counted x is =
    by x.phase x.at (sym x.stage ∙ is)
  where
    by : (phase : Phase) → LaneIsAt cells p x.entries phase (part (Producer p) h) → stage_of phase ≡ stage.Full
        → cells < value_in Counter h
    by phase.Open at e = absurd (cc)
    by (phase.Offered f) at e = absurd (cc)
    by (phase.Stored f) at e = absurd (cc)
    by (phase.Full f) at e =
        let has : Has (part (Producer p) h) (fetch p f) = subst (λ d. Has d (fetch p f)) (sym at.is) (inl refl) in
        omega (arith, at.fits, fetch-below h p f counted (Has-of_part (Producer p) h (fetch p f) has))
    by (phase.Ended None) at e = absurd (cc)
    by (phase.Ended (Some f)) at e = absurd (cc)

-- if n is above the number of cells at the stage Full, n is at least that number whenever an offer returns Full
given_full : (cells n : ℕ) (z : LaneStage) → (z ≡ stage.Full → cells < n)
    → offer.Full ≡ unwrap_or (stage_offer_refusal z) (offer_by_found cells n) → cells ≤ n
given_full cells n (stage.Ended full) past is = absurd (cc)
given_full cells n (stage.Offered cell item) past is = absurd (cc)
given_full cells n (stage.Stored cell) past is = absurd (cc)
given_full cells n stage.Full past is = omega (arith, past refl)
given_full cells n stage.Open past is =
    elim (cases_Bool (nat_lt n cells)) [
      | inl low ↦ absurd (let cell : offer.Full ≡ offer.Cell n = is ∙ rw low refl in cc)
      | inr high ↦ ltb-false n cells high
    ]

-- if an offer returns Full, the fetch-adds before it were at least as many as the pool has cells
pub calls_full : (size : PoolSize) (p x : ℕ) (older : List Call) (s : PoolState)
    → HasMade size (Offered p x offer.Full ∷ older) s → size.cells ≤ fetch_adds_by older
calls_full size p x older s (was, (made, (lt, meets, same))) =
    let b = made_stands size older was made in
    let lane = slice_index_or was.lanes p new_lane in
    let here = b.after.lanes p new_lane lt in
    let past : stage_by p older ≡ stage.Full → size.cells < fetch_adds_by older =
    λ is. let full = full_at (cell_count was) p lane b.history
    (lawful-counted (size_of was) b.history b.after.lawful) here
    (b.tells.stages p lane here ∙ is) in omega (arith, b.cells_are, b.tells.adds) in
    given_full size.cells (fetch_adds_by older) (stage_by p older) past
    (calls_answer size (Offered p x offer.Full) older s (was, (made, (lt, meets, same))))

-- each cell whose number is below the number of fetch-adds was returned by an offer
pub calls_given : (size : PoolSize) (k : ℕ) (calls : List Call) (s : PoolState) → HasMade size calls s
    → k < fetch_adds_by calls → k < size.cells → WasGivenBy k calls
calls_given size k [] s made few low = absurd (omega (arith, few))
calls_given size k (Offered p x (offer.Cell n) ∷ older) s (was, (made, leads)) few low =
    let is = calls_cell size p x n older s (was, (made, leads)) in
    elim (cases_Bool (nat_lt k (fetch_adds_by older))) [
      | inl before ↦ inr (calls_given size k older was made (ltb-true k (fetch_adds_by older) before) low)
      | inr not ↦ let same : n ≡ k = omega (arith, is.0, few, ltb-false k (fetch_adds_by older) not) in
          inl (ap offer.Cell same)
    ]
calls_given size k (Offered p x offer.Full ∷ older) s (was, (made, leads)) few low =
    let past = calls_full size p x older s (was, (made, leads)) in
    inr (calls_given size k older was made (omega (arith, past, low)) low)
calls_given size k (Offered p x offer.Busy ∷ older) s (was, (made, leads)) few low =
    inr (calls_given size k older was made (omega (arith, few)) low)
calls_given size k (Offered p x offer.Closed ∷ older) s (was, (made, leads)) few low =
    inr (calls_given size k older was made (omega (arith, few)) low)
calls_given size k (Pushed p r ∷ older) s (was, (made, leads)) few low = calls_given size k older was made few low
calls_given size k (Finished p r ∷ older) s (was, (made, leads)) few low = calls_given size k older was made few low

-- if an offer returns Full, each cell was returned by an earlier offer
pub calls_issued : (size : PoolSize) (p x k : ℕ) (older : List Call) (s : PoolState)
    → HasMade size (Offered p x offer.Full ∷ older) s → k < size.cells → WasGivenBy k older
calls_issued size p x k older s (was, (made, leads)) low =
    let past = calls_full size p x older s (was, (made, leads)) in
    calls_given size k older was made (omega (arith, past, low)) low

-- the counter holds the number of fetch-adds
pub calls_counter : (size : PoolSize) (calls : List Call) (s : PoolState) → HasMade size calls s
    → s.words.counter ≡ fetch_adds_by calls
calls_counter size calls s made = let b = made_stands size calls s made in b.after.words Counter tt ∙ b.tells.adds
