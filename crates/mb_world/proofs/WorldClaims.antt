-- The accesses to the claims in a lawful history of a world.
use Rattle.std.proofs.Common.{◌≡◌, ◌≢◌, ℕ, ◌<◌, true, List, [], ◌++◌, sym, ◌∙◌, subst}
use Rattle.std.specs.Prelude.{nat_eq}
use Rattle.std.proofs.lemmas.Bool.{and_parts}
use Rattle.mb_claim.specs.declared.access.Stage.TheVariants as stage
use Rattle.mb_world.specs.declared.report.Note.{Note}
use Rattle.mb_world.specs.declared.report.Note.TheVariants.{Took, Lost, Undecided}
use Rattle.mb_world.specs.Imports.{Has, HasMet, History, IsClaimLawful, IsClaimPrefix, IsOnceEach, Item, claim_part, has_cell, linked_cells}
use Rattle.mb_world.specs.Plan.{Plan, consumers_of}
use Rattle.mb_world.specs.Fitting.{EndsAs, parts_of}
use Rattle.mb_world.specs.World.{ToClaims, WorldHistory, claim_accesses, histories_of, lane_part, pool_accesses}
use Rattle.mb_world.specs.Worlds.{IsOnPath, IsWorldLawful}
use Rattle.mb_world.proofs.Cells.{cell-of_true, once_start}
use Rattle.mb_world.proofs.LaneParts.{Has-of_filter, claim_has, claim_on}
use Rattle.mb_world.proofs.PathLoads.{HasMet-more, path_met}
use Rattle.mb_world.proofs.Positions.{at_has, at_start, has_at}
use Rattle.mb_world.proofs.ReaderParts.{of_part}
use Rattle.mb_world.proofs.Tracks.{EndsIn, Tracks, track}
use Rattle.mb_world.specs.WorldKnown.{WorldKnown}
use Rattle.mb_world.proofs.WorldPool.{loads, loads_on, of_lane, read_here}

module _ (plan : Plan) (h : WorldHistory) (lawful : IsWorldLawful plan h) (known : WorldKnown plan h) where
  -- the cells to which a consumer's path leads were met
  pub met_all : (c p : ℕ) (y : IsOnPath plan c p h) → HasMet c p y.cells (pool_accesses h)
  met_all c p y =
      HasMet-more c p (pool_accesses (lane_part c p h)) (pool_accesses h) y.cells
      (λ a has. (of_part c (pool_accesses h) a (Has-of_filter (of_lane plan h lawful p) (loads plan h lawful c) a
      (subst (λ (d : History). Has d a) (loads_on plan h lawful c p) has))).0) (path_met plan.claims c y.path)

  -- the cells met are linked on the lane
  pub on_lane : (c p k : ℕ) (y : IsOnPath plan c p h) → Has y.cells k → Has (linked_cells p (pool_accesses h)) k
  on_lane c p k y has =
      let s = known.start c p y.cells (met_all c p y) in
      let at = has_at y.cells k has in
      subst (λ (ls : List ℕ). Has ls k) s.1 (at_has (s.0 ++ y.cells) at.0 k (at_start s.0 y.cells at.0 k at.1))

  -- each cell met was met once
  pub met_once : (c p : ℕ) (y : IsOnPath plan c p h) → IsOnceEach y.cells
  met_once c p y =
      let s = known.start c p y.cells (met_all c p y) in
      once_start s.0 y.cells (subst IsOnceEach (sym s.1) (known.once p))

  -- what the cells, notes and claim of a path tell of the consumer's part on the lane
  pub tracks : (c p : ℕ) (y : IsOnPath plan c p h) → Tracks plan.claims c (lane_part c p h) y.cells y.notes y.held
  tracks c p y = track plan.claims c (met_once c p y) y.path

  -- a claim with steps is on a cell of one of the lanes
  pub record IsOnCell (c k : ℕ) : Type 0 where
    pub consumer : c < consumers_of plan
    pub lane : ℕ
    pub below : lane < plan.lanes
    pub here : has_cell (linked_cells lane (pool_accesses h)) k ≡ true

  -- each claim with steps is one of a consumer of the plan, on a cell of one of the lanes
  pub claim_lane : (c k : ℕ) → claim_part c k (claim_accesses h) ≢ [] → IsOnCell c k
  claim_lane c k some =
      let q = claim_has c k h some in
      let on = lawful.no_others c (ToClaims q.0) q.1 q.2 in
      record {
        consumer = on.known;
        lane = on.lane;
        below = on.below;
        here = subst (λ (i : ℕ). has_cell (linked_cells on.lane (pool_accesses h)) i ≡ true) q.3
            (and_parts (nat_eq q.0.consumer c) (has_cell (linked_cells on.lane (pool_accesses h)) q.0.cell) on.on).1;
      }

  -- the steps of a claim on a cell of a lane are those of the consumer's part on that lane
  pub steps_there : (c p k : ℕ) → has_cell (linked_cells p (pool_accesses h)) k ≡ true
      → claim_part c k (claim_accesses (lane_part c p h)) ≡ claim_part c k (claim_accesses h)
  steps_there c p k here = claim_on c p (linked_cells p (pool_accesses h)) k h here

  -- the history of the claims is lawful
  pub claims_lawful : IsClaimLawful plan.claims (claim_accesses h)
  claims_lawful = record {
    memory = lawful.claims_memory;
    words = lawful.claims_fit;
    parts = λ c k some.
        let on = claim_lane c k some in
        let same = steps_there c on.lane k on.here in
        let y = tracks c on.lane (lawful.consumers c on.lane on.consumer on.below) in
        let q = y.prefix k (λ e. some (sym same ∙ e)) in (
          on.consumer,
          known.within on.lane k (cell-of_true (linked_cells on.lane (pool_accesses h)) k on.here),
          (q.0, subst (λ xs. IsClaimPrefix plan.claims c xs q.0) same q.1),
        );
  }

  -- if by the consumer's part on the cell's lane a claim has ended as a note says, so it has by all its consumer did
  pub end_here : (c p k : ℕ) (n : Note) → has_cell (linked_cells p (pool_accesses h)) k ≡ true
      → EndsIn plan.claims c (lane_part c p h) k n → EndsAs plan.claims c k n (parts_of c (histories_of h))
  end_here c p k (Took v) here e = (
    subst (λ xs. IsClaimPrefix plan.claims c xs stage.Won) (steps_there c p k here) e.0,
    read_here plan h lawful c p (Item k) v e.1,
  )
  end_here c p k (Lost w) here e =
      subst (λ xs. IsClaimPrefix plan.claims c xs (stage.Lost w)) (steps_there c p k here) e
  end_here c p k Undecided here e =
      subst (λ xs. IsClaimPrefix plan.claims c xs stage.Undecided) (steps_there c p k here) e
