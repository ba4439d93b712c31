-- In a lawful history of a world, the two parts of each consumer fit.
use Rattle.std.proofs.Common.{◌≡◌, ◌≢◌, ℕ, ◌<◌, true, [], sym, ◌∙◌, subst, inl, inr}
use Rattle.mb_claim.specs.declared.access.Stage.TheVariants as stage
use Rattle.mb_world.specs.declared.report.Note.{Note}
use Rattle.mb_world.specs.declared.report.Note.TheVariants.{Took, Lost, Undecided}
use Rattle.mb_world.specs.Imports.{Gave, History, IsClaimPrefix, Item, Link, Stage, Word, claim_part, is_of_lane, linked_cells}
use Rattle.mb_world.specs.Plan.{Plan, consumers_of}
use Rattle.mb_world.specs.Fitting.{EndsAs, Fits, HasStageIn, HasRead, parts_of}
use Rattle.mb_world.specs.World.{WorldHistory, claim_accesses, histories_of, lane_part, pool_accesses}
use Rattle.mb_world.specs.Worlds.{IsOnPath, IsWorldLawful}
use Rattle.mb_world.proofs.Cells.{has_or_not}
use Rattle.mb_world.proofs.LaneParts.{gave-filter}
use Rattle.mb_world.proofs.Tracks.{EndsIn, closed, ends_some}
use Rattle.mb_world.proofs.WorldClaims.{claim_lane, end_here, steps_there, tracks}
use Rattle.mb_world.proofs.WorldFollows.{follows}
use Rattle.mb_world.specs.WorldKnown.{WorldKnown}
use Rattle.mb_world.proofs.WorldPool.{load_lane, loads, loads_on, of_lane, on_word, read_there}

module _ (plan : Plan) (h : WorldHistory) (lawful : IsWorldLawful plan h) (known : WorldKnown plan h) where
  -- the claim of consumer c on cell k has ended as the note says
  abbrev Ends : ℕ → ℕ → Note → Type 0
  Ends c k n = EndsAs plan.claims c k n (parts_of c (histories_of h))

  -- the claim of consumer c on cell k has this stage
  abbrev Comes : ℕ → ℕ → Stage → Type 0
  Comes c k s = HasStageIn plan.claims c k s (parts_of c (histories_of h))

  -- a claim that has ended as a note says has a stage, and does not go on
  stage_of_end : (c k : ℕ) (n : Note) → Ends c k n → (s : Stage) × Comes c k s × (s ≢ stage.Going)
  stage_of_end c k (Took v) e = (stage.Won, e.0, λ d. cc)
  stage_of_end c k (Lost w) e = (stage.Lost w, e, λ d. cc)
  stage_of_end c k Undecided e = (stage.Undecided, e, λ d. cc)

  -- if a claim that has ended as a note says is won, its item was loaded
  item_of_end : (c k : ℕ) (n : Note) → Ends c k n → Comes c k stage.Won
      → (y : ℕ) × HasRead (Item k) y (loads plan h lawful c)
  item_of_end c k (Took v) e won = (v, e.1)
  item_of_end c k (Lost w) e won =
      absurd (let d = known.stage c (claim_part c k (claim_accesses h)) (stage.Lost w) stage.Won e won in cc)
  item_of_end c k Undecided e won =
      absurd (let d = known.stage c (claim_part c k (claim_accesses h)) stage.Undecided stage.Won e won in cc)

  module _ (c : ℕ) (cs : c < consumers_of plan) where
    -- the value v was loaded from a word of one of the lanes, and so in the part on that lane
    record IsThere (w : Word) (v : ℕ) : Type 0 where
      pub lane : ℕ
      pub path : IsOnPath plan c lane h
      pub here : is_of_lane lane (linked_cells lane (pool_accesses h)) w ≡ true
      pub read : HasRead w v (pool_accesses (lane_part c lane h))

    -- each value that the consumer loaded from a word is loaded in its part on one of the lanes
    there : (w : Word) (v : ℕ) → HasRead w v (loads plan h lawful c) → IsThere w v
    there w v r =
        let on = load_lane plan h lawful c r.0 r.1 in
        let word = on_word plan h lawful c r.0 on in
        record {
          lane = on.lane;
          path = lawful.consumers c on.lane on.known on.below;
          here = subst (λ (u : Word). is_of_lane on.lane (linked_cells on.lane (pool_accesses h)) u ≡ true) r.2 word;
          read = read_there plan h lawful c on.lane w v r word;
        }

    -- if a cell's link was loaded, the claim there has ended as some note says
    end_past : (k v : ℕ) → HasRead (Link k) v (loads plan h lawful c) → (n : Note) × Ends c k n
    end_past k v r =
        let l = there (Link k) v r in
        let y = tracks plan h lawful known c l.lane l.path in
        let has = y.links k v l.read in
        let e = ends_some (EndsIn plan.claims c (lane_part c l.lane h))
        (closed l.path.cells l.path.held) l.path.notes k y.ended has in
        (e.0, end_here plan h lawful known c l.lane k e.0 l.here e.1)

    -- the consumer's loads gave it each cell on which it made a step
    met : (k : ℕ) → claim_part c k (claim_accesses h) ≢ [] → Gave k (loads plan h lawful c)
    met k some =
        let on = claim_lane plan h lawful known c k some in
        let same = steps_there plan h lawful known c on.lane k on.here in
        let path = lawful.consumers c on.lane on.consumer on.below in
        let y = tracks plan h lawful known c on.lane path in
        gave on.lane (elim (has_or_not path.cells k) [
          | inl has ↦ y.given k has
          | inr n ↦ absurd (some (sym same ∙ y.none k n))
        ])
      where
        -- a cell that the loads in the part on a lane gave was given by all loads of the consumer
        gave : (p : ℕ) → Gave k (pool_accesses (lane_part c p h)) → Gave k (loads plan h lawful c)
        gave p g =
            gave-filter (of_lane plan h lawful p) (loads plan h lawful c) k
            (subst (λ (d : History). Gave k d) (loads_on plan h lawful c p) g)

    -- an item was loaded only if the claim there is won
    won : (k v : ℕ) → HasRead (Item k) v (loads plan h lawful c) → Comes c k stage.Won
    won k v r =
        let l = there (Item k) v r in
        let y = tracks plan h lawful known c l.lane l.path in
        subst (λ xs. IsClaimPrefix plan.claims c xs stage.Won)
        (steps_there plan h lawful known c l.lane k l.here) (y.won k v l.read)

    -- the two parts of the consumer fit
    pub fit : Fits plan.claims c (parts_of c (histories_of h))
    fit = record {
      follows = follows plan h lawful known c cs;
      met = met;
      ended = λ k v r. let e = end_past k v r in stage_of_end c k e.0 e.1;
      taken = λ k v r q. let e = end_past k v r in item_of_end c k e.0 e.1 q;
      won = won;
    }
