-- The accesses to the cells in a lawful history of a world.
use Rattle.std.proofs.Common.{◌≡◌, ◌⊎◌, ℕ, ◌<◌, ◌≤◌, Bool, true, ◌&&◌, sym, ap, subst, inl, inr, arith}
use Rattle.std.specs.Prelude.{filter, nat_lt}
use Rattle.std.proofs.lemmas.Bool.{and_parts, cases_lt, le-ltb, lt-ltb}
use Rattle.std.proofs.lemmas.List.Elements.{filter_agree}
use Rattle.mb_world.specs.Imports.{Has, History, IsPoolLawful, IsReaderPath, PoolAccess, Reader, Word, is_of_lane, is_same_process, linked_cells, part}
use Rattle.mb_world.specs.Plan.{Plan, consumers_of, size_of}
use Rattle.mb_world.specs.Fitting.{HasRead}
use Rattle.mb_world.specs.World.{ToCells, WorldHistory, lane_part, pool_accesses}
use Rattle.mb_world.specs.Worlds.{IsOnLane, IsWorldLawful}
use Rattle.mb_world.proofs.LaneParts.{Has-filter, Has-of_filter, filter_none, nothing, pool_has, pool_on}
use Rattle.mb_world.proofs.PathLoads.{path_reads}
use Rattle.mb_world.proofs.ReaderParts.{of_part}

module _ (plan : Plan) (h : WorldHistory) (lawful : IsWorldLawful plan h) where
  -- whether the access is to a word of lane p
  abbrev pub of_lane : ℕ → PoolAccess → Bool
  of_lane p a = is_of_lane p (linked_cells p (pool_accesses h)) a.word

  -- the loads of consumer c
  abbrev pub loads : ℕ → History
  loads c = part (Reader c) (pool_accesses h)

  -- a consumer's loads on lane p are those of its part there
  pub loads_on : (c p : ℕ) → pool_accesses (lane_part c p h) ≡ filter (of_lane p) (loads c)
  loads_on c p = pool_on c p (linked_cells p (pool_accesses h)) h

  -- each access of a reader is on a lane of the mailbox, and the reader is one of its consumers
  pub load_lane : (q : ℕ) (a : PoolAccess) → Has (loads q) a → IsOnLane plan q (ToCells a) h
  load_lane q a has =
      let own = of_part q (pool_accesses h) a has in lawful.no_others q (ToCells a) (pool_has h a own.0) own.1

  -- an access of a reader is to a word of the lane on which it is
  pub on_word : (q : ℕ) (a : PoolAccess) (on : IsOnLane plan q (ToCells a) h) → of_lane on.lane a ≡ true
  on_word q a on = (and_parts (is_same_process (Reader q) a.process) (of_lane on.lane a) on.on).1

  -- a load of a word of lane p is in the consumer's part there
  pub read_there : (c p : ℕ) (w : Word) (v : ℕ) (r : HasRead w v (loads c)) → of_lane p r.0 ≡ true
      → HasRead w v (pool_accesses (lane_part c p h))
  read_there c p w v r on = (
    r.0,
    subst (λ (d : History). Has d r.0) (sym (loads_on c p))
        (Has-filter (of_lane p) (loads c) r.0 r.1 on),
    r.2,
    r.3,
  )

  -- a load in a consumer's part on a lane is one of all its loads
  pub read_here : (c p : ℕ) (w : Word) (v : ℕ) → HasRead w v (pool_accesses (lane_part c p h)) → HasRead w v (loads c)
  read_here c p w v r =
      (r.0, Has-of_filter (of_lane p) (loads c) r.0 (subst (λ (d : History). Has d r.0) (loads_on c p) r.1), r.2, r.3)

  -- ---- the loads of a consumer are a reader path, so the history of the cells is lawful
  -- the loads of a consumer on one lane are a reader path
  lane_path : (c p : ℕ) → c < consumers_of plan → p < plan.lanes
      → IsReaderPath plan.lanes (filter (of_lane p) (loads c))
  lane_path c p cs ps =
      subst (λ (d : History). IsReaderPath plan.lanes d) (loads_on c p)
      (path_reads plan.claims c plan.lanes ps (lawful.consumers c p cs ps).path)

  -- whether lane p is one of the mailbox's, and the access is to a word of it
  abbrev in_lane : ℕ → PoolAccess → Bool
  in_lane p a = nat_lt p plan.lanes && of_lane p a

  -- each load of a consumer is on some lane
  some_lane : (c : ℕ) (a : PoolAccess) → Has (loads c) a → (p : ℕ) × (in_lane p a ≡ true)
  some_lane c a has =
      let on = load_lane c a has in (on.lane, rw (lt-ltb on.lane plan.lanes on.below) (on_word c a on))

  -- for each number p the loads on lane p, or none if there is no such lane, are a reader path
  each_path : (c p : ℕ) → c < consumers_of plan → IsReaderPath plan.lanes (filter (in_lane p) (loads c))
  each_path c p cs = by (cases_lt p plan.lanes)
    where
      by : (p < plan.lanes) ⊎ (plan.lanes ≤ p) → IsReaderPath plan.lanes (filter (in_lane p) (loads c))
      by (inl ps) =
          subst (λ (d : History). IsReaderPath plan.lanes d)
          (sym (filter_agree (in_lane p) (of_lane p) (λ a. ap (λ b. b && of_lane p a) (lt-ltb p plan.lanes ps))
          (loads c)))
          (lane_path c p cs ps)
      by (inr past) =
          subst (λ (d : History). IsReaderPath plan.lanes d)
          (sym (filter_none (in_lane p) (loads c) (λ a. ap (λ b. b && of_lane p a) (le-ltb p plan.lanes past)))) tt

  -- `whole` is a law of mb_cells: accesses are a reader path if their parts on all lanes are
  module _ (whole : (test : ℕ → PoolAccess → Bool) (done : History)
      → ((a : PoolAccess) → Has done a → (p : ℕ) × (test p a ≡ true))
      → ((p : ℕ) → IsReaderPath plan.lanes (filter (test p) done)) → IsReaderPath plan.lanes done) where
    -- what each reader did is a reader path
    reads : (q : ℕ) → IsReaderPath plan.lanes (loads q)
    reads q = by (cases_lt q (consumers_of plan))
      where
        by : (q < consumers_of plan) ⊎ (consumers_of plan ≤ q) → IsReaderPath plan.lanes (loads q)
        by (inl qs) = whole in_lane (loads q) (some_lane q) (λ p. each_path q p qs)
        by (inr past) =
            subst (λ (d : History). IsReaderPath plan.lanes d)
            (sym (nothing (loads q) (λ a has. let on = load_lane q a has in omega (arith, on.known)))) tt

    -- the history of the cells is lawful
    pub pool_lawful : IsPoolLawful (size_of plan) (pool_accesses h)
    pool_lawful = record {
      sized = lawful.sized;
      fits = lawful.cells_fit;
      memory = lawful.cells_memory;
      producers = lawful.producers;
      readers = reads;
    }
