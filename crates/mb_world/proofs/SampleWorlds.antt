-- The small world of the samples: its history is lawful, access by access.
use Rattle.std.proofs.Common.{◌≡◌, ◌<◌, ◌^◌, ℕ, false, List, [], ◌∷◌, ◌++◌, drop, Option, Some, None, refl, sym, subst, inl, inr, arith}
use Rattle.std.specs.Prelude.{map}
use Rattle.mb_cells.specs.LanePath.{fetch, store}
use Rattle.mb_cells.specs.Memory.{ReadsLast}
use Rattle.mb_cells.specs.Place.{LaneIsAt, Phase, Ended, Offered, Open, Stored}
use Rattle.mb_deciding.specs.declared.access.Act.TheVariants as act
use Rattle.mb_deciding.specs.declared.access.Reg.TheVariants.{Value}
use Rattle.mb_deciding.specs.Vocabulary.{answer}
use Rattle.mb_claim.specs.declared.access.Stage.TheVariants as stage
use Rattle.mb_world.specs.declared.report.Note.{Note}
use Rattle.mb_world.specs.declared.report.Note.TheVariants.{Lost, Took}
use Rattle.mb_world.specs.Imports.{ActFits, END, Entry, Head, History, IsClaimPrefix, IsLanePrefix, Item, Link, ObjectTurn, PoolAccess, Producer, Stage, part}
use Rattle.mb_world.specs.World.{ToCells, WorldAccess, WorldHistory, lane_part, pool_accesses}
use Rattle.mb_world.specs.Worlds.{ConsumerAdds, IsTrueTo, IsWorldLawful}
use Rattle.mb_world.specs.ConsumerPath.{ConsumerPath, begins, claim_step, ends, finds, goes, item_load, link_load, note_of, takes, waits}
use Rattle.mb_world.specs.PathSamples.{first_step, two_cells, won_last, won_steps}
use Rattle.mb_world.specs.WorldSamples.{all_done, both_put, first_found, first_lost, first_taken, first_won, five, lost_steps, offered, one_put, second_begun, second_met, six, stores, two_by_two}

-- consumer c makes these steps (the newest first) on cell k after the history, and each is true to memory
abbrev pub AreTrueTo : ℕ → ℕ → List ObjectTurn → WorldHistory → Type 0
AreTrueTo c k [] h = Unit {0}
AreTrueTo c k (x ∷ xs) h = IsTrueTo (claim_step c k x) (map (claim_step c k) xs ++ h) × AreTrueTo c k xs h

-- what the laws of worlds, lanes and claims give for the small world
pub record Laws : Type 0 where
  pub empty : IsWorldLawful two_by_two []
  pub consumer : (h : WorldHistory) (c p : ℕ) (a : WorldAccess) (ks : List ℕ) (ns : List Note)
      (held : Option (List ObjectTurn)) → IsWorldLawful two_by_two h → c < 2 → p < 2 → IsTrueTo a h
      → ConsumerPath two_cells c p (a ∷ lane_part c p h) ks ns held → ConsumerAdds two_by_two c p a h
  pub producer : (h : WorldHistory) (p : ℕ) (a : PoolAccess) → IsWorldLawful two_by_two h → a.process ≡ Producer p
      → p < 2 → ActFits a.act → ReadsLast a.word a.act (pool_accesses h)
      → IsLanePrefix 2 p (a ∷ part (Producer p) (pool_accesses h)) → IsWorldLawful two_by_two (ToCells a ∷ h)
  pub prefix : (p : ℕ) (es : List Entry) (phase : Phase) (done : History) → LaneIsAt 2 p es phase done
      → IsLanePrefix 2 p done
  pub going : (c : ℕ) (x : ObjectTurn) (xs : List ObjectTurn) (s : Stage) → IsClaimPrefix two_cells c (x ∷ xs) s
      → IsClaimPrefix two_cells c xs stage.Going
  pub won : IsClaimPrefix two_cells 0 won_steps stage.Won
  pub lost : IsClaimPrefix two_cells 1 lost_steps (stage.Lost 0)

module _ (laws : Laws) where
  -- consumer c makes these steps (the newest first) of its claim on cell k after the history: it stays lawful,
  -- and the path of c on lane p has met cell k last, and holds a claim with these steps
  pub record Claiming (c p k : ℕ) (ks : List ℕ) (ns : List Note) (xs : List ObjectTurn)
      (h : WorldHistory) : Type 0 where
    pub lawful : IsWorldLawful two_by_two (map (claim_step c k) xs ++ h)
    pub path : ConsumerPath two_cells c p (lane_part c p (map (claim_step c k) xs ++ h)) (k ∷ ks) ns (Some xs)

  -- if c holds a new claim on cell k, steps may follow that are true to memory and by which the claim goes on or is won
  pub claims_on : (c p k : ℕ) → c < 2 → p < 2 → (ks : List ℕ) (ns : List Note) (h : WorldHistory)
      → IsWorldLawful two_by_two h → ConsumerPath two_cells c p (lane_part c p h) (k ∷ ks) ns (Some [])
      → (xs : List ObjectTurn) (s : Stage) → IsClaimPrefix two_cells c xs s → note_of s ≡ None → AreTrueTo c k xs h
      → Claiming c p k ks ns xs h
  claims_on c p k cs ps ks ns h lawful path [] s q still true = record { lawful = lawful; path = path }
  claims_on c p k cs ps ks ns h lawful path (x ∷ xs) s q still true =
      let was = claims_on c p k cs ps ks ns h lawful path xs stage.Going (laws.going c x xs s q) refl true.1 in
      let next = goes s q still was.path in
      let adds = laws.consumer (map (claim_step c k) xs ++ h) c p (claim_step c k x) (k ∷ ks) ns (Some (x ∷ xs))
      was.lawful cs ps true.0 next in
      record {
        lawful = adds.lawful;
        path =
            subst (λ (l : WorldHistory). ConsumerPath two_cells c p l (k ∷ ks) ns (Some (x ∷ xs))) (sym adds.own) next;
      }

  -- if steps are a prefix of a claim path of c (without steps: one that goes on), its claim goes on before them
  none_yet : (c : ℕ) (xs : List ObjectTurn) (s : Stage) → IsClaimPrefix two_cells c xs s → (xs ≡ [] → s ≡ stage.Going)
      → IsClaimPrefix two_cells c [] stage.Going
  none_yet c [] s q is = subst (λ r. IsClaimPrefix two_cells c [] r) (is refl) q
  none_yet c (x ∷ xs) s q is = none_yet c xs stage.Going (laws.going c x xs s q) (λ e. refl)

  -- a claim of consumer 0 goes on before its first step
  pub first_fresh : IsClaimPrefix two_cells 0 [] stage.Going
  first_fresh = none_yet 0 won_steps stage.Won laws.won (λ e. cc)

  -- a claim of consumer 1 goes on before its first step
  pub second_fresh : IsClaimPrefix two_cells 1 [] stage.Going
  second_fresh = none_yet 1 lost_steps (stage.Lost 0) laws.lost (λ e. cc)

  -- a claim of consumer 1 goes on after its first step, a load of 0 from the conciliator's word
  pub second_goes : IsClaimPrefix two_cells 1 (first_step ∷ []) stage.Going
  second_goes =
      inl (record {
        turns = first_step.turn ∷ [];
        all = refl;
        going = (
          record { act = act.Load Value 2; word = 0 } ∷ record { act = act.Store Value 2; word = 0 } ∷ [],
          (λ e. cc),
          (answer false 1, (refl, (refl, (0, (omega arith), inr (refl, (refl, (omega arith), tt)))))),
        );
        is = refl;
      })

  -- ---- both items are put
  -- after the fetch-add for the item 5 the history is lawful. In this section each history adds one access
  -- to the one before it
  pub taken_lawful : IsWorldLawful two_by_two (ToCells (fetch 0 five) ∷ [])
  taken_lawful =
      let at : LaneIsAt 2 0 [] (Offered five) (fetch 0 five ∷ []) = record {
        below = tt;
        fits = omega arith;
        is = refl;
      } in
      laws.producer [] 0 (fetch 0 five) laws.empty refl (omega arith) (omega arith, omega arith) refl
      (laws.prefix 0 [] (Offered five) (fetch 0 five ∷ []) at)

  -- consumer 0 has loaded a 0 from the head of lane 0: its path there has met no cell, and holds no claim
  waited_path : ConsumerPath two_cells 0 0 (link_load 0 0 [] 0 ∷ []) [] [] None
  waited_path = waits (inl refl) begins

  -- the history in which consumer 0 found nothing is lawful
  pub offered_lawful : IsWorldLawful two_by_two offered
  offered_lawful =
      (laws.consumer (ToCells (fetch 0 five) ∷ []) 0 0 (link_load 0 0 [] 0) [] [] None taken_lawful (omega arith)
      (omega arith) (omega arith, refl) waited_path).lawful

  -- the history in which the item 5 is stored is lawful
  pub stored_lawful : IsWorldLawful two_by_two (stores 0 (Item 0) 5 ∷ offered)
  stored_lawful =
      let at : LaneIsAt 2 0 [] (Stored five) (store 0 (Item 0) 5 ∷ fetch 0 five ∷ []) =
      record { below = tt; fits = omega arith; is = refl } in
      laws.producer offered 0 (store 0 (Item 0) 5) offered_lawful refl (omega arith) (omega arith) tt
      (laws.prefix 0 [] (Stored five) (store 0 (Item 0) 5 ∷ fetch 0 five ∷ []) at)

  -- the three accesses by which producer 0 put its item, the newest first
  abbrev first_group : History
  first_group = store 0 (Head 0) 1 ∷ store 0 (Item 0) 5 ∷ fetch 0 five ∷ []

  -- the history in which the item 5 is put is lawful
  pub one_put_lawful : IsWorldLawful two_by_two one_put
  one_put_lawful =
      let at : LaneIsAt 2 0 (five ∷ []) Open first_group = record { below = (omega arith, tt); fits = tt; is = refl } in
      laws.producer (stores 0 (Item 0) 5 ∷ offered) 0 (store 0 (Head 0) 1) stored_lawful refl (omega arith)
      (omega arith) tt (laws.prefix 0 (five ∷ []) Open first_group at)

  -- after the fetch-add for the item 6 the history is lawful
  taken_too : IsWorldLawful two_by_two (ToCells (fetch 1 six) ∷ one_put)
  taken_too =
      let at : LaneIsAt 2 1 [] (Offered six) (fetch 1 six ∷ []) = record {
        below = tt;
        fits = omega arith;
        is = refl;
      } in
      laws.producer one_put 1 (fetch 1 six) one_put_lawful refl (omega arith) (omega arith, omega arith) refl
      (laws.prefix 1 [] (Offered six) (fetch 1 six ∷ []) at)

  -- after the store of the item 6 the history is lawful
  stored_too : IsWorldLawful two_by_two (stores 1 (Item 1) 6 ∷ ToCells (fetch 1 six) ∷ one_put)
  stored_too =
      let at : LaneIsAt 2 1 [] (Stored six) (store 1 (Item 1) 6 ∷ fetch 1 six ∷ []) =
      record { below = tt; fits = omega arith; is = refl } in
      laws.producer (ToCells (fetch 1 six) ∷ one_put) 1 (store 1 (Item 1) 6) taken_too refl
      (omega arith) (omega arith) tt
      (laws.prefix 1 [] (Stored six) (store 1 (Item 1) 6 ∷ fetch 1 six ∷ []) at)

  -- the three accesses by which producer 1 put its item, the newest first
  abbrev second_group : History
  second_group = store 1 (Head 1) 2 ∷ store 1 (Item 1) 6 ∷ fetch 1 six ∷ []

  -- the history in which both items are put is lawful
  pub both_put_lawful : IsWorldLawful two_by_two both_put
  both_put_lawful =
      let at : LaneIsAt 2 1 (six ∷ []) Open second_group = record { below = (omega arith, tt); fits = tt; is = refl } in
      laws.producer (stores 1 (Item 1) 6 ∷ ToCells (fetch 1 six) ∷ one_put) 1 (store 1 (Head 1) 2) stored_too refl
      (omega arith) (omega arith) tt (laws.prefix 1 (six ∷ []) Open second_group at)

  -- ---- consumer 0 wins and takes the item 5
  -- the path of consumer 0 on lane 0 has met cell 0, and holds a new claim there
  found_path : ConsumerPath two_cells 0 0 (lane_part 0 0 first_found) (0 ∷ []) [] (Some [])
  found_path = finds (λ e. cc) first_fresh waited_path

  -- the history in which consumer 0 found the item 5 is lawful
  pub first_found_lawful : IsWorldLawful two_by_two first_found
  first_found_lawful =
      (laws.consumer both_put 0 0 (link_load 0 0 [] 1) (0 ∷ []) [] (Some []) both_put_lawful (omega arith) (omega arith)
      (omega arith, refl) found_path).lawful

  -- each step of the claim that consumer 0 wins is true to memory
  won_true : AreTrueTo 0 0 won_steps first_found
  won_true =
      let loads : (v : ℕ) → v < 2 ^ 64 → ((v < 2 ^ 64) × Unit {0})
      × (0 < 2 ^ 64) = λ v fits. ((fits, tt), omega arith) in
      let stores : (Unit {0} × (1 < 2 ^ 64)) × (0 < 2 ^ 64) = ((tt, omega arith), omega arith) in (
        (loads 0 (omega arith), refl),
        (
          (stores, tt),
          (
            (loads 0 (omega arith), refl),
            (
              (stores, tt),
              ((loads 1 (omega arith), refl), ((stores, tt), ((loads 0 (omega arith), refl), tt))),
            ),
          ),
        ),
      )

  -- consumer 0 makes these steps after it found cell 0: the history stays lawful, and its path holds a claim with them
  winning : Claiming 0 0 0 [] [] won_steps first_found
  winning = claims_on 0 0 0 (omega arith) (omega arith) [] [] first_found first_found_lawful found_path won_steps
      stage.Won laws.won refl won_true

  -- the history in which consumer 0 won the claim on the item 5 is lawful
  pub first_won_lawful : IsWorldLawful two_by_two first_won
  first_won_lawful = winning.lawful

  -- the path of consumer 0 on lane 0 has the note that it took the item 5, and holds no claim
  pub first_path : ConsumerPath two_cells 0 0 (lane_part 0 0 first_taken) (0 ∷ []) (Took 5 ∷ []) None
  first_path = takes laws.won winning.path

  -- the history in which consumer 0 took the item 5 is lawful
  pub first_taken_lawful : IsWorldLawful two_by_two first_taken
  first_taken_lawful =
      (laws.consumer first_won 0 0 (item_load 0 0 5) (0 ∷ []) (Took 5 ∷ []) None
      first_won_lawful (omega arith) (omega arith) (omega arith, refl) first_path).lawful

  -- ---- consumer 1 loses the item 5
  -- then consumer 1 has met cell 0, whose item consumer 0 has taken
  abbrev first_met : WorldHistory
  first_met = link_load 1 0 [] 1 ∷ first_taken

  -- the path of consumer 1 on lane 0 has met cell 0, and holds a new claim there
  first_met_path : ConsumerPath two_cells 1 0 (lane_part 1 0 first_met) (0 ∷ []) [] (Some [])
  first_met_path = finds (λ e. cc) second_fresh begins

  -- the history in which consumer 1 met cell 0 is lawful
  first_met_lawful : IsWorldLawful two_by_two first_met
  first_met_lawful =
      (laws.consumer first_taken 1 0 (link_load 1 0 [] 1) (0 ∷ []) [] (Some []) first_taken_lawful (omega arith)
      (omega arith) (omega arith, refl) first_met_path).lawful

  -- the steps of the claim that consumer 1 loses, without the last one
  abbrev almost : List ObjectTurn
  almost = drop 1 lost_steps

  -- each of these steps is true to memory
  almost_true : AreTrueTo 1 0 almost first_met
  almost_true =
      let loads : ((1 < 2 ^ 64) × Unit {0}) × (0 < 2 ^ 64) = ((omega arith, tt), omega arith) in
      let stores : (Unit {0} × (1 < 2 ^ 64)) × (0 < 2 ^ 64) = ((tt, omega arith), omega arith) in
      ((loads, refl), ((stores, tt), ((loads, refl), tt)))

  -- consumer 1 makes these steps after it met cell 0: the history stays lawful, and its path holds a claim with them
  almost_lost : Claiming 1 0 0 [] [] almost first_met
  almost_lost =
      claims_on 1 0 0 (omega arith) (omega arith) [] [] first_met first_met_lawful first_met_path almost stage.Going
      (laws.going 1 won_last almost (stage.Lost 0) laws.lost) refl almost_true

  -- the path of consumer 1 on lane 0 has the note of its loss, and holds no claim
  lost_path : ConsumerPath two_cells 1 0 (lane_part 1 0 first_lost) (0 ∷ []) (Lost 0 ∷ []) None
  lost_path = ends (stage.Lost 0) laws.lost refl almost_lost.path

  -- the history in which consumer 1 lost the item 5 is lawful
  pub first_lost_lawful : IsWorldLawful two_by_two first_lost
  first_lost_lawful =
      (laws.consumer (map (claim_step 1 0) almost ++ first_met) 1 0 (claim_step 1 0 won_last) (0 ∷ []) (Lost 0 ∷ [])
      None almost_lost.lawful (omega arith) (omega arith) (((omega arith, tt), omega arith), refl) lost_path).lawful

  -- ---- consumer 1 begins a claim on the item 6
  -- the path of consumer 1 on lane 1 has met cell 1, and holds a new claim there
  met_path : ConsumerPath two_cells 1 1 (lane_part 1 1 second_met) (1 ∷ []) [] (Some [])
  met_path = finds (λ e. cc) second_fresh begins

  -- the history in which consumer 1 found the item 6 is lawful
  pub met_lawful : IsWorldLawful two_by_two second_met
  met_lawful =
      (laws.consumer first_lost 1 1 (link_load 1 1 [] 2) (1 ∷ []) [] (Some []) first_lost_lawful (omega arith)
      (omega arith) (omega arith, refl) met_path).lawful

  -- the path of consumer 1 on lane 1 holds a claim with one step
  pub begun_path : ConsumerPath two_cells 1 1 (lane_part 1 1 second_begun) (1 ∷ []) [] (Some (first_step ∷ []))
  begun_path = goes stage.Going second_goes refl met_path

  -- the history in which consumer 1 began a claim on the item 6 is lawful
  pub second_begun_lawful : IsWorldLawful two_by_two second_begun
  second_begun_lawful =
      (laws.consumer second_met 1 1 (claim_step 1 1 first_step) (1 ∷ []) [] (Some (first_step ∷ []))
      met_lawful (omega arith)
      (omega arith) (((omega arith, tt), omega arith), refl) begun_path).lawful

  -- ---- lane 0 ends
  -- then producer 0 has stored the end mark
  abbrev finished : WorldHistory
  finished = stores 0 (Link 0) END ∷ second_begun

  -- the history in which producer 0 stored the end mark is lawful
  ended_lawful : IsWorldLawful two_by_two finished
  ended_lawful =
      let at : LaneIsAt 2 0 (five ∷ []) (Ended None) (store 0 (Link 0) END ∷ first_group) =
      record { below = (omega arith, tt); fits = tt; is = refl } in
      laws.producer second_begun 0 (store 0 (Link 0) END) second_begun_lawful refl (omega arith) (omega arith) tt
      (laws.prefix 0 (five ∷ []) (Ended None) (store 0 (Link 0) END ∷ first_group) at)

  -- after its load of the end mark, the path of consumer 1 on lane 0 has the same note, and holds no claim
  pub ended_path : ConsumerPath two_cells 1 0 (lane_part 1 0 all_done) (0 ∷ []) (Lost 0 ∷ []) None
  ended_path = waits (inr refl) lost_path

  -- the history of all that was done is lawful
  pub all_done_lawful : IsWorldLawful two_by_two all_done
  all_done_lawful =
      (laws.consumer finished 1 0 (link_load 1 0 (0 ∷ []) END) (0 ∷ []) (Lost 0 ∷ []) None ended_lawful (omega arith)
      (omega arith) (omega arith, refl) ended_path).lawful
