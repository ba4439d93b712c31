-- The diary of a consumer in a lawful history of a world, as its path on a lane tells it.
use Rattle.std.proofs.Common.{◌≡◌, ◌≢◌, ◌↔◌, ℕ, ◌<◌, true, List, [], ◌∷◌, length, Option, Some, None, refl, sym, ◌∙◌, subst, inl, inr, arith}
use Rattle.std.specs.Prelude.{filter, reverse, slice_get}
use Rattle.std.proofs.lemmas.List.{length-reverse}
use Rattle.mb_claim.specs.declared.access.Stage.TheVariants as stage
use Rattle.mb_world.specs.Vocabulary.{Note, Gave, Has, History, IsClaimPrefix, IsOnceEach, Item, ObjectTurn, Word, claim_part, has_cell, is_of_lane, linked_cells, Plan, EndsAs, parts_of}
use Rattle.mb_world.specs.Vocabulary.{IsDiaryOf, WorldHistory, claim_accesses, histories_of, lane_part, pool_accesses, ConsumerPath, diary_at, has_begun, IsOnPath, IsWorldLawful, WorldKnown}
use Rattle.mb_world.specs.declared.report.Note.TheVariants.{Took, Lost, Undecided}
use Rattle.mb_world.proofs.Cells.{has_cell-true}
use Rattle.mb_world.proofs.LaneParts.{Has-filter}
use Rattle.mb_world.proofs.Loads.{gave-gift}
use Rattle.mb_world.proofs.PathDiaries.{begun_open, ends_at, gave-some, noted_within, open_begun}
use Rattle.mb_world.proofs.PathLoads.{path_gave}
use Rattle.mb_world.proofs.Positions.{HasPosition, at_has, at_reverse, reverse_at}
use Rattle.mb_world.proofs.Tracks.{EndsIn, Tracks, closed}
use Rattle.mb_world.proofs.WorldClaims.{end_here, met_all, met_once, on_lane, steps_there, tracks}
use Rattle.mb_world.proofs.WorldPool.{load_lane, loads, loads_on, of_lane, on_word, read_there}

-- a cell at position j of `closed`, the cells met whose claims have notes, is at position j of the cells met
closed_in : (qs : List ℕ) (z : Option (List ObjectTurn)) (j k : ℕ) → HasPosition (closed qs z) j k → HasPosition qs j k
closed_in qs None j k at = at
closed_in [] (Some xs) j k at = at
closed_in (q ∷ qs) (Some xs) j k at = inr at

module _ (plan : Plan) (h : WorldHistory) (lawful : IsWorldLawful plan h) (known : WorldKnown plan h) where
  -- the consumer was given no other cell of the lane than those that it met
  pub no_other : (c p k : ℕ) (y : IsOnPath plan c p h) → Gave k (loads plan h lawful c)
      → Has (linked_cells p (pool_accesses h)) k
      → Has y.cells k
  no_other c p k y gave here =
      let a = gave-some (loads plan h lawful c) k gave in
      let on = load_lane plan h lawful c a.0 a.1 in
      let test = of_lane plan h lawful on.lane in
      let there : Gave k (pool_accesses (lane_part c on.lane h)) =
      subst (λ (d : History). Gave k d) (sym (loads_on plan h lawful c on.lane))
      (gave-gift (filter test (loads plan h lawful c)) a.0 k
      (Has-filter test (loads plan h lawful c) a.0 a.1 (on_word plan h lawful c a.0 on)) a.2) in
      let path = lawful.consumers c on.lane on.known on.below in
      let met = on_lane plan h lawful known c on.lane k path (path_gave plan.claims c k path.path there) in
      let same : on.lane ≡ p = known.one_lane on.lane p k met here in
      path_gave plan.claims c k y.path (subst (λ (q : ℕ). Gave k (pool_accesses (lane_part c q h))) same there)

  module _ (c p : ℕ) (ks : List ℕ) (ns : List Note) (held : Option (List ObjectTurn))
      (path : ConsumerPath plan.claims c p (lane_part c p h) ks ns held) where
    -- the consumer's part on the lane is a prefix of a consumer path
    abbrev here : IsOnPath plan c p h
    here = record { cells = ks; notes = ns; held = held; path = path }

    -- the consumer's claim on cell k has ended as the note says, by all that the consumer did
    abbrev Ends : ℕ → Note → Type 0
    Ends k n = EndsAs plan.claims c k n (parts_of c (histories_of h))

    -- the consumer's claim on cell k has ended as the note says, by its part on the lane
    abbrev EndsHere : ℕ → Note → Type 0
    EndsHere k n = EndsIn plan.claims c (lane_part c p h) k n

    -- `Tracks` holds of the consumer's part on the lane, with the path's cells, notes and claim
    tracks_here : Tracks plan.claims c (lane_part c p h) ks ns held
    tracks_here = tracks plan h lawful known c p here

    -- each cell met was met once
    once_here : IsOnceEach ks
    once_here = met_once plan h lawful known c p here

    -- the cells met are cells of the lane
    cell_here : (k : ℕ) → Has ks k → has_cell (linked_cells p (pool_accesses h)) k ≡ true
    cell_here k has = has_cell-true (linked_cells p (pool_accesses h)) k (on_lane plan h lawful known c p k here has)

    -- in that part the steps on a cell met are all that the consumer made on the cell
    same_steps : (k : ℕ) → Has ks k
        → claim_part c k (claim_accesses (lane_part c p h)) ≡ claim_part c k (claim_accesses h)
    same_steps k has = steps_there plan h lawful known c p k (cell_here k has)

    -- if by the part on the lane a claim on a cell met has ended as the note says, so it has by all the consumer did
    ends_globally : (k : ℕ) (n : Note) → Has ks k → EndsHere k n → Ends k n
    ends_globally k n has e = end_here plan h lawful known c p k n (cell_here k has) e

    -- if by all the consumer did a claim on a cell met has ended as the note says, so it has by the part on the lane
    ends_locally : (k : ℕ) (n : Note) → Has ks k → Ends k n → EndsHere k n
    ends_locally k (Took v) has e = (
      subst (λ xs. IsClaimPrefix plan.claims c xs stage.Won) (sym (same_steps k has)) e.0,
      read_there plan h lawful c p (Item k) v e.1
          (subst (λ (w : Word). is_of_lane p (linked_cells p (pool_accesses h)) w ≡ true) (sym e.1.2)
          (cell_here k has)),
    )
    ends_locally k (Lost w) has e =
        subst (λ xs. IsClaimPrefix plan.claims c xs (stage.Lost w)) (sym (same_steps k has)) e
    ends_locally k Undecided has e =
        subst (λ xs. IsClaimPrefix plan.claims c xs stage.Undecided) (sym (same_steps k has)) e

    -- each note says how the claim on the cell at its position has ended
    notes_tell : (j : ℕ) (n : Note) → slice_get (reverse ns) j ≡ Some n
        → (k : ℕ) × (slice_get (reverse ks) j ≡ Some k) × Ends k n
    notes_tell j n e =
        let q = ends_at EndsHere (closed ks held) ns j n tracks_here.ended e in
        let at = closed_in ks held j q.0 q.1 in
        (q.0, reverse_at ks j q.0 at, ends_globally q.0 n (at_has ks j q.0 at) q.2)

    -- a claim on a cell met that has ended as a note says has its note
    pub ended_within : (j k : ℕ) (n : Note) → slice_get (reverse ks) j ≡ Some k → Ends k n → j < length (reverse ns)
    ended_within j k n at e =
        let position = at_reverse ks j k at in
        let less =
        noted_within plan.claims c known.stage (lane_part c p h) ks ns held once_here tracks_here j k n position
        (ends_locally k n (at_has ks j k position) e) in
        omega (arith, less, length-reverse ns)

    -- the path's claim is begun exactly if one of c's claims on these cells has an access and no note says how it ended
    begun_tells : (has_begun held ≡ true)
        ↔ ((k : ℕ) × Has ks k × (claim_part c k (claim_accesses h) ≢ []) × ((n : Note) → Ends k n → ⊥))
    begun_tells = (
      λ b. let q = begun_open plan.claims c known.stage (lane_part c p h) ks ns held once_here tracks_here b in
          (q.0, q.1.0, (λ e. q.1.1 (same_steps q.0 q.1.0 ∙ e)), (λ n e. q.1.2 n (ends_locally q.0 n q.1.0 e))),
      λ z. open_begun plan.claims c known.stage (lane_part c p h) ks ns held tracks_here z.0
          (z.1, (λ e. z.2 (sym (same_steps z.0 z.1) ∙ e)), (λ n e. z.3 n (ends_globally z.0 n z.1 e))),
    )

    -- the diary to which the path leads is the diary of consumer c on lane p
    pub diary_is : IsDiaryOf plan c p (histories_of h) (diary_at c p ns held)
    diary_is = record {
      consumer = refl;
      lane = refl;
      cells = ks;
      met = record {
        met = met_all plan h lawful known c p here;
        all = λ k gave linked. no_other c p k here gave linked;
      };
      notes = notes_tell;
      all = ended_within;
      begun = begun_tells;
    }

  -- the steps of a claim that is held are all that the consumer has made on that cell
  pub held_is : (c p k : ℕ) (qs : List ℕ) (ns : List Note) (xs : List ObjectTurn)
      → ConsumerPath plan.claims c p (lane_part c p h) (k ∷ qs) ns (Some xs)
      → (claim_part c k (claim_accesses h) ≡ xs) × (k < plan.claims.cells)
  held_is c p k qs ns xs path =
      let here : IsOnPath plan c p h = record { cells = k ∷ qs; notes = ns; held = Some xs; path = path } in (
        sym (same_steps c p (k ∷ qs) ns (Some xs) path k (inl refl))
            ∙ (tracks_here c p (k ∷ qs) ns (Some xs) path).is_held,
        known.within p k (on_lane plan h lawful known c p k here (inl refl)),
      )
