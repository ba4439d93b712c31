-- In a lawful history of a world, the loads of a consumer follow the links of each lane.
use Rattle.std.proofs.Common.{◌≡◌, ◌⊎◌, ℕ, ◌<◌, Bool, true, false, cond, List, [], ◌∷◌, Option, Some, None, refl, sym, ◌∙◌, ap, subst, inl, inr, eq-eqb}
use Rattle.std.specs.Prelude.{filter}
use Rattle.std.proofs.lemmas.Bool.{cases_Bool, cond_both}
use Rattle.mb_cells.proofs.Names.{is_same_word-eq}
use Rattle.mb_world.specs.Imports.{Has, History, IsLinkWord, PoolAccess, is_of_lane, is_same_word, linked_cells, place_past, push_if}
use Rattle.mb_world.specs.Plan.{Plan, consumers_of}
use Rattle.mb_world.specs.Fitting.{FollowsLinks, cell_given, cells_met}
use Rattle.mb_world.specs.World.{ToCells, WorldHistory, pool_accesses}
use Rattle.mb_world.specs.Worlds.{IsOnLane, IsOnPath, IsWorldLawful}
use Rattle.mb_world.proofs.Cells.{has_cell-true}
use Rattle.mb_world.proofs.PathLoads.{FollowsLane, met_elsewhere, path_cells, path_follows}
use Rattle.mb_world.proofs.WorldClaims.{on_lane}
use Rattle.mb_world.specs.WorldKnown.{WorldKnown}
use Rattle.mb_world.proofs.WorldPool.{load_lane, loads, loads_on, of_lane, on_word}

-- the link past cells of a lane is a word of that lane
pub past_lane : (p : ℕ) (ks ls : List ℕ) → ((k : ℕ) → Has ks k → Has ls k) → is_of_lane p ls (place_past p ks) ≡ true
past_lane p [] ls on = eq-eqb p p refl
past_lane p (k ∷ ks) ls on = has_cell-true ls k (on k (inl refl))

-- a cell that the older loads met is still met with one more load
pub met_stay : (p : ℕ) (a : PoolAccess) (older : History) (k : ℕ) → Has (cells_met p older) k
    → Has (cells_met p (a ∷ older)) k
met_stay p a older k has =
    cond_both (is_same_word a.word (place_past p (cells_met p older))) (push_if (cell_given a.act) (cells_met p older))
    (cells_met p older) (λ (ks : List ℕ). Has ks k) (λ _. by (cell_given a.act)) (λ _. has)
  where
    by : (o : Option ℕ) → Has (push_if o (cells_met p older)) k
    by None = has
    by (Some j) = inr has

-- ---- the loads of one lane
module _ (p : ℕ) (ls : List ℕ) where
  -- whether an access is to a word of the lane
  abbrev test : PoolAccess → Bool
  test a = is_of_lane p ls a.word

  -- the cells that these loads met on the lane are linked there
  abbrev AreLinked : History → Type 0
  AreLinked d = (k : ℕ) → Has (cells_met p (filter test d)) k → Has ls k

  -- if the cells that these loads met on the lane are linked there, so are those that the older loads met
  older_linked : (a : PoolAccess) (older : History) → AreLinked (a ∷ older) → AreLinked older
  older_linked a older all k has =
      all k (cond_both (test a) (a ∷ filter test older) (filter test older) (λ (d : History). Has (cells_met p d) k)
      (λ _. met_stay p a (filter test older) k has) (λ _. has))

  -- if the loads of the lane's words meet only cells linked there, all loads meet the same cells of the lane
  met_filter : (d : History) → AreLinked d → cells_met p (filter test d) ≡ cells_met p d
  met_filter [] all = refl
  met_filter (a ∷ older) all = by (cases_Bool (test a)) (met_filter older (older_linked a older all))
    where
      by : (test a ≡ true) ⊎ (test a ≡ false) → cells_met p (filter test older) ≡ cells_met p older
          → cells_met p (filter test (a ∷ older)) ≡ cells_met p (a ∷ older)
      by (inl e) same =
          ap (λ b. cells_met p (cond b (a ∷ filter test older) (filter test older))) e
          ∙ ap (λ ks. cond (is_same_word a.word (place_past p ks)) (push_if (cell_given a.act) ks) ks) same
      by (inr e) same =
          ap (λ b. cells_met p (cond b (a ∷ filter test older) (filter test older))) e
          ∙ (same ∙ sym (met_elsewhere p a older
          (elim (cases_Bool (is_same_word a.word (place_past p (cells_met p older)))) [
            | inl t ↦ absurd (let f = on_past t in cc)
            | inr f ↦ f
          ])))
        where
          -- the link past cells of the lane is a word of the lane
          on_past : is_same_word a.word (place_past p (cells_met p older)) ≡ true → test a ≡ true
          on_past t =
              subst (λ w. is_of_lane p ls w ≡ true) (sym (is_same_word-eq a.word (place_past p (cells_met p older)) t))
              (past_lane p (cells_met p older) ls
              (λ k has. older_linked a older all k (subst (λ ks. Has ks k) (sym same) has)))

-- ---- all loads of a consumer
module _ (plan : Plan) (h : WorldHistory) (lawful : IsWorldLawful plan h) (known : WorldKnown plan h) where
  -- the cells linked on lane p, the last first
  abbrev cells_of : ℕ → List ℕ
  cells_of p = linked_cells p (pool_accesses h)

  -- on lane p these loads follow the links, and meet no cell that is not linked there
  pub record IsOnLinks (p : ℕ) (d : History) : Type 0 where
    pub follows : FollowsLane p (filter (of_lane plan h lawful p) d)
    pub linked : (k : ℕ) → Has (cells_met p (filter (of_lane plan h lawful p) d)) k → Has (cells_of p) k

  -- if these loads follow the links of lane p, the older ones do, too
  older_links : (p : ℕ) (a : PoolAccess) (older : History) → IsOnLinks p (a ∷ older) → IsOnLinks p older
  older_links p a older y = record {
    follows = cond_both (of_lane plan h lawful p a) (a ∷ filter (of_lane plan h lawful p) older)
        (filter (of_lane plan h lawful p) older)
        (λ (d : History). FollowsLane p d → FollowsLane p (filter (of_lane plan h lawful p) older))
        (λ _ f. f.1) (λ _ f. f) y.follows;
    linked = older_linked p (cells_of p) a older y.linked;
  }

  -- if some loads of a consumer follow the links of each lane, `FollowsLinks` holds of them
  follows_all : (c : ℕ) (d : History) → ((a : PoolAccess) → Has d a → Has (loads plan h lawful c) a)
      → ((p : ℕ) → p < plan.lanes → IsOnLinks p d) → FollowsLinks d
  follows_all c [] among lanes = tt
  follows_all c (a ∷ older) among lanes = (
    λ link. (on.lane, follows link),
    follows_all c older (λ b has. among b (inr has)) (λ p ps. older_links p a older (lanes p ps)),
  )
    where
      -- the load is on some lane
      on : IsOnLane plan c (ToCells a) h
      on = load_lane plan h lawful c a (among a (inl refl))

      here : of_lane plan h lawful on.lane a ≡ true
      here = on_word plan h lawful c a on

      -- on that lane these loads follow the links
      links : IsOnLinks on.lane (a ∷ older)
      links = lanes on.lane on.below

      first : FollowsLane on.lane (a ∷ filter (of_lane plan h lawful on.lane) older)
      first =
          subst (λ b. FollowsLane on.lane (cond b (a ∷ filter (of_lane plan h lawful on.lane) older)
          (filter (of_lane plan h lawful on.lane) older))) here links.follows

      -- a load of a head or a link is of the link past the cells met on that lane, or of its head if none was
      follows : IsLinkWord a.word → a.word ≡ place_past on.lane (cells_met on.lane older)
      follows link =
          first.0 link
          ∙ ap (place_past on.lane)
          (met_filter on.lane (cells_of on.lane) older (older_linked on.lane (cells_of on.lane) a older links.linked))

  -- all loads of a consumer follow the links
  pub follows : (c : ℕ) → c < consumers_of plan → FollowsLinks (loads plan h lawful c)
  follows c cs = follows_all c (loads plan h lawful c) (λ a has. has) on_links
    where
      -- on each lane the consumer's loads follow the links, by its path there
      on_links : (p : ℕ) → p < plan.lanes → IsOnLinks p (loads plan h lawful c)
      on_links p ps = record {
        follows = subst (FollowsLane p) (loads_on plan h lawful c p) (path_follows plan.claims c y.path);
        linked = λ k has.
            on_lane plan h lawful known c p k y
            (subst (λ ks. Has ks k) (path_cells plan.claims c y.path)
            (subst (λ (d : History). Has (cells_met p d) k) (sym (loads_on plan h lawful c p)) has));
      }
        where
          y : IsOnPath plan c p h
          y = lawful.consumers c p cs ps
