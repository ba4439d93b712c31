-- One more access of a consumer, after which the history of a world stays lawful.
use Rattle.std.proofs.Common.{◌≡◌, ◌⊎◌, ℕ, ◌<◌, Bool, true, false, cond, List, ◌∷◌, Option, Some, None, refl, sym, ◌∙◌, ap, subst, inl, inr, eq-eqb, eqb-true}
use Rattle.std.specs.Prelude.{filter, nat_eq}
use Rattle.std.proofs.lemmas.Bool.{and_parts, cases_Bool, cases_eq}
use Rattle.mb_claim.specs.History as claim
use Rattle.mb_cells.specs.Memory as memory
use Rattle.mb_cells.specs.Lawful.{ProcessFits}
use Rattle.mb_cells.proofs.Names.{is_same_process-eq}
use Rattle.mb_world.specs.declared.report.Note.{Note}
use Rattle.mb_world.specs.Imports.{AllFit, Claims, Counter, Has, Head, History, IsLanePrefix, Item, Link, ObjectTurn, Process, Producer, Reader, Word}
use Rattle.mb_world.specs.Imports.{has_cell, is_of_lane, is_same_process, link_of, linked_cells, part, push_if}
use Rattle.mb_world.specs.Plan.{Plan, consumers_of}
use Rattle.mb_world.specs.World.{IsBy, ToCells, ToClaims, WorldAccess, WorldHistory, claim_accesses, is_on, lane_part, pool_accesses}
use Rattle.mb_world.specs.ConsumerPath.{ConsumerPath, ends, finds, goes, takes, waits}
use Rattle.mb_world.specs.Worlds.{IsOnLane, IsOnPath, IsTrueTo, IsWorldLawful}
use Rattle.mb_world.proofs.Cells.{cell-of_true, has_cell-true}
use Rattle.mb_world.proofs.WorldFollows.{past_lane}

-- ---- the next access of a consumer's path is one of the consumer, on the path's lane
-- the next access of a consumer's path is made by the consumer
next_by : (cs : Claims) (c p : ℕ) (a : WorldAccess) (older : WorldHistory) (ks : List ℕ) (ns : List Note)
    (held : Option (List ObjectTurn))
    → ConsumerPath cs c p (a ∷ older) ks ns held → IsBy c a
next_by cs c p a older ks ns held (waits says s) = refl
next_by cs c p a older ks ns held (finds ne fresh s) = refl
next_by cs c p a older ks ns held (goes z q still s) = refl
next_by cs c p a older ks ns held (ends z q note s) = refl
next_by cs c p a older ks ns held (takes q s) = refl

-- the next access of a consumer's path is on the path's lane, if all cells that the path met are linked there
next_on : (cs : Claims) (c p : ℕ) (a : WorldAccess) (older : WorldHistory) (ks : List ℕ) (ns : List Note)
    (held : Option (List ObjectTurn)) (ls : List ℕ)
    → ((js : List ℕ) (ms : List Note) (g : Option (List ObjectTurn)) → ConsumerPath cs c p older js ms g → (k : ℕ)
    → Has js k → Has ls k)
    → ConsumerPath cs c p (a ∷ older) ks ns held → is_on c p ls a ≡ true
next_on cs c p a older ks ns held ls on (waits {ks = js} says s) =
    rw (eq-eqb c c refl, past_lane p js ls (on js ns None s)) refl
next_on cs c p a older ks ns held ls on (finds {ks = js} ne fresh s) =
    rw (eq-eqb c c refl, past_lane p js ls (on js ns None s)) refl
next_on cs c p a older ks ns held ls on (goes {ks = js} {ns = ms} {k = k} {xs = xs} z q still s) =
    rw (eq-eqb c c refl, has_cell-true ls k (on (k ∷ js) ms (Some xs) s k (inl refl))) refl
next_on cs c p a older ks ns held ls on (ends {ks = js} {ns = ms} {k = k} {xs = xs} z q note s) =
    rw (eq-eqb c c refl, has_cell-true ls k (on (k ∷ js) ms (Some xs) s k (inl refl))) refl
next_on cs c p a older ks ns held ls on (takes {ks = js} {ns = ms} {k = k} {xs = xs} q s) =
    rw (eq-eqb c c refl, has_cell-true ls k (on (k ∷ js) ms (Some xs) s k (inl refl))) refl

-- ---- an access has one maker and one lane
-- an access is on at most one lane
pub one_lane_of : (h : History) (one : (p q k : ℕ) → Has (linked_cells p h) k → Has (linked_cells q h) k → p ≡ q)
    (c d p q : ℕ) (a : WorldAccess)
    → is_on c p (linked_cells p h) a ≡ true → is_on d q (linked_cells q h) a ≡ true → p ≡ q
one_lane_of h one c d p q (ToClaims a) x y =
    one p q a.cell (cell-of_true (linked_cells p h) a.cell
    (and_parts (nat_eq a.consumer c) (has_cell (linked_cells p h) a.cell) x).1)
    (cell-of_true (linked_cells q h) a.cell (and_parts (nat_eq a.consumer d) (has_cell (linked_cells q h) a.cell) y).1)
one_lane_of h one c d p q (ToCells a) x y =
    by a.word (and_parts (is_same_process (Reader c) a.process) (is_of_lane p (linked_cells p h) a.word) x).1
    (and_parts (is_same_process (Reader d) a.process) (is_of_lane q (linked_cells q h) a.word) y).1
  where
    by : (w : Word) → is_of_lane p (linked_cells p h) w ≡ true → is_of_lane q (linked_cells q h) w ≡ true → p ≡ q
    by Counter x y = absurd (cc)
    by (Head i) x y = eqb-true p i x ∙ sym (eqb-true q i y)
    by (Link k) x y = one p q k (cell-of_true (linked_cells p h) k x) (cell-of_true (linked_cells q h) k y)
    by (Item k) x y = one p q k (cell-of_true (linked_cells p h) k x) (cell-of_true (linked_cells q h) k y)

-- if an access that consumer c made is on a lane as one of consumer d, then d is c
one_maker : (c d p : ℕ) (ls : List ℕ) (a : WorldAccess) → IsBy c a → is_on d p ls a ≡ true → d ≡ c
one_maker c d p ls (ToClaims a) own on =
    sym (eqb-true a.consumer d (and_parts (nat_eq a.consumer d) (has_cell ls a.cell) on).0) ∙ own
one_maker c d p ls (ToCells a) own on =
    let same = (and_parts (is_same_process (Reader d) a.process) (is_of_lane p ls a.word) on).0 in
    let f : Reader d ≡ Reader c = is_same_process-eq (Reader d) a.process same ∙ own in
    cc

-- if consumers c and d both made an access, they are the same
same_maker : (c d : ℕ) (a : WorldAccess) → IsBy c a → IsBy d a → c ≡ d
same_maker c d (ToClaims a) x y = sym x ∙ y
same_maker c d (ToCells a) x y = let f : Reader c ≡ Reader d = sym x ∙ y in cc

-- ---- what producers did stays
-- an access of a consumer links no cell to any lane
pub linked_same : (c q : ℕ) (a : WorldAccess) (h : WorldHistory) → IsBy c a
    → linked_cells q (pool_accesses (a ∷ h)) ≡ linked_cells q (pool_accesses h)
linked_same c q (ToClaims a) h own = refl
linked_same c q (ToCells a) h own =
    ap (λ (w : Process). cond (is_same_process (Producer q) w)
    (push_if (link_of a.word a.act) (linked_cells q (pool_accesses h))) (linked_cells q (pool_accesses h))) own

-- a consumer's access is in no producer's part
made_same : (c q : ℕ) (a : WorldAccess) (h : WorldHistory) → IsBy c a
    → part (Producer q) (pool_accesses (a ∷ h)) ≡ part (Producer q) (pool_accesses h)
made_same c q (ToClaims a) h own = refl
made_same c q (ToCells a) h own =
    ap (λ (w : Process). cond (is_same_process (Producer q) w) (a ∷ part (Producer q) (pool_accesses h))
    (part (Producer q) (pool_accesses h))) own

-- ---- what the access adds, and that the history stays lawful with it
module _ (plan : Plan) (h : WorldHistory) (lawful : IsWorldLawful plan h)
    (one : (p q k : ℕ) → Has (linked_cells p (pool_accesses h)) k → Has (linked_cells q (pool_accesses h)) k → p ≡ q)
    (start : (c p : ℕ) (ks : List ℕ) (ns : List Note) (held : Option (List ObjectTurn))
    → ConsumerPath plan.claims c p (lane_part c p h) ks ns held → (k : ℕ) → Has ks k
    → Has (linked_cells p (pool_accesses h)) k)
    (c p : ℕ) (cs : c < consumers_of plan) (ps : p < plan.lanes) (a : WorldAccess) (may : IsTrueTo a h)
    (ks : List ℕ) (ns : List Note) (held : Option (List ObjectTurn))
    (next : ConsumerPath plan.claims c p (a ∷ lane_part c p h) ks ns held) where
  -- the access is one of consumer c
  pub own : IsBy c a
  own = next_by plan.claims c p a (lane_part c p h) ks ns held next

  -- the access is on lane p
  pub on : is_on c p (linked_cells p (pool_accesses h)) a ≡ true
  on = next_on plan.claims c p a (lane_part c p h) ks ns held (linked_cells p (pool_accesses h)) (start c p) next

  -- the consumer's part on the lane has one access more: this one
  pub own_part : lane_part c p (a ∷ h) ≡ a ∷ lane_part c p h
  own_part =
      ap (λ (ls : List ℕ). filter (is_on c p ls) (a ∷ h)) (linked_same c p a h own)
      ∙ ap (λ (b : Bool). cond b (a ∷ lane_part c p h) (lane_part c p h)) on

  -- the parts of other consumers, and those of c on other lanes, stay as they are
  pub other_parts : (d q : ℕ) → ((d ≡ c) → (q ≡ p) → ⊥) → lane_part d q (a ∷ h) ≡ lane_part d q h
  other_parts d q other =
      ap (λ (ls : List ℕ). filter (is_on d q ls) (a ∷ h)) (linked_same c q a h own)
      ∙ by (cases_Bool (is_on d q (linked_cells q (pool_accesses h)) a))
    where
      by : (is_on d q (linked_cells q (pool_accesses h)) a ≡ true)
          ⊎ (is_on d q (linked_cells q (pool_accesses h)) a ≡ false)
          → filter (is_on d q (linked_cells q (pool_accesses h))) (a ∷ h) ≡ lane_part d q h
      by (inl e) =
          absurd (other (one_maker c d q (linked_cells q (pool_accesses h)) a own e)
          (one_lane_of (pool_accesses h) one d c q p a e on))
      by (inr e) = ap (λ (b : Bool). cond b (a ∷ lane_part d q h) (lane_part d q h)) e

  -- each consumer's part on each lane is still a prefix of a consumer path
  paths : (d q : ℕ) → d < consumers_of plan → q < plan.lanes → IsOnPath plan d q (a ∷ h)
  paths d q ds qs = by (cases_eq d c) (cases_eq q p)
    where
      -- a part to which the access adds nothing is still a prefix of a consumer path
      same : ((d ≡ c) → (q ≡ p) → ⊥) → IsOnPath plan d q (a ∷ h)
      same other =
          let y = lawful.consumers d q ds qs in
          record {
            cells = y.cells;
            notes = y.notes;
            held = y.held;
            path = subst (λ (l : WorldHistory). ConsumerPath plan.claims d q l y.cells y.notes y.held)
                (sym (other_parts d q other)) y.path;
          }

      by : (d ≡ c) ⊎ (d ≡ c → ⊥) → (q ≡ p) ⊎ (q ≡ p → ⊥) → IsOnPath plan d q (a ∷ h)
      by (inl e) (inl f) =
          subst (λ (i : ℕ). IsOnPath plan i q (a ∷ h)) (sym e) (subst (λ (i : ℕ). IsOnPath plan c i (a ∷ h)) (sym f)
          (record {
            cells = ks;
            notes = ns;
            held = held;
            path = subst (λ (l : WorldHistory). ConsumerPath plan.claims c p l ks ns held) (sym own_part) next;
          }))
      by (inr n) f = same (λ e _. n e)
      by (inl e) (inr n) = same (λ _ f. n f)

  -- no access of a consumer is outside its parts on the lanes
  on_lanes : (d : ℕ) (x : WorldAccess) → Has (a ∷ h) x → IsBy d x → IsOnLane plan d x (a ∷ h)
  on_lanes d x (inl e) by_d =
      let same : c ≡ d = same_maker c d x (subst (IsBy c) e own) by_d in
      record {
        known = subst (λ (i : ℕ). i < consumers_of plan) same cs;
        lane = p;
        below = ps;
        on = subst (λ (ls : List ℕ). is_on d p ls x ≡ true) (sym (linked_same c p a h own))
            (subst (λ (i : ℕ). is_on i p (linked_cells p (pool_accesses h)) x ≡ true) same
            (subst (λ (y : WorldAccess). is_on c p (linked_cells p (pool_accesses h)) y ≡ true) e on));
      }
  on_lanes d x (inr has) by_d =
      let y = lawful.no_others d x has by_d in
      record {
        known = y.known;
        lane = y.lane;
        below = y.below;
        on = subst (λ (ls : List ℕ). is_on d y.lane ls x ≡ true) (sym (linked_same c y.lane a h own)) y.on;
      }

  -- with one more access of c, true to memory, values in accesses to cells are below 2^64, and producers have lanes
  fits_cells : (b : WorldAccess) → IsBy c b → IsTrueTo b h → AllFit plan.lanes (pool_accesses (b ∷ h))
  fits_cells (ToCells b) by_c true_to = (true_to.0, subst (ProcessFits plan.lanes) (sym by_c) tt, lawful.cells_fit)
  fits_cells (ToClaims b) by_c true_to = lawful.cells_fit

  -- with one more access that is true to memory, values and random words of accesses to the claims are below 2^64
  fits_claims : (b : WorldAccess) → IsTrueTo b h → claim.AreInWords (claim_accesses (b ∷ h))
  fits_claims (ToCells b) true_to = lawful.claims_fit
  fits_claims (ToClaims b) true_to = (true_to.0, lawful.claims_fit)

  -- with one more access that is true to memory, all accesses to the cells are
  tells_cells : (b : WorldAccess) → IsTrueTo b h → memory.IsMemoryTrue (pool_accesses (b ∷ h))
  tells_cells (ToCells b) true_to = (true_to.1, lawful.cells_memory)
  tells_cells (ToClaims b) true_to = lawful.cells_memory

  -- with one more access that is true to memory, all accesses to the claims are
  tells_claims : (b : WorldAccess) → IsTrueTo b h → claim.IsMemoryTrue (claim_accesses (b ∷ h))
  tells_claims (ToCells b) true_to = lawful.claims_memory
  tells_claims (ToClaims b) true_to = (true_to.1, lawful.claims_memory)

  -- the longer history is lawful
  pub goes_on : IsWorldLawful plan (a ∷ h)
  goes_on = record {
    sized = lawful.sized;
    cells_fit = fits_cells a own may;
    claims_fit = fits_claims a may;
    cells_memory = tells_cells a may;
    claims_memory = tells_claims a may;
    producers = λ q. subst (λ (d : History). IsLanePrefix plan.claims.cells q d) (sym (made_same c q a h own))
        (lawful.producers q);
    consumers = paths;
    no_others = on_lanes;
  }
