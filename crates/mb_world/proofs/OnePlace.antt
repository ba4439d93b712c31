-- What a consumer did on a lane leads to at most one place. Of accesses that are alike, at most one may follow it.
use Rattle.std.proofs.Common.{◌≡◌, ◌≢◌, ◌⊎◌, ◌+◌, ℕ, List, [], ◌∷◌, Option, Some, None, refl, sym, ◌∙◌, ap, subst, inl, inr, arith}
use Rattle.mb_claim.specs.declared.access.Stage.TheVariants as stage
use Rattle.mb_world.specs.declared.report.Note.{Note}
use Rattle.mb_world.specs.declared.report.Note.TheVariants.{Took}
use Rattle.mb_world.specs.Imports.{ClaimAccess, Claims, END, FetchAdd, IsClaimPrefix, Item, Load, ObjectTurn, PoolAct, Stage, Store, Word, load, place_past}
use Rattle.mb_world.specs.World.{ToCells, ToClaims, WorldAccess, WorldHistory}
use Rattle.mb_world.specs.ConsumerPath.{ConsumerPath, begins, claim_access, claim_step, item_load, link_load, note_of}
use Rattle.mb_world.proofs.LastAccess.{Leads, PathEnd, came_from, ended, found, path_end, took, waited, went}

-- the value of a load, and 0 for any other act
abbrev act_value : PoolAct → ℕ
act_value (Load v) = v
act_value (Store v) = 0
act_value (FetchAdd x n) = 0

-- the value of a world's access if it is a load of the cells, and 0 for any other access
abbrev value_of : WorldAccess → ℕ
value_of (ToCells a) = act_value a.act
value_of (ToClaims a) = 0

module _ (cs : Claims) (c p : ℕ) where
  -- two accesses of consumer c are alike: as loads of one word they find one value, as steps on one cell they are one
  -- step
  pub record AreAlike (a b : WorldAccess) : Type 0 where
    pub loads : (w : Word) (v u : ℕ) → a ≡ ToCells (load c w v) → b ≡ ToCells (load c w u) → v ≡ u
    pub steps : (k : ℕ) (x y : ObjectTurn) → a ≡ claim_step c k x → b ≡ claim_step c k y → x ≡ y

  module _ (one_stage : (xs : List ObjectTurn) (s r : Stage) → IsClaimPrefix cs c xs s → IsClaimPrefix cs c xs r
      → s ≡ r)
      (going : (x : ObjectTurn) (xs : List ObjectTurn) (s : Stage) → IsClaimPrefix cs c (x ∷ xs) s
      → IsClaimPrefix cs c xs stage.Going) where
    -- a value that leads to no cell, so 0 or the end mark, is not k + 1, the value of a link to cell k
    not_cell : (v k : ℕ) → (v ≡ 0) ⊎ (v ≡ END) → k + 1 ≢ END → v ≡ k + 1 → ⊥
    not_cell v k (inl e) ne f = absurd (omega (arith, e, f))
    not_cell v k (inr e) ne f = ne (sym f ∙ e)

    -- a claim that is won makes no more steps
    ended_won : (x : ObjectTurn) (xs : List ObjectTurn) (s : Stage) → IsClaimPrefix cs c (x ∷ xs) s
        → IsClaimPrefix cs c xs stage.Won → ⊥
    ended_won x xs s q won = let e = one_stage xs stage.Going stage.Won (going x xs s q) won in cc

    -- after the same steps a claim does not both have a note and have none
    noted_once : (xs : List ObjectTurn) (s r : Stage) (n : Note) → IsClaimPrefix cs c xs s → IsClaimPrefix cs c xs r
        → note_of s ≡ None → note_of r ≡ Some n → ⊥
    noted_once xs s r n q w e f = let same = ap note_of (one_stage xs s r q w) in cc

    -- if two accesses that are alike both lead on from one place, they are equal and lead to one place
    pub one_next : {a b : WorldAccess} {was x y : PathEnd} → AreAlike a b → Leads cs c p a was x → Leads cs c p b was y
        → (a ≡ b) × (x ≡ y)
    one_next l (waited ks ns v says e) (waited _ _ u tells f) =
        (e ∙ (ap (λ (i : ℕ). link_load c p ks i) (l.loads (place_past p ks) v u e f) ∙ sym f), refl)
    one_next l (waited ks ns v says e) (found _ _ k ne _ f) =
        absurd (not_cell v k says ne (l.loads (place_past p ks) v (k + 1) e f))
    one_next l (found ks ns k ne _ e) (waited _ _ u tells f) =
        absurd (not_cell u k tells ne (sym (l.loads (place_past p ks) (k + 1) u e f)))
    one_next l (found ks ns k ne _ e) (found _ _ j me _ f) =
        let more = l.loads (place_past p ks) (k + 1) (j + 1) e f in
        let same : k ≡ j = omega (arith, more) in
        (e ∙ (ap (λ (i : ℕ). link_load c p ks i) more ∙ sym f), ap (λ (i : ℕ). path_end (i ∷ ks) ns (Some [])) same)
    one_next l (went ks ns k xs x s q still e) (went _ _ _ _ y r w calm f) =
        let same = l.steps k x y e f in (
          e ∙ (ap (λ (z : ObjectTurn). claim_step c k z) same ∙ sym f),
          ap
              (λ (z : ObjectTurn). path_end (k ∷ ks) ns (Some (z ∷ xs))) same,
        )
    one_next l (went ks ns k xs x s q still e) (ended _ _ _ _ y n r w note f) =
        let same = l.steps k x y e f in
        absurd (noted_once (y ∷ xs) s r n
        (subst (λ (z : ObjectTurn). IsClaimPrefix cs c (z ∷ xs) s) same q) w still note)
    one_next l (went ks ns k xs x s q still e) (took _ _ _ _ v won f) = absurd (ended_won x xs s q won)
    one_next l (ended ks ns k xs x n s q note e) (went _ _ _ _ y r w calm f) =
        let same = l.steps k x y e f in
        absurd (noted_once (y ∷ xs) r s n w
        (subst (λ (z : ObjectTurn). IsClaimPrefix cs c (z ∷ xs) s) same q) calm note)
    one_next l (ended ks ns k xs x n s q note e) (ended _ _ _ _ y m r w wrote f) =
        let same = l.steps k x y e f in
        let stages = one_stage (y ∷ xs) s r (subst (λ (z : ObjectTurn). IsClaimPrefix cs c (z ∷ xs) s) same q) w in
        let notes : Some n ≡ Some m = sym note ∙ (ap note_of stages ∙ wrote) in
        let one : n ≡ m = cc in (
          e ∙ (ap (λ (z : ObjectTurn). claim_step c k z) same ∙ sym f),
          ap
              (λ (z : Note). path_end (k ∷ ks) (z ∷ ns) None) one,
        )
    one_next l (ended ks ns k xs x n s q note e) (took _ _ _ _ v won f) = absurd (ended_won x xs s q won)
    one_next l (took ks ns k xs v won e) (went _ _ _ _ y r w calm f) = absurd (ended_won y xs r w won)
    one_next l (took ks ns k xs v won e) (ended _ _ _ _ y m r w wrote f) = absurd (ended_won y xs r w won)
    one_next l (took ks ns k xs v won e) (took _ _ _ _ u lost f) =
        let same = l.loads (Item k) v u e f in
        (e ∙ (ap (λ (i : ℕ). item_load c k i) same ∙ sym f), ap (λ (i : ℕ). path_end (k ∷ ks) (Took i ∷ ns) None) same)

    -- two equal loads of one word have one value
    value_in_load : (w : Word) (v u : ℕ) → ToCells (load c w v) ≡ ToCells (load c w u) → v ≡ u
    value_in_load w v u e = ap value_of e

    -- two equal accesses that are steps on one cell are one step
    step_in : (k : ℕ) (x y : ObjectTurn) → claim_step c k x ≡ claim_step c k y → x ≡ y
    step_in k x y e = let f : claim_access c k x ≡ claim_access c k y = cc in ap (λ (z : ClaimAccess). z.step) f

    -- an access is alike to itself
    alike_same : (a : WorldAccess) → AreAlike a a
    alike_same a = record {
      loads = λ w v u e f. value_in_load w v u (sym e ∙ f);
      steps = λ k x y e f. step_in k x y (sym e ∙ f);
    }

    -- a consumer that has done nothing on the lane has met no cell there, and has no note and no claim
    at_first : {ks : List ℕ} {ns : List Note} {z : Option (List ObjectTurn)} → ConsumerPath cs c p [] ks ns z
        → path_end ks ns z ≡ path_end [] [] None
    at_first begins = refl

    -- what a consumer did on a lane leads to at most one place
    pub one_place : (done : WorldHistory) (x y : PathEnd) → ConsumerPath cs c p done x.cells x.notes x.held
        → ConsumerPath cs c p done y.cells y.notes y.held → x ≡ y
    one_place [] x y s r = at_first s ∙ sym (at_first r)
    one_place (a ∷ older) x y s r =
        let m = came_from cs c p s in
        let n = came_from cs c p r in
        let same : m.was ≡ n.was = one_place older m.was n.was m.path n.path in
        (one_next (alike_same a) (subst (λ (z : PathEnd). Leads cs c p a z x) same m.leads) n.leads).1

    -- if two accesses that are alike may both follow what a consumer did on a lane, they are equal
    pub one_more : (done : WorldHistory) (a b : WorldAccess) (x y : PathEnd) → AreAlike a b
        → ConsumerPath cs c p (a ∷ done) x.cells x.notes x.held
        → ConsumerPath cs c p (b ∷ done) y.cells y.notes y.held → a ≡ b
    one_more done a b x y alike s r =
        let m = came_from cs c p s in
        let n = came_from cs c p r in
        let same : m.was ≡ n.was = one_place done m.was n.was m.path n.path in
        (one_next alike (subst (λ (z : PathEnd). Leads cs c p a z x) same m.leads) n.leads).0
