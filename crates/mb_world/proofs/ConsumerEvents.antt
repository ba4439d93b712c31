-- A step of a consumer has at most one access that keeps the history lawful, at most one refusal, and never both.
use Rattle.std.proofs.Common.{◌≡◌, ◌<◌, Bool, true, cond, ℕ, List, ◌∷◌, refl, sym, ◌∙◌, ap, subst, inl, inr, arith}
use Rattle.std.specs.Prelude.{filter}
use Rattle.mb_cells.specs.Memory.{value_in}
use Rattle.mb_world.specs.declared.event.Answer.{Answer}
use Rattle.mb_world.specs.declared.event.Event.TheVariants as event
use Rattle.mb_world.specs.Imports.{ClaimAccess, IsClaimLawful, ObjectTurn, Word, load}
use Rattle.mb_world.specs.Plan.{Plan, consumers_of}
use Rattle.mb_world.specs.World.{ToCells, WorldAccess, WorldHistory, claim_accesses, is_on, lane_part, pool_accesses}
use Rattle.mb_world.specs.ConsumerPath.{ConsumerPath, claim_access, claim_step}
use Rattle.mb_world.specs.Worlds.{IsWorldLawful}
use Rattle.mb_world.specs.Replay.{HasRandom, IsAccessOf, IsRefused}
use Rattle.mb_world.proofs.ConsumerSteps.{linked_same, one_lane_of}
use Rattle.mb_world.specs.EventKnown.{EventKnown}
use Rattle.mb_world.proofs.LastAccess.{path_end}
use Rattle.mb_world.proofs.OnePlace.{AreAlike, one_more}

module _ (plan : Plan) (h : WorldHistory) (known : EventKnown plan h) (c p word : ℕ) where
  -- the access is one for which the step asks
  abbrev IsStep : WorldAccess → Type 0
  IsStep a = IsAccessOf (event.Step c p word) a h

  -- the mailbox has the step's consumer and lane
  record IsInside (a : WorldAccess) : Type 0 where
    pub consumer : c < consumers_of plan
    pub lane : p < plan.lanes

  -- if an access for which a step asks keeps the history lawful, the mailbox has the step's consumer and lane
  inside : (a : WorldAccess) → IsStep a → IsWorldLawful plan (a ∷ h) → IsInside a
  inside a made lawful =
      let there = lawful.no_others c a (inl refl) made.0 in
      let on = subst (λ ls. is_on c there.lane ls a ≡ true) (linked_same c there.lane a h made.0) there.on in
      let same = one_lane_of (pool_accesses h) known.one_lane c c there.lane p a on made.1 in
      record { consumer = there.known; lane = subst (λ (q : ℕ). q < plan.lanes) same there.below }

  -- a step that is refused has no access that keeps the history lawful
  pub step_never_both : (r : Answer) (a : WorldAccess) → IsRefused plan (event.Step c p word) r h → IsStep a
      → IsWorldLawful plan (a ∷ h) → ⊥
  step_never_both r a (inl (past, _)) made lawful = let i = inside a made lawful in omega (arith, past, i.lane)
  step_never_both r a (inr (_, past, _)) made lawful = let i = inside a made lawful in omega (arith, past, i.consumer)

  -- a step has at most one answer that refuses it
  pub step_refused_once : (r s : Answer) → IsRefused plan (event.Step c p word) r h
      → IsRefused plan (event.Step c p word) s h
      → r ≡ s
  step_refused_once r s (inl (_, e)) (inl (_, f)) = e ∙ sym f
  step_refused_once r s (inl (past, _)) (inr (ps, _, _)) = absurd (omega (arith, past, ps))
  step_refused_once r s (inr (ps, _, _)) (inl (past, _)) = absurd (omega (arith, past, ps))
  step_refused_once r s (inr (_, _, e)) (inr (_, _, f)) = e ∙ sym f

  -- the access is the newest of the consumer's part on the lane
  own_front : (a : WorldAccess) → IsStep a → lane_part c p (a ∷ h) ≡ a ∷ lane_part c p h
  own_front a made =
      ap (λ (ls : List ℕ). filter (is_on c p ls) (a ∷ h)) (linked_same c p a h made.0)
      ∙ ap (λ (b : Bool). cond b (a ∷ lane_part c p h) (lane_part c p h)) made.1

  module _ (a b : WorldAccess) (made_a : IsStep a) (la : IsWorldLawful plan (a ∷ h)) (made_b : IsStep b)
      (lb : IsWorldLawful plan (b ∷ h)) where
    -- a load found what its word held
    loaded : (x : WorldAccess) → IsWorldLawful plan (x ∷ h) → (w : Word) (v : ℕ) → x ≡ ToCells (load c w v)
        → v ≡ value_in w (pool_accesses h)
    loaded x lawful w v e = (subst (λ z. IsWorldLawful plan (z ∷ h)) e lawful).cells_memory.0

    -- if a step of a claim keeps the history of the world lawful, it keeps that of the claims lawful, too
    claimed : (x : WorldAccess) → IsWorldLawful plan (x ∷ h) → (k : ℕ) (t : ObjectTurn) → x ≡ claim_step c k t
        → IsClaimLawful plan.claims (claim_access c k t ∷ claim_accesses h)
    claimed x lawful k t e =
        subst (λ z. IsClaimLawful plan.claims (claim_accesses (z ∷ h))) e (known.claims x lawful)

    -- a step of a claim has the event's random word
    random : (x : WorldAccess) → HasRandom word x → (k : ℕ) (t : ObjectTurn) → x ≡ claim_step c k t → t.turn.word ≡ word
    random x with_word k t e = subst (λ z. HasRandom word z) e with_word

    -- two accesses for which the step asks find one value if both load one word, and are equal as steps of one claim
    alike : AreAlike plan.claims c p a b
    alike = record {
      loads = λ w v u e f. loaded a la w v e ∙ sym (loaded b lb w u f);
      steps = λ k x y e f.
          ap (λ (z : ClaimAccess). z.step)
          (known.one_claim_access (claim_access c k x) (claim_access c k y) (claimed a la k x e)
          (claimed b lb k y f) refl refl
          (random a made_a.2 k x e ∙ sym (random b made_b.2 k y f)));
    }

    -- two accesses for which the step asks, and which keep the history lawful, are equal
    pub one_step_access : a ≡ b
    one_step_access =
        let i = inside a made_a la in
        let x = la.consumers c p i.consumer i.lane in
        let y = lb.consumers c p i.consumer i.lane in
        one_more plan.claims c p (known.one_stage c) (known.going c) (lane_part c p h) a b
        (path_end x.cells x.notes x.held) (path_end y.cells y.notes y.held) alike
        (subst (λ (l : WorldHistory). ConsumerPath plan.claims c p l x.cells x.notes x.held)
        (own_front a made_a) x.path)
        (subst (λ (l : WorldHistory). ConsumerPath plan.claims c p l y.cells y.notes y.held)
        (own_front b made_b) y.path)
