-- A step of a consumer finds nothing exactly if it has met all cells, holds no claim, and the lane has not ended.
use Rattle.std.proofs.Common.{◌≡◌, ◌⊎◌, ℕ, ◌+◌, ◌-◌, ◌<◌, Bool, true, false, cond, List, [], ◌∷◌, ◌++◌, Option, Some, None, refl, sym, ◌∙◌, ap, subst, inl, inr, arith}
use Rattle.std.specs.Prelude.{filter, nat_eq}
use Rattle.std.proofs.lemmas.Bool.{eqb-true}
use Rattle.std.proofs.lemmas.List.{append_assoc}
use Rattle.mb_cells.specs.declared.answer.Look.TheVariants as look
use Rattle.mb_cells.specs.Memory.{value_in}
use Rattle.mb_cells.specs.Reading.{look_of}
use Rattle.mb_world.specs.Vocabulary.{Answer, Note, END, IsStart, Load, ObjectTurn, has_ended, linked_cells, place_past, Plan, consumers_of, IsBy, WorldAccess, WorldHistory, is_on}
use Rattle.mb_world.specs.Vocabulary.{lane_part, pool_accesses, ConsumerPath, link_load, IsWorldLawful, HasAnswer, AnswerNames, answer_to, HasNothing, WorldKnown}
use Rattle.mb_world.specs.declared.event.Answer.TheVariants as answer
use Rattle.mb_world.specs.declared.event.Event.TheVariants as event
use Rattle.mb_world.proofs.ConsumerSteps.{linked_same, one_lane_of}
use Rattle.mb_world.proofs.LastAccess.{CameFrom, Leads, PathEnd, came_from, ended, found, path_end, took, waited, went}
use Rattle.mb_world.proofs.WorldClaims.{met_all}

-- a look that loads v finds nothing only if v is 0
nothing_told : (v : ℕ) → look_of v ≡ look.Nothing → v ≡ 0
nothing_told v tells = by (nat_eq v 0) (nat_eq v END) refl tells
  where
    by : (a b : Bool) → nat_eq v 0 ≡ a → cond a look.Nothing (cond b look.Ended (look.Cell (v - 1))) ≡ look.Nothing
        → v ≡ 0
    by true b e h = eqb-true v 0 e
    by false true e h = absurd (cc)
    by false false e h = absurd (cc)

-- the answer that names a load of the link past cells is `Looked`, with what the value loaded says
link_answer : (cells p : ℕ) (ks : List ℕ) (v : ℕ)
    → answer_to cells (place_past p ks) (Load v) ≡ Some (answer.Looked (look_of v))
link_answer cells p [] v = refl
link_answer cells p (k ∷ ks) v = refl

-- a list is empty, or has a last element
with_last : (xs : List ℕ) → (xs ≡ []) ⊎ ((ys : List ℕ) × (y : ℕ) × (xs ≡ ys ++ y ∷ []))
with_last [] = inl refl
with_last (x ∷ xs) = by (with_last xs)
  where
    by : (xs ≡ []) ⊎ ((ys : List ℕ) × (y : ℕ) × (xs ≡ ys ++ y ∷ []))
        → (x ∷ xs ≡ []) ⊎ ((ys : List ℕ) × (y : ℕ) × (x ∷ xs ≡ ys ++ y ∷ []))
    by (inl e) = inr ([], x, ap (λ zs. x ∷ zs) e)
    by (inr (ys, y, e)) = inr (x ∷ ys, y, ap (λ zs. x ∷ zs) e)

module _ (plan : Plan) (h : WorldHistory) (lawful : IsWorldLawful plan h) (known : WorldKnown plan h)
    (next : (p k : ℕ) (later ks : List ℕ) → later ++ k ∷ ks ≡ linked_cells p (pool_accesses h)
    → value_in (place_past p ks) (pool_accesses h) ≡ k + 1)
    (end : (p : ℕ) → value_in (place_past p (linked_cells p (pool_accesses h))) (pool_accesses h)
    ≡ cond (has_ended p (pool_accesses h)) END 0)
    (c p word : ℕ) where
  -- an access of the consumer on the lane is the newest of the consumer's part there
  front : (x : WorldAccess) → IsBy c x → is_on c p (linked_cells p (pool_accesses h)) x ≡ true
      → lane_part c p (x ∷ h) ≡ x ∷ lane_part c p h
  front x own on =
      ap (λ (ls : List ℕ). filter (is_on c p ls) (x ∷ h)) (linked_same c p x h own)
      ∙ ap (λ (b : Bool). cond b (x ∷ lane_part c p h) (lane_part c p h)) on

  -- before an access of the consumer on the lane its path led to a place, from which the access leads on (`CameFrom`)
  last : (x : WorldAccess) → IsBy c x → is_on c p (linked_cells p (pool_accesses h)) x ≡ true
      → (longer : IsWorldLawful plan (x ∷ h)) → c < consumers_of plan → p < plan.lanes
      → (now : PathEnd) × CameFrom plan.claims c p x (lane_part c p h) now
  last x own on longer cs ps =
      let y = longer.consumers c p cs ps in (
        path_end y.cells y.notes y.held,
        came_from plan.claims c p
            (subst (λ (l : WorldHistory). ConsumerPath plan.claims c p l y.cells y.notes y.held)
            (front x own on) y.path),
      )

  -- a load of a link found the value that the link held
  loaded : (x : WorldAccess) → IsWorldLawful plan (x ∷ h) → (ks : List ℕ) (v : ℕ) → x ≡ link_load c p ks v
      → v ≡ value_in (place_past p ks) (pool_accesses h)
  loaded x longer ks v e = (subst (λ y. IsWorldLawful plan (y ∷ h)) e longer).cells_memory.0

  -- the answer that names a load of a link is `Looked`, with what the value loaded says
  answered : (x : WorldAccess) (r : Answer) → AnswerNames plan r x h → (ks : List ℕ) (v : ℕ) → x ≡ link_load c p ks v
      → r ≡ answer.Looked (look_of v)
  answered x r names ks v e =
      let named : answer_to plan.claims.cells (place_past p ks) (Load v) ≡ Some r =
      subst (λ y. AnswerNames plan r y h) e names in
      let both : Some r ≡ Some (answer.Looked (look_of v)) = sym named ∙ link_answer plan.claims.cells p ks v in
      cc

  -- ---- if nothing is found, all cells were met and the lane has not ended
  -- if the link past these first cells of the lane holds 0, they are all cells of the lane, which has not ended
  all_met : (ks : List ℕ) → IsStart ks (linked_cells p (pool_accesses h))
      → value_in (place_past p ks) (pool_accesses h) ≡ 0
      → (ks ≡ linked_cells p (pool_accesses h)) × (has_ended p (pool_accesses h) ≡ false)
  all_met ks (later, start) zero = by (with_last later)
    where
      -- if the link past all cells holds 0, the lane has not ended
      by_end : (b : Bool) → has_ended p (pool_accesses h) ≡ b → cond b END 0 ≡ 0 → has_ended p (pool_accesses h) ≡ false
      by_end true e f = absurd (cc)
      by_end false e f = e

      by : (later ≡ []) ⊎ ((ys : List ℕ) × (y : ℕ) × (later ≡ ys ++ y ∷ []))
          → (ks ≡ linked_cells p (pool_accesses h)) × (has_ended p (pool_accesses h) ≡ false)
      by (inl e) =
          let same : ks ≡ linked_cells p (pool_accesses h) = ap (λ (zs : List ℕ). zs ++ ks) (sym e) ∙ start in (
            same,
            by_end (has_ended p (pool_accesses h)) refl
                (sym (end p) ∙ (ap (λ (zs : List ℕ). value_in (place_past p zs) (pool_accesses h)) (sym same) ∙ zero)),
          )
      by (inr (ys, y, e)) =
          let split : ys ++ y ∷ ks ≡ linked_cells p (pool_accesses h) =
          sym (append_assoc ys (y ∷ []) ks) ∙ (ap (λ (zs : List ℕ). zs ++ ks) (sym e) ∙ start) in
          let more = next p y ys ks split in
          absurd (omega (arith, more, zero))

  -- if the answer to an access is that nothing was found, the consumer has met all cells, and the lane has not ended
  waits_there : {was now : PathEnd} (x : WorldAccess) (r : Answer) → IsWorldLawful plan (x ∷ h) → AnswerNames plan r x h
      → r ≡ answer.Looked look.Nothing → c < consumers_of plan → p < plan.lanes
      → ConsumerPath plan.claims c p (lane_part c p h) was.cells was.notes was.held
      → Leads plan.claims c p x was now → HasNothing plan c p h
  waits_there x r longer names is cs ps path (waited ks ns v says e) =
      let tells : answer.Looked (look_of v) ≡ answer.Looked look.Nothing =
      sym (answered x r names ks v e) ∙ is in
      let none : look_of v ≡ look.Nothing = cc in
      let met = met_all plan h lawful known c p (record { cells = ks; notes = ns; held = None; path = path }) in
      let all = all_met ks (known.start c p ks met) (sym (loaded x longer ks v e) ∙ nothing_told v none) in
      record {
        consumer = cs;
        lane = ps;
        notes = ns;
        path = subst (λ (js : List ℕ). ConsumerPath plan.claims c p (lane_part c p h) js ns None) all.0 path;
        goes_on = all.1;
      }
  waits_there x r longer names is cs ps path (found ks ns k ne fresh e) =
      let tells : answer.Looked (look_of (k + 1)) ≡ answer.Looked look.Nothing =
      sym (answered x r names ks (k + 1) e) ∙ is in
      let none : look_of (k + 1) ≡ look.Nothing = cc in
      let zero = nothing_told (k + 1) none in
      absurd (omega (arith, zero))
  waits_there x r longer names is cs ps path (went ks ns k xs y s q still e) =
      let named = subst (λ z. AnswerNames plan r z h) e names in
      let other = sym is ∙ named.2 in absurd (cc)
  waits_there x r longer names is cs ps path (ended ks ns k xs y n s q note e) =
      let named = subst (λ z. AnswerNames plan r z h) e names in
      let other = sym is ∙ named.2 in absurd (cc)
  waits_there x r longer names is cs ps path (took ks ns k xs v won e) =
      let named : Some (answer.Took k v) ≡ Some r = subst (λ z. AnswerNames plan r z h) e names in
      let other : answer.Took k v ≡ r = cc in
      let both = other ∙ is in absurd (cc)

  -- if a step's answer is that nothing was found, there is nothing for the consumer on the lane
  pub nothing_there : (r : Answer) (a : Option WorldAccess) → HasAnswer plan (event.Step c p word) r a h
      → r ≡ answer.Looked look.Nothing → HasNothing plan c p h
  nothing_there r None (inl (past, e)) is = let other = sym e ∙ is in absurd (cc)
  nothing_there r None (inr (below, past, e)) is = let other = sym e ∙ is in absurd (cc)
  nothing_there r (Some x) ((own, on, random), names, longer) is =
      let there = longer.no_others c x (inl refl) own in
      let here = subst (λ ls. is_on c there.lane ls x ≡ true) (linked_same c there.lane x h own) there.on in
      let same = one_lane_of (pool_accesses h) known.one_lane c c there.lane p x here on in
      let ps : p < plan.lanes = subst (λ (q : ℕ). q < plan.lanes) same there.below in
      let l = last x own on longer there.known ps in
      waits_there x r longer names is there.known ps l.1.path l.1.leads

  -- ---- if all cells were met and the lane has not ended, nothing is found
  module _ (one_place : (js : List ℕ) (ms : List Note) (held : Option (List ObjectTurn))
      → ConsumerPath plan.claims c p (lane_part c p h) js ms held → (ks : List ℕ) (ns : List Note)
      → ConsumerPath plan.claims c p (lane_part c p h) ks ns None → (js ≡ ks) × (ms ≡ ns) × (held ≡ None)) where
    -- if there is nothing on the lane for the consumer, each access of the consumer there has the answer Nothing
    finds_none : {was now : PathEnd} (x : WorldAccess) (r : Answer) → IsWorldLawful plan (x ∷ h)
        → AnswerNames plan r x h
        → HasNothing plan c p h
        → ConsumerPath plan.claims c p (lane_part c p h) was.cells was.notes was.held
        → Leads plan.claims c p x was now → r ≡ answer.Looked look.Nothing
    finds_none {was} x r longer names f path leads =
        let one = one_place was.cells was.notes was.held path (linked_cells p (pool_accesses h)) f.notes f.path in
        by leads one.0 one.2
      where
        -- a load of the link past all cells finds 0
        zero_there : (ks : List ℕ) (v : ℕ) → x ≡ link_load c p ks v → ks ≡ linked_cells p (pool_accesses h) → v ≡ 0
        zero_there ks v e same =
            loaded x longer ks v e
            ∙ (ap (λ (zs : List ℕ). value_in (place_past p zs) (pool_accesses h)) same
            ∙ (end p ∙ ap (λ (b : Bool). cond b END 0) f.goes_on))

        by : {was now : PathEnd} → Leads plan.claims c p x was now → was.cells ≡ linked_cells p (pool_accesses h)
            → was.held ≡ None → r ≡ answer.Looked look.Nothing
        by (waited ks ns v says e) same none =
            answered x r names ks v e ∙ ap (λ (i : ℕ). answer.Looked (look_of i)) (zero_there ks v e same)
        by (found ks ns k ne fresh e) same none =
            let zero = zero_there ks (k + 1) e same in absurd (omega (arith, zero))
        by (went ks ns k xs y s q still e) same none = absurd (cc)
        by (ended ks ns k xs y n s q note e) same none = absurd (cc)
        by (took ks ns k xs v won e) same none = absurd (cc)

    -- if there is nothing for the consumer on the lane, a step's answer says so
    pub nothing_found : (r : Answer) (a : Option WorldAccess) → HasAnswer plan (event.Step c p word) r a h
        → HasNothing plan c p h → r ≡ answer.Looked look.Nothing
    nothing_found r None (inl (past, e)) f = absurd (omega (arith, past, f.lane))
    nothing_found r None (inr (below, past, e)) f = absurd (omega (arith, past, f.consumer))
    nothing_found r (Some x) ((own, on, random), names, longer) f =
        let l = last x own on longer f.consumer f.lane in finds_none x r longer names f l.1.path l.1.leads
