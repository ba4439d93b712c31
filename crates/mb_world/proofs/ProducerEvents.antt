-- An event of a producer has at most one access that keeps the history lawful, at most one refusal, and never both.
use Rattle.std.proofs.Common.{◌≡◌, ◌+◌, cond, ℕ, ◌∷◌, Option, Some, None, refl, sym, ◌∙◌, ap, ap₂, subst, inl, inr, arith, eq-eqb}
use Rattle.mb_cells.specs.declared.lane.Lane.{Lane}
use Rattle.mb_cells.specs.LanePath.{fetch, store}
use Rattle.mb_cells.specs.Place as phase
use Rattle.mb_cells.specs.Place.{Phase, PhaseFits}
use Rattle.mb_cells.specs.Standing.{finish_refusal, link_after, next_link, offer_refusal, push_store, stage_of, stage_push_store}
use Rattle.mb_world.specs.declared.event.Answer.{Answer}
use Rattle.mb_world.specs.declared.event.Answer.TheVariants as answer
use Rattle.mb_world.specs.declared.event.Event.TheVariants as event
use Rattle.mb_world.specs.Imports.{Counter, END, Entry, History, IsLanePrefix, IsLinkWord, Item, PoolAccess, Producer, Word, is_same_process, part}
use Rattle.mb_cells.specs.Memory.{value_in}
use Rattle.mb_world.specs.Plan.{Plan}
use Rattle.mb_world.specs.World.{ToCells, WorldAccess, WorldHistory, pool_accesses}
use Rattle.mb_world.specs.Worlds.{IsWorldLawful}
use Rattle.mb_world.specs.Replay.{IsAccessOf, IsLaneOf, IsPushed, IsRefused}
use Rattle.mb_world.specs.EventKnown.{EventKnown}

-- the store of v in word w, in the form in which a producer's place names the store that a push makes
abbrev stored : Word → ℕ → Option (Word × ℕ)
stored w v = Some (w, v)

-- the word to which a store goes, or `Counter` if there is no store
abbrev stored_word : Option (Word × ℕ) → Word
stored_word None = Counter
stored_word (Some s) = s.0

-- the value that a store leaves, or 0 if there is no store
abbrev stored_value : Option (Word × ℕ) → ℕ
stored_value None = 0
stored_value (Some s) = s.1

-- equal stores go to one word
first_same : (w u : Word) (v x : ℕ) → stored w v ≡ stored u x → w ≡ u
first_same w u v x e = ap stored_word e

-- equal stores store one value
second_same : (w u : Word) (v x : ℕ) → stored w v ≡ stored u x → v ≡ x
second_same w u v x e = ap stored_value e

module _ (plan : Plan) (h : WorldHistory) (known : EventKnown plan h) (p : ℕ) where
  -- if the history stays lawful with an access of the producer, its part with that access is a prefix of a lane path
  own_front : (a : PoolAccess) → a.process ≡ Producer p → IsWorldLawful plan (ToCells a ∷ h)
      → IsLanePrefix plan.claims.cells p (a ∷ part (Producer p) (pool_accesses h))
  own_front a own lawful =
      subst (λ (d : History). IsLanePrefix plan.claims.cells p d)
      (ap (λ who. cond (is_same_process (Producer p) who) (a ∷ part (Producer p) (pool_accesses h))
      (part (Producer p) (pool_accesses h))) own
      ∙ ap (λ b. cond b (a ∷ part (Producer p) (pool_accesses h)) (part (Producer p) (pool_accesses h)))
      (eq-eqb p p refl))
      (lawful.producers p)

  -- ---- offers have at most one access that keeps the history lawful, at most one refusal, and never both
  -- an offer has at most one access that keeps the history lawful
  pub one_offer : (x : ℕ) (a b : WorldAccess) → IsAccessOf (event.Offer p x) a h → IsWorldLawful plan (a ∷ h)
      → IsAccessOf (event.Offer p x) b h → IsWorldLawful plan (b ∷ h) → a ≡ b
  one_offer x a b (n, is_a) la (m, is_b) lb =
      let number : (i : ℕ) (z : WorldAccess) → z ≡ ToCells (fetch p (record { cell = i; value = x }))
      → IsWorldLawful plan (z ∷ h)
      → i ≡ value_in Counter (pool_accesses h) =
      λ i z e l. (subst (λ y. IsWorldLawful plan (y ∷ h)) e l).cells_memory.0 in
      is_a
      ∙ (ap (λ (i : ℕ). ToCells (fetch p (record { cell = i; value = x })))
      (number n a is_a la ∙ sym (number m b is_b lb))
      ∙ sym is_b)

  -- an offer that is refused has no access that keeps the history lawful
  pub offer_never_both : (x : ℕ) (r : Answer) (a : WorldAccess) → IsRefused plan (event.Offer p x) r h
      → IsAccessOf (event.Offer p x) a h → IsWorldLawful plan (a ∷ h) → ⊥
  offer_never_both x r a refused (n, is_a) la = by refused
    where
      e : Entry
      e = record { cell = n; value = x }

      lawful : IsWorldLawful plan (ToCells (fetch p e) ∷ h)
      lawful = subst (λ y. IsWorldLawful plan (y ∷ h)) is_a la

      by : IsRefused plan (event.Offer p x) r h → ⊥
      by (inl (past, _)) = omega (arith, past, lawful.cells_fit.1)
      by (inr (_, (lane, why, at, refuses, _))) =
          let free = known.fetches p lane e at (own_front (fetch p e) refl lawful) in
          let f : None ≡ Some why = sym free ∙ refuses in
          cc

  -- an offer has at most one answer that refuses it
  pub offer_refused_once : (x : ℕ) (r s : Answer) → IsRefused plan (event.Offer p x) r h
      → IsRefused plan (event.Offer p x) s h
      → r ≡ s
  offer_refused_once x r s (inl (_, e)) (inl (_, f)) = e ∙ sym f
  offer_refused_once x r s (inl (past, _)) (inr (ps, _)) = absurd (omega (arith, past, ps))
  offer_refused_once x r s (inr (ps, _)) (inl (past, _)) = absurd (omega (arith, past, ps))
  offer_refused_once x r s (inr (_, (lane, why, at, refuses, e))) (inr (_, (other, because, there, keeps, f))) =
      let same = known.one_place p lane other at there in
      let reasons : Some why ≡ Some because = sym refuses ∙ (ap offer_refusal same ∙ keeps) in
      let one : why ≡ because = cc in
      e ∙ (ap answer.Offered one ∙ sym f)

  -- ---- pushes and finishes have at most one access that keeps the history lawful, at most one refusal, and never both
  -- at each phase a push stores no end mark in a head or link
  no_mark_of : (link w : Word) (done : Phase) → PhaseFits plan.claims.cells done
      → stage_push_store link (stage_of done) ≡ stored w END
      → IsLinkWord w → ⊥
  no_mark_of link w phase.Open fits e is_link = cc
  no_mark_of link w (phase.Offered x) fits e is_link =
      let f : Item x.cell ≡ w = first_same (Item x.cell) w x.value END e in subst IsLinkWord (sym f) is_link
  no_mark_of link w (phase.Stored x) fits e is_link =
      let f : x.cell + 1 ≡ END = second_same link w (x.cell + 1) END e in omega (arith, f, fits, known.sized)
  no_mark_of link w (phase.Full x) fits e is_link = cc
  no_mark_of link w (phase.Ended None) fits e is_link = cc
  no_mark_of link w (phase.Ended (Some x)) fits e is_link = cc

  -- no push stores an end mark in a head or link
  pub no_mark : (lane : Lane) (w : Word) → IsLaneOf plan p lane h → push_store p lane ≡ stored w END → IsLinkWord w → ⊥
  no_mark lane w at e is_link =
      no_mark_of (next_link p lane) w at.phase at.at.fits
      (subst (λ z. stage_push_store (next_link p lane) z ≡ stored w END) at.stage e) is_link

  -- a store of the end mark in the lane's next link is none that a push makes
  not_pushed : (lane : Lane) (w : Word) (v : ℕ) → w ≡ next_link p lane → v ≡ END → IsPushed w v → ⊥
  not_pushed lane w v e f pushed = by lane.last (subst (λ u. IsPushed u END) e (subst (IsPushed w) f pushed))
    where
      by : (last : Option ℕ) → IsPushed (link_after p last) END → ⊥
      by None ne = ne refl
      by (Some k) ne = ne refl

  -- a push has at most one access that keeps the history lawful
  pub one_push : (a b : WorldAccess) → IsAccessOf (event.Push p) a h → IsWorldLawful plan (a ∷ h)
      → IsAccessOf (event.Push p) b h → IsWorldLawful plan (b ∷ h) → a ≡ b
  one_push a b (w, v, push_a, is_a) la (u, x, push_b, is_b) lb =
      is_a ∙ (ap₂ (λ (y : Word) (z : ℕ). ToCells (store p y z)) (first_same w u v x same) (second_same w u v x same)
      ∙ sym is_b)
    where
      lane : (l : Lane) × IsLaneOf plan p l h
      lane = known.place p

      -- a push stores what the producer's place has to store
      pushes : (y : Word) (z : ℕ) (c : WorldAccess) → IsPushed y z → c ≡ ToCells (store p y z)
          → IsWorldLawful plan (c ∷ h)
          → push_store p lane.0 ≡ stored y z
      pushes y z c pushed e l =
          elim (known.stores p lane.0 y z lane.1
          (own_front (store p y z) refl (subst (λ t. IsWorldLawful plan (t ∷ h)) e l))) [
            | inl is ↦ is
            | inr mark ↦ absurd (not_pushed lane.0 y z mark.1.0 mark.1.1 pushed)
          ]

      same : stored w v ≡ stored u x
      same = sym (pushes w v a push_a is_a la) ∙ pushes u x b push_b is_b lb

  -- a push that is refused has no access that keeps the history lawful
  pub push_never_both : (r : Answer) (a : WorldAccess) → IsRefused plan (event.Push p) r h
      → IsAccessOf (event.Push p) a h
      → IsWorldLawful plan (a ∷ h) → ⊥
  push_never_both r a refused (w, v, pushed, is_a) la = by refused
    where
      lawful : IsWorldLawful plan (ToCells (store p w v) ∷ h)
      lawful = subst (λ y. IsWorldLawful plan (y ∷ h)) is_a la

      by : IsRefused plan (event.Push p) r h → ⊥
      by (inl (past, _)) = omega (arith, past, lawful.cells_fit.1)
      by (inr (_, (lane, at, idle, _))) = elim (known.stores p lane w v at (own_front (store p w v) refl lawful)) [
        | inl is ↦ let f : None ≡ stored w v = sym idle ∙ is in cc
        | inr mark ↦ not_pushed lane w v mark.1.0 mark.1.1 pushed
      ]

  -- a push has at most one answer that refuses it
  pub push_refused_once : (r s : Answer) → IsRefused plan (event.Push p) r h → IsRefused plan (event.Push p) s h → r ≡ s
  push_refused_once r s (inl (_, e)) (inl (_, f)) = e ∙ sym f
  push_refused_once r s (inl (past, _)) (inr (ps, _)) = absurd (omega (arith, past, ps))
  push_refused_once r s (inr (ps, _)) (inl (past, _)) = absurd (omega (arith, past, ps))
  push_refused_once r s (inr (_, (lane, at, idle, e))) (inr (_, (other, there, still, f))) = e ∙ sym f

  -- a finish has at most one access that keeps the history lawful
  pub one_finish : (a b : WorldAccess) → IsAccessOf (event.Finish p) a h → IsWorldLawful plan (a ∷ h)
      → IsAccessOf (event.Finish p) b h → IsWorldLawful plan (b ∷ h) → a ≡ b
  one_finish a b (w, link_a, is_a) la (u, link_b, is_b) lb =
      is_a
      ∙ (ap (λ (y : Word). ToCells (store p y END)) (marked w a link_a is_a la ∙ sym (marked u b link_b is_b lb))
      ∙ sym is_b)
    where
      lane : (l : Lane) × IsLaneOf plan p l h
      lane = known.place p

      -- a store of the end mark is in the lane's next link
      marked : (y : Word) (c : WorldAccess) → IsLinkWord y → c ≡ ToCells (store p y END) → IsWorldLawful plan (c ∷ h)
          → y ≡ next_link p lane.0
      marked y c link e l =
          elim (known.stores p lane.0 y END lane.1
          (own_front (store p y END) refl (subst (λ t. IsWorldLawful plan (t ∷ h)) e l))) [
            | inl is ↦ absurd (no_mark lane.0 y lane.1 is link)
            | inr mark ↦ mark.1.0
          ]

  -- a finish that is refused has no access that keeps the history lawful
  pub finish_never_both : (r : Answer) (a : WorldAccess) → IsRefused plan (event.Finish p) r h
      → IsAccessOf (event.Finish p) a h
      → IsWorldLawful plan (a ∷ h) → ⊥
  finish_never_both r a refused (w, link, is_a) la = by refused
    where
      lawful : IsWorldLawful plan (ToCells (store p w END) ∷ h)
      lawful = subst (λ y. IsWorldLawful plan (y ∷ h)) is_a la

      by : IsRefused plan (event.Finish p) r h → ⊥
      by (inl (past, _)) = omega (arith, past, lawful.cells_fit.1)
      by (inr (_, (lane, why, at, refuses, _))) =
          elim (known.stores p lane w END at (own_front (store p w END) refl lawful)) [
            | inl is ↦ no_mark lane w at is link
            | inr mark ↦ let f : None ≡ Some why = sym mark.0 ∙ refuses in cc
          ]

  -- a finish has at most one answer that refuses it
  pub finish_refused_once : (r s : Answer) → IsRefused plan (event.Finish p) r h
      → IsRefused plan (event.Finish p) s h → r ≡ s
  finish_refused_once r s (inl (_, e)) (inl (_, f)) = e ∙ sym f
  finish_refused_once r s (inl (past, _)) (inr (ps, _)) = absurd (omega (arith, past, ps))
  finish_refused_once r s (inr (ps, _)) (inl (past, _)) = absurd (omega (arith, past, ps))
  finish_refused_once r s (inr (_, (lane, why, at, refuses, e))) (inr (_, (other, because, there, keeps, f))) =
      let same = known.one_place p lane other at there in
      let reasons : Some why ≡ Some because = sym refuses ∙ (ap finish_refusal same ∙ keeps) in
      let one : why ≡ because = cc in
      e ∙ (ap answer.Finished one ∙ sym f)
