-- After a lawful history a list of events has at most one replay.
use Rattle.std.proofs.Common.{◌≡◌, List, [], ◌∷◌, Option, Some, None, refl, sym, ◌∙◌, ap, ap₂, subst}
use Rattle.mb_world.specs.declared.event.Answer.{Answer}
use Rattle.mb_world.specs.declared.event.Answer.TheVariants as answer
use Rattle.mb_world.specs.declared.event.Event.{Event}
use Rattle.mb_world.specs.declared.event.Event.TheVariants as event
use Rattle.mb_world.specs.Imports.{Stage, claim_part}
use Rattle.mb_world.specs.Plan.{Plan}
use Rattle.mb_world.specs.World.{ToCells, ToClaims, WorldAccess, WorldHistory, claim_accesses}
use Rattle.mb_world.specs.Worlds.{IsWorldLawful}
use Rattle.mb_world.specs.Replay.{IsAccessOf, HasAnswer, IsRefused, IsReplay, AnswerNames, with_access}
use Rattle.mb_world.proofs.ConsumerEvents.{one_step_access, step_never_both, step_refused_once}
use Rattle.mb_world.specs.EventKnown.{EventKnown}
use Rattle.mb_world.proofs.ProducerEvents.{finish_never_both, finish_refused_once, offer_never_both, offer_refused_once, one_finish, one_offer, one_push, push_never_both, push_refused_once}

module _ (plan : Plan) (h : WorldHistory) (known : EventKnown plan h) where
  -- at most one access for which an event asks keeps the history lawful
  one_access : (e : Event) (a b : WorldAccess) → IsAccessOf e a h → IsWorldLawful plan (a ∷ h) → IsAccessOf e b h
      → IsWorldLawful plan (b ∷ h) → a ≡ b
  one_access (event.Offer p x) a b x_a la x_b lb = one_offer plan h known p x a b x_a la x_b lb
  one_access (event.Push p) a b x_a la x_b lb = one_push plan h known p a b x_a la x_b lb
  one_access (event.Finish p) a b x_a la x_b lb = one_finish plan h known p a b x_a la x_b lb
  one_access (event.Step c p word) a b x_a la x_b lb = one_step_access plan h known c p word a b x_a la x_b lb

  -- an event that is refused has no access that keeps the history lawful
  pub never_both : (e : Event) (r : Answer) (a : WorldAccess) → IsRefused plan e r h → IsAccessOf e a h
      → IsWorldLawful plan (a ∷ h) → ⊥
  never_both (event.Offer p x) r a refused made lawful = offer_never_both plan h known p x r a refused made lawful
  never_both (event.Push p) r a refused made lawful = push_never_both plan h known p r a refused made lawful
  never_both (event.Finish p) r a refused made lawful = finish_never_both plan h known p r a refused made lawful
  never_both (event.Step c p word) r a refused made lawful =
      step_never_both plan h known c p word r a refused made lawful

  -- an event has at most one answer that refuses it
  refused_once : (e : Event) (r s : Answer) → IsRefused plan e r h → IsRefused plan e s h → r ≡ s
  refused_once (event.Offer p x) r s a b = offer_refused_once plan h known p x r s a b
  refused_once (event.Push p) r s a b = push_refused_once plan h known p r s a b
  refused_once (event.Finish p) r s a b = finish_refused_once plan h known p r s a b
  refused_once (event.Step c p word) r s a b = step_refused_once plan h known c p word r s a b

  -- at most one answer names an access
  named_once : (a : WorldAccess) (r s : Answer) → AnswerNames plan r a h → AnswerNames plan s a h → r ≡ s
  named_once (ToCells a) r s e f = let same : Some r ≡ Some s = sym e ∙ f in cc
  named_once (ToClaims a) r s (x, q, e) (y, w, f) =
      let same = known.one_stage a.consumer (a.step ∷ claim_part a.consumer a.cell (claim_accesses h)) x y q w in
      e ∙ (ap (λ (z : Stage). answer.Claimed a.cell a.step.object a.step.turn.act z) same ∙ sym f)

  -- an event has at most one answer, with one access or with none
  pub one_entry : (e : Event) (r s : Answer) (a b : Option WorldAccess) → HasAnswer plan e r a h
      → HasAnswer plan e s b h → (r ≡ s) × (a ≡ b)
  one_entry e r s None None x y = (refused_once e r s x y, refl)
  one_entry e r s None (Some b) x y = absurd (never_both e r b x y.0 y.2)
  one_entry e r s (Some a) None x y = absurd (never_both e s a y x.0 x.2)
  one_entry e r s (Some a) (Some b) x y =
      let same = one_access e a b x.0 x.2 y.0 y.2 in
      (named_once b r s (subst (λ z. AnswerNames plan r z h) same x.1) y.1, ap Some same)

module _ (plan : Plan) (known : (h : WorldHistory) → IsWorldLawful plan h → EventKnown plan h) where
  -- after an event that has an answer the history is still lawful
  lawful_on : (e : Event) (r : Answer) (a : Option WorldAccess) (h : WorldHistory) → IsWorldLawful plan h
      → HasAnswer plan e r a h
      → IsWorldLawful plan (with_access a h)
  lawful_on e r None h lawful x = lawful
  lawful_on e r (Some a) h lawful x = x.2

  -- a replay keeps the history lawful
  pub replay_lawful : (es : List Event) (rs : List Answer) (was now : WorldHistory) → IsWorldLawful plan was
      → IsReplay plan es rs was now → IsWorldLawful plan now
  replay_lawful [] [] was now lawful same = subst (IsWorldLawful plan) (sym same) lawful
  replay_lawful [] (r ∷ rs) was now lawful x = absurd x
  replay_lawful (e ∷ es) [] was now lawful x = absurd x
  replay_lawful (e ∷ es) (r ∷ rs) was now lawful (a, entry, rest) =
      replay_lawful es rs (with_access a was) now (lawful_on e r a was lawful entry) rest

  -- after a lawful history a list of events has at most one list of answers, and leads to at most one history
  pub one_replay : (es : List Event) (rs ss : List Answer) (was now then : WorldHistory) → IsWorldLawful plan was
      → IsReplay plan es rs was now → IsReplay plan es ss was then → (rs ≡ ss) × (now ≡ then)
  one_replay [] [] [] was now then lawful x y = (refl, x ∙ sym y)
  one_replay [] [] (s ∷ ss) was now then lawful x y = absurd y
  one_replay [] (r ∷ rs) ss was now then lawful x y = absurd x
  one_replay (e ∷ es) [] ss was now then lawful x y = absurd x
  one_replay (e ∷ es) (r ∷ rs) [] was now then lawful x y = absurd y
  one_replay (e ∷ es) (r ∷ rs) (s ∷ ss) was now then lawful (a, first, rest) (b, other, others) =
      let same = one_entry plan was (known was lawful) e r s a b first other in
      let later = one_replay es rs ss (with_access b was) now then (lawful_on e s b was lawful other)
      (subst (λ z. IsReplay plan es rs (with_access z was) now) same.1 rest) others in
      (ap₂ (λ (x : Answer) (xs : List Answer). x ∷ xs) same.0 later.0, later.1)
