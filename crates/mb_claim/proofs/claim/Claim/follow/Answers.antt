-- Proof of `Claim::follow`: goes on with what an access on the claim's object led to.
use Rattle.std.proofs.Common.{◌≡◌, ℕ, Bool, true, false, ◌∷◌, List, Option, Some, slice_get, refl, sym, ap, ◌∙◌}
use Rattle.std.proofs.Common.{subst, ◌+◌, ◌<◌}
use Rattle.std.proofs.lemmas.Bool.{not-true, not-false}
use Rattle.mb_quorum.specs.Quorum.{QuorumTable}
use Rattle.mb_claim.specs.ObjectTypes.{Kind, Turn, Out}
use Rattle.mb_deciding.specs.Vocabulary.{IsNext, IsReached, next_from, turns_after, turns_left}
use Rattle.mb_deciding.specs.declared.place.pc.Next.TheVariants as leads
use Rattle.mb_deciding.specs.Objects.{answer, IsPath}
use Rattle.mb_claim.specs.Types.{ObjectTurn, Claim}
use Rattle.mb_claim.specs.OneClaim.{placed_at}
use Rattle.mb_claim.specs.Layouts.{quorums_of, kinds_of, claims_in}
use Rattle.mb_claim.proofs.LayoutObjects.{quorums_lawful}
use Rattle.mb_claim.proofs.ClaimSteps.{PlacesMakeParts, same_object, claim_going, claim_passed, claim_decided}
use Rattle.mb_claim.proofs.StepsLeft.{fewer_here, fewer_passed, fewer_ended}
use Rattle.mb_claim.proofs.claim.Claim.follow.Goals as goal

-- an output that is `Some a` and also `Some b` shows that a is b
same_out : (out : Option Out) (a b : Out) → out ≡ Some a → out ≡ Some b → a ≡ b
same_out out a b e f = let is : Some a ≡ Some b = sym e ∙ f in cc

-- the output of a path is `answer d` of its value, if d says whether it is decided
as_answer : (t : QuorumTable) (kind : Kind) (v : ℕ) (turns : List Turn) (out : Out) (d : Bool) → out.decided ≡ d
    → IsPath t kind v turns out → IsPath t kind v turns (answer d out.value)
as_answer t kind v turns out d e path = subst (λ b. IsPath t kind v turns (answer b out.value)) e path

-- ---- the new claim belongs to the turns: `None` is a new place, `Some` an undecided output, `Some-2` a decided one
-- These three proofs begin with where the claim stood (`p`) and what the access led to there (`reached`, `come`).
pub returns-in-None-clause-path : goal.returns-in-None-clause-path
returns-in-None-clause-path c pc begun xs x of reaches =
    let layout = c.args.layout.now in
    let t = quorums_of layout in
    let kinds = kinds_of layout in
    let old = c.args.self.now in
    let p = of.stands c.requires.going in
    let reached = reaches p.kind p.input p.turns p.place in
    let parts : PlacesMakeParts t kinds =
    λ d object pc ys. c.places_show_prefixes.ensures.prefix (claims_in layout 0) d object pc ys
    (quorums_lawful layout) in
    let step : ObjectTurn = record { object = old.object; turn = x } in
    let come : IsReached t p.kind p.input (leads.Go old.place) (x ∷ p.turns) =
    subst (λ out. IsReached t p.kind p.input (next_from out old.place) (x ∷ p.turns)) c.in-None.is reached in
    claim_going t kinds _ step xs parts of.known c.requires.going refl
    (same_object t kinds old.consumer old.object pc xs p x old.place come)

pub returns-in-Some-clause-path : goal.returns-in-Some-clause-path
returns-in-Some-clause-path c pc begun xs x of reaches =
    let layout = c.args.layout.now in
    let t = quorums_of layout in
    let kinds = kinds_of layout in
    let old = c.args.self.now in
    let p = of.stands c.requires.going in
    let reached = reaches p.kind p.input p.turns p.place in
    let parts : PlacesMakeParts t kinds =
    λ d object pc ys. c.places_show_prefixes.ensures.prefix (claims_in layout 0) d object pc ys
    (quorums_lawful layout) in
    let come : IsReached t p.kind p.input (leads.Out c.in-Some.out) (x ∷ p.turns) =
    subst (λ out. IsReached t p.kind p.input (next_from out old.place) (x ∷ p.turns)) c.in-Some.is reached in
    claim_passed t kinds _ old.consumer old.object pc xs p x c.in-Some.out.value parts
    c.pass.ensures.same.0 of.known c.pass.ensures.same.1
    (subst (λ out. IsNext t (next_from out old.place)) c.in-Some.is c.requires.next)
    (as_answer t p.kind p.input (x ∷ p.turns) c.in-Some.out false
    (not-true c.in-Some.out.decided c.if-not-out.true) come)
    (slice_get kinds (old.object + 1)) refl c.pass.ensures.next

pub returns-in-Some-2-clause-path : goal.returns-in-Some-2-clause-path
returns-in-Some-2-clause-path c pc begun xs x of reaches =
    let layout = c.args.layout.now in
    let t = quorums_of layout in
    let kinds = kinds_of layout in
    let old = c.args.self.now in
    let p = of.stands c.requires.going in
    let reached = reaches p.kind p.input p.turns p.place in
    let come : IsReached t p.kind p.input (leads.Out c.in-Some-2.out) (x ∷ p.turns) =
    subst (λ out. IsReached t p.kind p.input (next_from out old.place) (x ∷ p.turns)) c.in-Some-2.is reached in
    let same = same_out _ _ _ c.in-Some.is c.in-Some-2.is in
    claim_decided t kinds _ old.object pc xs p x c.in-Some-2.out.value
    of.known refl c.stage_for-stage.ensures.ended c.stage_for-stage.ensures.exact
    (as_answer t p.kind p.input (x ∷ p.turns) c.in-Some-2.out true
    (ap (λ (o : Out). o.decided) (sym same) ∙ not-false c.in-Some.out.decided c.if-not-out.false) come)

-- ---- fewer accesses are left, in the same three cases
pub returns-in-None-clause-fewer : goal.returns-in-None-clause-fewer
returns-in-None-clause-fewer c pc fewer =
    let layout = c.args.layout.now in
    let t = quorums_of layout in
    let old = c.args.self.now in
    let now : Claim = record {
      consumer = old.consumer;
      object = old.object;
      place = old.place;
      stage = old.stage;
      begun = true;
    } in
    fewer_here layout (placed_at pc old) now c.requires.going c.requires.going refl
    (subst (λ out. turns_after t (next_from out old.place) < turns_left t pc) c.in-None.is fewer)

pub returns-in-Some-clause-fewer : goal.returns-in-Some-clause-fewer
returns-in-Some-clause-fewer c pc fewer =
    let layout = c.args.layout.now in
    let t = quorums_of layout in
    let old = c.args.self.now in
    fewer_passed layout (placed_at pc old) c.pass.new.self c.requires.going
    (subst (λ out. turns_after t (next_from out old.place) < turns_left t pc) c.in-Some.is fewer)
    (slice_get (kinds_of layout) (old.object + 1)) refl c.pass.ensures.few

pub returns-in-Some-2-clause-fewer : goal.returns-in-Some-2-clause-fewer
returns-in-Some-2-clause-fewer c pc fewer =
    let layout = c.args.layout.now in
    let t = quorums_of layout in
    let old = c.args.self.now in
    let now : Claim = record {
      consumer = old.consumer;
      object = old.object;
      place = old.place;
      stage = c.stage_for-stage.result;
      begun = true;
    } in
    fewer_ended layout (placed_at pc old) now c.requires.going c.stage_for-stage.ensures.ended
    (subst (λ out. turns_after t (next_from out old.place) < turns_left t pc) c.in-Some-2.is fewer)
