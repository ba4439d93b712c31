-- Proof of `Claim::alone`: the claim of a consumer that has made no access, on a last object alone.
use Rattle.std.proofs.Common.{◌≡◌, List, Some, false, [], refl, sym, ap, subst, slice_get, MatchOption}
use Rattle.std.proofs.lemmas.Bool.{false≢true}
use Rattle.mb_claim.specs.{Kind, Pc, Claim, Going, LastObject, quorums_of, kinds_of, claims_in, standing}
use Rattle.mb_claim.proofs.ClaimSteps.{stands_first}
use Rattle.mb_claim.proofs.LayoutObjects.{quorums_lawful}
use Rattle.mb_claim.proofs.claim.Claim.alone.Goals as goal

pub returns-clause-path : goal.returns-clause-path
returns-clause-path c =
    let layout = c.args.layout.now in
    let t = quorums_of layout in
    let first : slice_get (kinds_of layout) 0 ≡ Some LastObject = ap
    (λ (ks : List Kind). slice_get ks 0) c.requires.alone in
    let stands = stands_first t (kinds_of layout) LastObject c.args.consumer c.last.result first
    c.requires.consumer (c.last.ensures.begins t c.requires.consumer) in
    record {
      known = c.requires.consumer;
      prefix = c.places_show_prefixes.ensures.prefix (claims_in layout 0) c.args.consumer 0 c.last.result []
          (quorums_lawful layout) stands;
      begun = (λ b. absurd (false≢true b), λ some. absurd (some refl));
      stands = λ g. stands;
    }

pub returns-clause-first : goal.returns-clause-first
returns-clause-first c =
    let layout = c.args.layout.now in
    let first : slice_get (kinds_of layout) 0 ≡ Some LastObject = ap
    (λ (ks : List Kind). slice_get ks 0) c.requires.alone in
    let me = c.args.consumer in
    subst (λ x. MatchOption x ⊥ (λ kind. record {
      consumer = me;
      object = 0;
      place = c.last.result;
      stage = Going;
      begun = false;
    }
    ≡ standing layout me 0 me kind)) (sym first)
    (ap (λ (pc : Pc). record { consumer = me; object = 0; place = pc; stage = Going; begun = false })
    (c.last.ensures.exact (quorums_of layout)))
