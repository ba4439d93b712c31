-- Proof of `laws::last_objects_decide_claims`: a claim in a row that ends with a last object is never undecided.
use Rattle.std.proofs.Common.{◌++◌, subst}
use Rattle.mb_deciding.specs.Vocabulary.{spread}
use Rattle.mb_claim.specs.{Undecided, Stage, pairs_of, fast_row, quorums_of, kinds_of, part_on, IsClaimPrefixFrom}
use Rattle.mb_claim.proofs.LastObjects.{never_undecided, ends_with_last}
use Rattle.mb_claim.proofs.laws.last_objects_decide_claims.Goals as goal

pub returns-clause-rows : goal.returns-clause-rows
returns-clause-rows c t front cells d k h has = never_undecided t d front 0 d _ has.1

pub returns-clause-layouts : goal.returns-clause-layouts
returns-clause-layouts c layout claim xs has of undecided =
    let t = quorums_of layout in
    let s = spread t.values in
    let row = ends_with_last layout.shape s layout.pairs has in
    never_undecided t claim.consumer (fast_row layout.shape.fast ++ pairs_of s layout.pairs) 0 claim.consumer xs
    (subst (λ ks. IsClaimPrefixFrom t claim.consumer ks 0 claim.consumer xs Undecided) row
    (subst (λ (r : Stage). IsClaimPrefixFrom t claim.consumer (kinds_of layout) 0 claim.consumer xs
    r) undecided of.prefix))

pub returns-clause-stages : goal.returns-clause-stages
returns-clause-stages c layout cells d k h has stage =
    let t = quorums_of layout in
    let s = spread t.values in
    never_undecided t d (fast_row layout.shape.fast ++ pairs_of s layout.pairs) 0 d _
    (subst (λ ks. IsClaimPrefixFrom t d ks 0 d (part_on d k h) Undecided)
    (ends_with_last layout.shape s layout.pairs has) stage.1)
