-- Proof of `laws::exchanges_are_lost_to_winners`: who has an access to a last object alone has won or lost.
use Rattle.std.proofs.Common.{◌≡◌, ◌≢◌, ◌++◌, ◌==◌, Bool, List, [], ◌∷◌, ap, false, inl, inr, refl, subst, sym, true, true≢false, ◌∙◌, ℕ}
use Rattle.std.specs.Prelude.{if◌then◌else◌}
use Rattle.mb_quorum.specs.Vocabulary.{QuorumTable}
use Rattle.mb_deciding.specs.LastPaths.{IsLastPath}
use Rattle.mb_deciding.specs.declared.access.Turn.{Turn}
use Rattle.mb_deciding.specs.declared.object.Kind.{Kind, TheVariants.LastObject}
use Rattle.mb_claim.specs.{AllClaims.claims_of, Paths.IsClaimPrefixFrom, Paths.turns_on}
use Rattle.mb_claim.specs.{Claiming.IsClaimPart, Winner.HasOneWinner}
use Rattle.mb_claim.specs.Vocabulary.{HasStage, claims_in, quorums_of}
use Rattle.mb_claim.specs.declared.access.Stage.TheVariants as stage
use Rattle.mb_mailbox.specs.Imports.{ObjectTurn, Stage, part_on}
use Rattle.mb_mailbox.proofs.laws.exchanges_are_lost_to_winners.Goals as goal

-- a path through a last object has one turn, so nothing comes before its last turn
alone : (v u : ℕ) (later turns : List Turn) → later ≢ [] → IsLastPath v (later ++ turns) u → turns ≡ []
alone v u [] turns some path = absurd (some refl)
alone v u (a ∷ []) [] some path = refl
alone v u (a ∷ []) (b ∷ turns) some path = absurd path
alone v u (a ∷ b ∷ later) turns some path = absurd path

-- a claim that has decided does not go on
decided : (b : Bool) (u : ℕ) → stage.Going ≡ (if b then stage.Won else stage.Lost u) → ⊥
decided true u e = cc
decided false u e = cc

-- a claim on a last object alone that goes on has made no access
none_made : (t : QuorumTable) (c v : ℕ) (xs : List ObjectTurn)
    → IsClaimPrefixFrom t c (LastObject ∷ []) 0 v xs stage.Going → xs ≡ []
none_made t c v xs (inl goes) =
    let open-path = goes.going in
    goes.all ∙ ap (turns_on 0) (alone v open-path.2.0.value open-path.0 goes.turns open-path.1 open-path.2.1.1)
none_made t c v xs (inr (inl decides)) = absurd (decided (c == decides.value) decides.value decides.is)
none_made t c v xs (inr (inr (u, later, passes, rest))) = absurd (true≢false (sym passes.path.0))

pub returns : goal.returns
returns c layout cells k d w h is lawful lost = by part.2.0 (part.0, part.2.1)
  where
    one : HasOneWinner (claims_in layout cells) k h
    one = c.claims_have_one_winner.ensures (claims_in layout cells) h k (c.layouts_are_sound.ensures.table layout)
        lawful

    some : part_on w k h ≢ []
    some = one.competed d w (stage.Lost w) lost refl

    part : IsClaimPart (claims_in layout cells) w k (part_on w k h)
    part = lawful.parts w k some

    by : (s : Stage) → HasStage (claims_in layout cells) w k s h → HasStage (claims_in layout cells) w k stage.Won h
    by stage.Won has = has
    by stage.Going has = absurd (some (none_made (quorums_of layout) w w (part_on w k h)
        (subst (λ ks. IsClaimPrefixFrom (quorums_of layout) w ks 0 w (part_on w k h) stage.Going) is has.1)))
    by (stage.Lost v) has =
        absurd (one.other w v has (sym (one.same d w w v (stage.Lost w) (stage.Lost v) lost has refl refl)))
    by stage.Undecided has = absurd (c.last_objects_decide_claims.ensures.rows (quorums_of layout) [] cells w k h
        (subst (λ (ks : List Kind). HasStage (claims_of (quorums_of layout) ks cells) w k stage.Undecided h) is has))
