-- Proof of `samples::words_and_views_disagree`: words and views of a table that are no state.
use Rattle.std.proofs.Common.{[], arith, ap, refl, sym, ◌∷◌, ◌≡◌, ◌∙◌, ℕ, List}
use Rattle.mb_claim.specs.Vocabulary.{held_at, part}
use Rattle.mb_shared_claims.specs.Types.{ClaimAccess, Issuing}
use Rattle.mb_shared_claims.proofs.samples.words_and_views_disagree.Goals as goal

-- a history in which each consumer's part is empty is empty
nothing : ((a : ClaimAccess) (h : List ClaimAccess) → part a.consumer (a ∷ h) ≡ a ∷ part a.consumer h)
    → (h : List ClaimAccess) → ((c : ℕ) → part c h ≡ []) → h ≡ []
nothing own [] idle = refl
nothing own (a ∷ h) idle = let e : a ∷ part a.consumer h ≡ [] = sym (own a h) ∙ idle a.consumer in absurd (cc)

-- no number was issued, so the history is empty and leaves 0
pub returns : goal.returns
returns c = λ k o reg words some has held state.
    let plan = state.0 in
    let s = state.1 in
    let none : 0 ≡ plan.given = (s.fits 0 (Issuing k []) refl).1.1 in
    let empty : plan.history ≡ [] = nothing c.accesses_lengthen_one_part.ensures.own plan.history
    (λ n. s.others n (omega (arith, none))) in
    let left = s.memory.left 0 o reg some has in
    let e : 1 ≡ 0 = sym held ∙ (left ∙ ap (λ h. held_at 0 o reg h) empty) in
    omega (arith, e)
