use Rattle.std.proofs.Common.{ℕ, Bool, true, false, ◌≡◌, ◌∙◌, refl, sym, ap, true≢false}
use Rattle.mb_segment.specs.Vocabulary.{hub_view, or}
use Rattle.mb_channel.specs.Types.{View}
use Rattle.mb_channel.proofs.home_samples.sample_hubs.Goals as goal

or_true : (a : Bool) → or a true ≡ true
or_true true = refl
or_true false = refl

or_false : (a : Bool) → or a false ≡ a
or_false true = refl
or_false false = refl

pub returns-clause-told : goal.returns-clause-told
returns-clause-told c h g v told did =
    ap (λ (z : View ℕ). z.over) did.1 ∙ ap (or (hub_view h.hub).over) told ∙ or_true (hub_view h.hub).over

pub returns-clause-untold : goal.returns-clause-untold
returns-clause-untold c h g v no_ told done did = no_ (sym (or_false (hub_view h.hub).over)
    ∙ ap (or (hub_view h.hub).over) (sym told) ∙ ap (λ (z : View ℕ). z.over) (sym did.1) ∙ done)

pub returns-clause-issued : goal.returns-clause-issued
returns-clause-issued c h g s p no_ done did = no_ (ap (λ (z : View ℕ). z.over) (sym did.1) ∙ done)

pub returns-clause-new : goal.returns-clause-new
returns-clause-new c h done new = true≢false (sym done ∙ ap (λ (z : View ℕ). z.over) new)
