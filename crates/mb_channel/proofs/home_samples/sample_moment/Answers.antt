use Rattle.std.proofs.Common.{ℕ, zero, suc, [], ◌∷◌, ◌≡◌, ap, arith, false, refl, subst, sym, true≢false, ◌∙◌}
use mathlib.Core.Option.{some, some-injective, some-ne-none}
use lib.ListN.{get_elem?}
use Rattle.mb_segment.specs.SegmentSamples.{unused}
use Rattle.mb_segment.specs.Vocabulary.{IsViewOf, is_over, new_hub}
use Rattle.mb_channel.specs.Homes.{IsNew}
use Rattle.mb_channel.specs.Types.{Home, View}
use Rattle.mb_channel.proofs.home_samples.sample_moment.Goals as goal

same_home : (h u : Home ℕ) (j : ℕ) → get_elem? (h ∷ []) j ≡ some u → h ≡ u
same_home h u zero at = some-injective h u at
same_home h u (suc j) at = absurd (some-ne-none u (sym at))

-- the only view there is the new hub's, which was told nothing
untold : (n : ℕ) (w : View ℕ) → IsViewOf (unused 0) n w → w.over ≡ false
untold zero w at = ap (λ (v : View ℕ). v.over) (sym (some-injective new_hub w at))
untold (suc n) w at = absurd (some-ne-none w (sym at))

pub returns-clause-new : goal.returns-clause-new
returns-clause-new c h new j u at =
    let is : IsNew u = subst (λ (x : Home ℕ). IsNew x) (same_home h u j at) new in (
      c.sample_states.ensures.new,
      (
        0,
        new_hub,
        refl,
        (λ done. ap (λ (v : View ℕ). v.over) (sym is) ∙ done),
        λ over. ap is_over (sym is) ∙ over,
      ),
    )

pub returns-clause-unkept : goal.returns-clause-unkept
returns-clause-unkept c h states = c.sample_states.ensures.overslept (states 0 h refl).0

pub returns-clause-knows_less : goal.returns-clause-knows_less
returns-clause-knows_less c h done states =
    let x = (states 0 h refl).1 in true≢false (sym (x.3 done) ∙ untold x.0 x.1 x.2)

pub returns-clause-none : goal.returns-clause-none
returns-clause-none c h j lt = refl

pub returns-clause-waits : goal.returns-clause-waits
returns-clause-waits c h none_ = let e = none_ 0 (omega arith) in absurd (omega arith)
