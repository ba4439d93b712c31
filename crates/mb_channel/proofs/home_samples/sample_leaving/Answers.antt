use Rattle.std.proofs.Common.{ℕ, List, [], ◌∷◌, ◌++◌, ◌≡◌, ap, arith, inr, length, refl, sym, true≢false, ⊎_elim, ◌∙◌}
use Rattle.mb_channel.specs.Types.{Home}
use Rattle.mb_channel.proofs.Views.{size_snoc}
use Rattle.mb_channel.proofs.home_samples.sample_leaving.Goals as goal

same_size : (hs : List (Home ℕ)) (h : Home ℕ) → hs ++ h ∷ [] ≡ hs → ⊥
same_size hs h e = let l = size_snoc hs h in let n = ap length e in omega arith

pub returns-clause-added : goal.returns-clause-added
returns-clause-added c v h new may orderly last = inr (may, orderly, (h, new, refl, last))

pub returns-clause-unasked : goal.returns-clause-unasked
returns-clause-unasked c v h not_ is = ⊎_elim (λ e. same_size v.before h e) (λ m. true≢false (sym m.0 ∙ not_)) is

pub returns-clause-elsewhere : goal.returns-clause-elsewhere
returns-clause-elsewhere c v h not_ is = ⊎_elim (λ e. same_size v.before h e)
    (λ m. not_ m.2.3) is
