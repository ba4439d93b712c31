use Rattle.std.proofs.Common.{ap, arith, ⊎_elim, ◌≡◌}
use Rattle.std.specs.Prelude.{slice_index}
use Rattle.mb_bounded.specs.Desks.{IsFree, IsHeld}
use Rattle.mb_bounded.proofs.laws.ends_are_counted.Goals as goal

pub returns : goal.returns
returns g c = record {
  counted = λ r s k zero_. ⊎_elim
      (λ (free : IsFree r s). (free.0, free.2, free.3, free.4))
      (λ (held : IsHeld s). let e : slice_index s.words 0 ≡ 1 = ap (λ x. slice_index x 0) held.1
      in absurd (omega arith))
      k.lock;
}
