use Rattle.std.proofs.Common.{arith, subst, sym, ℕ, ◌≡◌}
use native.Mathlib.Decide.{dec_lt, ℕ_discrete}
use mathlib.Core.Logic.{dite}
use Rattle.mb_segment.specs.Vocabulary.{claimed_in, drawn_in}
use Rattle.mb_channel.proofs.laws.empty_is_true.Goals as goal

pub returns : goal.returns
returns g c = record {
  empty = λ s k id v now at inside takes states finds j lt.
      let f = k.fits id v at in
      let i = f.inside inside in
      let here = states v.at i.0 i.1 in
      let m = c.empty_is_true.ensures.moment (now v.at) here.0 finds in
      dite (dec_lt j v.at)
      (λ before. let d = f.takes takes j before in let x = states j d.0 d.1 in
      (c.over_is_true.ensures.over (now j) x.0 x.1.0 x.1.1 x.1.2 (x.1.3 d.2)).1)
      (λ high. dite (ℕ_discrete j v.at)
      (λ same. subst (λ (n : ℕ). drawn_in (now n) ≡ claimed_in (now n)) (sym same) m.0)
      (λ ne. let o = k.leads v.at (omega arith) in
      let x = states v.at o.0 o.1 in
      absurd (m.2 (c.over_is_true.ensures.over_all (now v.at) x.0 x.1.0 x.1.1 x.1.2 (x.1.4 o.2)))));
}
