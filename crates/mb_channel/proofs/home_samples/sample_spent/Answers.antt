use Rattle.std.proofs.Common.{ap, arith, inl, refl, sym, true≢false}
use Rattle.mb_channel.specs.Types.{Knows}
use Rattle.mb_channel.proofs.home_samples.sample_spent.Goals as goal

pub returns-clause-spent : goal.returns-clause-spent
returns-clause-spent c hs all views id = record {
  named = λ l. absurd (true≢false (sym l));
  falls = tt;
  names = (tt, tt);
  near = inl refl;
  inside = λ l. absurd (true≢false (sym l));
  takes = λ _ j lt. absurd (omega (arith, lt));
  newborn = λ _. (refl, refl, refl, λ p. absurd (omega (arith, p)));
  idle = λ _. refl;
  ended = tt;
}

pub returns-clause-sender : goal.returns-clause-sender
returns-clause-sender c hs all views id f =
    let e = ap (λ (z : Knows _). z.sends) (f.idle refl) in absurd (omega (arith, e))
