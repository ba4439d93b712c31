use Rattle.std.proofs.Common.{rules, ℕ, List, [], ◌++◌, length, map, refl, ap, inl, inr, ⊎_elim, arith, ◌∙◌}
use Rattle.mb_channel.specs.LifeSamples.{by_passes, two_stays}
use Rattle.mb_channel.specs.Stays.{Stay, Told, log_of, moved_by}
use Rattle.mb_channel.proofs.samples.sample_stays.Goals as goal

-- what the segment tells
abbrev two_told : Told ℕ
two_told = record {
  history = by_passes;
  stays = two_stays;
  apart = (
    λ is. ⊎_elim (λ e. omega (arith, e)) (λ r. r) is,
    λ is. ⊎_elim (λ e. omega (arith, e)) (λ r. r) is,
    ((λ r. r), (λ r. r), tt),
  );
  did = (refl, refl, (refl, refl, tt));
  senders = (inl refl, (inl refl, tt));
  receivers = (inr (inl refl), tt);
}

pub returns-clause-told : goal.returns-clause-told
returns-clause-told c = (two_told, refl, refl, search rules)

pub returns-clause-passes : goal.returns-clause-passes
returns-clause-passes c x = let n = ap length (x.3.sends 0
    ∙ ap (λ (ss : List (Stay ℕ)). map (moved_by 0) (log_of (λ s. s.sent) 0 ss) ++ []) x.2) in
    absurd (omega (arith, n))
