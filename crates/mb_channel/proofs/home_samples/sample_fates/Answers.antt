use Rattle.std.proofs.Common.{ℕ, zero, suc, [], ◌∷◌, ap, arith, inl, length, map, refl, subst, sym, true≢false, ⊎_elim, ◌≡◌, ◌∙◌}
use Rattle.std.specs.Option.{unwrap_or}
use mathlib.Core.Option.{some, some-injective, some-ne-none}
use lib.ListN.{get_elem?}
use Rattle.mb_channel.specs.Types.{Knows}
use Rattle.mb_channel.specs.Homes.{Sat, past_of}
use Rattle.mb_channel.specs.Deeds.{Deed}
use Rattle.mb_channel.specs.HomeSamples.{place, seven}
use Rattle.mb_channel.specs.Inside.{Log, log_of_past}
use Rattle.mb_channel.specs.Fates.{IsOneOf}
use Rattle.mb_channel.proofs.home_samples.sample_fates.Goals as goal

only : (id : ℕ) (v : Knows ℕ) → get_elem? {A = Knows ℕ} (seven ∷ []) id ≡ some v → seven ≡ v
only zero v at = some-injective seven v at
only (suc id) v at = absurd (some-ne-none v (sym at))

its_log : (l : Log ℕ) (id : ℕ) (v : Knows ℕ) → get_elem? {A = Knows ℕ} (seven ∷ []) id ≡ some v
    → IsOneOf l (map log_of_past (past_of v ∷ v.ended)) → l ≡ log_of_past (past_of seven)
its_log l id v at is = ⊎_elim (λ e. e) (λ f. absurd f)
    (subst (λ z. IsOneOf l (map log_of_past (past_of z ∷ z.ended))) (sym (only id v at)) is)

abbrev call : ℕ → Deed ℕ
call y = record { place = place 0 0; value = y }

pub returns-clause-right : goal.returns-clause-right
returns-clause-right c = λ l y log. let e = its_log l log.0 log.1 log.2 log.3 in (
  (λ sent. ap (λ (m : Log ℕ). Rattle.mb_segment.specs.Vocabulary.name_in m.name) (sym e)),
  λ got. absurd (subst (λ (m : Log ℕ). IsOneOf (call y) m.got) e got),
)

pub returns-clause-wrong : goal.returns-clause-wrong
returns-clause-wrong c true_ = let e = ap (λ o. unwrap_or o 0)
    ((true_ (log_of_past (past_of seven)) 10 (0, seven, refl, inl refl)).0 (inl refl)) in absurd (omega (arith, e))

pub returns-clause-named : goal.returns-clause-named
returns-clause-named c = ((refl, tt), tt)

pub returns-clause-renamed : goal.returns-clause-renamed
returns-clause-renamed c has = let e = has.0.0 in absurd (omega (arith, e))

pub returns-clause-holder : goal.returns-clause-holder
returns-clause-holder c told s v gives = true≢false (sym gives.1 ∙ ap (λ (m : Sat _). m.0.holds) gives.0)
