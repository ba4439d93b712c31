-- A setup is made only if nothing refuses it.
use Rattle.std.proofs.Common.{◌≡◌, Option, Some, None, Result, Ok, Err, refl}
use Rattle.std.specs.Prelude.{IsOk, MatchOption}
use Rattle.mb_world.specs.declared.setup.Setup.{Setup}
use Rattle.mb_world.specs.declared.setup.SetupFault.{SetupFault}

-- if the setup was made, nothing refuses it
pub no_refusal : (refusal : Option SetupFault) (s : Setup)
    → MatchOption refusal (IsOk {E = SetupFault} (Ok s))
    (λ why. ◌≡◌ {A = Result Setup SetupFault} (Ok s) (Err why))
    → refusal ≡ None
no_refusal None s is = refl
no_refusal (Some why) s is = absurd (cc)
