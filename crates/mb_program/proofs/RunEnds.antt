-- How a run ends: by a fault before it writes, by a failed write, or with its whole text written.
use Rattle.std.proofs.Common.{◌≡◌, ◌≢◌, ℕ, List, Option, Some, None, Result, Ok, Err, refl, sym, ap, ◌∙◌, subst}
use Rattle.std.specs.Prelude.{IsErrAnd, IsOk, MatchOption, ◌↔◌}
use Rattle.std.specs.Io.KnownBytes.{Appends}
use Rattle.mb_world.specs.declared.setup.Setup.{Setup}
use Rattle.mb_world.specs.declared.setup.SetupFault.{SetupFault}
use Rattle.mb_script.specs.Vocabulary.{AppendsFront, IoModel, one_more}
use Rattle.mb_program.specs.declared.fault.RunFault.{RunFault}
use Rattle.mb_program.specs.declared.fault.RunFault.TheVariants.{BadSetup, NoMemory, WriteFault}
use Rattle.mb_program.specs.declared.options.Options.{Options}
use Rattle.mb_program.specs.Running.{IsRun, IsRunText, setup_refused}
use Rattle.mb_program.proofs.RunSetups.{no_refusal}

-- ---- which setups are refused
-- the result is a refusal of the setup exactly if the options are refused, for the same reason
abbrev Refuses : {Y : Type 0} → Options → Result Y RunFault → Type 0
Refuses o r = (why : SetupFault) → (r ≡ Err (BadSetup why)) ↔ (setup_refused o ≡ Some why)

-- an `Ok` is no `Err`
no_ok : {Y : Type 0} (y : Y) (e : RunFault) → ◌≡◌ {A = Result Y RunFault} (Ok y) (Err e) → ⊥
no_ok y e is = absurd (cc)

-- if two results with a fault each are equal, their faults are
pub same_err : {Y : Type 0} (e f : RunFault) → ◌≡◌ {A = Result Y RunFault} (Err e) (Err f) → e ≡ f
same_err e f is = cc

-- if a run has no fault, its setup is not refused
not_refused : {Y : Type 0} (o : Options) (y : Y) → Refuses o (Ok y) → (why : SetupFault)
    → setup_refused o ≡ Some why → ⊥
not_refused o y refuses why is = no_ok y _ ((refuses why).1 is)

-- if the setup was made, a later fault is no refusal of it, and the options are not refused
pub fault_behind : {Y : Type 0} (o : Options) (s : Setup) (e : RunFault)
    → MatchOption (setup_refused o) (IsOk {E = SetupFault} (Ok s))
    (λ why. ◌≡◌ {A = Result Setup SetupFault} (Ok s) (Err why))
    → ((why : SetupFault) → e ≢ BadSetup why) → Refuses {Y = Y} o (Err e)
fault_behind {Y} o s e made other = λ why. (
  λ is. absurd (other why (same_err {Y = Y} e _ is)),
  λ refused. let both : ◌≡◌ {A = Option SetupFault} (Some why) None = sym refused
      ∙ no_refusal (setup_refused o) s made in absurd (cc),
)

-- ---- the ways in which a run ends
-- `IsRun` holds of a run that fails before it writes, and leaves its writer as it was
fault_first : {X Y W : Type 0} (o : Options) (sink : IoModel W) (w : W) (e : RunFault)
    → e ≢ WriteFault → Refuses {Y = Y} o (Err e)
    → IsRun {X = X} o sink w w (Err e)
fault_first {X} {Y} o sink w e other refuses = record {
  answered = tt;
  refused = λ why. (
    λ is. (refuses why).0 (ap (λ f. Err f) (same_err {Y = X} e _ is)),
    λ is. ap (λ f. Err f) (same_err {Y = Y} e _ ((refuses why).1 is)),
  );
  write_failed = λ is. absurd (other (same_err {Y = X} e _ is));
  write_worked = λ _. refl;
  front = λ is. absurd (other (same_err {Y = X} e _ is));
  untouched = λ _. refl;
}

-- what holds of an error holds of a result that is this error
from_err : {X F : Type 0} (P : Result X F → Type 0) (r : Result X F) (e : F) → IsErrAnd r (λ f. f ≡ e) → P (Err e) → P r
from_err P (Ok x) e is here = absurd is
from_err P (Err f) e is here = subst (λ f. P (Err f)) (sym is) here

-- a result that is this fault, which comes after the setup was made, is no refusal of it
pub refuses_by : {Y : Type 0} (o : Options) (s : Setup) (e : RunFault) (r : Result Y RunFault)
    → MatchOption (setup_refused o) (IsOk {E = SetupFault} (Ok s))
    (λ why. ◌≡◌ {A = Result Setup SetupFault} (Ok s) (Err why))
    → IsErrAnd r (λ f. f ≡ e) → ((why : SetupFault) → e ≢ BadSetup why) → Refuses o r
refuses_by {Y} o s e r made is other = from_err (Refuses {Y = Y} o) r e is (fault_behind {Y = Y} o s e made other)

-- `IsRun` holds of a run that has no report because of a fault
pub ends_without_report : {X Y W : Type 0} (o : Options) (sink : IoModel W) (w : W)
    (r : Result X RunFault) (e : RunFault)
    → IsErrAnd r (λ f. f ≡ e) → ◌≢◌ {A = Result Y RunFault} (Err e) (Err WriteFault)
    → Refuses {Y = Y} o (Err e) → IsRun o sink w w r
ends_without_report {X} {Y} {W} o sink w r e is other refuses =
    from_err (λ r. IsRun o sink w w r) r e is
    (fault_first {X = X} {Y = Y} o sink w e (λ same. other (ap (λ f. Err f) same)) refuses)

-- `IsRun` holds of a run without memory for its text
pub ends_without_text : {X Y W : Type 0} (o : Options) (sink : IoModel W) (w : W)
    (r : Result X RunFault) (e : RunFault) (y : Y)
    → IsErrAnd r (λ f. f ≡ e) → e ≡ NoMemory → Refuses o (Ok y) → IsRun o sink w w r
ends_without_text {X} {Y} {W} o sink w r e y is none refuses =
    from_err (λ r. IsRun o sink w w r) r e is (subst (λ e. IsRun {X = X} o sink w w (Err e)) (sym none)
    (fault_first {X = X} {Y = Y} o sink w NoMemory (λ same. absurd (cc))
    (λ why. (
      λ is. let same : NoMemory ≡ BadSetup why = same_err {Y = Y} NoMemory _ is
          in absurd (cc),
      λ is. absurd (not_refused o y refuses why is),
    ))))

-- `IsRun` holds of a run whose whole text was written
pub ends_written : {X Y W : Type 0} (o : Options) (sink : IoModel W) (w w' : W) (x : X) (y : Y)
    (text : List ℕ) → Refuses o (Ok y)
    → IsRunText o text → Appends (sink.bytes w) (sink.bytes w') text → sink.failures w'
    ≡ sink.failures w → IsRun o sink w w' (Ok x)
ends_written {X} o sink w w' x y text refuses is appends worked = record {
  answered = (text, is, appends);
  refused = λ why. (λ is. absurd (no_ok x _ is), λ is. absurd (not_refused o y refuses why is));
  write_failed = λ is. absurd (no_ok x _ is);
  write_worked = λ _. worked;
  front = λ is. absurd (no_ok x _ is);
  untouched = tt;
}

-- `IsRun` holds of a run of which a write failed
pub ends_half_written : {X Y W : Type 0} (o : Options) (sink : IoModel W) (w w' : W)
    (r : Result X RunFault) (e : RunFault) (y : Y) (text : List ℕ)
    → IsErrAnd r (λ f. f ≡ e) → e ≡ WriteFault → Refuses o (Ok y) → IsRunText o text
    → AppendsFront (sink.bytes w) (sink.bytes w') text → sink.failures w'
    ≡ one_more (sink.failures w) → IsRun o sink w w' r
ends_half_written {X} o sink w w' r e y text is write refuses run front failed =
    from_err (λ r. IsRun o sink w w' r) r e is (subst (λ e. IsRun {X = X} o sink w w' (Err e)) (sym write) (record {
      answered = tt;
      refused = λ why. (
        λ is. let same : WriteFault
            ≡ BadSetup why = same_err {Y = X} WriteFault _ is
            in absurd (cc),
        λ is. absurd (not_refused o y refuses why is),
      );
      write_failed = λ _. failed;
      write_worked = λ other. absurd (other refl);
      front = λ _. (text, run, front);
      untouched = λ other. absurd (other refl);
    }))
