-- To which of its two writers the program wrote clap's text.
use Rattle.std.proofs.Common.{◌≡◌, ◌≢◌, inl, inr, ℕ, Bool, true, false, List, [], refl, sym, ◌∙◌, subst}
use Rattle.std.specs.Prelude.{IsTrue, ◌↔◌}
use Rattle.clap.specs.declared.error.ErrorKind.{ErrorKind}
use Rattle.clap.specs.declared.error.ErrorKind.TheVariants.{DisplayHelp, DisplayVersion}
use Rattle.mb_script.specs.Vocabulary.{IoModel}
use Rattle.mb_program.specs.Program.{IsPrinted, IsTold}

-- clap's test sends a text to the errors exactly if its kind is neither help nor the version
abbrev Decides : Bool → ErrorKind → Type 0
Decides stderr kind = IsTrue stderr ↔ ((kind ≢ DisplayHelp) × (kind ≢ DisplayVersion))

-- what `IsPrinted` says of a writer and a flag, it says of an equal writer and an equal flag
printed_as : {D : Type 0} (sink : IoModel D) (old new end : D) (text : List ℕ) (printed flag : Bool)
    → end ≡ new → flag ≡ printed
    → IsPrinted sink old new text printed → IsPrinted sink old end text flag
printed_as sink old new end text printed flag same equal wrote =
    subst (λ d. IsPrinted sink old d text flag) (sym same)
    (subst (λ b. IsPrinted sink old new text b) (sym equal) wrote)

-- if clap's test sent the text to the errors, the text went where it should: to the second writer
pub told_errors : {W E : Type 0} (sink : IoModel W) (errs : IoModel E) (writer writer' : W)
    (errors errors' new : E) (kind : ErrorKind)
    (stderr printed flag : Bool) (text : List ℕ) → Decides stderr kind → stderr ≡ true → writer'
    ≡ writer → errors' ≡ new → flag ≡ printed
    → IsPrinted errs errors new text printed → IsTold sink errs writer writer' errors errors' kind flag
told_errors sink errs writer writer' errors errors' new kind stderr printed flag text is to_errors
    same end equal wrote = (
      λ help. absurd (elim help [ inl h ↦ (is.0 to_errors).0 h | inr v ↦ (is.0 to_errors).1 v ]),
      λ _ _. (same, (text, printed_as errs errors new errors' text printed flag end equal wrote)),
    )

-- if clap's test did not send the text to the errors, the text went where it should: to the first writer
pub told_output : {W E : Type 0} (sink : IoModel W) (errs : IoModel E) (writer writer' new : W)
    (errors errors' : E) (kind : ErrorKind)
    (stderr printed flag : Bool) (text : List ℕ) → Decides stderr kind → stderr ≡ false → writer'
    ≡ new → errors' ≡ errors → flag ≡ printed
    → IsPrinted sink writer new text printed → IsTold sink errs writer writer' errors errors' kind flag
told_output sink errs writer writer' new errors errors' kind stderr printed flag text is to_output
    end same equal wrote = (
      λ _. (same, (text, printed_as sink writer new writer' text printed flag end equal wrote)),
      λ no_help no_version. let both : false ≡ true = sym to_output ∙ is.1 (no_help, no_version) in absurd (cc),
    )

-- if both writers are as they were, and no text was printed, as the flag says, `IsTold` holds, whatever the kind
pub told_nobody : {W E : Type 0} (sink : IoModel W) (errs : IoModel E) (writer writer' : W)
    (errors errors' : E) (kind : ErrorKind) (flag : Bool)
    → writer' ≡ writer → errors' ≡ errors → flag ≡ false → IsTold sink errs writer writer' errors errors' kind flag
told_nobody sink errs writer writer' errors errors' kind flag same other equal = (
  λ _. (other, ([], printed_as sink writer writer' writer' [] false flag refl equal (inr same))),
  λ _ _. (same, ([], printed_as errs errors errors' errors' [] false flag refl equal (inr other))),
)
