-- The length of a script, and the fault `too_long`, which a script of more bytes than the limit has.
use Rattle.std.proofs.Common.{◌≡◌, ◌≢◌, ℕ, ◌+◌, ◌<◌, ◌≤◌, List, length, Option, Some, None, refl, sym, ◌∙◌, subst, arith, length-append}
use Rattle.mb_script.specs.declared.transfer.TheConstants.{MAX_SCRIPT_LEN}
use Rattle.mb_script.specs.Devices.{ConsumesCount, Had}
use Rattle.mb_script.specs.CommandIo.{AreApart, Command}

-- if one byte past the limit was read, the bytes that the reader had are a script with the fault `too_long`
pub too_long_read : {F : Type 0} (command : Command F)
    → ((bytes : List ℕ) → MAX_SCRIPT_LEN < length bytes → command.fault_of bytes ≡ Some command.too_long)
    → (old new : Option (List ℕ)) → ConsumesCount (MAX_SCRIPT_LEN + 1) old new
    → (bytes : List ℕ) × Had old bytes × (command.fault_of bytes ≡ Some command.too_long)
too_long_read command too_long None new taken = (taken.0, tt, too_long taken.0 (omega (arith, taken.1)))
too_long_read command too_long (Some left) None taken = absurd taken.2
too_long_read command too_long (Some left) (Some rest) taken =
    let more : length left ≡ length taken.0 + length rest =
    subst (λ (l : List ℕ). length l ≡ length taken.0 + length rest) (sym taken.2) (length-append taken.0 rest) in
    (left, refl, too_long left (omega (arith, more, taken.1)))

-- a fault of a script within the limit, or of memory, is not `too_long`
pub not_too_long : {F : Type 0} (command : Command F) → AreApart command
    → ((bytes : List ℕ) → command.fault_of bytes ≡ Some command.too_long → MAX_SCRIPT_LEN < length bytes)
    → (e : F) (bytes : List ℕ) → length bytes ≤ MAX_SCRIPT_LEN
    → (e ≢ command.no_memory → command.fault_of bytes ≡ Some e) → e ≢ command.too_long
not_too_long command apart only_long e bytes short first same =
    omega (
      arith,
      short,
      only_long bytes
          (subst (λ f. command.fault_of bytes ≡ Some f) same (first (λ o. apart.long_memory (sym same ∙ o)))),
    )
