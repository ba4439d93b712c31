-- What `get_one` of clap returns for an option that takes a number, by the rows that clap found.
use Rattle.std.proofs.Common.{◌≡◌, ◌^◌, ◌-◌, ℕ, Bool, true, false, List, Option, Some, None, Result, Ok, Err, refl, sym, arith}
use Rattle.std.specs.Prelude.{unwrap_or}
use Rattle.std.specs.Str.Parse.{ParsesUnsigned}
use Rattle.clap.specs.Words.{ReadsOne, Text, one_of, one_text, rows_of}
use Rattle.clap.specs.Values.{IsUnsignedIn}
use Rattle.clap.specs.ValueTests.{is_unsigned_in}
use Rattle.clap.specs.declared.builder.value_parser.ValueParser.TheVariants.{Unsigned}
use Rattle.clap.specs.declared.parser.matches.Found.{Found}
use Rattle.clap.proofs.ValueTestLemmas.{accepts-Accepts, Accepts-accepts}
use Rattle.clap.proofs.WalkLemmas.{one_text-rows}
use Rattle.mb_program.specs.RunOptions.{number_from}

-- the largest number of 64 bits
abbrev most : ℕ
most = 2 ^ 64 - 1

-- if a text spells no number below 2^64, its number is 0
read_out : (t : Text) → (IsUnsignedIn 0 most t → ⊥) → number_from (Some t) ≡ 0
read_out t outside = go (is_unsigned_in 0 most t) refl
  where
    go : (b : Bool) → is_unsigned_in 0 most t ≡ b → number_from (Some t) ≡ 0
    go true passed = absurd (outside (accepts-Accepts false (Unsigned 0 most) t passed))
    go false failed = rw failed refl

-- what `get_one` returns, or else 0, is the number that the text found by clap spells, or else 0
pub number_read : (E : Type 0) (G : List ℕ → Result ℕ E → Type 0) (f : Found) (id : Text) (r : Option ℕ)
    → ((u : List ℕ) (x : Result ℕ E) → G u x → ParsesUnsigned 64 10 u x)
    → (one_text f id ≡ None → r ≡ None) → ((t : Text) → one_text f id ≡ Some t → ReadsOne G t r)
    → unwrap_or r 0 ≡ number_from (one_of id (rows_of f))
number_read E G f id r only none value = rw (← one_text-rows f id) (go (one_text f id) refl)
  where
    read : (t : Text) (o : Option ℕ) → ReadsOne G t o → unwrap_or o 0 ≡ number_from (Some t)
    read t (Some v) h =
        let parsed = only t (Ok v) h in
        let inside : IsUnsignedIn 0 most t = (parsed.0.0, parsed.0.1, omega arith, omega (arith, parsed.0.1)) in
        rw (Accepts-accepts false (Unsigned 0 most) t inside) parsed.1
    read t None h =
        let parsed = only t (Err h.0) h.1 in
        sym (read_out t (λ inside. parsed (inside.0, inside.1)))

    go : (o : Option Text) → one_text f id ≡ o → unwrap_or r 0 ≡ number_from o
    go None e = rw (none e) refl
    go (Some t) e = read t r (value t e)
