-- What `parse` of std returns for a word whose first byte is above that of the digit 0.
use Rattle.std.proofs.Common.{◌≡◌, ◌≢◌, ℕ, ◌<◌, ◌^◌, Bool, true, false, cond, nat_eq, nat_lt, ◌&&◌, ◌||◌, List, length, get_or, Some, None, Result, Ok, Err, refl, ap, arith}
use Rattle.std.specs.Prelude.{slice_index}
use Rattle.std.specs.Result.{result_ok, OkIff}
use Rattle.std.specs.Str.{all_ascii_digits}
use Rattle.std.specs.Str.Parse.{digits_value, ParsesUnsigned}
use Rattle.std.proofs.lemmas.Bool.{ltb-true, lt-ltb}
use Rattle.std.proofs.lemmas.Str.Parse.{IsNumeralModel, numerals_by_value, tells_all_ascii_digits, parse_plain}
use Rattle.mb_script.specs.Text.{number_of}

-- `all_ascii_digits` says which words are digits alone, and `digits_value 10` their number, as std's model asks
pub own : IsNumeralModel (λ ds. all_ascii_digits ds ≡ true) (digits_value 10)
own = numerals_by_value (λ ds. all_ascii_digits ds ≡ true) tells_all_ascii_digits

-- if `led` is true, and r is `Ok v` exactly if `digits` and `small` are, r has the value v exactly if all three are
by_tests : {E : Type 0} (digits led small : Bool) (v : ℕ) (nonempty : Type 0) (r : Result ℕ E) → nonempty → led ≡ true
    → OkIff r ((digits ≡ true) × nonempty × (small ≡ true)) v
    → result_ok r ≡ cond ((digits && led) && small) (Some v) None
by_tests true true true v nonempty (Ok x) some is_led ok = ap (λ y. Some y) ok.1
by_tests true true true v nonempty (Err x) some is_led ok = absurd (ok (refl, some, refl))
by_tests true true false v nonempty (Ok x) some is_led ok = absurd (cc (ok.0.2))
by_tests true true false v nonempty (Err x) some is_led ok = refl
by_tests false true small v nonempty (Ok x) some is_led ok = absurd (cc (ok.0.0))
by_tests false true small v nonempty (Err x) some is_led ok = refl
by_tests digits false small v nonempty r some is_led ok = absurd (cc)

-- if a result is `Ok` exactly if P, Q and the bound on v hold, the bound may be replaced by its test
bound_by_test : {E : Type 0} (r : Result ℕ E) (P Q : Type 0) (v : ℕ) → OkIff r (P × Q × (v < 2 ^ 64)) v
    → OkIff r (P × Q × (nat_lt v (2 ^ 64) ≡ true)) v
bound_by_test (Ok x) P Q v ok = ((ok.0.0, ok.0.1, lt-ltb _ _ ok.0.2), ok.1)
bound_by_test (Err e) P Q v ok = λ h. ok (h.0, h.1, ltb-true _ _ h.2)

-- if a word is not empty, and has no `+` and no needless 0 in front, `parse` of std returns what `number_of` says of it
number_is : {E : Type 0} (bs : List ℕ) (r : Result ℕ E) → ParsesUnsigned 64 10 bs r → 0 < length bs
    → get_or bs 0 0 ≢ 43 → (nat_lt 48 (slice_index bs 0) || nat_eq (length bs) 1) ≡ true
    → result_ok r ≡ number_of bs
unfolding number_of
number_is bs r parsed some plain led =
    by_tests (all_ascii_digits bs) _ (nat_lt (digits_value 10 bs) (2 ^ 64)) (digits_value 10 bs) (0 < length bs)
    r some led (bound_by_test r _ _ _ (parse_plain own 64 bs r parsed plain))

-- if a word's first byte is above that of the digit 0, `parse` of std returns for it what `number_of` says
pub number_led : {E : Type 0} (bs : List ℕ) (r : Result ℕ E) → ParsesUnsigned 64 10 bs r → 0 < length bs
    → 48 < get_or bs 0 0 → result_ok r ≡ number_of bs
number_led bs r parsed some led =
    number_is bs r parsed some (λ e. omega (arith, e, led)) (rw (lt-ltb 48 (get_or bs 0 0) led) refl)
