-- If steps of reading in a row gave no fault, none of these steps and of the tests between them gave one.
use Rattle.std.proofs.Common.{◌≡◌, Bool, true, false, cond, Option, Some, None, Result, Ok, Err, refl, ap}
use Rattle.std.specs.Option.{ok_or}
use Rattle.mb_script.specs.declared.fault.Fault.{Fault}
use Rattle.mb_script.specs.Steps.{◌>>=◌}

-- if two steps in a row gave y, the first gave some x, and the second gave y for it
pub bind_ok : {A B : Type 0} (r : Result A Fault) (f : A → Result B Fault) (y : B) → (r >>= f) ≡ Ok y
    → (x : A) × (r ≡ Ok x) × (f x ≡ Ok y)
bind_ok (Ok x) f y e = (x, refl, e)
bind_ok (Err d) f y e = absurd (cc)

-- if a test that does not hold gives the fault d, and there was no fault, the test holds
pub passed : {A : Type 0} (b : Bool) (d : Fault) (r : Result A Fault) (y : A) → cond b r (Err d) ≡ Ok y
    → (b ≡ true) × (r ≡ Ok y)
passed true d r y e = (refl, e)
passed false d r y e = absurd (cc)

-- if a test that holds gives the fault d, and there was no fault, the test does not hold
pub avoided : {A : Type 0} (b : Bool) (d : Fault) (r : Result A Fault) (y : A) → cond b (Err d) r ≡ Ok y
    → (b ≡ false) × (r ≡ Ok y)
avoided false d r y e = (refl, e)
avoided true d r y e = absurd (cc)

-- `Ok x` as a result whose fault, if it had one, would be that of a replay
abbrev well : {A : Type 0} → A → Result A Fault
well x = Ok x

-- if `Ok x` and `Ok y` are equal, x and y are
pub ok_is : {A : Type 0} (x y : A) → well x ≡ well y → x ≡ y
ok_is x y e = cc

-- if an option gives a fault in place of no value, and there was no fault, it has a value
pub some_from : {A : Type 0} (o : Option A) (d : Fault) (x : A) → ok_or o d ≡ Ok x → o ≡ Some x
some_from (Some y) d x e = ap (λ (z : _). Some z) (ok_is y x e)
some_from None d x e = absurd (cc)
