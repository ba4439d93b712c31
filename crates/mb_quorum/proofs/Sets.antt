-- Sets of registers as the code counts and numbers them.
use Rattle.std.proofs.Common.{◌≡◌, ◌≢◌, ℕ, zero, suc, ◌+◌, ◌-◌, ◌^◌, ◌<◌, ◌≤◌, refl, sym, ◌∙◌, ap, ap₂, subst, arith}
use Rattle.mb_quorum.specs.Middle.{choose, set_number}
use Rattle.mb_quorum.specs.MiddleLaw.{without_last, with_last}

-- for n and h above 0: the sets of h registers among n are those without the last register and those with it
pub choose_by_last :
    (n h : ℕ) → n ≢ 0 → h ≢ 0 → choose n h ≡ choose (n - 1) h + choose (n - 1) (h - 1)
choose_by_last zero h some more = absurd (some refl)
choose_by_last (suc n) zero some more = absurd (more refl)
choose_by_last (suc n) (suc h) some more =
    let before : n ≡ suc n - 1 = omega arith in
    let less : h ≡ suc h - 1 = omega arith in
    ap₂ (λ k i. choose k (suc h) + choose k i) before less

-- for n and h above 0: if v is below `choose (n - 1) h`, set v lacks the last register, and is set v of the others
pub set_of_others :
    (n h v : ℕ) → n ≢ 0 → h ≢ 0 → v < choose (n - 1) h → set_number n h v ≡ set_number (n - 1) h v
set_of_others zero h v some more less = absurd (some refl)
set_of_others (suc n) zero v some more less = absurd (more refl)
set_of_others (suc n) (suc h) v some more less =
    let before : suc n - 1 ≡ n = omega arith in
    without_last n h v (subst (λ k. v < choose k (suc h)) before less)
    ∙ ap (λ k. set_number k (suc h) v) (sym before)

-- for n and h above 0: if v is at least `choose (n - 1) h`, set v is the last register with a set of h - 1 others
pub set_with_last :
    (n h v : ℕ) → n ≢ 0 → h ≢ 0 → choose (n - 1) h ≤ v
    → set_number n h v ≡ 2 ^ (n - 1) + set_number (n - 1) (h - 1) (v - choose (n - 1) h)
set_with_last zero h v some more past = absurd (some refl)
set_with_last (suc n) zero v some more past = absurd (more refl)
set_with_last (suc n) (suc h) v some more past =
    let before : n ≡ suc n - 1 = omega arith in
    let less : h ≡ suc h - 1 = omega arith in
    with_last n h v (subst (λ k. choose k (suc h) ≤ v) (sym before) past)
    ∙ ap₂ (λ k i. 2 ^ k + set_number k i (v - choose k (suc h))) before less

-- a set of 0 registers is empty
pub empty_set : (n v : ℕ) → set_number n 0 v ≡ 0
empty_set zero v = refl
empty_set (suc n) v = refl
