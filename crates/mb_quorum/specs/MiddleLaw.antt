-- The middle table keeps the law of quorum tables.
use Rattle.std.proofs.Common.{◌≡◌, ℕ, zero, suc, ◌+◌, ◌-◌, ◌*◌, ◌/◌, ◌^◌, ◌<◌, ◌≤◌, sym, ◌∙◌, ap, subst, inl, inr, refl}
use Rattle.std.proofs.Common.{arith}
use Rattle.std.specs.Int.{bit_at}
use Rattle.std.proofs.Math.Numerals.{one-add}
use Rattle.std.proofs.Math.Pow.{pow-add, pow_pos}
use Rattle.std.proofs.lemmas.Bool.{cases_lt, cases_eq, cond_below, cond_above}
use Rattle.std.proofs.lemmas.Nat.Bits.{bit_at-lt, bit_at-zero, bit_at_above, bit_at_cat_low, bit_at_cat_high}
use Rattle.std.proofs.lemmas.Nat.Bits.{bit_at_lowest, bit_at-suc}
use Rattle.mb_quorum.specs.declared.values.TheConstants.{MAX_VALUES}
use Rattle.mb_quorum.specs.Quorum.{IsQuorumTable, IsMember, AreDisjoint}
use Rattle.mb_quorum.specs.Middle.{choose, halves, halves_below, breadth_of, IsLeastBreadth, set_number, middle_table}

-- ---- sets with and without the last register
-- a power of two is twice the one with an exponent lower by 1
pub double : (n : ℕ) → 2 ^ suc n ≡ 2 * 2 ^ n
double n = rw one-add at (pow-add 2 1 n)

-- if v is below `choose n (h + 1)`, set v lacks register n, and is set v of the n registers below it
pub without_last :
    (n h v : ℕ) → v < choose n (suc h) → set_number (suc n) (suc h) v ≡ set_number n (suc h) v
without_last n h v less =
    sym (cond_below v (choose n (suc h)) (set_number n (suc h) v) (2 ^ n + set_number n h (v - choose n (suc h))) less)

-- if v is not below `choose n (h + 1)`, set v is register n, and a set of h of the registers below it
pub with_last :
    (n h v : ℕ) → choose n (suc h) ≤ v
    → set_number (suc n) (suc h) v ≡ 2 ^ n + set_number n h (v - choose n (suc h))
with_last n h v more =
    let rest : ℕ = 2 ^ n + set_number n h (v - choose n (suc h)) in
    sym (cond_above v (choose n (suc h)) (set_number n (suc h) v) rest rest more refl)

-- each set of h registers among n has only registers below n
pub set_below : (n h v : ℕ) → set_number n h v < 2 ^ n
set_below zero h v = pow_pos 0
set_below (suc n) zero v = pow_pos (suc n)
set_below (suc n) (suc h) v =
    elim (cases_lt v (choose n (suc h))) [
      | inl less ↦ omega (arith, without_last n h v less, set_below n (suc h) v, double n)
      | inr more ↦
          omega (arith, with_last n h v more, set_below n h (v - choose n (suc h)), double n)
    ]

-- register n is in no set among the first n registers
out_of : (n h v : ℕ) → IsMember (set_number n h v) n → ⊥
out_of n h v member = omega (arith, member, bit_at_above (set_number n h v) n n (set_below n h v) (omega arith))

-- if x has only registers below n, register n is in the mask 2 ^ n + x
last_in : (n x : ℕ) → x < 2 ^ n → IsMember (2 ^ n + x) n
last_in n x small =
    let shape : 2 ^ n + x ≡ 1 * 2 ^ n + x = omega arith in
    let same : n - n ≡ 0 = omega arith in
    ap (λ k. bit_at k n) shape ∙ bit_at_cat_high 1 n x n small (omega arith) ∙ ap (bit_at 1) same ∙ bit_at_lowest 1

-- a register below n is in the mask 2 ^ n + x exactly if it is in x
other_in : (n x r : ℕ) → r < n → bit_at (2 ^ n + x) r ≡ bit_at x r
other_in n x r below =
    let shape : 2 ^ n + x ≡ 1 * 2 ^ n + x = omega arith in
    ap (λ k. bit_at k r) shape ∙ bit_at_cat_low 1 n x r below

-- ---- one set within another
-- each register of the set a is in the set b
abbrev IsWithin : ℕ → ℕ → Type 0
IsWithin a b = (r : ℕ) → IsMember a r → IsMember b r

-- for masks below 2 ^ n: if each register of x below n is in y, each register of x is in y
rests_within :
    (n x y : ℕ) → x < 2 ^ n → y < 2 ^ n → ((r : ℕ) → r < n → IsMember x r → IsMember y r) → IsWithin x y
rests_within n x y small little within r member =
    elim (cases_lt r n) [
      | inl below ↦ within r below member
      | inr above ↦ absurd (omega (arith, member, bit_at_above x n r small above))
    ]

-- if set v, of a registers, is within set w, of b registers, a is at most b. If a is b, then v is w
pub one_within :
    (n a b v w : ℕ) → v < choose n a → w < choose n b → IsWithin (set_number n a v) (set_number n b w)
    → (a ≤ b) × (a ≡ b → v ≡ w)
one_within zero zero zero v w written seen within = (omega arith, λ _. omega (arith, written, seen))
one_within zero zero (suc b) v w written seen within = absurd (omega (arith, seen))
one_within zero (suc a) b v w written seen within = absurd (omega (arith, written))
one_within (suc n) zero zero v w written seen within = (omega arith, λ _. omega (arith, written, seen))
one_within (suc n) zero (suc b) v w written seen within = (omega arith, λ e. absurd (omega (arith, e)))
one_within (suc n) (suc a) zero v w written seen within =
    elim (cases_lt v (choose n (suc a))) [
      | inl less ↦
          (let here : IsWithin (set_number n (suc a) v) (set_number n 0 0) =
          λ r member.
          absurd (omega (
            arith,
            bit_at-zero r,
            within r
                (subst (λ k. IsMember k r) (sym (without_last n a v less)) member),
          )) in
          let few = one_within n (suc a) 0 v 0 less (omega arith) here in
          absurd (omega (arith, few.0)))
      | inr more ↦
          (let rest : ℕ = set_number n a (v - choose n (suc a)) in
          let last : IsMember (set_number (suc n) (suc a) v) n =
          subst (λ k. IsMember k n) (sym (with_last n a v more))
          (last_in n rest (set_below n a (v - choose n (suc a)))) in
          absurd (omega (arith, bit_at-zero n, within n last)))
    ]
one_within (suc n) (suc a) (suc b) v w written seen within =
    elim (cases_lt v (choose n (suc a))) [
      | inl less ↦ elim (cases_lt w (choose n (suc b))) [
        | inl low ↦
            one_within n (suc a) (suc b) v w less low
            (λ r member.
            subst (λ k. IsMember k r) (without_last n b w low)
            (within r (subst (λ k. IsMember k r) (sym (without_last n a v less)) member)))
        | inr high ↦
            (let x : ℕ = set_number n (suc a) v in
            let y : ℕ = set_number n b (w - choose n (suc b)) in
            let there : IsWithin x y =
            rests_within n x y (set_below n (suc a) v) (set_below n b (w - choose n (suc b)))
            (λ r below member.
            sym (other_in n y r below)
            ∙ subst (λ k. IsMember k r) (with_last n b w high)
            (within r (subst (λ k. IsMember k r) (sym (without_last n a v less)) member))) in
            let few = one_within n (suc a) b v (w - choose n (suc b)) less (omega (arith, seen, high)) there in
            (omega (arith, few.0), λ e. absurd (omega (arith, few.0, e))))
      ]
      | inr more ↦ elim (cases_lt w (choose n (suc b))) [
        | inl low ↦
            (let rest : ℕ = set_number n a (v - choose n (suc a)) in
            let last : IsMember (set_number (suc n) (suc a) v) n =
            subst (λ k. IsMember k n) (sym (with_last n a v more))
            (last_in n rest (set_below n a (v - choose n (suc a)))) in
            absurd (out_of n (suc b) w (subst (λ k. IsMember k n) (without_last n b w low) (within n last))))
        | inr high ↦
            (let x : ℕ = set_number n a (v - choose n (suc a)) in
            let y : ℕ = set_number n b (w - choose n (suc b)) in
            let there : IsWithin x y =
            rests_within n x y (set_below n a (v - choose n (suc a))) (set_below n b (w - choose n (suc b)))
            (λ r below member.
            sym (other_in n y r below)
            ∙ subst (λ k. IsMember k r) (with_last n b w high)
            (within r (subst (λ k. IsMember k r) (sym (with_last n a v more)) (other_in n x r below ∙ member)))) in
            let few =
            one_within n a b (v - choose n (suc a)) (w - choose n (suc b))
            (omega (arith, written, more)) (omega (arith, seen, high)) there in (
              omega (arith, few.0),
              λ e.
                  (let same : a ≡ b = omega (arith, e) in
                  let rests = few.1 same in
                  let counts : choose n (suc a) ≡ choose n (suc b) = ap (λ h. choose n (suc h)) same in
                  omega (arith, rests, counts, more, high)),
            ))
      ]
    ]

-- ---- the registers that are not in a set
-- if n is below 2 ^ k, each of the k bits of 2 ^ k - 1 - n is the opposite of that bit of n
pub others_have : (k n i : ℕ) → n < 2 ^ k → i < k → bit_at (2 ^ k - 1 - n) i ≡ 1 - bit_at n i
others_have zero n i fits within = absurd (omega (arith, within))
others_have (suc k) n zero fits within =
    omega (arith, bit_at_lowest (2 ^ suc k - 1 - n), bit_at_lowest n, double k, fits)
others_have (suc k) n (suc i) fits within =
    let half : (2 ^ suc k - 1 - n) / 2 ≡ 2 ^ k - 1 - n / 2 = omega (arith, double k, fits) in
    bit_at-suc _ i ∙ ap (λ x. bit_at x i) half
    ∙ others_have k (n / 2) i (omega (arith, double k, fits)) (omega (arith, within))
    ∙ ap (λ d. 1 - d) (sym (bit_at-suc n i))

-- ---- how many sets there are. Half of the registers means half of their number, rounded down
-- n + 1 registers have no fewer sets of h of them than n registers
more_sets : (n h : ℕ) → choose n h ≤ choose (suc n) h
more_sets n zero = omega arith
more_sets n (suc h) = omega arith

-- n + 1 registers have no fewer sets of h + 1 of them than n registers have of h
more_in_sets : (n h : ℕ) → choose n h ≤ choose (suc n) (suc h)
more_in_sets n h = omega arith

-- n + 1 registers have no fewer sets of half of them than n registers
halves_rise : (n : ℕ) → halves n ≤ halves (suc n)
halves_rise n =
    elim (cases_eq (suc n / 2) (n / 2)) [
      | inl same ↦ subst (λ h. halves n ≤ choose (suc n) h) (sym same) (more_sets n (n / 2))
      | inr other ↦
          (let next : suc n / 2 ≡ suc (n / 2) = omega (arith, other) in
          subst (λ h. halves n ≤ choose (suc n) h) (sym next) (more_in_sets n (n / 2)))
    ]

-- d + n registers have no fewer sets of half of them than n registers
pub halves_mono : (n d : ℕ) → halves n ≤ halves (d + n)
halves_mono n zero =
    let same : n ≡ 0 + n = omega arith in
    subst (λ k. halves n ≤ halves k) same (omega arith)
halves_mono n (suc d) =
    let next : suc (d + n) ≡ suc d + n = omega arith in
    subst (λ k. halves n ≤ halves k) next (omega (arith, halves_mono n d, halves_rise (d + n)))

-- n registers have a set of h of them, if h is at most n
pub some_set : (n h : ℕ) → h ≤ n → 0 < choose n h
some_set n zero few = omega arith
some_set zero (suc h) few = absurd (omega (arith, few))
some_set (suc n) (suc h) few = omega (arith, some_set n h (omega (arith, few)))

-- n + 2 registers have more sets of half of them than n + 1 registers
halves_grow : (n : ℕ) → halves (suc n) < halves (suc (suc n))
halves_grow n =
    elim (cases_eq (suc (suc n) / 2) (suc n / 2)) [
      | inl same ↦
          (let pred : suc n / 2 ≡ suc (suc n / 2 - 1) = omega arith in
          let more : choose (suc n) (suc n / 2) < choose (suc (suc n)) (suc n / 2) =
          subst (λ h. choose (suc n) h < choose (suc (suc n)) h) (sym pred)
          (omega (arith, some_set (suc n) (suc n / 2 - 1) (omega arith))) in
          subst (λ h. halves (suc n) < choose (suc (suc n)) h) (sym same) more)
      | inr other ↦
          (let next : suc (suc n) / 2 ≡ suc (suc n / 2) = omega (arith, other) in
          let more : choose (suc n) (suc n / 2) < choose (suc (suc n)) (suc (suc n / 2)) =
          omega (arith, some_set (suc n) (suc (suc n / 2)) (omega (arith, other))) in
          subst (λ h. halves (suc n) < choose (suc (suc n)) h) (sym next) more)
    ]

-- n registers have at least n sets of half of them
self_within : (n : ℕ) → n ≤ halves n
self_within zero = omega arith
self_within (suc zero) = omega arith
self_within (suc (suc n)) = omega (arith, self_within (suc n), halves_grow n)

-- ---- the least number of registers
-- if `halves n` is below m, `halves_below` counts it
counted : (n m : ℕ) → halves n < m → halves_below (suc n) m ≡ suc (halves_below n m)
counted n m h = sym (cond_below (halves n) m (suc (halves_below n m)) (halves_below n m) h)

-- if `halves n` is not below m, `halves_below` does not count it
passed_over : (n m : ℕ) → m ≤ halves n → halves_below (suc n) m ≡ halves_below n m
passed_over n m h = sym (cond_above (halves n) m (suc (halves_below n m)) (halves_below n m) (halves_below n m) h refl)

-- at most n of `halves 0`, .., `halves (n - 1)` are below m
halves_below-le : (n m : ℕ) → halves_below n m ≤ n
halves_below-le zero m = omega arith
halves_below-le (suc n) m =
    elim (cases_lt (halves n) m) [
      | inl h ↦ omega (arith, counted n m h, halves_below-le n m)
      | inr h ↦ omega (arith, passed_over n m h, halves_below-le n m)
    ]

-- if `halves n` is below m, so are `halves 0`, .., `halves (n - 1)`
all_below : (n m : ℕ) → halves n < m → halves_below n m ≡ n
all_below zero m h = refl
all_below (suc n) m h =
    let before : halves n < m = omega (arith, halves_rise n, h) in
    omega (arith, counted n m before, all_below n m before)

-- if n registers have at least m sets of half of them, so have `halves_below n m` registers
enough_halves : (n m : ℕ) → m ≤ halves n → m ≤ halves (halves_below n m)
enough_halves zero m h = h
enough_halves (suc n) m h =
    elim (cases_lt (halves n) m) [
      | inl below ↦
          (let all : halves_below (suc n) m ≡ suc n = counted n m below ∙ ap suc (all_below n m below) in
          rw all h)
      | inr reached ↦ rw (passed_over n m reached) (enough_halves n m reached)
    ]

-- if c registers have more sets of half of them than n registers have, c is larger than n
registers_below : (n c : ℕ) → halves n < halves c → n < c
registers_below n c lower =
    elim (cases_lt n c) [
      | inl less ↦ less
      | inr more ↦
          (let same : (n - c) + c ≡ n = omega (arith, more) in
          let higher : halves c ≤ halves n = subst (λ k. halves c ≤ halves k) same (halves_mono c (n - c)) in
          absurd (omega (arith, higher, lower)))
    ]

-- if c registers have at least m sets of half of them, c is at least `halves_below n m`
least_halves : (n m c : ℕ) → m ≤ halves c → halves_below n m ≤ c
least_halves zero m c h = omega arith
least_halves (suc n) m c h =
    elim (cases_lt (halves n) m) [
      | inl below ↦
          omega (arith, counted n m below, halves_below-le n m, registers_below n c (omega (arith, below, h)))
      | inr reached ↦ rw (passed_over n m reached) (least_halves n m c h)
    ]

-- `breadth_of m` is the least number of registers with at least m sets of half of them
pub breadth_is_least : (m : ℕ) → IsLeastBreadth m (breadth_of m)
breadth_is_least m = record { enough = enough_halves m m (self_within m); least = least_halves m m }

-- there is one least number of registers with at least m sets of half of them
pub one_breadth : (m a b : ℕ) → IsLeastBreadth m a → IsLeastBreadth m b → a ≡ b
one_breadth m a b x y = omega (arith, x.least b y.enough, y.least a x.enough)

-- if n registers have at least m sets of half of them, and no fewer registers have so many, n is `breadth_of m`
pub least_so_far : (m n : ℕ) → m ≤ halves n → ((c : ℕ) → c < n → halves c < m) → n ≡ breadth_of m
least_so_far m n enough smaller =
    one_breadth m n (breadth_of m)
    (record {
      enough = enough;
      least = λ c h. elim (cases_lt c n) [
        | inl less ↦ absurd (omega (arith, smaller c less, h))
        | inr more ↦ more
      ];
    })
    (breadth_is_least m)

-- n registers have at most 2 ^ n sets of h of them
pub few_sets : (n h : ℕ) → choose n h ≤ 2 ^ n
few_sets n zero = omega (arith, pow_pos n)
few_sets zero (suc h) = omega arith
few_sets (suc n) (suc h) = omega (arith, few_sets n (suc h), few_sets n h, double n)

-- at most 64 values need at most 8 registers
pub breadth_small : (m : ℕ) → m ≤ 64 → breadth_of m ≤ 8
breadth_small m most =
    let all : halves 8 ≡ 70 = refl in
    (breadth_is_least m).least 8 (omega (arith, most, all))

-- ---- the table keeps the law of quorum tables
-- in the table of m values, each value is the number of a set
pub in_table : (m v : ℕ) → v < m → v < choose (breadth_of m) (breadth_of m / 2)
in_table m v value = omega (arith, value, (breadth_is_least m).enough)

-- each register of a write quorum is a register of the table
register_in : (m v r : ℕ) → IsMember ((middle_table m).write v) r → r < breadth_of m
register_in m v r member =
    let k : ℕ = breadth_of m in
    elim (cases_lt r k) [
      | inl less ↦ less
      | inr more ↦
          absurd (omega (arith, member, bit_at_above (set_number k (k / 2) v) k r (set_below k (k / 2) v) more))
    ]

-- a register of the table that is not in w's read quorum is in w's write quorum
not_read :
    (m w r : ℕ) → r < breadth_of m → (IsMember ((middle_table m).read w) r → ⊥) → IsMember ((middle_table m).write w) r
not_read m w r below out =
    let k : ℕ = breadth_of m in
    let x : ℕ = set_number k (k / 2) w in
    let other = others_have k x r (set_below k (k / 2) w) below in
    elim (cases_eq (bit_at x r) 1) [
      | inl is ↦ is
      | inr isnt ↦ absurd (out (omega (arith, other, isnt, bit_at-lt x r)))
    ]

-- the write quorum and the read quorum of one value share no register
apart : (m v w : ℕ) → v ≡ w → AreDisjoint ((middle_table m).write v) ((middle_table m).read w)
apart m v w one r in_write in_read =
    let k : ℕ = breadth_of m in
    let x : ℕ = set_number k (k / 2) w in
    let below = register_in m v r in_write in
    let other = others_have k x r (set_below k (k / 2) w) below in
    let written : IsMember x r = subst (λ u. IsMember (set_number k (k / 2) u) r) one in_write in
    omega (arith, other, written, in_read)

-- if v's write quorum and w's read quorum share no register, v is w
meet : (m v w : ℕ) → v < m → w < m → AreDisjoint ((middle_table m).write v) ((middle_table m).read w) → v ≡ w
meet m v w written seen disjoint =
    let k : ℕ = breadth_of m in
    (one_within k (k / 2) (k / 2) v w (in_table m v written) (in_table m w seen)
    (λ r member. not_read m w r (register_in m v r member) (λ in_read. disjoint r member in_read))).1 refl

-- the middle table of m values keeps the law of quorum tables, if m is at most `MAX_VALUES`
pub middle_lawful : (m : ℕ) → m ≤ MAX_VALUES → IsQuorumTable (middle_table m)
middle_lawful m most =
    let k : ℕ = breadth_of m in
    record {
      limit = omega (arith, breadth_small m (omega (arith, most)));
      few = omega (arith, most);
      write_within = λ v value. set_below k (k / 2) v;
      read_within = λ v value. omega (arith, pow_pos k);
      disjoint = λ v w written seen. (meet m v w written seen, apart m v w);
    }
