-- Registers of a quorum in rising order: the least of those that are left, and lists with an act for each register.
use Rattle.std.proofs.Common.{◌≡◌, ◌≢◌, ℕ, zero, suc, ◌+◌, ◌<◌, ◌≤◌, ◌^◌, ◌==◌, ◌⊎◌, ◌↔◌, cond, Bool, true, false, List}
use Rattle.std.proofs.Common.{[], ◌∷◌, ◌++◌, inl, inr, sym, refl, ap, ◌∙◌, subst, arith}
use Rattle.std.specs.Int.{bit_at}
use Rattle.std.proofs.Math.Numerals.{add-one}
use Rattle.std.proofs.lemmas.Bool.{cases_eq, cases_lt, eq-eqb, ne_eqb}
use Rattle.std.proofs.lemmas.Nat.Bits.{bit_at-zero, bit_at-lt, bit_at_above, same_from_bits}
use Rattle.mb_quorum.specs.Quorum.{IsMember}
use Rattle.mb_quorum.specs.WidthLaw.{self_below}
use Rattle.mb_deciding.specs.{Act, acts_below, IsLeast, IsRest}

-- no register of the quorum is at or above the bound
abbrev pub IsNoneFrom : ℕ → ℕ → Type 0
IsNoneFrom mask bound = (k : ℕ) → bound ≤ k → IsMember mask k → ⊥

-- r is the least register of the quorum at or above the bound
pub record IsLeastFrom (mask bound r : ℕ) : Type 0 where
  pub above : bound ≤ r
  pub member : IsMember mask r
  pub least : (k : ℕ) → bound ≤ k → k < r → IsMember mask k → ⊥

-- ---- masks of the registers that are left
-- a mask below 2 ^ n has registers below n only
pub member_below : (n mask r : ℕ) → mask < 2 ^ n → IsMember mask r → r < n
member_below n mask r h m =
    elim (cases_lt r n) [
      | inl k ↦ k
      | inr k ↦ absurd (let z : bit_at mask r ≡ 0 = bit_at_above mask n r h k in omega arith)
    ]

-- no register is in the empty mask
pub none_empty : (left k : ℕ) → left ≡ 0 → IsMember left k → ⊥
none_empty left k e m =
    let z : bit_at 0 k ≡ 0 = bit_at-zero k in let one : bit_at 0 k ≡ 1 = subst (λ n. bit_at n k ≡ 1) e m in omega arith

-- if the bound is 0, the whole quorum is left
pub rest_whole : (mask : ℕ) → IsRest mask 0 mask
rest_whole mask k = ((λ m. (omega arith, m)), (λ both. both.1))

-- the least register that is left is the least of the quorum at or above the bound
pub rest_least : (mask bound left r : ℕ) → IsRest mask bound left → IsLeast left r → IsLeastFrom mask bound r
rest_least mask bound left r rest least =
    let own = (rest r).0 least.member in
    record { above = own.0; member = own.1; least = λ k above below m. least.least k below ((rest k).1 (above, m)) }

-- if no register is left, none of the quorum is at or above the bound
pub rest_none : (mask bound left : ℕ) → IsRest mask bound left → left ≡ 0 → IsNoneFrom mask bound
rest_none mask bound left rest e k above m = none_empty left k e ((rest k).1 (above, m))

-- if r, the least register left, is taken away, those of the quorum at and above r + 1 are left
pub rest_taken :
    (mask bound left r after : ℕ) → IsRest mask bound left → IsLeast left r
    → ((k : ℕ) → IsMember after k ↔ (IsMember left k × (k ≢ r))) → IsRest mask (r + 1) after
rest_taken mask bound left r after rest least taken k = (
  (λ m. let kept = (taken k).0 m in (above kept.0 kept.1, ((rest k).0 kept.0).1)),
  (λ both. let past : r + 1 ≤ k = both.0 in
      let own = (rest_least mask bound left r rest least).above in
      (taken k).1 ((rest k).1 (omega arith, both.1), omega arith)),
)
  where
    -- another register that is left is above r
    above : IsMember left k → k ≢ r → r + 1 ≤ k
    above m other = elim (cases_lt k r) [ inl l ↦ absurd (least.least k l m) | inr l ↦ omega arith ]

-- a mask has a least register below a bound, or has none there
least_below : (n mask : ℕ) → ((r : ℕ) × (r < n) × IsLeast mask r) ⊎ ((r : ℕ) → r < n → IsMember mask r → ⊥)
least_below zero mask = inr (λ r l m. absurd (omega arith))
least_below (suc n) mask =
    elim (least_below n mask) [
      | inl x ↦ (let below : x.0 < n = x.1 in inl (x.0, omega arith, x.2))
      | inr none ↦ (elim (cases_eq (bit_at mask n) 1) [
        | inl e ↦ inl (n, omega arith, record { member = e; least = λ k l m. none k l m })
        | inr ne ↦ inr (λ r l m. elim (cases_eq r n) [
          | inl e ↦ ne (subst (λ k. IsMember mask k) e m)
          | inr d ↦ none r
              (omega arith) m
        ])
      ])
    ]

-- there is a register in the mask, or there is none
pub some_member : (mask : ℕ) → ((r : ℕ) × IsMember mask r) ⊎ ((r : ℕ) → IsMember mask r → ⊥)
some_member mask =
    elim (least_below mask mask) [
      | inl x ↦ inl (x.0, x.2.member)
      | inr none ↦ inr (λ r m. none r (member_below mask mask r (self_below mask) m) m)
    ]

-- a mask that is not empty has a least register
pub some_least : (mask : ℕ) → mask ≢ 0 → (r : ℕ) × IsLeast mask r
some_least mask some =
    elim (least_below mask mask) [
      | inl x ↦ (x.0, x.2)
      | inr none ↦ absurd (some (same_from_bits mask 0 (λ i. zeros none i ∙ sym (bit_at-zero i))))
    ]
  where
    -- if no register is in the mask, all its bits are 0
    zeros : ((r : ℕ) → r < mask → IsMember mask r → ⊥) → (i : ℕ) → bit_at mask i ≡ 0
    zeros none i =
        elim (cases_lt i mask) [
          | inl l ↦ (let small : bit_at mask i < 2 = bit_at-lt mask i in
              let other : bit_at mask i ≢ 1 = none i l in omega arith)
          | inr l ↦ bit_at_above mask mask i (self_below mask) l
        ]

-- ---- lists with an act for each register
-- if the test b fails, the act x is not added
skip_cond : (b : Bool) (x : Act) (xs : List Act) → b ≡ false → cond b (x ∷ xs) xs ≡ xs
skip_cond true x xs e = cc
skip_cond false x xs e = refl

-- if the test b holds, the act x is added in front of the list
take_cond : (b : Bool) (x : Act) (xs : List Act) → b ≡ true → cond b (x ∷ xs) xs ≡ x ∷ xs
take_cond true x xs e = refl
take_cond false x xs e = cc

-- two bounds with no register of the mask between them give the same list
pub each_skip :
    (act : ℕ → Act) (n mask bound : ℕ) → bound ≤ n → ((k : ℕ) → bound ≤ k → k < n → IsMember mask k → ⊥)
    → acts_below act n mask ≡ acts_below act bound mask
each_skip act zero mask bound h none = let e : bound ≡ 0 = omega arith in rw e refl
each_skip act (suc n) mask bound h none =
    elim (cases_eq bound (suc n)) [
      | inl e ↦ rw e refl
      | inr e ↦ skip_cond (bit_at mask n == 1) (act n) (acts_below act n mask)
          (ne_eqb (bit_at mask n) 1 (none n (omega arith) (omega arith)))
          ∙ each_skip act n mask bound (omega arith) (λ k a b. none k a (omega arith))
    ]

-- if r is the least register at or above the bound, the list below r + 1 has just the act of r more
pub each_next :
    (act : ℕ → Act) (mask bound r : ℕ) → IsLeastFrom mask bound r
    → acts_below act (r + 1) mask ≡ act r ∷ acts_below act bound mask
each_next act mask bound r l =
    rw add-one (take_cond (bit_at mask r == 1) (act r) (acts_below act r mask) (eq-eqb (bit_at mask r) 1 l.member)
    ∙ ap (λ xs. act r ∷ xs) (each_skip act r mask bound l.above l.least))

-- if a list ends with ys, it still does after the test b adds one more act in front, or none
grow_cond :
    (b : Bool) (x : Act) (xs ys : List Act) → ((later : List Act) × (later ++ ys ≡ xs))
    → (later : List Act) × (later ++ ys ≡ cond b (x ∷ xs) xs)
grow_cond true x xs ys h = (x ∷ h.0, ap (λ zs. x ∷ zs) h.1)
grow_cond false x xs ys h = h

-- the list below a higher bound is the list below the lower one with acts, or none, in front
pub each_grow :
    (act : ℕ → Act) (n mask bound : ℕ) → bound ≤ n
    → (later : List Act) × (later ++ acts_below act bound mask ≡ acts_below act n mask)
each_grow act zero mask bound h = ([], (let e : bound ≡ 0 = omega arith in rw e refl))
each_grow act (suc n) mask bound h =
    elim (cases_eq bound (suc n)) [
      | inl e ↦ ([], rw e refl)
      | inr e ↦ grow_cond (bit_at mask n == 1) (act n) (acts_below act n mask) (acts_below act bound mask)
          (each_grow act n mask bound (omega arith))
    ]
