-- The next act of a ratifier's path: the acts before it name its word, and what it stores.
use Rattle.std.proofs.Common.{◌≡◌, ℕ, zero, suc, ◌+◌, ◌<◌, ◌≤◌, ◌==◌, cond, Bool, true, false, List, [], ◌∷◌, ◌++◌}
use Rattle.std.proofs.Common.{length, inl, inr, sym, refl, ap, ◌∙◌, subst, length-append, arith}
use Rattle.std.specs.Int.{bit_at}
use Rattle.std.proofs.lemmas.Bool.{cases_order, eqb-true}
use Rattle.mb_quorum.specs.Quorum.{QuorumTable, IsMember}
use Rattle.mb_deciding.specs.{IsSameOp, Value, Proposal, Quorum, Last, Act, Load, Store, Exchange, acts_below, stores_below}
use Rattle.mb_deciding.specs.{zeros_below, announcement, Prefers, ReadsClear, IsRatifierPath}
use Rattle.mb_deciding.proofs.Lengths.{each_more, clear_same, empty_unclear}
use Rattle.mb_deciding.proofs.Outputs.{proposal_loads, clear_from, from_unique}

-- the act follows the acts made: they are all that a process with input v makes before it
abbrev pub Follows : QuorumTable → ℕ → Act → List Act → Type 0
Follows t v (Store Value w) made = ⊥
Follows t v (Store Proposal w) made = (w ≡ v + 1) × (made ≡ Load Proposal 0 ∷ announcement t v)
Follows t v (Store (Quorum r) w) made =
    (w ≡ 1) × (r < t.registers) × IsMember (t.write v) r × (made ≡ stores_below r (t.write v))
Follows t v (Load Value x) made = ⊥
Follows t v (Store Last w) made = ⊥
Follows t v (Load Last x) made = ⊥
Follows t v (Exchange reg w f) made = ⊥
Follows t v (Load Proposal x) made = made ≡ announcement t v
Follows t v (Load (Quorum r) x) made = (u : ℕ) × IsMember (t.read u) r × ReadsClear t v u r made

-- each act of the list follows the acts before it
abbrev AllFollow : QuorumTable → ℕ → List Act → Type 0
AllFollow t v [] = Unit {0}
AllFollow t v (a ∷ made) = Follows t v a made × AllFollow t v made

-- ---- each act of a path follows the acts before it
-- if each act of xs follows those before it, that stays so after the test b adds x in front, if an x added follows xs
follow_cond :
    (t : QuorumTable) (v : ℕ) (b : Bool) (x : Act) (xs : List Act) → (b ≡ true → Follows t v x xs) → AllFollow t v xs
    → AllFollow t v (cond b (x ∷ xs) xs)
follow_cond t v true x xs f h = (f refl, h)
follow_cond t v false x xs f h = h

-- each act of an announcement below a bound follows the acts before it
stores_follow : (t : QuorumTable) (v n : ℕ) → n ≤ t.registers → AllFollow t v (stores_below n (t.write v))
stores_follow t v zero within = tt
stores_follow t v (suc n) within =
    follow_cond t v (bit_at (t.write v) n == 1) (Store (Quorum n) 1) (stores_below n (t.write v))
    (λ b. (refl, omega arith, eqb-true (bit_at (t.write v) n) 1 b, refl))
    (stores_follow t v n (omega arith))

-- each act of a path up to its preference follows the acts before it
prefers_follow : (t : QuorumTable) (v u : ℕ) (begin : List Act) → Prefers t v u begin → AllFollow t v begin
prefers_follow t v u begin (inl h) =
    subst (λ made. AllFollow t v made) (sym h.1) ((refl, refl), (refl, stores_follow t v t.registers (omega arith)))
prefers_follow t v u begin (inr h) =
    subst (λ made. AllFollow t v made) (sym h) (refl, stores_follow t v t.registers (omega arith))

-- if each act of `xs ++ ys` follows those before it, that stays so after b adds x in front, if an x added follows them
check_cond :
    (t : QuorumTable) (v : ℕ) (b : Bool) (x : Act) (xs ys : List Act) → (b ≡ true → Follows t v x (xs ++ ys))
    → AllFollow t v (xs ++ ys) → AllFollow t v (cond b (x ∷ xs) xs ++ ys)
check_cond t v true x xs ys f h = (f refl, h)
check_cond t v false x xs ys f h = h

-- each load of a check follows the acts before it
zeros_follow :
    (t : QuorumTable) (v u n : ℕ) (begin : List Act) → Prefers t v u begin
    → AllFollow t v (zeros_below n (t.read u) ++ begin)
zeros_follow t v u zero begin p = prefers_follow t v u begin p
zeros_follow t v u (suc n) begin p =
    check_cond t v (bit_at (t.read u) n == 1) (Load (Quorum n) 0) (zeros_below n (t.read u)) begin
    (λ b. (u, eqb-true (bit_at (t.read u) n) 1 b, (begin, p, refl)))
    (zeros_follow t v u n begin p)

-- if the loads of a check below a bound all found 0, each act up to the last of them follows the acts before it
clear_follow : (t : QuorumTable) (v u n : ℕ) (made : List Act) → ReadsClear t v u n made → AllFollow t v made
clear_follow t v u n made h = subst (λ xs. AllFollow t v xs) (sym h.2) (zeros_follow t v u n h.0 h.1)

-- each act of a whole path follows the acts before it
path_follow :
    (t : QuorumTable) (v : ℕ) (made : List Act) (d : Bool) (u : ℕ) → IsRatifierPath t v made d u → AllFollow t v made
path_follow t v made true u h = clear_follow t v u t.registers made h
path_follow t v [] false u h = tt
path_follow t v (act ∷ older) false u h =
    (subst (λ a. Follows t v a older) (sym h.1) (u, h.2, h.4), clear_follow t v u h.0 older h.4)

-- if each act of a list follows the acts before it, so does each of its older acts
suffix_follow : (t : QuorumTable) (v : ℕ) (later made : List Act) → AllFollow t v (later ++ made) → AllFollow t v made
suffix_follow t v [] made h = h
suffix_follow t v (x ∷ later) made h = suffix_follow t v later made h.1

-- each act of a path follows all acts before it
pub act_follows :
    (t : QuorumTable) (v : ℕ) (later made : List Act) (a : Act) (d : Bool) (u : ℕ)
    → IsRatifierPath t v (later ++ a ∷ made) d u → Follows t v a made
act_follows t v later made a d u h = (suffix_follow t v later (a ∷ made) (path_follow t v (later ++ a ∷ made) d u h)).0

-- ---- only one op may follow the same acts
-- if r and s are registers of a quorum, and it has equally many registers below r and below s, then r is s
same_register :
    (act : ℕ → Act) (mask r s : ℕ) → IsMember mask r → IsMember mask s
    → length (acts_below act r mask) ≡ length (acts_below act s mask) → r ≡ s
same_register act mask r s a b e =
    elim (cases_order r s) [
      | inl same ↦ same
      | inr k ↦ (elim k [
        | inl less ↦ absurd (omega (arith, each_more act s mask r less a))
        | inr more ↦ absurd (omega (arith, each_more act r mask s more b))
      ])
    ]

-- before a store of the announcement fewer acts were made than the announcement has
store_early :
    (t : QuorumTable) (v r w : ℕ) (made : List Act) → Follows t v (Store (Quorum r) w) made
    → length made < length (announcement t v)
store_early t v r w made h =
    omega (arith, ap length h.3, each_more (λ k. Store (Quorum k) 1) t.registers (t.write v) r h.1 h.2)

-- before a load of a check more acts were made than the announcement has
check_late :
    (t : QuorumTable) (v u n : ℕ) (made : List Act) → ReadsClear t v u n made → length (announcement t v) < length made
check_late t v u n made h =
    elim h.1 [
      | inl p ↦ omega (arith, ap length h.2, length-append (zeros_below n (t.read u)) h.0, ap length p.1)
      | inr p ↦ omega (arith, ap length h.2, length-append (zeros_below n (t.read u)) h.0, ap length p)
    ]

-- if two loads of a check may follow the same acts, they load one register
same_check :
    (t : QuorumTable) (v u w r s : ℕ) (made : List Act) → IsMember (t.read u) r → IsMember (t.read w) s
    → ReadsClear t v u r made → ReadsClear t v w s made → r ≡ s
same_check t v u w r s made a b h k =
    let same : w ≡ u =
    from_unique v w u (proposal_loads made) (proposal_loads (announcement t v)) (clear_from t v w s made k)
    (clear_from t v u r made h) in
    let long : length (zeros_below r (t.read u)) ≡ length (zeros_below s (t.read u)) =
    clear_same t v u w r s made h k ∙ ap (λ x. length (zeros_below s (t.read x))) same in
    same_register (λ x. Load (Quorum x) 0) (t.read u) r s a (subst (λ x. IsMember (t.read x) s) same b) long

-- right after the load of an empty proposal no load of a check may follow: the store comes first
put_unchecked :
    (t : QuorumTable) (v u n : ℕ) (made : List Act) → made ≡ Load Proposal 0 ∷ announcement t v
    → ReadsClear t v u n made → ⊥
put_unchecked t v u n made e h = empty_unclear t v u n (subst (λ xs. ReadsClear t v u n xs) e h)

-- two acts that may follow the same acts are of one op
pub one_op :
    (t : QuorumTable) (v : ℕ) (made : List Act) (a b : Act) → Follows t v a made → Follows t v b made → IsSameOp a b
one_op t v made (Store Value w) b h k = absurd h
one_op t v made (Load Value x) b h k = absurd h
one_op t v made (Store Last w) b h k = absurd h
one_op t v made (Load Last x) b h k = absurd h
one_op t v made (Exchange reg w f) b h k = absurd h
one_op t v made (Store Proposal w) (Store Value y) h k = absurd k
one_op t v made (Store Proposal w) (Store Last y) h k = absurd k
one_op t v made (Store Proposal w) (Load Last y) h k = absurd k
one_op t v made (Store Proposal w) (Exchange reg y f) h k = absurd k
one_op t v made (Store Proposal w) (Load Value y) h k = absurd k
one_op t v made (Store Proposal w) (Store Proposal y) h k = (refl, h.0 ∙ sym k.0)
one_op t v made (Store Proposal w) (Store (Quorum s) y) h k =
    absurd (omega (arith, ap length h.1, store_early t v s y made k))
one_op t v made (Store Proposal w) (Load Proposal y) h k = absurd (omega (arith, ap length h.1, ap length k))
one_op t v made (Store Proposal w) (Load (Quorum s) y) h k = absurd (put_unchecked t v k.0 s made h.1 k.2)
one_op t v made (Store (Quorum r) w) (Store Value y) h k = absurd k
one_op t v made (Store (Quorum r) w) (Store Last y) h k = absurd k
one_op t v made (Store (Quorum r) w) (Load Last y) h k = absurd k
one_op t v made (Store (Quorum r) w) (Exchange reg y f) h k = absurd k
one_op t v made (Store (Quorum r) w) (Load Value y) h k = absurd k
one_op t v made (Store (Quorum r) w) (Store Proposal y) h k =
    absurd (omega (arith, ap length k.1, store_early t v r w made h))
one_op t v made (Store (Quorum r) w) (Store (Quorum s) y) h k =
    let same : r ≡ s =
    same_register (λ x. Store (Quorum x) 1) (t.write v) r s h.2 k.2 (ap length (sym h.3 ∙ k.3)) in
    (ap Quorum same, h.0 ∙ sym k.0)
one_op t v made (Store (Quorum r) w) (Load Proposal y) h k =
    absurd (omega (arith, ap length k, store_early t v r w made h))
one_op t v made (Store (Quorum r) w) (Load (Quorum s) y) h k =
    absurd (omega (arith, store_early t v r w made h, check_late t v k.0 s made k.2))
one_op t v made (Load Proposal x) (Store Value y) h k = absurd k
one_op t v made (Load Proposal x) (Store Last y) h k = absurd k
one_op t v made (Load Proposal x) (Load Last y) h k = absurd k
one_op t v made (Load Proposal x) (Exchange reg y f) h k = absurd k
one_op t v made (Load Proposal x) (Load Value y) h k = absurd k
one_op t v made (Load Proposal x) (Store Proposal y) h k = absurd (omega (arith, ap length h, ap length k.1))
one_op t v made (Load Proposal x) (Store (Quorum s) y) h k =
    absurd (omega (arith, ap length h, store_early t v s y made k))
one_op t v made (Load Proposal x) (Load Proposal y) h k = refl
one_op t v made (Load Proposal x) (Load (Quorum s) y) h k =
    absurd (omega (arith, ap length h, check_late t v k.0 s made k.2))
one_op t v made (Load (Quorum r) x) (Store Value y) h k = absurd k
one_op t v made (Load (Quorum r) x) (Store Last y) h k = absurd k
one_op t v made (Load (Quorum r) x) (Load Last y) h k = absurd k
one_op t v made (Load (Quorum r) x) (Exchange reg y f) h k = absurd k
one_op t v made (Load (Quorum r) x) (Load Value y) h k = absurd k
one_op t v made (Load (Quorum r) x) (Store Proposal y) h k = absurd (put_unchecked t v h.0 r made k.1 h.2)
one_op t v made (Load (Quorum r) x) (Store (Quorum s) y) h k =
    absurd (omega (arith, store_early t v s y made k, check_late t v h.0 r made h.2))
one_op t v made (Load (Quorum r) x) (Load Proposal y) h k =
    absurd (omega (arith, ap length k, check_late t v h.0 r made h.2))
one_op t v made (Load (Quorum r) x) (Load (Quorum s) y) h k =
    ap Quorum (same_check t v h.0 k.0 r s made h.1 k.1 h.2 k.2)
