-- How many acts a ratifier's path has, that a whole path has no later acts, and how long its prefixes are at most.
use Rattle.std.proofs.Common.{◌≡◌, ℕ, zero, suc, ◌+◌, ◌<◌, ◌≤◌, ◌⊎◌, count_ones, ◌==◌, cond, Bool, true, false, List}
use Rattle.std.proofs.Common.{[], ◌∷◌, ◌++◌, length, inl, inr, sym, refl, ap, ◌∙◌, subst, length-append, arith}
use Rattle.std.specs.Int.{bit_at}
use Rattle.std.proofs.Math.Numerals.{add-one}
use Rattle.std.proofs.lemmas.Bool.{cases_eq, eq-eqb}
use Rattle.mb_quorum.specs.Quorum.{QuorumTable, IsMember}
use Rattle.mb_deciding.specs.{Value, Proposal, Quorum, Last, Act, Load, Store, Exchange, acts_below, zeros_below, announcement, Prefers}
use Rattle.mb_deciding.specs.{ReadsClear, ReadsOne, IsRatifierPath}
use Rattle.mb_deciding.proofs.Acts.{has_later}
use Rattle.mb_deciding.proofs.Grammar.{IsChosen, one_chosen, prefers_chosen, chosen_later}
use Rattle.mb_deciding.proofs.Sizes.{each_size}
use Rattle.mb_deciding.proofs.Outputs.{proposal_loads, IsFrom, zeros_loads, clear_from, one_from, clear_only}
use Rattle.mb_deciding.proofs.Outputs.{from_unique}

-- ---- how many acts a list with an act for each register has
-- a list that gets one act more if b is true is as long as before, or longer by one
cond_length :
    (b : Bool) (x : Act) (xs : List Act)
    → (length xs ≤ length (cond b (x ∷ xs) xs)) × (length (cond b (x ∷ xs) xs) ≤ suc (length xs))
cond_length true x xs = (omega arith, omega arith)
cond_length false x xs = (omega arith, omega arith)

-- if r is a register of the mask below n, the list of acts below n is longer than the one below r
pub each_more :
    (act : ℕ → Act) (n mask r : ℕ) → r < n → IsMember mask r
    → length (acts_below act r mask) < length (acts_below act n mask)
each_more act zero mask r l m = absurd (omega arith)
each_more act (suc n) mask r l m =
    elim (cases_eq r n) [
      | inl e ↦ (let b : (bit_at mask n == 1) ≡ true = eq-eqb (bit_at mask n) 1 (subst (λ k. bit_at mask k ≡ 1) e m) in
          let same : length (acts_below act r mask) ≡ length (acts_below act n mask) =
          ap (λ k. length (acts_below act k mask)) e in
          let more : length (acts_below act (suc n) mask) ≡ suc (length (acts_below act n mask)) =
          ap (λ c. length (cond c (act n ∷ acts_below act n mask) (acts_below act n mask))) b in
          omega arith)
      | inr d ↦ omega (
        arith,
        (cond_length (bit_at mask n == 1) (act n)
            (acts_below act n mask)).0,
        each_more act n mask r (omega arith) m,
      )
    ]

-- ---- how long whole paths are, and that they end once
-- how many acts a path makes on the proposal: a load and a store if it found 0 there, and else one load
extra_acts : ℕ → ℕ
extra_acts zero = 2
extra_acts (suc x) = 1

-- the acts load the proposal once, and are n more than those of the announcement and those on the proposal
record Measured (t : QuorumTable) (v n : ℕ) (made : List Act) : Type 0 where
  pub first : ℕ
  pub loads : proposal_loads made ≡ first ∷ proposal_loads (announcement t v)
  pub long : length made ≡ n + (extra_acts first + length (announcement t v))

-- if n is two more than m, it is 0 + (2 + m), the sum that `Measured` asks for
two_more : (n m : ℕ) → n ≡ suc (suc m) → n ≡ 0 + (2 + m)
two_more n m e = omega arith

-- if n is one more than m, it is 0 + (1 + m), the sum that `Measured` asks for
one_more : (n m : ℕ) → n ≡ suc m → n ≡ 0 + (1 + m)
one_more n m e = omega arith

-- acts up to the preference are as many as those of the announcement and those on the proposal
prefers_measured : (t : QuorumTable) (v u : ℕ) (begin : List Act) → Prefers t v u begin → Measured t v 0 begin
unfolding extra_acts
prefers_measured t v u begin (inl p) =
    record {
      first = 0;
      loads = ap proposal_loads p.1;
      long = two_more (length begin) (length (announcement t v))
          (ap length p.1);
    }
prefers_measured t v u begin (inr p) =
    record {
      first = suc u;
      loads = ap proposal_loads p ∙ ap (λ x. x ∷ proposal_loads (announcement t v)) (add-one u);
      long = one_more (length begin) (length (announcement t v)) (ap length p);
    }

-- acts whose loads of registers all found 0 are as many as the announcement's, those on the proposal and these loads
clear_measured :
    (t : QuorumTable) (v u n : ℕ) (made : List Act) → ReadsClear t v u n made
    → Measured t v (length (zeros_below n (t.read u))) made
clear_measured t v u n made h =
    let begin = prefers_measured t v u h.0 h.1 in
    record {
      first = begin.first;
      loads = ap proposal_loads h.2 ∙ zeros_loads n (t.read u) h.0 ∙ begin.loads;
      long = omega (arith, ap length h.2, length-append (zeros_below n (t.read u)) h.0, begin.long);
    }

-- n is how many registers of u's read quorum a path loads: all if it decides u, and else those up to some register r
abbrev EndsAt : QuorumTable → ℕ → Bool → ℕ → Type 0
EndsAt t u true n = n ≡ length (zeros_below t.registers (t.read u))
EndsAt t u false n = (r : ℕ) × (r < t.registers) × IsMember (t.read u) r × (n ≡ suc (length (zeros_below r (t.read u))))

-- a path that ended with a load of 1 has as many acts as its announcement, the acts on the proposal and its loads
one_measured :
    (t : QuorumTable) (v u : ℕ) (made : List Act) → ReadsOne t v u made
    → (n : ℕ) × EndsAt t u false n × Measured t v n made
one_measured t v u [] h = absurd h
one_measured t v u (act ∷ older) h =
    let m = clear_measured t v u h.0 older h.4 in (
      suc (length (zeros_below h.0 (t.read u))),
      (h.0, h.3, h.2, refl),
      record {
        first = m.first;
        loads = ap (λ a. proposal_loads (a ∷ older)) h.1 ∙ m.loads;
        long = omega
            (arith, m.long);
      },
    )

-- each whole path has as many acts as its announcement, the acts on the proposal and its loads of registers
path_measured :
    (t : QuorumTable) (v : ℕ) (made : List Act) (d : Bool) (u : ℕ) → IsRatifierPath t v made d u
    → (n : ℕ) × EndsAt t u d n × Measured t v n made
path_measured t v made true u h =
    (length (zeros_below t.registers (t.read u)), refl, clear_measured t v u t.registers made h)
path_measured t v made false u h = one_measured t v u made h

-- on a whole path the newest load of the proposal shows the preference u: it found 0 and u is the input v, or u + 1
path_from :
    (t : QuorumTable) (v : ℕ) (made : List Act) (d : Bool) (u : ℕ) → IsRatifierPath t v made d u
    → IsFrom v u (proposal_loads made) (proposal_loads (announcement t v))
path_from t v made true u h = clear_from t v u t.registers made h
path_from t v made false u h = one_from t v u made h

-- what two lists joined loaded from the proposal is what each loaded there, joined
loads-append : (xs ys : List Act) → proposal_loads (xs ++ ys) ≡ proposal_loads xs ++ proposal_loads ys
loads-append [] ys = refl
loads-append (Load Proposal x ∷ xs) ys = ap (λ zs. x ∷ zs) (loads-append xs ys)
loads-append (Load Value x ∷ xs) ys = loads-append xs ys
loads-append (Load (Quorum r) x ∷ xs) ys = loads-append xs ys
loads-append (Load Last x ∷ xs) ys = loads-append xs ys
loads-append (Store reg w ∷ xs) ys = loads-append xs ys
loads-append (Exchange reg w f ∷ xs) ys = loads-append xs ys

-- a list of length 0 is empty
no_length : {A : Type 0} (xs : List A) → length xs ≡ 0 → xs ≡ []
no_length [] e = refl
no_length (x ∷ xs) e = absurd (omega arith)

-- no whole path with the preference u loads more registers than one that decided u
ends_within : (t : QuorumTable) (u n m : ℕ) (e : Bool) → EndsAt t u true n → EndsAt t u e m → m ≤ n
ends_within t u n m true a b =
    let p : n ≡ length (zeros_below t.registers (t.read u)) =
    a in let q : m ≡ length (zeros_below t.registers (t.read u)) = b in omega arith
ends_within t u n m false a b =
    let p : n ≡ length (zeros_below t.registers (t.read u)) = a in
    let q : m ≡ suc (length (zeros_below b.0 (t.read u))) = b.3 in
    omega (arith, each_more (λ r. Load (Quorum r) 0) t.registers (t.read u) b.0 b.1 b.2)

-- if `loads` begins with x and `others` with y, and both lists are equal, so are x and y
same_first : (x y : ℕ) (loads others rest : List ℕ) → loads ≡ x ∷ rest → others ≡ y ∷ rest → loads ≡ others → x ≡ y
same_first x y loads others rest a b e = let f : x ∷ rest ≡ y ∷ rest = sym a ∙ (e ∙ b) in cc

-- if the same acts check u with loads of 0 below n, and w with loads of 0 below m, both checks have equally many loads
pub clear_same :
    (t : QuorumTable) (v u w n m : ℕ) (made : List Act) → ReadsClear t v u n made → ReadsClear t v w m made
    → length (zeros_below n (t.read u)) ≡ length (zeros_below m (t.read w))
clear_same t v u w n m made h k =
    let a = clear_measured t v u n made h in
    let b = clear_measured t v w m made k in
    let extras : extra_acts a.first ≡ extra_acts b.first =
    ap extra_acts (same_first a.first b.first (proposal_loads made) (proposal_loads made)
    (proposal_loads (announcement t v)) a.loads b.loads refl) in
    omega (arith, a.long, b.long)

-- right after the load of an empty proposal a process has no preference, so its acts are not those of a check
pub empty_unclear :
    (t : QuorumTable) (v u n : ℕ) → ReadsClear t v u n (Load Proposal 0 ∷ announcement t v) → ⊥
unfolding extra_acts
empty_unclear t v u n h =
    let a = clear_measured t v u n (Load Proposal 0 ∷ announcement t v) h in
    let loads = proposal_loads (Load Proposal 0 ∷ announcement t v) in
    let empty : a.first ≡ 0 = same_first a.first 0 loads loads (proposal_loads (announcement t v)) a.loads refl refl in
    let extras : extra_acts a.first ≡ 2 = ap extra_acts empty in
    omega (arith, a.long)

-- if all registers of the read quorum were loaded and held 0, a path has no later acts
clear_ends :
    (t : QuorumTable) (v : ℕ) (made later : List Act) (e : Bool) (u w : ℕ) → ReadsClear t v u t.registers made
    → IsRatifierPath t v (later ++ made) e w → later ≡ []
clear_ends t v made later e u w h k =
    let m = clear_measured t v u t.registers made h in
    let whole = path_measured t v (later ++ made) e w k in
    let a : length (proposal_loads made) ≡ suc (length (proposal_loads (announcement t v))) = ap length m.loads in
    let b : length (proposal_loads (later ++ made)) ≡ suc (length (proposal_loads (announcement t v))) =
    ap length whole.2.loads in
    let c : length (proposal_loads (later ++ made)) ≡ length (proposal_loads later) + length (proposal_loads made) =
    ap length (loads-append later made) ∙ length-append (proposal_loads later) (proposal_loads made) in
    let none : proposal_loads later ≡ [] = no_length (proposal_loads later) (omega arith) in
    let loads : proposal_loads (later ++ made) ≡ proposal_loads made =
    loads-append later made ∙ ap (λ zs. zs ++ proposal_loads made) none in
    let same : w ≡ u =
    from_unique v w u (proposal_loads made) (proposal_loads (announcement t v))
    (subst (λ zs. IsFrom v w zs (proposal_loads (announcement t v))) loads (path_from t v (later ++ made) e w k))
    (clear_from t v u t.registers made h) in
    let first : whole.2.first ≡ m.first =
    same_first whole.2.first m.first (proposal_loads (later ++ made)) (proposal_loads made)
    (proposal_loads (announcement t v)) whole.2.loads m.loads loads in
    let within : whole.0 ≤ length (zeros_below t.registers (t.read u)) =
    ends_within t u (length (zeros_below t.registers (t.read u))) whole.0 e refl
    (subst (λ n. EndsAt t n e whole.0) same whole.1) in
    let extras : extra_acts whole.2.first ≡ extra_acts m.first = ap extra_acts first in
    no_length later (omega (arith, m.long, whole.2.long, length-append later made))

-- if a whole path and later acts are again a whole path, there are no later acts
pub path_ends :
    (t : QuorumTable) (v : ℕ) (made later : List Act) (d e : Bool) (u w : ℕ) → IsRatifierPath t v made d u
    → IsRatifierPath t v (later ++ made) e w → later ≡ []
path_ends t v made later true e u w h k = clear_ends t v made later e u w h k
path_ends t v made [] false e u w h k = refl
path_ends t v made (x ∷ later) false true u w h k =
    let one = (one_chosen t v u made h).1 in
    let none : ◌≡◌ {A = ℕ} 1 0 =
    (clear_only t v w t.registers one.0 1 (x ∷ later ++ made) k
    (has_later (x ∷ later) made (Load (Quorum one.0) 1) one.2)).1 in
    absurd (omega arith)
path_ends t v made (x ∷ later) false false u w h k =
    let one = (one_chosen t v u made h).1 in
    let none : ◌≡◌ {A = ℕ} 1 0 =
    (clear_only t v w k.0 one.0 1 (later ++ made) k.4 (has_later later made (Load (Quorum one.0) 1) one.2)).1 in
    absurd (omega arith)

-- ---- how long prefixes of paths are at most
-- acts up to the preference are at most two more than the write quorum has registers
prefers_length :
    (t : QuorumTable) (v u : ℕ) (begin : List Act) → Prefers t v u begin → length begin ≤ count_ones (t.write v) + 2
prefers_length t v u begin (inl p) =
    omega (arith, ap length p.1, each_size (λ r. Store (Quorum r) 1) t.registers (t.write v))
prefers_length t v u begin (inr p) =
    omega (arith, ap length p, each_size (λ r. Store (Quorum r) 1) t.registers (t.write v))

-- a process got the preference u, and then made at most as many loads as u's read quorum has registers
record Checked (t : QuorumTable) (v u : ℕ) (made : List Act) : Type 0 where
  pub begin : List Act
  pub loads : List Act
  pub prefers : Prefers t v u begin
  pub whole : made ≡ loads ++ begin
  pub few : length loads ≤ count_ones (t.read u)

-- by each whole path a process gets its preference, and then loads at most its read quorum's registers
path_checked :
    (t : QuorumTable) (v : ℕ) (made : List Act) (d : Bool) (u : ℕ) → IsRatifierPath t v made d u → Checked t v u made
path_checked t v made true u h =
    record {
      begin = h.0;
      loads = zeros_below t.registers (t.read u);
      prefers = h.1;
      whole = h.2;
      few = each_size (λ r. Load (Quorum r) 0) t.registers (t.read u);
    }
path_checked t v [] false u h = absurd h
path_checked t v (act ∷ older) false u h =
    record {
      begin = h.4.0;
      loads = act ∷ zeros_below h.0 (t.read u);
      prefers = h.4.1;
      whole = ap (λ xs. act ∷ xs) h.4.2;
      few =
          omega (
            arith,
            each_more (λ r. Load (Quorum r) 0) t.registers (t.read u) h.0 h.3 h.2,
            each_size
                (λ r. Load (Quorum r) 0) t.registers (t.read u),
          );
    }

-- if `xs ++ begin` is `later ++ made`, then `made` is no longer than `begin`, or it ends with all of `begin`
suffix_cases :
    (xs begin later made : List Act) → xs ++ begin ≡ later ++ made
    → (length made ≤ length begin) ⊎ ((ys : List Act) × (made ≡ ys ++ begin))
suffix_cases xs begin [] made e = inr (xs, sym e)
suffix_cases [] begin (y ∷ later) made e = inl (omega (arith, ap length e, length-append later made))
suffix_cases (x ∷ xs) begin (y ∷ later) made e =
    suffix_cases xs begin later made (let same : xs ++ begin ≡ later ++ made = cc in same)

-- a prefix of a path has at most two acts more than its write quorum has registers. Or by it the path's preference was
-- chosen, and it has at most that many, and one more for each register of the preference's read quorum
pub part_length :
    (t : QuorumTable) (v : ℕ) (later made : List Act) (d : Bool) (u : ℕ) → IsRatifierPath t v (later ++ made) d u
    → (length made ≤ count_ones (t.write v) + 2) ⊎ (IsChosen v u made ×
    (length made ≤ count_ones (t.write v) + 2 + count_ones (t.read u)))
part_length t v later made d u h =
    let c = path_checked t v (later ++ made) d u h in
    elim (suffix_cases c.loads c.begin later made (sym c.whole)) [
      | inl short ↦ inl (omega (arith, prefers_length t v u c.begin c.prefers))
      | inr has ↦ inr (
        subst (λ xs. IsChosen v u xs) (sym has.1) (chosen_later v u has.0 c.begin
            (prefers_chosen t v u c.begin c.prefers)),
        omega (
          arith,
          ap length c.whole,
          length-append c.loads c.begin,
          length-append later made,
          prefers_length t v u c.begin c.prefers,
          c.few,
        ),
      )
    ]
