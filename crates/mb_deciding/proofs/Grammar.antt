-- What came before each act of a ratifier's path, and what it loaded and chose. Acts are *in order* if each has before
-- it what `Behind` asks for. A read is *clear* below a bound if all its loads below it found 0 (`ReadsClear`).
use Rattle.std.proofs.Common.{◌≡◌, ◌≢◌, ℕ, zero, suc, ◌+◌, ◌<◌, ◌==◌, cond, Bool, true, false, List, [], ◌∷◌, ◌++◌, ◌⊎◌}
use Rattle.std.proofs.Common.{inl, inr, sym, refl, ap, subst, arith}
use Rattle.std.specs.Int.{bit_at}
use Rattle.std.proofs.lemmas.Bool.{cases_eq, eqb-true, eq-eqb}
use Rattle.mb_quorum.specs.Quorum.{QuorumTable, IsMember}
use Rattle.mb_deciding.specs.{Value, Proposal, Quorum, Last, Act, Load, Store, Exchange, Turn, Ratifier, acts, Has, acts_below}
use Rattle.mb_deciding.specs.{stores_below, zeros_below, announcement, Prefers, ReadsClear, ReadsOne, IsRatifierPath}
use Rattle.mb_deciding.specs.{IsPrefix}
use Rattle.mb_deciding.proofs.Acts.{acts-append, has_later}

-- the process stored its input in the proposal, or loaded a value from it
abbrev pub HasPreference : ℕ → List Act → Type 0
HasPreference v made = Has made (Store Proposal (v + 1)) ⊎ ((u : ℕ) × Has made (Load Proposal (u + 1)))

-- a process with input v may make this act, and the older acts have what has to come before it
abbrev pub Behind : QuorumTable → ℕ → Act → List Act → Type 0
Behind t v (Store Value w) older = ⊥
Behind t v (Store Proposal w) older = (w ≡ v + 1) × Has older (Load Proposal 0)
Behind t v (Store (Quorum r) w) older = (w ≡ 1) × IsMember (t.write v) r
Behind t v (Load Value x) older = ⊥
Behind t v (Load Proposal x) older = (r : ℕ) → r < t.registers → IsMember (t.write v) r → Has older (Store (Quorum r) 1)
Behind t v (Load (Quorum r) x) older = HasPreference v older
Behind t v (Store Last w) older = ⊥
Behind t v (Load Last x) older = ⊥
Behind t v (Exchange reg w f) older = ⊥

-- the list is in order: each act has before it what has to come before it
abbrev pub AllBehind : QuorumTable → ℕ → List Act → Type 0
AllBehind t v [] = Unit {0}
AllBehind t v (a ∷ older) = Behind t v a older × AllBehind t v older

-- ---- lists with an act for each register
-- an act of a list is still in it after one more act is added, or none
has_cond : (b : Bool) (x : Act) (xs : List Act) (c : Act) → Has xs c → Has (cond b (x ∷ xs) xs) c
has_cond true x xs c h = inr h
has_cond false x xs c h = h

-- if one act more is added to a list, or none, an act of the result is the new one or one of the list
pub has_cond_cases :
    (b : Bool) (x : Act) (xs : List Act) (c : Act) → Has (cond b (x ∷ xs) xs) c → ((b ≡ true) × (c ≡ x)) ⊎ Has xs c
has_cond_cases true x xs c (inl e) = inl (refl, e)
has_cond_cases true x xs c (inr h) = inr h
has_cond_cases false x xs c h = inr h

-- the list has an act for each register of the mask below the bound
has_each : (act : ℕ → Act) (n mask r : ℕ) → r < n → IsMember mask r → Has (acts_below act n mask) (act r)
has_each act zero mask r h m = absurd (omega arith)
has_each act (suc n) mask r h m =
    let here : r ≡ n → Has (acts_below act (suc n) mask) (act r) =
    λ e. let b : (bit_at mask n == 1) ≡ true = eq-eqb (bit_at mask n) 1 (subst (λ k. bit_at mask k ≡ 1) e m) in
    rw b (inl (ap act e)) in
    let below : r ≢ n → Has (acts_below act (suc n) mask) (act r) =
    λ e. has_cond (bit_at mask n == 1) (act n) (acts_below act n mask) (act r)
    (has_each act n mask r (omega arith) m) in
    elim (cases_eq r n) [ inl e ↦ here e | inr e ↦ below e ]

-- ---- what came before each act of a path
-- a list in order stays so after the test b adds x in front, or nothing, if the list has what has to come before x
behind_cond :
    (t : QuorumTable) (v : ℕ) (b : Bool) (x : Act) (xs : List Act) → (b ≡ true → Behind t v x xs) → AllBehind t v xs
    → AllBehind t v (cond b (x ∷ xs) xs)
behind_cond t v true x xs f h = (f refl, h)
behind_cond t v false x xs f h = h

-- the announcement's stores below a bound are in order
stores_behind : (t : QuorumTable) (v n : ℕ) → AllBehind t v (stores_below n (t.write v))
stores_behind t v zero = tt
stores_behind t v (suc n) =
    behind_cond t v (bit_at (t.write v) n == 1) (Store (Quorum n) 1) (stores_below n (t.write v))
    (λ b. (refl, eqb-true (bit_at (t.write v) n) 1 b))
    (stores_behind t v n)

-- a process with a preference still has one after more acts
preference_later : (v : ℕ) (xs ys : List Act) → HasPreference v ys → HasPreference v (xs ++ ys)
preference_later v xs ys (inl h) = inl (has_later xs ys (Store Proposal (v + 1)) h)
preference_later v xs ys (inr h) = inr (h.0, has_later xs ys (Load Proposal (h.0 + 1)) h.1)

-- acts `xs ++ ys` in order stay so after the test b adds x in front, or nothing, if they have what has to come before x
behind_cond_append :
    (t : QuorumTable) (v : ℕ) (b : Bool) (x : Act) (xs ys : List Act) → Behind t v x (xs ++ ys)
    → AllBehind t v (xs ++ ys) → AllBehind t v (cond b (x ∷ xs) xs ++ ys)
behind_cond_append t v true x xs ys f h = (f, h)
behind_cond_append t v false x xs ys f h = h

-- if acts are in order and the process has a preference, they are in order with loads of 0 of a check after them
zeros_behind :
    (t : QuorumTable) (v n mask : ℕ) (begin : List Act) → HasPreference v begin → AllBehind t v begin
    → AllBehind t v (zeros_below n mask ++ begin)
zeros_behind t v zero mask begin p h = h
zeros_behind t v (suc n) mask begin p h =
    behind_cond_append t v (bit_at mask n == 1) (Load (Quorum n) 0) (zeros_below n mask) begin
    (preference_later v (zeros_below n mask) begin p)
    (zeros_behind t v n mask begin p h)

-- an announcement of v has a store of 1 in each register of v's write quorum
all_stored :
    (t : QuorumTable) (v r : ℕ) → r < t.registers → IsMember (t.write v) r → Has (announcement t v) (Store (Quorum r) 1)
all_stored t v r h m = has_each (λ k. Store (Quorum k) 1) t.registers (t.write v) r h m

-- acts up to a preference are in order, and by them the process has a preference
prefers_behind :
    (t : QuorumTable) (v u : ℕ) (begin : List Act) → Prefers t v u begin → HasPreference v begin × AllBehind t v begin
prefers_behind t v u begin (inl h) =
    subst (λ made. HasPreference v made × AllBehind t v made) (sym h.1)
    (inl (inl refl), ((refl, inl refl), (all_stored t v, stores_behind t v t.registers)))
prefers_behind t v u begin (inr h) =
    subst (λ made. HasPreference v made × AllBehind t v made) (sym h)
    (inr (u, inl refl), (all_stored t v, stores_behind t v t.registers))

-- if the loads of a check below a bound all found 0, the acts with them are in order, and the process has a preference
clear_behind :
    (t : QuorumTable) (v u n : ℕ) (made : List Act) → ReadsClear t v u n made
    → HasPreference v made × AllBehind t v made
clear_behind t v u n made h =
    let begins = prefers_behind t v u h.0 h.1 in
    subst (λ xs. HasPreference v xs × AllBehind t v xs) (sym h.2)
    (preference_later v (zeros_below n (t.read u)) h.0 begins.0, zeros_behind t v n (t.read u) h.0 begins.0 begins.1)

-- a path that ended with a load of 1 is in order
one_behind : (t : QuorumTable) (v u : ℕ) (made : List Act) → ReadsOne t v u made → AllBehind t v made
one_behind t v u [] h = tt
one_behind t v u (act ∷ older) h =
    let begins = clear_behind t v u h.0 older h.4 in
    (subst (λ a. Behind t v a older) (sym h.1) begins.0, begins.1)

-- a whole path is in order
path_behind :
    (t : QuorumTable) (v : ℕ) (made : List Act) (d : Bool) (u : ℕ) → IsRatifierPath t v made d u → AllBehind t v made
path_behind t v made true u h = (clear_behind t v u t.registers made h).1
path_behind t v made false u h = one_behind t v u made h

-- a list in order without its newest acts is in order
suffix_behind : (t : QuorumTable) (v : ℕ) (later made : List Act) → AllBehind t v (later ++ made) → AllBehind t v made
suffix_behind t v [] made h = h
suffix_behind t v (x ∷ later) made h = suffix_behind t v later made h.1

-- the acts of a prefix of a path are in order
pub part_behind :
    (t : QuorumTable) (v : ℕ) (turns : List Turn) → IsPrefix t Ratifier v turns → AllBehind t v (acts turns)
part_behind t v turns p =
    suffix_behind t v (acts p.0) (acts turns)
    (subst (AllBehind t v) (acts-append p.0 turns) (path_behind t v (acts (p.0 ++ turns)) p.1.decided p.1.value p.2))

-- before each act of a list in order there are older acts of the list with what has to come before it
pub behind_at :
    (t : QuorumTable) (v : ℕ) (made : List Act) (a : Act) → AllBehind t v made → Has made a
    → (older : List Act) × Behind t v a older × ((c : Act) → Has older c → Has made c)
behind_at t v [] a all h = absurd h
behind_at t v (x ∷ made) a all (inl e) = (made, subst (λ b. Behind t v b made) (sym e) all.0, λ c k. inr k)
behind_at t v (x ∷ made) a all (inr h) =
    let deeper = behind_at t v made a all.1 h in
    (deeper.0, deeper.1, λ c k. inr (deeper.2 c k))

-- ---- what a path loaded and chose
-- an act of a list is still in the list with older acts after it
has_sooner : (xs ys : List Act) (c : Act) → Has xs c → Has (xs ++ ys) c
has_sooner [] ys c k = absurd k
has_sooner (x ∷ xs) ys c (inl e) = inl e
has_sooner (x ∷ xs) ys c (inr k) = inr (has_sooner xs ys c k)

-- if a read is clear below a bound, the process loaded 0 from each register of the read quorum below it
pub clear_loads :
    (t : QuorumTable) (v u n : ℕ) (made : List Act) → ReadsClear t v u n made → (r : ℕ) → r < n
    → IsMember (t.read u) r → Has made (Load (Quorum r) 0)
clear_loads t v u n made h r l m =
    subst (λ xs. Has xs (Load (Quorum r) 0)) (sym h.2)
    (has_sooner (zeros_below n (t.read u)) h.0 (Load (Quorum r) 0)
    (has_each (λ k. Load (Quorum k) 0) n (t.read u) r l m))

-- u was chosen: it is the input and an empty proposal was loaded, or it was loaded from the proposal
abbrev pub IsChosen : ℕ → ℕ → List Act → Type 0
IsChosen v u made = ((u ≡ v) × Has made (Load Proposal 0)) ⊎ Has made (Load Proposal (u + 1))

-- if by these acts a process just got the preference u, then u was chosen
pub prefers_chosen : (t : QuorumTable) (v u : ℕ) (begin : List Act) → Prefers t v u begin → IsChosen v u begin
prefers_chosen t v u begin (inl h) = inl (h.0, subst (λ xs. Has xs (Load Proposal 0)) (sym h.1) (inr (inl refl)))
prefers_chosen t v u begin (inr h) = inr (subst (λ xs. Has xs (Load Proposal (u + 1))) (sym h) (inl refl))

-- a value that was chosen is still chosen after more acts
pub chosen_later : (v u : ℕ) (xs ys : List Act) → IsChosen v u ys → IsChosen v u (xs ++ ys)
chosen_later v u xs ys (inl h) = inl (h.0, has_later xs ys (Load Proposal 0) h.1)
chosen_later v u xs ys (inr h) = inr (has_later xs ys (Load Proposal (u + 1)) h)

-- if a read is clear below a bound, its preference was chosen
clear_chosen : (t : QuorumTable) (v u n : ℕ) (made : List Act) → ReadsClear t v u n made → IsChosen v u made
clear_chosen t v u n made h =
    subst (λ xs. IsChosen v u xs) (sym h.2) (chosen_later v u (zeros_below n (t.read u)) h.0
    (prefers_chosen t v u h.0 h.1))

-- if a path ended with a load of 1, its preference was chosen, and the register loaded is one of its read quorum
pub one_chosen :
    (t : QuorumTable) (v u : ℕ) (made : List Act) → ReadsOne t v u made
    → IsChosen v u made × ((r : ℕ) × IsMember (t.read u) r × Has made (Load (Quorum r) 1))
one_chosen t v u [] h = absurd h
one_chosen t v u (act ∷ older) h =
    (chosen_later v u (act ∷ []) older (clear_chosen t v u h.0 older h.4), (h.0, h.2, inl (sym h.1)))

-- by a whole path the value of its output was chosen
pub path_chosen :
    (t : QuorumTable) (v : ℕ) (made : List Act) (d : Bool) (u : ℕ) → IsRatifierPath t v made d u → IsChosen v u made
path_chosen t v made true u h = clear_chosen t v u t.registers made h
path_chosen t v made false u h = (one_chosen t v u made h).0
