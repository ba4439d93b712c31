-- What an op finds in its word, and what it leaves in that word and in others.
use Rattle.std.proofs.Common.{◌≡◌, ℕ, Bool, true, false, cond, eqb, Option, Some, None, List, refl, sym, subst, ◌∙◌, ap}
use Rattle.std.proofs.Common.{ap₂, ⊎_elim}
use Rattle.std.proofs.lemmas.Bool.{eq-eqb, eqb-true, cases_Bool, false≢true}
use Rattle.std.specs.Option.{option_map_or}
use Rattle.mb_quorum.specs.Vocabulary.{QuorumTable}
use Rattle.mb_deciding.specs.declared.access.Op.TheVariants as to
use Rattle.mb_deciding.specs.Vocabulary.{value_in, value_after, is_same_reg, reg_of_act, stored_by, CanFind, IsOpAt}
use Rattle.mb_deciding.specs.Vocabulary.{act_of, seen_by, reg_of}
use Rattle.mb_claim.specs.{Reg, Access, Op, Pc, Value, Proposal, Quorum, Last, Load as Loaded}
use Rattle.mb_claim.specs.{Exchange as Exchanged}
use Rattle.mb_claim.specs.{after_op}

-- each word is the same as itself, by the test `is_same_reg`
same_reg-refl : (p : Reg) → is_same_reg p p ≡ true
same_reg-refl Value = refl
same_reg-refl Proposal = refl
same_reg-refl (Quorum i) = eq-eqb i i refl
same_reg-refl Last = refl

-- two words that are the same by the test are equal
same_reg-true : (p q : Reg) → is_same_reg p q ≡ true → p ≡ q
same_reg-true Value Value e = refl
same_reg-true Proposal Proposal e = refl
same_reg-true (Quorum i) (Quorum j) e = ap Quorum (eqb-true i j e)
same_reg-true Value Proposal e = absurd (false≢true e)
same_reg-true Value (Quorum j) e = absurd (false≢true e)
same_reg-true Proposal Value e = absurd (false≢true e)
same_reg-true Proposal (Quorum j) e = absurd (false≢true e)
same_reg-true (Quorum i) Value e = absurd (false≢true e)
same_reg-true (Quorum i) Proposal e = absurd (false≢true e)
same_reg-true Last Last e = refl
same_reg-true Last Value e = absurd (false≢true e)
same_reg-true Last Proposal e = absurd (false≢true e)
same_reg-true Last (Quorum j) e = absurd (false≢true e)
same_reg-true Value Last e = absurd (false≢true e)
same_reg-true Proposal Last e = absurd (false≢true e)
same_reg-true (Quorum i) Last e = absurd (false≢true e)

-- the act of an op goes to its word
reg_of-act_of : (op : Op) (s : ℕ) → reg_of_act (act_of op s) ≡ reg_of op
reg_of-act_of (to.Load q) s = refl
reg_of-act_of (to.Store q m) s = refl
reg_of-act_of (to.Exchange q m) s = refl

-- if the act goes to this word (b is true), the word holds what the act stores, or still n if it stores nothing
stored_here : (b : Bool) (stored : Option ℕ) (n : ℕ) → b ≡ true
    → option_map_or (λ value. cond b value n) stored n ≡ option_map_or (λ value. value) stored n
stored_here b None n e = refl
stored_here b (Some m) n e = ap (λ a. cond a m n) e

-- if the act goes to another word (b is false), this word still holds n
stored_there : (b : Bool) (stored : Option ℕ) (n : ℕ) → b ≡ false
    → option_map_or (λ value. cond b value n) stored n ≡ n
stored_there b None n e = refl
stored_there b (Some m) n e = ap (λ a. cond a m n) e

-- in its word an op that finds n leaves `after_op op n`
own_word : (op : Op) (n : ℕ) → value_after (reg_of op) (act_of op n) n ≡ after_op op n
own_word op n =
    stored_here (is_same_reg (reg_of_act (act_of op n)) (reg_of op)) (stored_by (act_of op n)) n
    (ap (λ p. is_same_reg p (reg_of op)) (reg_of-act_of op n) ∙ same_reg-refl (reg_of op))

-- after an op each other word of its object still holds n
other_word : (op : Op) (s n : ℕ) (q : Reg) → is_same_reg (reg_of op) q ≡ false → value_after q (act_of op s) n ≡ n
other_word op s n q e =
    stored_there (is_same_reg (reg_of_act (act_of op s)) q) (stored_by (act_of op s)) n
    (ap (λ p. is_same_reg p q) (reg_of-act_of op s) ∙ e)

-- in its word, on its cell and object, an op that finds n leaves `after_op op n`
pub own_place :
    (k o s n : ℕ) (op : Op) → s ≡ n
    → cond (eqb k k) (cond (eqb o o) (value_after (reg_of op) (act_of op s) n) n) n ≡ after_op op n
own_place k o s n op e =
    ap₂ (λ a b. cond a (cond b (value_after (reg_of op) (act_of op s) n) n) n) (eq-eqb k k refl) (eq-eqb o o refl)
    ∙ (ap (λ m. value_after (reg_of op) (act_of op m) n) e ∙ own_word op n)

-- if x is n whenever both tests pass, taking x if both pass, and else n, gives n
same_at : (a b : Bool) (x n : ℕ) → (a ≡ true → b ≡ true → x ≡ n) → cond a (cond b x n) n ≡ n
same_at true true x n h = h refl refl
same_at true false x n h = refl
same_at false b x n h = refl

-- after an op a word of another cell or object, or with another name, still holds n
pub other_place :
    (k o s n : ℕ) (op : Op) (j m : ℕ) (q : Reg) → (k ≡ j → o ≡ m → reg_of op ≡ q → ⊥)
    → cond (eqb k j) (cond (eqb o m) (value_after q (act_of op s) n) n) n ≡ n
other_place k o s n op j m q ne =
    same_at (eqb k j) (eqb o m) (value_after q (act_of op s) n) n
    (λ a b. other_word op s n q (⊎_elim
    (λ t. absurd (ne (eqb-true k j a) (eqb-true o m b) (same_reg-true (reg_of op) q t))) (λ f. f)
    (cases_Bool (is_same_reg (reg_of op) q))))

-- an op that finds n, which the history leaves in its word, makes the same act as after the history
pub same_act : (op : Op) (n : ℕ) (h : List Access) → n ≡ value_in (reg_of op) h → act_of op (seen_by op h) ≡ act_of op n
same_act (to.Load q) n h e = ap (λ m. Loaded q m) (sym e)
same_act (to.Store q m) n h e = refl
same_act (to.Exchange q m) n h e = ap (λ k. Exchanged q m k) (sym e)

-- if the op can find what the history leaves in its word (`CanFind`), it can find n, which is the same
pub same_find :
    (t : QuorumTable) (pc : Pc) (op : Op) (n : ℕ) (h : List Access) → IsOpAt t pc op → n ≡ value_in (reg_of op) h
    → CanFind t pc op (seen_by op h) → CanFind t pc op n
same_find t pc (to.Load reg) n h is e fits = subst (CanFind t pc (to.Load reg)) (sym e) fits
same_find t pc (to.Store reg value) n h is e fits = tt
same_find t pc (to.Exchange reg value) n h is e fits = subst (CanFind t pc (to.Exchange reg value)) (sym e) fits
