-- The tests that tell words and processes apart, and what a history leaves in a word.
use Rattle.std.proofs.Common.{Bool, None, Option, Some, ap, cond, eq-eqb, eqb-true, false, inl, inr, refl, subst, sym, true, ℕ, ◌∙◌, ◌∷◌, ◌≡◌, ◌≢◌, ◌⊎◌}
use Rattle.std.proofs.lemmas.Bool.{cases_Bool, cond_both, false≢true}
use Rattle.mb_cells.specs.{Counter, Head, History, Item, Link, PoolAccess, PoolAct, Process, Producer, Reader, Word, is_same_process, is_same_word, stored_by, value_in}

-- a choice between two equal values is that value
pub same_twice : {X : Type 0} (b : Bool) (x : X) → cond b x x ≡ x
same_twice true x = refl
same_twice false x = refl

-- `is_same_word` is true of a word and itself
pub is_same_word-refl : (w : Word) → is_same_word w w ≡ true
is_same_word-refl Counter = refl
is_same_word-refl (Head p) = eq-eqb p p refl
is_same_word-refl (Link p) = eq-eqb p p refl
is_same_word-refl (Item p) = eq-eqb p p refl

-- words of which `is_same_word` is true are equal
pub is_same_word-eq : (v w : Word) → is_same_word v w ≡ true → v ≡ w
is_same_word-eq Counter Counter h = refl
is_same_word-eq (Head p) (Head q) h = ap Head (eqb-true p q h)
is_same_word-eq (Link p) (Link q) h = ap Link (eqb-true p q h)
is_same_word-eq (Item p) (Item q) h = ap Item (eqb-true p q h)
is_same_word-eq _ _ h = absurd (false≢true h)

-- two words are equal or not
pub cases_word : (v w : Word) → (v ≡ w) ⊎ (v ≢ w)
cases_word v w =
    elim (cases_Bool (is_same_word v w)) [
      | inl same ↦ inl (is_same_word-eq v w same)
      | inr other ↦ inr (λ e.
          let same : is_same_word v w ≡ true = subst (λ x. is_same_word v x ≡ true) e (is_same_word-refl v) in
          absurd (false≢true (sym other ∙ same)))
    ]

-- `is_same_word` is false of words that are not equal
pub is_same_word-ne : (v w : Word) → v ≢ w → is_same_word v w ≡ false
is_same_word-ne v w ne =
    elim (cases_Bool (is_same_word v w)) [
      | inl same ↦ absurd (ne (is_same_word-eq v w same))
      | inr other ↦ other
    ]

-- `is_same_process` is true of a process and itself
pub is_same_process-refl : (w : Process) → is_same_process w w ≡ true
is_same_process-refl (Producer p) = eq-eqb p p refl
is_same_process-refl (Reader p) = eq-eqb p p refl

-- `is_same_process` is true of a process and the process of an access that it made
pub own_process : (who : Process) (a : PoolAccess) → a.process ≡ who → is_same_process who a.process ≡ true
own_process who a is = subst (λ x. is_same_process who x ≡ true) (sym is) (is_same_process-refl who)

-- processes of which `is_same_process` is true are equal
pub is_same_process-eq : (v w : Process) → is_same_process v w ≡ true → v ≡ w
is_same_process-eq (Producer p) (Producer q) h = ap Producer (eqb-true p q h)
is_same_process-eq (Reader p) (Reader q) h = ap Reader (eqb-true p q h)
is_same_process-eq _ _ h = absurd (false≢true h)

-- two processes are equal or not
pub cases_process : (v w : Process) → (v ≡ w) ⊎ (v ≢ w)
cases_process v w =
    elim (cases_Bool (is_same_process v w)) [
      | inl same ↦ inl (is_same_process-eq v w same)
      | inr other ↦ inr (λ e.
          let same : is_same_process v w ≡ true = subst (λ x. is_same_process v x ≡ true) e (is_same_process-refl v) in
          absurd (false≢true (sym other ∙ same)))
    ]

-- `is_same_process` is false of processes that are not equal
pub is_same_process-ne : (v w : Process) → v ≢ w → is_same_process v w ≡ false
is_same_process-ne v w ne =
    elim (cases_Bool (is_same_process v w)) [
      | inl same ↦ absurd (ne (is_same_process-eq v w same))
      | inr other ↦ other
    ]

-- an access is equal to the record of its process, its word and its act
pub access_is : (a : PoolAccess) (who : Process) (w : Word) (act : PoolAct) → a.process ≡ who → a.word ≡ w → a.act ≡ act
    → a ≡ record { process = who; word = w; act = act }
access_is a who w act e f g =
    ap (λ x. record { process = x; word = a.word; act = a.act }) e
    ∙ ap (λ x. record { process = who; word = x; act = a.act }) f
    ∙ ap (λ x. record { process = who; word = w; act = x }) g

-- an access to another word leaves what this word holds
pub value_in-other : (a : PoolAccess) (h : History) (w : Word) → is_same_word a.word w ≡ false
    → value_in w (a ∷ h) ≡ value_in w h
value_in-other a h w e = rw e

-- after an access that stores v in a word, the word holds v
pub value_in-stored : (a : PoolAccess) (h : History) (w : Word) (v : ℕ) → a.word ≡ w → stored_by a.act ≡ Some v
    → value_in w (a ∷ h) ≡ v
value_in-stored a h w v at is =
    let here : is_same_word a.word w ≡ true =
    subst (λ x. is_same_word a.word x ≡ true) at (is_same_word-refl a.word) in
    rw (here, is)

-- an act that stores nothing leaves each word as it was
pub value_in-kept : (a : PoolAccess) (h : History) (w : Word) → stored_by a.act ≡ None
    → value_in w (a ∷ h) ≡ value_in w h
value_in-kept a h w none =
    let old = value_in w h in
    rw none (cond_both (is_same_word a.word w) old old (λ x. x ≡ old) (λ _. refl) (λ _. refl))

-- an act stores a value or nothing
pub stores_or_not : (act : PoolAct) → ((v : ℕ) × (stored_by act ≡ Some v)) ⊎ (stored_by act ≡ None)
stores_or_not act =
    by (stored_by act) refl
  where
    by : (o : Option ℕ) → stored_by act ≡ o → ((v : ℕ) × (stored_by act ≡ Some v)) ⊎ (stored_by act ≡ None)
    by (Some v) is = inl (v, is)
    by None is = inr is
