-- The part of one process in a history.
use Rattle.std.proofs.Common.{Some, [], ap, false, inl, inr, refl, subst, sym, true, ℕ, ◌∙◌, ◌∷◌, ◌≡◌}
use Rattle.std.proofs.lemmas.Bool.{cases_Bool, cond_both}
use Rattle.mb_cells.specs.{Has, History, PoolAccess, Process, Word, is_same_process, is_same_word, part, stored_by, value_in}
use Rattle.mb_cells.proofs.Names.{is_same_process-eq, is_same_word-eq, stores_or_not, value_in-kept, value_in-other, value_in-stored}

-- an access of the process is added to its part
pub part-own : (who : Process) (a : PoolAccess) (h : History) → is_same_process who a.process ≡ true
    → part who (a ∷ h) ≡ a ∷ part who h
part-own who a h e = rw e

-- an access of another process leaves the part as it is
pub part-other : (who : Process) (a : PoolAccess) (h : History) → is_same_process who a.process ≡ false
    → part who (a ∷ h) ≡ part who h
part-other who a h e = rw e

-- each access of the history that a process made is in its part
pub Has-part : (who : Process) (h : History) (a : PoolAccess) → Has h a → is_same_process who a.process ≡ true
    → Has (part who h) a
Has-part who [] a m t = m
Has-part who (b ∷ h) a (inl e) t =
    let own : is_same_process who b.process ≡ true = subst (λ x. is_same_process who x.process ≡ true) (sym e) t in
    rw own (inl e)
Has-part who (b ∷ h) a (inr m) t =
    cond_both (is_same_process who b.process) (b ∷ part who h) (part who h) (λ l. Has l a)
    (λ _. inr (Has-part who h a m t)) (λ _. Has-part who h a m t)

-- each access in a part is in the history
pub Has-of_part : (who : Process) (h : History) (a : PoolAccess) → Has (part who h) a → Has h a
Has-of_part who [] a m = m
Has-of_part who (b ∷ h) a m =
    cond_both (is_same_process who b.process) (b ∷ part who h) (part who h) (λ l. Has l a → Has (b ∷ h) a)
    (λ _ k. elim k [ inl e ↦ inl e | inr n ↦ inr (Has-of_part who h a n) ])
    (λ _ k. inr (Has-of_part who h a k)) m

-- each access in a process's part was made by that process
pub part_by : (who : Process) (h : History) (a : PoolAccess) → Has (part who h) a → a.process ≡ who
part_by who [] a has = absurd has
part_by who (b ∷ h) a has =
    cond_both (is_same_process who b.process) (b ∷ part who h) (part who h) (λ l. Has l a → a.process ≡ who)
    (λ t m. elim m [
      | inl e ↦ ap (λ (x : PoolAccess). x.process) (sym e)
          ∙ sym (is_same_process-eq who b.process t)
      | inr n ↦ part_by who h a n
    ])
    (λ _ m. part_by who h a m) has

-- a word that only one process stores to holds what that process's part alone leaves in it
pub value_in-part : (who : Process) (w : Word) (h : History)
    → ((a : PoolAccess) (v : ℕ) → Has h a → a.word ≡ w → stored_by a.act ≡ Some v
    → is_same_process who a.process ≡ true)
    → value_in w h ≡ value_in w (part who h)
value_in-part who w [] only = refl
value_in-part who w (a ∷ h) only =
    let rest : value_in w h ≡ value_in w (part who h) = value_in-part who w h (λ b v m e f. only b v (inr m) e f) in
    let keeps : value_in w (a ∷ h) ≡ value_in w h → value_in w (a ∷ part who h) ≡ value_in w (part who h)
    → value_in w (a ∷ h) ≡ value_in w (part who (a ∷ h)) =
    λ x y. cond_both (is_same_process who a.process) (a ∷ part who h) (part who h)
    (λ l. value_in w (a ∷ h) ≡ value_in w l) (λ _. x ∙ rest ∙ sym y) (λ _. x ∙ rest) in
    elim (cases_Bool (is_same_word a.word w)) [
      | inl same ↦
          let here : a.word ≡ w = is_same_word-eq a.word w same in
          elim (stores_or_not a.act) [
            | inl stores ↦
                let own : is_same_process who a.process ≡ true = only a stores.0 (inl refl) here stores.1 in
                let value = stores.0 in
                rw own (value_in-stored a h w value here stores.1
                ∙ sym (value_in-stored a (part who h) w value here stores.1))
            | inr none ↦ keeps (value_in-kept a h w none) (value_in-kept a (part who h) w none)
          ]
      | inr differs ↦ keeps (value_in-other a h w differs) (value_in-other a (part who h) w differs)
    ]
