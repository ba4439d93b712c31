-- A send that waits in the list sends one value.
use Rattle.mb_ring.proofs.Base.{ap, inl, inr, sym, true≢false, ℕ, ⊎_elim, ◌∙◌, ◌≡◌}
use Rattle.mb_segment.proofs.Halves.{not_true}
use Rattle.mb_ring.specs.Vocabulary.{KnowsCut, MaySend, Member, Room, Values, View, bare, blinded, calm, done, drew, ended, enters}
use Rattle.mb_ring.specs.Vocabulary.{falls_asleep, has_woken, leaves, looked, owes_wake, sent_at, takes_token, uncounted, wakes_up, with_duty}

module _ {T : Type 0} where
  -- nothing that it was told before loads rules a draw out, where nothing does after them
  pub not_told : (v w : View T) → bare w ≡ bare v → v.role ≡ Member → (KnowsCut w → ⊥) → MaySend v
  not_told v w same is never = (
    not_true v.sight.cut (λ e. never (inl (ap (λ (u : View T). u.sight.cut) same ∙ e))),
    not_true v.account.cut (λ e. never (inr (inr
        (ap (λ (u : View T). u.role) same ∙ is, ap (λ (u : View T). u.account.cut) same ∙ e)))),
    not_true v.over (λ e. never (inr (inl (ap (λ (u : View T). u.over) same ∙ e)))),
  )

  -- what rules a draw out is known
  pub knows_nothing : (v : View T) → MaySend v → KnowsCut v → ⊥
  knows_nothing v may knows = ⊎_elim (λ e. true≢false (sym e ∙ may.0))
      (⊎_elim (λ e. true≢false (sym e ∙ may.2)) (λ e. true≢false (sym e.1 ∙ may.1))) knows

  -- the calls of one turn, from the first draw of a send, which found the ring full, to the value given
  module _ (p : ℕ) (x : T) (start tried turn listed : View T)
      (full : blinded tried ≡ with_duty Room looked (blinded start))
      (kept : blinded turn ≡ calm tried) (entered : listed ≡ with_duty Room enters turn) where
    in_list : blinded listed ≡ with_duty Room enters (calm start)
    in_list = ap blinded entered ∙ ap (with_duty Room enters) (kept ∙ ap calm full)

    pub sent_listed : (drawn_ given left : View T)
        → blinded drawn_ ≡ with_duty Room done (with_duty Values owes_wake (drew p x (blinded listed)))
        → uncounted given ≡ uncounted (with_duty Values has_woken (ended drawn_))
        → uncounted left ≡ uncounted (with_duty Room leaves given) → blinded left ≡ sent_at p x (calm start)
    sent_listed drawn_ given left d g l =
        ap blinded l ∙ ap (λ (v : View T). with_duty Room leaves (blinded v)) g
        ∙ ap (λ (v : View T). with_duty Room leaves (with_duty Values has_woken (ended v))) (d
        ∙ ap (λ (v : View T). with_duty Room done (with_duty Values owes_wake (drew p x v))) in_list)

    pub sent_woken : (dozed woken drawn_ given : View T)
        → blinded dozed ≡ with_duty Room falls_asleep (blinded listed)
        → woken ≡ with_duty Room wakes_up (takes_token Room dozed)
        → blinded drawn_ ≡ with_duty Room looked (with_duty Values owes_wake (drew p x (blinded woken)))
        → uncounted given ≡ uncounted (with_duty Values has_woken (ended drawn_))
        → blinded given ≡ sent_at p x (calm start)
    sent_woken dozed woken drawn_ given z w d g =
        ap blinded g ∙ ap (λ (v : View T). with_duty Values has_woken (ended v)) (d
        ∙ ap (λ (v : View T). with_duty Room looked (with_duty Values owes_wake (drew p x v)))
        (ap blinded w ∙ ap (with_duty Room wakes_up) (z ∙ ap (with_duty Room falls_asleep) in_list)))
