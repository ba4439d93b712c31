-- Calls of a book's `refuses`, `gives` and `takes_back`: what each needs, and what its caller then has, in any `Logic`.
-- The steps are those of the kit's guide docs/WALKS.md. `show` names a value, `check` proves an equation of it.
use Rattle.std.proofs.Common.{◌≡◌, ℕ, List, [], ◌∷◌, refl, ap, Bool}
use seplogic.Ra.Ura.{Ura}
use mir.Val.{Val, vbool, vunit, vptr}
use base.Logic.{SProp, ent, sep, ex, guard, id⊢}
use base.Fml.{Lft, Share, Fml, ftrue, fsep, flft}
use prog.Memory.{Memory}
use prog.Routine.{Routine}
use types.Logic.{Logic, sem}
use types.Kit.{‵, raw, ◌⊛◌, some, later, ◌$◌, ◌∵◌, !, qed, move, keep, use1, split, join, pick, fjoin, feq_i, feq_l, show, check, await, updating, now as at_once, done}
use contract.Monad.{Fun}
use denote.Memory.{hidden_shr}
use denote.Builtin.{bool, unit}
use denote.Steps.{nothing, only}
use denote.Triple.Spec.{triple_of}
use denote.Triple.Statement.{Contract}
use Rattle.test_alloc.specs.declared.counters.Counters.{Counters}
use Rattle.test_alloc.specs.contracts.counters.Counters as row
use Rattle.test_alloc.specs.contracts.counters.Counters.gives as giving
use Rattle.test_alloc.specs.contracts.counters.Counters.refuses as refusing
use Rattle.test_alloc.specs.contracts.counters.Counters.takes_back as taking

-- a `&` at the address p to a book, whose counters are b
abbrev pub seen_book : Lft → ℕ × ℕ → Counters → Fml
seen_book κ p b = hidden_shr row.the_row κ b p.0 p.1

module _ {M : Type 1} {𝓤 : Ura M} (𝓛 : Logic 𝓤) (at_mem : Memory → SProp 𝓤) (run : Routine → Fun 𝓤) where
  -- the contracts of `refuses`, `gives` and `takes_back`
  abbrev pub Refuses : Contract 𝓤
  Refuses = triple_of 𝓛 refusing.signature (refusing.spec 𝓛 at_mem run)

  abbrev pub Gives : Contract 𝓤
  Gives = triple_of 𝓛 giving.signature (giving.spec 𝓛 at_mem run)

  abbrev pub TakesBack : Contract 𝓤
  TakesBack = triple_of 𝓛 taking.signature (taking.spec 𝓛 at_mem run)

  module _ (κ : Lft) (q : Share) (p : ℕ × ℕ) (b : Counters) where
    -- the ghost values of each contract at a call on this book
    abbrev pub at_refuses : Refuses.Ghost
    at_refuses = (((κ, tt), (q, tt), tt, (record { ref_ptr = p; now = b }, tt), (vptr p.0 p.1 ∷ [], tt)), tt)

    abbrev pub at_gives : Gives.Ghost
    at_gives = (((κ, tt), (q, tt), tt, (record { ref_ptr = p; now = b }, tt), (vptr p.0 p.1 ∷ [], tt)), tt)

    abbrev pub at_takes_back : TakesBack.Ghost
    at_takes_back = (((κ, tt), (q, tt), tt, (record { ref_ptr = p; now = b }, tt), (vptr p.0 p.1 ∷ [], tt)), tt)

    open 𝓛 use {H, A}

    -- a caller that has a `&` to the book, and its lifetime, has what each of the three calls needs
    pub Refuses-goes : ent 𝓤 (sep 𝓤 (sem 𝓛 (seen_book κ p b)) (A.lft κ q)) (Refuses.pre at_refuses)
    Refuses-goes =
        qed 𝓛 (‵ (seen_book κ p b) ∷ ‵ (flft κ q) ∷ []) ∵ feq_i ! (List Val) (vptr p.0 p.1 ∷ [])
        (vptr p.0 p.1 ∷ []) refl $ fjoin ! $
        nothing ! $ move ! (1 ∷ []) $ fjoin ! $ nothing ! $ move ! (2 ∷ []) $ join ! $ join ! $
        nothing ! $ move ! (1 ∷ []) $ done !

    pub Gives-goes : ent 𝓤 (sep 𝓤 (sem 𝓛 (seen_book κ p b)) (A.lft κ q)) (Gives.pre at_gives)
    Gives-goes =
        qed 𝓛 (‵ (seen_book κ p b) ∷ ‵ (flft κ q) ∷ []) ∵ feq_i ! (List Val) (vptr p.0 p.1 ∷ [])
        (vptr p.0 p.1 ∷ []) refl $ fjoin ! $
        nothing ! $ move ! (1 ∷ []) $ fjoin ! $ nothing ! $ move ! (2 ∷ []) $ join ! $ join ! $
        nothing ! $ move ! (1 ∷ []) $ done !

    pub TakesBack-goes : ent 𝓤 (sep 𝓤 (sem 𝓛 (seen_book κ p b)) (A.lft κ q)) (TakesBack.pre at_takes_back)
    TakesBack-goes =
        qed 𝓛 (‵ (seen_book κ p b) ∷ ‵ (flft κ q) ∷ []) ∵ feq_i ! (List Val) (vptr p.0 p.1 ∷ [])
        (vptr p.0 p.1 ∷ []) refl $ fjoin ! $
        nothing ! $ move ! (1 ∷ []) $ fjoin ! $ nothing ! $ move ! (2 ∷ []) $ join ! $ join ! $
        nothing ! $ move ! (1 ∷ []) $ done !

    -- the value is `true` or `false`, and the caller has its lifetime back
    abbrev pub Refused : Val → SProp 𝓤
    Refused v = ex 𝓤 (λ (y : Bool). guard 𝓤 (v ≡ vbool y) (A.lft κ q))

    -- what the caller has after a call of each of the three
    pub Refuses-gives : (v : Val) → ent 𝓤 (Refuses.post at_refuses v) (H.⇛ (Refused v))
    Refuses-gives v =
        qed 𝓛 (raw (Refuses.post at_refuses v) ∷ []) ∵ updating ! $
        use1 𝓛 (later (some (λ (y : Bool). ((‵ (flft κ q) ⊛ ‵ ftrue) ⊛ ‵ (bool.own_val y (v ∷ []))) ⊛
        some (λ (ws : Unit {0} × Unit {0}). ‵ (fsep ftrue ftrue) ⊛ ‵ ftrue))))
        (id⊢ 𝓤 _) $ await ! tt $ pick ! (λ y.
        split ! $ split ! $ move ! (1 ∷ []) $ feq_l !
        (λ e. split ! $ at_once ! $ show ! (λ (z : Bool). guard 𝓤 (v ≡ vbool z) (A.lft κ q)) y $
        check ! (ap only e) $ keep ! (0 ∷ []) $ done !))

    pub Gives-gives : (v : Val) → ent 𝓤 (Gives.post at_gives v) (H.⇛ (guard 𝓤 (v ≡ vunit) (A.lft κ q)))
    Gives-gives v =
        qed 𝓛 (raw (Gives.post at_gives v) ∷ []) ∵ updating ! $
        use1 𝓛 (later (some (λ (u : Unit {0}). ((‵ (flft κ q) ⊛ ‵ ftrue) ⊛ ‵ (unit.own_val u (v ∷ []))) ⊛
        some (λ (ws : Unit {0} × Unit {0}). ‵ (fsep ftrue ftrue) ⊛ ‵ ftrue))))
        (id⊢ 𝓤 _) $ await ! tt $ pick ! (λ u.
        split ! $ split ! $ move ! (1 ∷ []) $ feq_l !
        (λ e. split ! $ at_once ! $ check ! (ap only e) $ keep ! (0 ∷ []) $ done !))

    pub TakesBack-gives : (v : Val) → ent 𝓤 (TakesBack.post at_takes_back v) (H.⇛ (guard 𝓤 (v ≡ vunit) (A.lft κ q)))
    TakesBack-gives v =
        qed 𝓛 (raw (TakesBack.post at_takes_back v) ∷ []) ∵ updating ! $
        use1 𝓛 (later (some (λ (u : Unit {0}). ((‵ (flft κ q) ⊛ ‵ ftrue) ⊛ ‵ (unit.own_val u (v ∷ []))) ⊛
        some (λ (ws : Unit {0} × Unit {0}). ‵ (fsep ftrue ftrue) ⊛ ‵ ftrue))))
        (id⊢ 𝓤 _) $ await ! tt $ pick ! (λ u.
        split ! $ split ! $ move ! (1 ∷ []) $ feq_l !
        (λ e. split ! $ at_once ! $ check ! (ap only e) $ keep ! (0 ∷ []) $ done !))
