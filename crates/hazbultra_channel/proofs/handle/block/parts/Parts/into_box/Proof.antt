-- Proof of `into_box`: the parts own what `from_raw` asks for, and the box that it returns is the result.
use Rattle.hazbultra_channel.proofs.Steps.{◌≡◌, refl, sym, subst, ap, List, [], ◌∷◌, ◌++◌, T, Ura, Body, Fn, assign, copy}
use Rattle.hazbultra_channel.proofs.Steps.{place, return, rv_opd, seq, inst_fn, Val, WT, has_ty, vptr, SProp, ent, id⊢, flft}
use Rattle.hazbultra_channel.proofs.Steps.{fsep, ftrue, ◌⊑◌, Fun, fact, tables, tables_of, Memory, Routine, Tables, WpFn}
use Rattle.hazbultra_channel.proofs.Steps.{WpFn-mono, fm_of, Logic, Item, ⋆, at_ret, ‵, raw, ◌⊛◌, some, later, ◌$◌, ◌∵◌, !, qed}
use Rattle.hazbultra_channel.proofs.Steps.{by, move, drop, use1, join, split, split3, pick, rewrite, fsplit, fjoin, feq_i}
use Rattle.hazbultra_channel.proofs.Steps.{suffices, await, done, sub, whole, and_then, blocks, enter, exec, first, fld}
use Rattle.hazbultra_channel.proofs.Steps.{no_more, of_opd, returns, stop, alloc_all, env, free_all, get, get_in, lands_last}
use Rattle.hazbultra_channel.proofs.Steps.{look_at, pass_all, sets, no, RattleType, block_ptr, plain, heard, nothing, only}
use Rattle.hazbultra_channel.proofs.Steps.{calls_at_last, Clauses, Ended, triple_of, Contract, Triple, entered, Stays, ends_at}
use Rattle.hazbultra_channel.proofs.Steps.{says, stay_dropped, walk_Meets, walk_of, Goes-blank, token, box_owns, B, Bx, D, P, R}
use Rattle.hazbultra_channel.proofs.Steps.{args, box_ty, box_typed, word, box_in, box_out}
use Rattle.hazbultra_channel.specs.contracts.handle.block.parts.Parts as parts
use Rattle.hazbultra_channel.specs.contracts.handle.block.parts.Parts.into_box as f
use Rattle.hazbultra_channel.specs.contracts.handle.block.parts.Parts.into_box.Key.{name as f_name}
use Rattle.hazbultra_channel.proofs.handle.block.parts.Parts.into_box.Statement.{statement}
use Rattle.hazbultra_channel.proofs.handle.block.parts.Parts.into_box.Code as code
use Rattle.std_alloc.specs.contracts.boxed.Box.from_raw as raw_box
use Rattle.std_alloc.proofs.boxed.Box.from_raw.Symbol as raw_box_symbol
use Rattle.std_alloc.proofs.boxed.Box.from_raw.Met as raw_box_met

-- what the body does after the call: it moves the box into the result
abbrev after_call : Body
after_call = seq (assign (place 0 []) (rv_opd (copy (place 4 [])))) return

module _ (E : Bx) where
  -- the body of the function, at the types of this box
  abbrev body_at : Fn
  body_at = inst_fn (args E) code.function

  -- the function's signature at these types, and what it keeps of its parameters
  abbrev over : Ended
  over = f.ended E.row E.al.row E.al.g E.al.d E.al.drops

  -- the type of the parts that the function takes
  abbrev taken : RattleType
  taken = parts.the_row (R E) (P E) E.al.g

  -- what the function still has of its parameter at the return: nothing
  abbrev stayed : Stays over.signature.params over.kept
  stayed = (stay_dropped (plain (λ _. taken)) no, tt)

  module _ {M : Type 1} {𝓤 : Ura M} (𝓛 : Logic 𝓤) (heap : Memory → SProp 𝓤) (run : Routine → Fun 𝓤)
      (𝓣 : Tables 𝓤 𝓛.H) where
    open 𝓛 use {H}

    -- the function's clauses at these types
    abbrev promised : Clauses 𝓤 over
    promised = f.clauses E.row E.al.row E.al.g E.al.d E.al.drops 𝓛 heap run

    -- the contract of `from_raw`, which the body calls
    abbrev callee : Contract 𝓤
    callee = triple_of 𝓛 (raw_box.signature E.row E.al.row E.al.g E.al.d E.al.drops)
        (raw_box.spec E.row E.al.row E.al.g E.al.d E.al.drops 𝓛 heap run)

    -- if `from_raw` keeps its contract, what the clauses require before the body gives what they ensure after it
    walk : Triple 𝓤 (𝓣.C (raw_box_symbol.name (args E))) callee
        → (z : (walk_of 𝓛 over stayed promised).Ghost)
        → ent 𝓤 ((walk_of 𝓛 over stayed promised).pre z)
        (WpFn 𝓤 H 𝓣.C 𝓣.Λ body_at (z.0.4.0 ++ []) ((walk_of 𝓛 over stayed promised).post z))
    walk known z =
        let κs = z.0.0 in let qs = z.0.1 in let it = z.0.3.0 in let us = z.0.4.0 in
        let end = (walk_of 𝓛 over stayed promised).post z in
        let whole_box : D E = record { ptr = it.ptr; alloc = it.alloc; value = it.value } in
        let tokens : Item 𝓤 = ‵ (flft κs.0 qs.0) ⊛ ‵ (flft κs.1.0 qs.1.0) ⊛ ‵ ftrue in
        let outlive : Item 𝓤 = raw (fact 𝓤 (κs.0 ⊑ E.row.lives)) ⊛
        raw (fact 𝓤 (κs.1.0 ⊑ E.al.row.lives)) ⊛ ‵ ftrue in
        qed 𝓛 ((tokens ⊛ ‵ (fsep ((B E).own_val whole_box us) ftrue)) ∷ outlive ∷ []) ∵
        split ! $ move ! (1 ∷ []) $ fsplit ! $
        box_out E ! whole_box us (λ b o hv is_block is_word fits. fjoin ! $
        -- held now, in order: the value with the right to free it; the allocator; nothing; the lifetime tokens; what
        -- outlives the lifetimes
        let w = word E hv b o in
        let owned : Item 𝓤 = ‵ (box_owns (token E.al it.alloc) (R E) (block_ptr b o) it.value) in
        let held : List (Item 𝓤) = owned ∷ ‵ ((P E).own_val it.alloc (hv ∷ [])) ∷ ‵ ftrue ∷ tokens ∷
        outlive ∷ [] in
        let y : callee.Ghost = (
          (
            κs,
            qs,
            tt,
            (it.alloc, (block_ptr b o, tt)),
            (hv ∷ [], (vptr b o ∷ [], tt)),
          ),
          it.value,
        ) in
        by ! (subst (λ (vs : List Val). ent 𝓤 (⋆ 𝓛 held) (WpFn 𝓤 H 𝓣.C 𝓣.Λ body_at (vs ++ []) end))
        (sym is_word)
        (qed 𝓛 held ∵ enter ! 𝓣.C 𝓣.Λ body_at (w ∷ []) _ $
        alloc_all ! (λ ls. pass_all ! refl (box_typed E hv b o fits, tt) $
        -- the statement `let Parts { ptr, alloc } = self`
        sets ! (of_opd ! (get_in ! (fld ! refl (stop !)) (sub ! 0 refl (whole !)))) refl (tt, tt) $
        sets ! (of_opd ! (get_in ! (fld ! refl (stop !)) (sub ! 1 refl (whole !)))) refl fits $
        -- the argument of the call of `from_raw`, and what that call asks for
        first ! $ blocks ! $ sets ! (of_opd ! (get ! refl)) refl fits $
        move ! (4 ∷ []) $ split3 ! $ move ! (2 ∷ []) $ drop ! $ move ! (1 ∷ 2 ∷ []) $ join ! $
        move ! (1 ∷ 0 ∷ []) $ join ! $
        move ! (2 ∷ []) $ feq_i ! (List Val) (vptr b o ∷ []) (vptr b o ∷ []) refl $ fjoin ! $
        move ! (2 ∷ 0 ∷ []) $ fjoin ! $ move ! (2 ∷ 0 ∷ []) $ join ! $ join ! $
        use1 𝓛 (raw (callee.pre y)) (id⊢ 𝓤 _) $
        calls_at_last ! (fm_of 𝓤 H 𝓛.laws 𝓣) callee known y
        (and_then ! (get ! refl) (and_then ! (get ! refl) (no_more !))) (λ u.
        use1 𝓛 (later (some (λ (made : D E).
        (tokens ⊛ ‵ ((B E).own_val made (u ∷ []))) ⊛ some (λ (_ : Unit {0} × (Unit {0} × Unit {0})).
        ‵ (fsep ftrue (fsep ftrue ftrue)) ⊛ (raw (fact 𝓤 (made.value ≡ it.value)) ⊛
        raw (fact 𝓤 (made.alloc ≡ it.alloc))))))) (id⊢ 𝓤 _) $
        await ! tt $ pick ! (λ made. split ! $ move ! (1 ∷ []) $ pick ! (λ _. split3 ! $ drop ! $
        heard ! (made.value ≡ it.value) (λ same. drop ! $ split ! $ move ! (1 ∷ []) $
        -- held now, in order: the box made; the lifetime tokens
        box_out E ! made (u ∷ []) (λ b' o' hv' is_block' is_word' fits'. box_in E ! made b' o'
        made.value is_block' refl $
        rewrite ! 0 (λ (vs : List Val). ‵ ((B E).own_val made vs)) (sym is_word') refl $
        let typed : T (has_ty (box_ty E) u) × WT u = subst
        (λ (v : Val). T (has_ty (box_ty E) v) × WT v) (sym (ap only is_word'))
        (box_typed E hv' b' o' fits') in
        lands_last ! refl typed $ exec ! 𝓣.C 𝓣.Λ (env body_at.locals ls) after_call
        (at_ret (env body_at.locals ls) end) $
        sets ! (of_opd ! (get ! refl)) refl typed $ returns ! (look_at ! 0 refl) $ free_all ! refl $
        suffices ! _ (ends_at 𝓛 over stayed promised z u made ((tt, (tt, tt)), tt) (tt, tt)) $
        says ! same $
        nothing ! $ nothing ! $ fjoin ! $ join ! $ move ! (1 ∷ 0 ∷ []) $ join ! $ done !)))))))))

-- so the compiled function keeps its contract
pub into_box_spec : {M : Type 1} → statement M
unfolding tables_of
into_box_spec 𝓤 𝓛 𝓜 𝓡 wired X Z X-laws Z-laws g d drops allocator met_d =
    let E : Bx = record {
      row = X;
      laws = X-laws;
      al = record { row = Z; laws = Z-laws; g = g; d = d; drops = drops };
    } in
    let 𝓣 : Tables 𝓤 𝓛.H = tables_of 𝓤 𝓛.H 𝓜 (tables 𝓤 𝓛.H 𝓜 𝓡 𝓡.env) in
    let fn = body_at E in
    let known = raw_box_met.met 𝓤 𝓛 𝓜 𝓡 (code.calls-std_alloc::boxed::Box::from_raw 𝓡.env wired) X Z
    X-laws Z-laws g d drops allocator met_d in
    entered 𝓤 𝓛.H (triple_of 𝓛 (over E).signature (f.spec X Z g d drops 𝓛 𝓜.mem 𝓡.returns)) 𝓣.C 𝓣.Λ
    (f_name (args E)) fn (code.unfolded 𝓤 𝓛.H 𝓜 𝓡 wired (X, (Z, tt)) d drops)
    (walk_Meets 𝓛 (over E) (stayed E) (Goes-blank 𝓛 2 (plain (λ _. taken E)) no (λ κs x f. tt), tt)
    (promised E 𝓛 𝓜.mem 𝓡.returns 𝓣) (WpFn 𝓤 𝓛.H 𝓣.C 𝓣.Λ fn) (WpFn-mono 𝓤 𝓛.H 𝓛.laws 𝓣 fn)
    (walk E 𝓛 𝓜.mem 𝓡.returns 𝓣 known))
