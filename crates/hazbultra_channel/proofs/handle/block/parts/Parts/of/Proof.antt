-- Proof of `of`: `into_raw_with_allocator` returns the pointer and the allocator. The parts own what the box owned.
use Rattle.hazbultra_channel.proofs.Steps.{◌≡◌, refl, sym, subst, ap, ◌∙◌, List, [], ◌∷◌, ◌++◌, Ura, Args, Dict, Fn, a_type}
use Rattle.hazbultra_channel.proofs.Steps.{dcons, dnil, inst_fn, bare, Val, of_list, vstruct, SProp, ent, fst∗, id⊢, never}
use Rattle.hazbultra_channel.proofs.Steps.{flft, fsep, ftrue, ◌⊑◌, Fun, fact, tables, tables_of, Memory, Routine, Tables, WpFn}
use Rattle.hazbultra_channel.proofs.Steps.{WpFn-mono, fm_of, Logic, sem, Item, ⋆, ‵, raw, ◌⊛◌, some, later, ◌$◌, ◌∵◌, !, qed}
use Rattle.hazbultra_channel.proofs.Steps.{by, move, drop, use1, join, split, split3, pick, rewrite, fsplit, fjoin, fpick}
use Rattle.hazbultra_channel.proofs.Steps.{feq_l, suffices, await, done, agg, sub, whole, and_then, enter, fld, no_more, of_opd}
use Rattle.hazbultra_channel.proofs.Steps.{returns, stop, alloc_all, free_all, get, get_in, lands_as, look_at, pass_all, sets}
use Rattle.hazbultra_channel.proofs.Steps.{no, bounded, RattleType, Ptr, RawPtr, block_ptr, in_a_block, null_ptr, ptr_val}
use Rattle.hazbultra_channel.proofs.Steps.{plain, heard, nothing, only, Tuple, calls_at, Clauses, Ended, triple_of, Contract}
use Rattle.hazbultra_channel.proofs.Steps.{Triple, entered, Stays, ends_at, says, stay_dropped, walk_Meets, walk_of, Goes-blank}
use Rattle.hazbultra_channel.proofs.Steps.{handle_tells, token, box_owns, B, Bx, D, P, R, box_typed, word, τ, box_in, box_out}
use Rattle.hazbultra_channel.specs.contracts.handle.block.parts.Parts as parts
use Rattle.hazbultra_channel.specs.contracts.handle.block.parts.Parts.of as f
use Rattle.hazbultra_channel.specs.contracts.handle.block.parts.Parts.of.Key.{name as f_name}
use Rattle.hazbultra_channel.proofs.handle.block.parts.Parts.of.Statement.{statement}
use Rattle.hazbultra_channel.proofs.handle.block.parts.Parts.of.Code as code
use Rattle.std_alloc.specs.contracts.boxed.Box.into_raw_with_allocator as raw_parts
use Rattle.std_alloc.proofs.boxed.Box.into_raw_with_allocator.Symbol as raw_parts_symbol
use Rattle.std_alloc.proofs.boxed.Box.into_raw_with_allocator.Met as raw_parts_met

module _ (E : Bx) (drop_x : Dict) where
  -- the types for which the function is compiled
  abbrev passed : Args
  passed = bounded (a_type ∷ a_type ∷ []) (E.row, (E.al.row, tt))
      (dcons E.al.d (dcons E.al.drops (dcons drop_x dnil)))

  -- the body of the function, at the types of this box
  abbrev body_at : Fn
  body_at = inst_fn passed code.function

  -- the function's signature at these types, and what it keeps of its parameters
  abbrev over : Ended
  over = f.ended E.row E.al.row E.al.g E.al.d E.al.drops drop_x

  -- what the function still has of its parameter at the return: nothing
  abbrev stayed : Stays over.signature.params over.kept
  stayed = (stay_dropped (plain (λ _. B E)) no, tt)

  -- the type of the parts that the function returns
  abbrev given : RattleType
  given = parts.the_row (R E) (P E) E.al.g

  module _ {M : Type 1} {𝓤 : Ura M} (𝓛 : Logic 𝓤) (heap : Memory → SProp 𝓤) (run : Routine → Fun 𝓤)
      (𝓣 : Tables 𝓤 𝓛.H) where
    open 𝓛 use {H}

    -- the function's clauses at these types
    abbrev promised : Clauses 𝓤 over
    promised = f.clauses E.row E.al.row E.al.g E.al.d E.al.drops drop_x 𝓛 heap run

    -- the contract of `into_raw_with_allocator`, which the body calls
    abbrev callee : Contract 𝓤
    callee = triple_of 𝓛 (raw_parts.signature E.row E.al.row E.al.g E.al.d E.al.drops drop_x)
        (raw_parts.spec E.row E.al.row E.al.g E.al.d E.al.drops drop_x 𝓛 heap run)

    -- if the called function keeps its contract, what the clauses require before the body gives what they ensure after
    -- it
    walk : Triple 𝓤 (𝓣.C (raw_parts_symbol.name passed)) callee
        → (z : (walk_of 𝓛 over stayed promised).Ghost)
        → ent 𝓤 ((walk_of 𝓛 over stayed promised).pre z)
        (WpFn 𝓤 H 𝓣.C 𝓣.Λ body_at (z.0.4.0 ++ []) ((walk_of 𝓛 over stayed promised).post z))
    walk known z =
        let κs = z.0.0 in let qs = z.0.1 in let it = z.0.3.0 in let us = z.0.4.0 in
        let end = (walk_of 𝓛 over stayed promised).post z in
        let tokens : Item 𝓤 = ‵ (flft κs.0 qs.0) ⊛ ‵ (flft κs.1.0 qs.1.0) ⊛ ‵ ftrue in
        let outlive : Item 𝓤 = raw (fact 𝓤 (κs.0 ⊑ E.row.lives)) ⊛
        raw (fact 𝓤 (κs.1.0 ⊑ E.al.row.lives)) ⊛ ‵ ftrue in
        let owned = λ (p : Ptr). box_owns (token E.al it.alloc) (R E) p it.value in
        qed 𝓛 ((tokens ⊛ ‵ (fsep ((B E).own_val it us) ftrue)) ∷ outlive ∷ []) ∵
        split ! $ move ! (1 ∷ []) $ fsplit ! $
        box_out E ! it us (λ b o hv is_block is_word fits. box_in E ! it b o it.value is_block
        refl $
        -- held now, in order: the box; nothing; the lifetime tokens; what outlives the lifetimes
        let w = word E hv b o in
        let held : List (Item 𝓤) = ‵ ((B E).own_val it (w ∷ [])) ∷ ‵ ftrue ∷ tokens ∷ outlive ∷
        [] in
        let y : callee.Ghost = ((κs, qs, tt, (it, tt), (w ∷ [], tt)), tt) in
        by ! (subst (λ (vs : List Val). ent 𝓤 (⋆ 𝓛 held) (WpFn 𝓤 H 𝓣.C 𝓣.Λ body_at (vs ++ []) end))
        (sym is_word)
        (qed 𝓛 held ∵ enter ! 𝓣.C 𝓣.Λ body_at (w ∷ []) _ $
        alloc_all ! (λ ls. pass_all ! refl (box_typed E hv b o fits, tt) $
        -- the call of `into_raw_with_allocator`
        sets ! (of_opd ! (get ! refl)) refl (box_typed E hv b o fits) $
        fjoin ! $ move ! (1 ∷ 0 ∷ []) $ join ! $ join ! $ use1 𝓛 (raw (callee.pre y)) (id⊢ 𝓤 _) $
        calls_at ! (fm_of 𝓤 H 𝓛.laws 𝓣) callee known y (and_then ! (get ! refl) (no_more !)) (λ u.
        use1 𝓛 (later (some (λ (pair : Ptr × E.al.row.Denot).
        (tokens ⊛ ‵ ((Tuple (RawPtr ∷ P E ∷ [])).own_val pair (u ∷ []))) ⊛
        some (λ (_ : (Unit {0} × (Unit {0} × Unit {0})) × Unit {0}).
        ‵ (fsep (fsep ftrue (fsep ftrue ftrue)) ftrue) ⊛
        (raw (fact 𝓤 (pair.1 ≡ it.alloc)) ⊛ ‵ (owned pair.0)))))) (id⊢ 𝓤 _) $
        await ! tt $ pick ! (λ pair. split ! $ move ! (1 ∷ []) $ pick ! (λ _. split3 ! $ drop ! $
        heard ! (pair.1 ≡ it.alloc) (λ same.
        -- what the box owned lies in a block of memory, so the pointer leads into that block. The second word of the
        -- pair is the allocator
        in_a_block ! pair.0 owned (fst∗ 𝓤 (never 𝓤)
        (sem 𝓛 (token E.al it.alloc (bare (τ E)) null_ptr))) (λ b' o' is_block'.
        move ! (1 ∷ []) $ split ! $ move ! (1 ∷ []) $ fpick ! (λ vss. fsplit ! $
        feq_l ! (λ is_pair. fsplit ! $ feq_l ! (λ is_ptr. fsplit ! $
        rewrite ! 0 (λ (a : E.al.row.Denot). ‵ (E.al.row.own_val a vss.1.0)) same refl $
        handle_tells E.al ! it.alloc vss.1.0 (λ hv' is_handle fits'.
        let again : D E = record { ptr = block_ptr b' o'; alloc = it.alloc; value = it.value } in
        let made : given.Denot = record {
          ptr = block_ptr b' o';
          alloc = it.alloc;
          value = it.value;
        } in
        let w' = word E hv' b' o' in
        lands_as ! (ap only (is_pair ∙
        (λ j. vstruct (of_list ((is_ptr ∙ ap (λ (p : Ptr). ptr_val p ∷ []) is_block') j ++
        (is_handle j ++ []))) ∷ []))) refl (box_typed E hv' b' o' fits') $
        -- the statement `let (ptr, alloc) = ..`, and the result `Parts { ptr, alloc }`
        sets ! (of_opd ! (get_in ! (fld ! refl (stop !)) (sub ! 0 refl (whole !)))) refl (tt, tt) $
        sets ! (of_opd ! (get_in ! (fld ! refl (stop !)) (sub ! 1 refl (whole !)))) refl fits' $
        sets ! (of_opd ! (get ! refl)) refl fits' $
        sets ! (agg ! (and_then ! (get ! refl) (and_then ! (get ! refl) (no_more !)))) refl
        (box_typed E hv' b' o' fits') $ returns ! (look_at ! 0 refl) $ free_all ! refl $
        -- held now, in order: the allocator; nothing; the lifetime tokens; the value with the right to free it
        move ! (3 ∷ []) $ fsplit ! $ box_in E ! again b' o' it.value refl refl $
        use1 𝓛 (‵ (given.own_val made (w' ∷ []))) (id⊢ 𝓤 _) $ move ! (1 ∷ []) $ drop ! $
        suffices ! _ (ends_at 𝓛 over stayed promised z w' made ((tt, (tt, tt)), tt) (tt, tt)) $
        says ! refl $
        nothing ! $ nothing ! $ fjoin ! $ join ! $ move ! (1 ∷ 0 ∷ []) $ join ! $
        done !)))))))))))))

-- so the compiled function keeps its contract
pub of_spec : {M : Type 1} → statement M
unfolding tables_of
of_spec 𝓤 𝓛 𝓜 𝓡 wired X Z X-laws Z-laws g d drops drop_x allocator met_d met_drop =
    let E : Bx = record {
      row = X;
      laws = X-laws;
      al = record { row = Z; laws = Z-laws; g = g; d = d; drops = drops };
    } in
    let 𝓣 : Tables 𝓤 𝓛.H = tables_of 𝓤 𝓛.H 𝓜 (tables 𝓤 𝓛.H 𝓜 𝓡 𝓡.env) in
    let fn = body_at E drop_x in
    let known = raw_parts_met.met 𝓤 𝓛 𝓜 𝓡
    (code.calls-std_alloc::boxed::Box::into_raw_with_allocator 𝓡.env wired) X Z X-laws Z-laws g d
    drops drop_x allocator met_d met_drop in
    entered 𝓤 𝓛.H (triple_of 𝓛 (over E drop_x).signature
    (f.spec X Z g d drops drop_x 𝓛 𝓜.mem 𝓡.returns)) 𝓣.C 𝓣.Λ (f_name (passed E drop_x)) fn
    (code.unfolded 𝓤 𝓛.H 𝓜 𝓡 wired (X, (Z, tt)) d drops drop_x)
    (walk_Meets 𝓛 (over E drop_x) (stayed E drop_x)
    (Goes-blank 𝓛 2 (plain (λ _. B E)) no (λ κs x f. tt), tt)
    (promised E drop_x 𝓛 𝓜.mem 𝓡.returns 𝓣) (WpFn 𝓤 𝓛.H 𝓣.C 𝓣.Λ fn) (WpFn-mono 𝓤 𝓛.H 𝓛.laws 𝓣 fn)
    (walk E drop_x 𝓛 𝓜.mem 𝓡.returns 𝓣 known))
