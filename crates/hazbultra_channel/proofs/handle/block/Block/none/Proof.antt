-- Proof of `none`: the block is the null pointer and the allocator, and owns the allocator alone.
use Rattle.hazbultra_channel.proofs.Steps.{refl, sym, subst, List, [], ◌∷◌, ◌++◌, Ura, w64, Val, vcons}
use Rattle.hazbultra_channel.proofs.Steps.{vint, vnil, vstruct, SProp, emp, ent, id⊢, fsep, ftrue, Fun}
use Rattle.hazbultra_channel.proofs.Steps.{tables, tables_of, Memory, Routine, Tables, WpFn, WpFn-mono}
use Rattle.hazbultra_channel.proofs.Steps.{Logic, Item, ⋆, ‵, raw, ◌⊛◌, ◌$◌, ◌∵◌, !, qed, by, move, drop}
use Rattle.hazbultra_channel.proofs.Steps.{use1, join, split, fsplit, fjoin, fpack, feq_i, suffices, done}
use Rattle.hazbultra_channel.proofs.Steps.{agg, and_then, enter, lit, no_more, returns, alloc_all, free_all}
use Rattle.hazbultra_channel.proofs.Steps.{get, look_at, pass_all, sets, yes, Valss, RawPtr, null_ptr}
use Rattle.hazbultra_channel.proofs.Steps.{ptr_val, plain, type_at, nothing, shape, within, triple_of}
use Rattle.hazbultra_channel.proofs.Steps.{entered, Goes-dropped, Stays, ends_at, says, stay_dropped}
use Rattle.hazbultra_channel.proofs.Steps.{walk_Meets, walk_of, lit<, handle_tells, P, owning}
use Rattle.std.specs.Prelude.{None}
use Rattle.std_heap.specs.contracts.Global.{the_row as Heap}
use Rattle.hazbultra_channel.proofs.AsBox.{and_true, thing_box}
use Rattle.hazbultra_channel.specs.contracts.handle.block.Block.none as f
use Rattle.hazbultra_channel.specs.contracts.handle.block.Block.none.Key.{name as f_name}
use Rattle.hazbultra_channel.proofs.handle.block.Block.none.Statement.{statement}
use Rattle.hazbultra_channel.proofs.handle.block.Block.none.Code as code

-- what the function still has of its parameter at the return: nothing
abbrev stayed : Stays f.ended.signature.params f.ended.kept
stayed = (stay_dropped (plain (λ _. Heap)) yes, tt)

module _ {M : Type 1} {𝓤 : Ura M} (𝓛 : Logic 𝓤) (heap : Memory → SProp 𝓤) (run : Routine → Fun 𝓤)
    (𝓣 : Tables 𝓤 𝓛.H) where
  open 𝓛 use {H}

  -- if what the clauses require holds before the body, what they ensure holds after it
  walk : (z : (walk_of 𝓛 f.ended stayed (f.clauses 𝓛 heap run)).Ghost)
      → ent 𝓤 ((walk_of 𝓛 f.ended stayed (f.clauses 𝓛 heap run)).pre z)
      (WpFn 𝓤 H 𝓣.C 𝓣.Λ code.function (z.0.4.0 ++ [])
      ((walk_of 𝓛 f.ended stayed (f.clauses 𝓛 heap run)).post z))
  walk z =
      let end = (walk_of 𝓛 f.ended stayed (f.clauses 𝓛 heap run)).post z in
      let it = z.0.3.0 in let us = z.0.4.0 in
      let Block = type_at (f.signature).result tt in
      let made : Block.Denot = record { at = null_ptr; alloc = it; thing = None } in
      qed 𝓛 ((‵ ftrue ⊛ ‵ (fsep (Heap.own_val it us) ftrue)) ∷ raw (emp 𝓤) ∷ []) ∵ split ! $
      drop ! $ fsplit ! $
      handle_tells thing_box.al ! it us (λ hv is_handle fits. move ! (1 ∷ 2 ∷ []) $ drop ! $
      drop ! $
      let w = vstruct (vcons (vint w64 0) (vcons hv vnil)) in
      let held : List (Item 𝓤) = ‵ (Heap.own_val it (hv ∷ [])) ∷ [] in
      by ! (subst (λ (vs : List Val). ent 𝓤 (⋆ 𝓛 held)
      (WpFn 𝓤 H 𝓣.C 𝓣.Λ code.function (vs ++ []) end)) (sym is_handle)
      (qed 𝓛 held ∵ enter ! 𝓣.C 𝓣.Λ code.function (hv ∷ []) _ $
      alloc_all ! (λ ls. pass_all ! refl (fits, tt) $
      sets ! (agg ! (and_then ! (lit ! tt) (and_then ! (get ! refl) (no_more !)))) refl
      (and_true _ fits.0, (record { fits = lit< tt }, (fits.1, tt))) $
      returns ! (look_at ! 0 refl) $ free_all ! refl $
      suffices ! _ (ends_at 𝓛 f.ended stayed (f.clauses 𝓛 heap run) z w made (tt, tt) (tt, tt)) $
      says ! refl $
      -- the block's two fields are the null pointer and the allocator, and it owns nothing more
      nothing ! $ move ! (1 ∷ 0 ∷ []) $ fjoin ! $
      feq_i ! (List Val) (vint w64 0 ∷ []) (ptr_val null_ptr ∷ []) refl $ fjoin ! $
      feq_i ! (List Val) (w ∷ []) (w ∷ []) refl $ fjoin ! $
      fpack ! (Valss (RawPtr ∷ P thing_box ∷ []))
      (within (shape (owning thing_box)) (null_ptr, (it, tt)) (w ∷ []))
      (vint w64 0 ∷ [], (hv ∷ [], tt)) $
      nothing ! $ move ! (1 ∷ 0 ∷ []) $ fjoin ! $
      use1 𝓛 (‵ (Block.own_val made (w ∷ []))) (id⊢ 𝓤 _) $
      nothing ! $ nothing ! $ fjoin ! $ join ! $ nothing ! $ join ! $ done !))))

-- so the compiled function keeps its contract
pub none_spec : {M : Type 1} → statement M
unfolding tables_of
none_spec 𝓤 𝓛 𝓜 𝓡 wired =
    let 𝓣 : Tables 𝓤 𝓛.H = tables_of 𝓤 𝓛.H 𝓜 (tables 𝓤 𝓛.H 𝓜 𝓡 𝓡.env) in
    entered 𝓤 𝓛.H (triple_of 𝓛 f.signature (f.spec 𝓛 𝓜.mem 𝓡.returns)) 𝓣.C 𝓣.Λ f_name code.function
    (code.unfolded 𝓤 𝓛.H 𝓜 𝓡 wired)
    (walk_Meets 𝓛 f.ended stayed (Goes-dropped 𝓛 0 (plain (λ _. Heap)) yes (λ κs x w. refl), tt)
    (f.clauses 𝓛 𝓜.mem 𝓡.returns) (WpFn 𝓤 𝓛.H 𝓣.C 𝓣.Λ code.function)
    (WpFn-mono 𝓤 𝓛.H 𝓛.laws 𝓣 code.function)
    (walk 𝓛 𝓜.mem 𝓡.returns 𝓣))
