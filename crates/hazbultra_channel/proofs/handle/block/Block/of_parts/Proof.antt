-- Proof of `of_parts`: the block has the address and the allocator of the parts, and owns what they owned.
use Rattle.hazbultra_channel.proofs.Steps.{refl, sym, subst, List, [], ◌∷◌, ◌++◌, Ura, Val, SProp, emp, ent}
use Rattle.hazbultra_channel.proofs.Steps.{id⊢, fsep, ftrue, Fun, tables, tables_of, Memory, Routine}
use Rattle.hazbultra_channel.proofs.Steps.{Tables, WpFn, WpFn-mono, Logic, Item, ⋆, ‵, raw, ◌⊛◌, ◌$◌, ◌∵◌}
use Rattle.hazbultra_channel.proofs.Steps.{ !, qed, by, move, drop, use1, join, split, fsplit, fjoin}
use Rattle.hazbultra_channel.proofs.Steps.{suffices, done, agg, sub, whole, and_then, enter, fld, no_more}
use Rattle.hazbultra_channel.proofs.Steps.{of_opd, returns, stop, alloc_all, free_all, get, get_in, look_at}
use Rattle.hazbultra_channel.proofs.Steps.{pass_all, sets, yes, type_at, nothing, triple_of, entered}
use Rattle.hazbultra_channel.proofs.Steps.{Goes-dropped, Stays, ends_at, says, stay_dropped, walk_Meets}
use Rattle.hazbultra_channel.proofs.Steps.{walk_of, B, D, box_typed, word, box_in, box_out}
use Rattle.std.specs.Prelude.{Some}
use Rattle.hazbultra_channel.proofs.AsBox.{parts_slot, thing_box}
use Rattle.hazbultra_channel.specs.contracts.handle.block.Block.of_parts as f
use Rattle.hazbultra_channel.specs.contracts.handle.block.Block.of_parts.Key.{name as f_name}
use Rattle.hazbultra_channel.proofs.handle.block.Block.of_parts.Statement.{statement}
use Rattle.hazbultra_channel.proofs.handle.block.Block.of_parts.Code as code

-- what the function still has of its parameter at the return: nothing
abbrev stayed : Stays f.ended.signature.params f.ended.kept
stayed = (stay_dropped parts_slot yes, tt)

module _ {M : Type 1} {𝓤 : Ura M} (𝓛 : Logic 𝓤) (heap : Memory → SProp 𝓤) (run : Routine → Fun 𝓤)
    (𝓣 : Tables 𝓤 𝓛.H) where
  open 𝓛 use {H}

  -- if what the clauses require holds before the body, what they ensure holds after it
  walk : (z : (walk_of 𝓛 f.ended stayed (f.clauses 𝓛 heap run)).Ghost)
      → ent 𝓤 ((walk_of 𝓛 f.ended stayed (f.clauses 𝓛 heap run)).pre z)
      (WpFn 𝓤 H 𝓣.C 𝓣.Λ code.function (z.0.4.0 ++ [])
      ((walk_of 𝓛 f.ended stayed (f.clauses 𝓛 heap run)).post z))
  walk z =
      let end = (walk_of 𝓛 f.ended stayed (f.clauses 𝓛 heap run)).post z in
      let it = z.0.3.0 in let us = z.0.4.0 in
      let whole_box : D thing_box = record { ptr = it.ptr; alloc = it.alloc; value = it.value } in
      let Block = type_at (f.signature).result tt in
      let made : Block.Denot = record { at = it.ptr; alloc = it.alloc; thing = Some it.value } in
      qed 𝓛 ((‵ ftrue ⊛ ‵ (fsep ((B thing_box).own_val whole_box us) ftrue)) ∷ raw (emp 𝓤) ∷ []) ∵
      split ! $ drop ! $ fsplit ! $
      -- the parts own what a box of the thing owns, and the block owns that
      box_out thing_box ! whole_box us
      (λ b o hv is_block is_word fits. box_in thing_box ! whole_box b o it.value is_block refl $
      let w = word thing_box hv b o in
      let held : List (Item 𝓤) = ‵ (Block.own_val made (w ∷ [])) ∷ [] in
      use1 𝓛 (‵ (Block.own_val made (w ∷ []))) (id⊢ 𝓤 _) $ move ! (1 ∷ 2 ∷ []) $ drop ! $ drop ! $
      by ! (subst (λ (vs : List Val). ent 𝓤 (⋆ 𝓛 held)
      (WpFn 𝓤 H 𝓣.C 𝓣.Λ code.function (vs ++ []) end)) (sym is_word)
      (qed 𝓛 held ∵ enter ! 𝓣.C 𝓣.Λ code.function (w ∷ []) _ $
      alloc_all ! (λ ls. pass_all ! refl (box_typed thing_box hv b o fits, tt) $
      sets ! (of_opd ! (get_in ! (fld ! refl (stop !)) (sub ! 0 refl (whole !)))) refl (tt, tt) $
      sets ! (of_opd ! (get_in ! (fld ! refl (stop !)) (sub ! 1 refl (whole !)))) refl fits $
      sets ! (of_opd ! (get ! refl)) refl (tt, tt) $
      sets ! (agg ! (and_then ! (get ! refl) (and_then ! (get ! refl) (no_more !)))) refl
      (box_typed thing_box hv b o fits) $
      returns ! (look_at ! 0 refl) $ free_all ! refl $
      suffices ! _ (ends_at 𝓛 f.ended stayed (f.clauses 𝓛 heap run) z w made (tt, tt) (tt, tt)) $
      says ! refl $
      nothing ! $ nothing ! $ fjoin ! $ join ! $ nothing ! $ join ! $ done !))))

-- so the compiled function keeps its contract
pub of_parts_spec : {M : Type 1} → statement M
unfolding tables_of
of_parts_spec 𝓤 𝓛 𝓜 𝓡 wired =
    let 𝓣 : Tables 𝓤 𝓛.H = tables_of 𝓤 𝓛.H 𝓜 (tables 𝓤 𝓛.H 𝓜 𝓡 𝓡.env) in
    entered 𝓤 𝓛.H (triple_of 𝓛 f.signature (f.spec 𝓛 𝓜.mem 𝓡.returns)) 𝓣.C 𝓣.Λ f_name code.function
    (code.unfolded 𝓤 𝓛.H 𝓜 𝓡 wired)
    (walk_Meets 𝓛 f.ended stayed (Goes-dropped 𝓛 0 parts_slot yes (λ κs x w. refl), tt)
    (f.clauses 𝓛 𝓜.mem 𝓡.returns) (WpFn 𝓤 𝓛.H 𝓣.C 𝓣.Λ code.function)
    (WpFn-mono 𝓤 𝓛.H 𝓛.laws 𝓣 code.function)
    (walk 𝓛 𝓜.mem 𝓡.returns 𝓣))
