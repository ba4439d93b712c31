-- Proof of `lend`: the block owns what a box of a thing owns. It lends the thing, and keeps the rest of what it owns.
use Rattle.hazbultra_channel.proofs.Steps.{◌≡◌, refl, List, [], ◌∷◌, Ura, Val, SProp, ent, id⊢, vptr, flft, fsep, ftrue, Fun}
use Rattle.hazbultra_channel.proofs.Steps.{fact, tables, tables_of, Memory, Routine, bare, Tables, WpFn, WpFn-mono, Logic}
use Rattle.hazbultra_channel.proofs.Steps.{sem, ‵, raw, ◌⊛◌, some, later, at_ret, ◌$◌, ◌∵◌, !, qed, move, drop, use1, join}
use Rattle.hazbultra_channel.proofs.Steps.{split, pick, rewrite, fsplit, fpack, fjoin, suffices, await, done, sub, whole}
use Rattle.hazbultra_channel.proofs.Steps.{enter, exec, first, blocks, fld, of_opd, returns, stop, alloc_all, env, free_all}
use Rattle.hazbultra_channel.proofs.Steps.{get, look_at, pass_all, sets, no, heard, nothing, block_ptr, token, plain}
use Rattle.hazbultra_channel.proofs.Steps.{triple_of, entered, Stays, ends_at, says, stay_dropped, walk_Meets, walk_of, B, D}
use Rattle.hazbultra_channel.proofs.Steps.{R, τ, word, box_in, box_out, Env, Fml, GName, MutRef, Part, addr, cell_at}
use Rattle.hazbultra_channel.proofs.Steps.{follows, frame, fsplit3, full_share, group, handle, keep, lends_Part, load}
use Rattle.hazbultra_channel.proofs.Steps.{look_in, mem, mut_Tells, mut_ref_to, mut_vals, named, opens, owns, part_at, sep}
use Rattle.hazbultra_channel.proofs.Steps.{sets_last, through, walked, Goes-spent_ref, ℕ, IsSome, Option}
use denote.Memory.{part_of}
use Rattle.hazbultra_channel.specs.Lending.{leading_to}
use Rattle.hazbultra_channel.specs.contracts.{handle.block.Block.{the_row as Block}, thing.Thing.{the_row as Thing}}
use Rattle.hazbultra_channel.proofs.AsBox.{the_some, thing_box}
use Rattle.hazbultra_channel.specs.contracts.handle.block.Block.lend as f
use Rattle.hazbultra_channel.specs.contracts.handle.block.Block.lend.Key.{name as f_name}
use Rattle.hazbultra_channel.proofs.handle.block.Block.lend.Statement.{statement}
use Rattle.hazbultra_channel.proofs.handle.block.Block.lend.Code as code

-- what the function still has of its parameter at the return: nothing
abbrev stayed : Stays f.ended.signature.params f.ended.kept
stayed = (stay_dropped (mut_ref_to (0 ∷ []) tt (plain (λ _. Block))) no, tt)

-- the box that has this thing, with the address and the allocator of this block
abbrev boxed : Block.Denot → Thing.Denot → D thing_box
boxed it x = record { ptr = it.at; alloc = it.alloc; value = x }

module _ {M : Type 1} {𝓤 : Ura M} (𝓛 : Logic 𝓤) (it : Block.Denot) (b o : ℕ) (hv : Val) (rb ro : ℕ) where
  -- what a block owns beside the thing, and the memory of the block itself
  abbrev Rest : Fml
  Rest = fsep (fsep (token thing_box.al it.alloc (bare (τ thing_box)) (block_ptr b o)) (handle thing_box it.alloc hv))
      (cell_at full_share Block.mir (word thing_box hv b o ∷ []) rb ro)

  -- a thing at the block's address and the rest make a block that leads to this thing
  back : it.at ≡ block_ptr b o → (y : Thing.Denot)
      → ent 𝓤 (sep 𝓤 (sem 𝓛 ((mem Thing).own_at y b o)) (sem 𝓛 Rest))
      (sem 𝓛 ((mem Block).own_at (leading_to it y) rb ro))
  unfolding part_of
  back is_block y =
      qed 𝓛 (‵ (part_at (R thing_box) full_share y b o) ∷ ‵ Rest ∷ []) ∵ move ! (1 ∷ []) $ fsplit ! $ fsplit ! $
      move ! (3 ∷ []) $ box_in thing_box ! (boxed it y) b o y is_block refl $
      use1 𝓛 (‵ (Block.own_val (leading_to it y) (word thing_box hv b o ∷ []))) (id⊢ 𝓤 _) $
      move ! (1 ∷ 0 ∷ []) $ fjoin ! $
      fpack ! (List Val) (λ us. fsep (cell_at full_share Block.mir us rb ro) (Block.own_val (leading_to it y) us))
      (word thing_box hv b o ∷ []) $ done !

module _ {M : Type 1} {𝓤 : Ura M} (𝓛 : Logic 𝓤) (heap : Memory → SProp 𝓤) (run : Routine → Fun 𝓤)
    (𝓣 : Tables 𝓤 𝓛.H) where
  open 𝓛 use {H}

  -- the ghost values z, but with the machine values of the reference in them
  abbrev at : (walk_of 𝓛 f.ended stayed (f.clauses 𝓛 heap run)).Ghost
      → (walk_of 𝓛 f.ended stayed (f.clauses 𝓛 heap run)).Ghost
  at z = ((z.0.0, z.0.1, z.0.2, z.0.3, (mut_vals z.0.3.0, tt)), z.1)

  -- if what the clauses require holds before the body, what they ensure holds after it
  walk : (z : (walk_of 𝓛 f.ended stayed (f.clauses 𝓛 heap run)).Ghost)
      → ent 𝓤 ((walk_of 𝓛 f.ended stayed (f.clauses 𝓛 heap run)).pre (at z))
      (WpFn 𝓤 H 𝓣.C 𝓣.Λ code.function (mut_vals z.0.3.0)
      ((walk_of 𝓛 f.ended stayed (f.clauses 𝓛 heap run)).post (at z)))
  walk z =
      let y = at z in
      let end = (walk_of 𝓛 f.ended stayed (f.clauses 𝓛 heap run)).post y in
      let κ = z.0.0.0 in let q = z.0.1.0 in let self = z.0.3.0 in let it = self.now in
      let rb = self.ref_ptr.0 in let ro = self.ref_ptr.1 in let γ = self.ghost_name in
      let c = Block.coded.code it in
      qed 𝓛 (((‵ (flft κ q) ⊛ ‵ ftrue) ⊛ ‵ (owns (MutRef (named 0) κ Block ∷ []) (self, tt) (vptr rb ro ∷ [], tt)))
      ∷ raw (fact 𝓤 (IsSome it.thing)) ∷ []) ∵
      move ! (1 ∷ []) $ heard ! _ (λ some_there. let found = the_some it.thing some_there in let x = found.0 in
      enter ! 𝓣.C 𝓣.Λ code.function (vptr rb ro ∷ []) _ $ alloc_all ! (λ ls. pass_all ! refl ((tt, tt), tt) $
      let En : Env 𝓤 H = env code.function.locals ls in
      split ! $ split ! $ move ! (2 ∷ []) $ fsplit ! $ fsplit3 ! $ drop ! $ move ! (0 ∷ 1 ∷ 3 ∷ []) $
      opens ! tt Block {h = it} rb ro (λ vs. move ! (1 ∷ []) $
      rewrite ! 0 (λ (t : Option Thing.Denot). ‵ (Block.own_val (record it { thing = t }) vs)) found.1 refl $
      use1 𝓛 (‵ ((B thing_box).own_val (boxed it x) vs)) (id⊢ 𝓤 _) $
      box_out thing_box ! (boxed it x) vs (λ b o hv is_block is_word fits.
      -- held now, in order: the thing, the right to free it, the allocator, the block's memory, the borrow, its ghosts
      move ! (1 ∷ 2 ∷ []) $ fjoin ! $ move ! (1 ∷ []) $
      rewrite ! 2 (λ (us : List Val). ‵ (cell_at full_share Block.mir us rb ro)) is_word refl $
      first ! $ blocks ! $
      sets ! (of_opd ! (load ! (through ! refl (fld ! refl (stop !)))
      (look_in ! 2 (sub ! 0 refl (whole !))))) refl (tt, tt) $
      sets ! (of_opd ! (get ! refl)) refl (tt, tt) $
      sets_last ! (addr ! (through ! refl (stop !))) refl (tt, tt) $
      exec ! 𝓣.C 𝓣.Λ En code.Mir.t-2 (at_ret En end) $
      sets ! (of_opd ! (get ! refl)) refl (tt, tt) $
      move ! (1 ∷ 2 ∷ []) $ fjoin ! $ move ! (2 ∷ 3 ∷ 4 ∷ 1 ∷ 0 ∷ []) $ group ! 5 $
      let rest = sem 𝓛 (Rest 𝓛 it b o hv rb ro) in let home = back 𝓛 it b o hv rb ro is_block in
      use1 𝓛 (later (some (λ (γ' : GName).
      raw (Part 𝓛 Block Thing (leading_to it) (named 0) κ q rb ro b o γ rest home x γ'))))
      (lends_Part 𝓛 Block Thing (leading_to it) (named 0) κ q rb ro b o γ rest home c c x) $
      await ! tt $ pick ! (λ γ'.
      let lent : (MutRef (named 0) κ Thing).Denot = record { ref_ptr = (b, o); ghost_name = γ'; now = x } in
      returns ! (look_at ! 0 refl) $ free_all ! refl $ keep ! (0 ∷ []) $
      use1 𝓛 (‵ ((MutRef (named 0) κ Thing).own_val lent (vptr b o ∷ [])) ⊛ ‵ (flft κ q)
      ⊛ ‵ (follows Block Thing γ γ' (leading_to it))) (id⊢ 𝓤 _) $
      split ! $ move ! (1 ∷ []) $ split ! $ move ! (2 ∷ 0 ∷ 1 ∷ []) $
      suffices ! _ (ends_at 𝓛 f.ended stayed (f.clauses 𝓛 heap run) y (vptr b o) lent (tt, tt) (tt, tt)) $
      nothing ! $ nothing ! $ fjoin ! $ join ! $ nothing ! $ move ! (2 ∷ 0 ∷ []) $ join ! $ join ! $
      frame ! $ says ! found.1 $ done !)))))

-- so the compiled function keeps its contract
pub lend_spec : {M : Type 1} → statement M
unfolding tables_of
lend_spec 𝓤 𝓛 𝓜 𝓡 wired =
    let 𝓣 : Tables 𝓤 𝓛.H = tables_of 𝓤 𝓛.H 𝓜 (tables 𝓤 𝓛.H 𝓜 𝓡 𝓡.env) in
    let c = f.clauses 𝓛 𝓜.mem 𝓡.returns in
    entered 𝓤 𝓛.H (triple_of 𝓛 f.signature (f.spec 𝓛 𝓜.mem 𝓡.returns)) 𝓣.C 𝓣.Λ f_name code.function
    (code.unfolded 𝓤 𝓛.H 𝓜 𝓡 wired)
    (walk_Meets 𝓛 f.ended stayed (Goes-spent_ref 𝓛 1 (0 ∷ []) tt (plain (λ _. Block)), tt) c
    (WpFn 𝓤 𝓛.H 𝓣.C 𝓣.Λ code.function) (WpFn-mono 𝓤 𝓛.H 𝓛.laws 𝓣 code.function)
    (walked 𝓛 f.ended stayed c (WpFn 𝓤 𝓛.H 𝓣.C 𝓣.Λ code.function) (λ κs. (mut_vals, tt))
    (λ κs. (mut_Tells (named 0) κs.0 Block, tt))
    (λ κs qs bounds a g are. walk 𝓛 𝓜.mem 𝓡.returns 𝓣 ((κs, qs, bounds, a, (mut_vals a.0, tt)), g))))
