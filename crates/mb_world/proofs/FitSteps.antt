-- The two parts of a consumer still fit after one more access that it may make.
use Rattle.std.proofs.Common.{◌≡◌, ◌≢◌, ℕ, cond, List, [], ◌∷◌, refl, sym, ◌∙◌, ap, subst, inl, inr}
use Rattle.std.proofs.lemmas.Bool.{cases_eq, ne_eqb}
use Rattle.mb_claim.specs.declared.access.Stage.TheVariants as stage
use Rattle.mb_world.specs.Imports.{Claims, Gave, IsClaimPrefix, Item, Link, ObjectTurn, PoolAccess, Stage, load, place_past}
use Rattle.mb_world.specs.Fitting.{Fits, HasRead, HasStageIn, Parts, cells_met}
use Rattle.mb_world.specs.PartSteps.{HasNotPassed, IsDoneWith, MayLookPast, no_parts, with_load, with_step}
use Rattle.mb_world.proofs.Tracks.{past_item, read-cases, read-more}

-- the parts of a consumer that has done nothing fit
pub fits_empty : (cs : Claims) (c : ℕ) → Fits cs c no_parts
fits_empty cs c = record {
  follows = tt;
  met = λ k some. absurd (some refl);
  ended = λ k v r. absurd r.1;
  taken = λ k v r won. absurd r.1;
  won = λ k v r. absurd r.1;
}

module _ (cs : Claims) (c : ℕ) (x : Parts) (f : Fits cs c x) where
  -- if the claim on a cell goes on, its consumer has loaded neither the item nor the link of the cell
  pub not_passed : (k : ℕ) → ((s : Stage) → HasStageIn cs c k s x → s ≡ stage.Going) → HasNotPassed k x
  not_passed k goes = (
    λ v r. let e = goes stage.Won (f.won k v r) in cc,
    λ v r. let e = f.ended k v r in e.2 (goes e.0 e.1),
  )

  -- ---- the parts fit after a load of a link
  module _ (q p v : ℕ) (may : MayLookPast cs c (cells_met p x.reads) x) where
    -- the load of the link past the cells met
    abbrev a : PoolAccess
    a = load q (place_past p (cells_met p x.reads)) v

    -- if the consumer may load the link of cell k, it is done with the cell
    done_with : (k : ℕ) (ks : List ℕ) → MayLookPast cs c ks x → place_past p ks ≡ Link k → IsDoneWith cs c k x
    done_with k [] m e = absurd (cc)
    done_with k (j ∷ ks) m e = let same : j ≡ k = cc in subst (λ i. IsDoneWith cs c i x) same m

    -- with this load, too, the claim on each cell whose link was loaded has ended
    ended : (k u : ℕ) → HasRead (Link k) u (a ∷ x.reads) → (s : Stage) × HasStageIn cs c k s x × (s ≢ stage.Going)
    ended k u r = elim (read-cases a x.reads (Link k) u r) [
      | inl e ↦ (done_with k (cells_met p x.reads) may e).ended
      | inr old ↦ f.ended k u old
    ]

    -- with this load, too, if a cell's link was loaded and the claim there is won, its item was loaded
    taken : (k u : ℕ) → HasRead (Link k) u (a ∷ x.reads) → HasStageIn cs c k stage.Won x
        → (y : ℕ) × HasRead (Item k) y (a ∷ x.reads)
    taken k u r won =
        let item : (y : ℕ) × HasRead (Item k) y x.reads = elim (read-cases a x.reads (Link k) u r) [
          | inl e ↦ (done_with k (cells_met p x.reads) may e).taken won
          | inr old ↦ f.taken k u old won
        ] in
        (item.0, read-more a x.reads (Item k) item.0 item.1)

    -- the parts fit with the load of the link
    pub fits_past : Fits cs c (with_load a x)
    fits_past = record {
      follows = ((λ _. (p, refl)), f.follows);
      met = λ k some. inr (f.met k some);
      ended = ended;
      taken = taken;
      won = λ k u r. elim (read-cases a x.reads (Item k) u r) [
        | inl e ↦ absurd (past_item p k (cells_met p x.reads) e)
        | inr old ↦ f.won k u old
      ];
    }

  -- ---- the parts fit after a load of an item
  module _ (q k v : ℕ) (here : HasStageIn cs c k stage.Won x) where
    -- the load of the item
    abbrev b : PoolAccess
    b = load q (Item k) v

    -- the parts fit with the load of the item
    pub fits_taken : Fits cs c (with_load b x)
    fits_taken = record {
      follows = ((λ link. absurd link), f.follows);
      met = λ j some. inr (f.met j some);
      ended = λ j u r. elim (read-cases b x.reads (Link j) u r) [ inl e ↦ absurd (cc) | inr old ↦ f.ended j u old ];
      taken = λ j u r won. elim (read-cases b x.reads (Link j) u r) [
        | inl e ↦ absurd (cc)
        | inr old ↦ let item = f.taken j u old won in (item.0, read-more b x.reads (Item j) item.0 item.1)
      ];
      won = λ j u r. elim (read-cases b x.reads (Item j) u r) [
        | inl e ↦ let same : k ≡ j = cc in subst (λ i. HasStageIn cs c i stage.Won x) same here
        | inr old ↦ f.won j u old
      ];
    }

  -- ---- the parts fit after a step of a claim
  module _ (k : ℕ) (t : ObjectTurn) (gave : Gave k x.reads) (here : HasNotPassed k x) where
    -- the parts with the step
    abbrev now : Parts
    now = with_step k t x

    -- the steps on other cells stay as they are
    other_cell : (j : ℕ) → (j ≡ k → ⊥) → now.claimed j ≡ x.claimed j
    other_cell j ne = ap (λ b. cond b (t ∷ x.claimed j) (x.claimed j)) (ne_eqb j k ne)

    -- the link of cell k was not loaded
    not_here : (j u : ℕ) → HasRead (Link j) u x.reads → j ≡ k → ⊥
    not_here j u r e = here.1 u (subst (λ i. HasRead (Link i) u x.reads) e r)

    -- the item of cell k was not loaded
    not_taken : (j u : ℕ) → HasRead (Item j) u x.reads → j ≡ k → ⊥
    not_taken j u r e = here.0 u (subst (λ i. HasRead (Item i) u x.reads) e r)

    -- a claim on another cell has the same stage as before
    there : (j : ℕ) (r : Stage) → (j ≡ k → ⊥) → HasStageIn cs c j r x → HasStageIn cs c j r now
    there j r ne q = subst (λ xs. IsClaimPrefix cs c xs r) (sym (other_cell j ne)) q

    -- a claim on another cell has no other stage than before
    back : (j : ℕ) (r : Stage) → (j ≡ k → ⊥) → HasStageIn cs c j r now → HasStageIn cs c j r x
    back j r ne q = subst (λ xs. IsClaimPrefix cs c xs r) (other_cell j ne) q

    -- the parts fit with the step
    pub fits_stepped : Fits cs c now
    fits_stepped = record {
      follows = f.follows;
      met = λ j some. elim (cases_eq j k) [
        | inl e ↦ subst (λ i. Gave i x.reads) (sym e) gave
        | inr ne ↦ f.met j (λ none. some (other_cell j ne ∙ none))
      ];
      ended = λ j u r.
          let e = f.ended j u r in (e.0, there j e.0 (not_here j u r) e.1, e.2);
      taken = λ j u r won. f.taken j u r (back j stage.Won (not_here j u r) won);
      won = λ j u r. there j stage.Won (not_taken j u r) (f.won j u r);
    }
