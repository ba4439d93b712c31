-- One more access of a consumer: which claims have ended after it, and as which notes say.
use Rattle.std.proofs.Common.{◌≡◌, ◌↔◌, ◌⊎◌, ℕ, ◌∷◌, refl, sym, ◌∙◌, ap, subst, inl, inr}
use Rattle.std.proofs.lemmas.Bool.{cases_eq, ne_eqb}
use Rattle.mb_claim.specs.declared.access.Stage.TheVariants as stage
use Rattle.mb_cells.proofs.Names.{is_same_process-refl}
use Rattle.mb_world.specs.declared.report.Note.{Note}
use Rattle.mb_world.specs.declared.report.Note.TheVariants.{Took, Lost, Undecided}
use Rattle.mb_world.specs.Imports.{Claims, Has, History, IsClaimPrefix, Item, Load, ObjectTurn, PoolAccess, Reader, Stage, Word, claim_part, load, part}
use Rattle.mb_world.specs.Fitting.{EndsAs, HasRead, parts_of}
use Rattle.mb_world.specs.World.{ToCells, WorldHistory, claim_accesses, histories_of, pool_accesses}
use Rattle.mb_world.specs.ConsumerPath.{claim_access, claim_step}
use Rattle.mb_world.proofs.Claimed.{part-another, part-elsewhere}

module _ (cs : Claims) where
  -- after a history, the claim of consumer d on cell j has ended as the note says
  abbrev pub Ends : WorldHistory → ℕ → ℕ → Note → Type 0
  Ends h d j n = EndsAs cs d j n (parts_of d (histories_of h))

  -- in a history, consumer d loaded the value v from the item of cell j
  abbrev pub HasItem : WorldHistory → ℕ → ℕ → ℕ → Type 0
  HasItem h d j v = HasRead (Item j) v (part (Reader d) (pool_accesses h))

  module _ (c : ℕ) (h : WorldHistory) where
    -- ---- how a load changes the ends of claims
    module _ (w : Word) (v : ℕ) where
      -- the history with a load
      abbrev loaded : WorldHistory
      loaded = ToCells (load c w v) ∷ h

      -- the loads of consumer c are those before and this one
      own_loads : part (Reader c) (pool_accesses loaded) ≡ load c w v ∷ part (Reader c) (pool_accesses h)
      own_loads = rw (is_same_process-refl (Reader c)) refl

      -- the loads of other consumers stay as they are
      other_loads : (d : ℕ) → (d ≡ c → ⊥) → part (Reader d) (pool_accesses loaded) ≡ part (Reader d) (pool_accesses h)
      other_loads d other = rw (ne_eqb d c other) refl

      -- a load of an item in the longer history is an older one, or this one
      pub item_loads : (d j u : ℕ) → HasItem loaded d j u → HasItem h d j u ⊎ ((d ≡ c) × (w ≡ Item j) × (v ≡ u))
      item_loads d j u read = by (cases_eq d c)
        where
          -- if one of these loads found u in the item of cell j, an older one did, or it is this load
          newest : (a : PoolAccess) → Has (load c w v ∷ part (Reader c) (pool_accesses h)) a → a.word ≡ Item j
              → a.act ≡ Load u → HasItem h c j u ⊎ ((w ≡ Item j) × (v ≡ u))
          newest a (inl e) is_word is_act =
              let value : Load v ≡ Load u = ap (λ (x : PoolAccess). x.act) e ∙ is_act in
              inr (ap (λ (x : PoolAccess). x.word) e ∙ is_word, cc)
          newest a (inr has) is_word is_act = inl (a, has, is_word, is_act)

          by : (d ≡ c) ⊎ (d ≡ c → ⊥) → HasItem h d j u ⊎ ((d ≡ c) × (w ≡ Item j) × (v ≡ u))
          by (inl own) =
              let mine : HasRead (Item j) u (load c w v ∷ part (Reader c) (pool_accesses h)) =
              subst (λ (l : History). HasRead (Item j) u l) own_loads
              (subst (λ (i : ℕ). HasItem loaded i j u) own read) in
              elim (newest mine.0 mine.1 mine.2 mine.3) [
                | inl older ↦ inl (subst (λ (i : ℕ). HasItem h i j u) (sym own) older)
                | inr new ↦ inr (own, new.0, new.1)
              ]
          by (inr other) = inl (subst (λ (l : History). HasRead (Item j) u l) (other_loads d other) read)

      -- a value that was loaded from an item before is loaded in the longer history, too
      pub more_loads : (d j u : ℕ) → HasItem h d j u → HasItem loaded d j u
      more_loads d j u read = by (cases_eq d c)
        where
          by : (d ≡ c) ⊎ (d ≡ c → ⊥) → HasItem loaded d j u
          by (inl own) =
              let mine : HasItem h c j u = subst (λ (i : ℕ). HasItem h i j u) own read in
              subst (λ (i : ℕ). HasItem loaded i j u) (sym own)
              (subst (λ (l : History). HasRead (Item j) u l) (sym own_loads) (mine.0, inr mine.1, mine.2, mine.3))
          by (inr other) = subst (λ (l : History). HasRead (Item j) u l) (sym (other_loads d other)) read

      -- if word w is the item of cell j, this is a load of that item
      pub this_load : (j : ℕ) → w ≡ Item j → HasItem loaded c j v
      this_load j is =
          subst (λ (l : History). HasRead (Item j) v l) (sym own_loads) (load c w v, inl refl, is, refl)

      -- a load changes the end of no claim but the consumer's own on the cell whose item it loads
      pub load_keeps : (d j : ℕ) (n : Note) → (d ≡ c → w ≡ Item j → ⊥) → Ends h d j n ↔ Ends loaded d j n
      load_keeps d j (Took u) other = (
        λ e. (e.0, more_loads d j u e.1),
        λ e. (e.0, elim (item_loads d j u e.1) [ inl older ↦ older | inr new ↦ absurd (other new.0 new.1) ]),
      )
      load_keeps d j (Lost u) other = ((λ e. e), (λ e. e))
      load_keeps d j Undecided other = ((λ e. e), (λ e. e))

    -- ---- how a step of a claim on cell k changes the ends of claims
    module _ (k : ℕ) (x : ObjectTurn) where
      -- the history with a step
      abbrev stepped : WorldHistory
      stepped = claim_step c k x ∷ h

      -- the steps of other consumers, and those of c on other cells, stay as they are
      other_part : (d j : ℕ) → (d ≡ c → j ≡ k → ⊥)
          → claim_part d j (claim_accesses stepped) ≡ claim_part d j (claim_accesses h)
      other_part d j other = by (cases_eq c d)
        where
          by : (c ≡ d) ⊎ (c ≡ d → ⊥)
              → claim_part d j (claim_accesses stepped) ≡ claim_part d j (claim_accesses h)
          by (inl own) = part-elsewhere d j (claim_access c k x) (claim_accesses h) (λ e. other (sym own) (sym e))
          by (inr ne) = part-another d j (claim_access c k x) (claim_accesses h) ne

      -- a step leaves the ends of other claims as they were
      pub step_keeps : (d j : ℕ) (n : Note) → (d ≡ c → j ≡ k → ⊥) → Ends h d j n ↔ Ends stepped d j n
      step_keeps d j (Took u) other =
          let same = other_part d j other in (
            λ e. (subst (λ xs. IsClaimPrefix cs d xs stage.Won) (sym same) e.0, e.1),
            λ e. (subst (λ xs. IsClaimPrefix cs d xs stage.Won) same e.0, e.1),
          )
      step_keeps d j (Lost u) other =
          let same = other_part d j other in (
            λ e. subst (λ xs. IsClaimPrefix cs d xs (stage.Lost u)) (sym same) e,
            λ e. subst (λ xs. IsClaimPrefix cs d xs (stage.Lost u)) same e,
          )
      step_keeps d j Undecided other =
          let same = other_part d j other in (
            λ e. subst (λ xs. IsClaimPrefix cs d xs stage.Undecided) (sym same) e,
            λ e. subst (λ xs. IsClaimPrefix cs d xs stage.Undecided) same e,
          )

  -- ---- a claim has at most one end
  module _ (d j : ℕ) (h : WorldHistory)
      (one : (s r : Stage) → IsClaimPrefix cs d (claim_part d j (claim_accesses h)) s
      → IsClaimPrefix cs d (claim_part d j (claim_accesses h)) r → s ≡ r) where
    -- no note says how a claim that goes on has ended
    pub going_open : (n : Note) → IsClaimPrefix cs d (claim_part d j (claim_accesses h)) stage.Going → Ends h d j n → ⊥
    going_open (Took v) going e = let f = one stage.Going stage.Won going e.0 in cc
    going_open (Lost w) going e = let f = one stage.Going (stage.Lost w) going e in cc
    going_open Undecided going e = let f = one stage.Going stage.Undecided going e in cc

    -- no note says how a claim that is won has ended, if its consumer has not loaded the item
    pub won_open : (n : Note) → IsClaimPrefix cs d (claim_part d j (claim_accesses h)) stage.Won
        → ((v : ℕ) → HasItem h d j v → ⊥) → Ends h d j n → ⊥
    won_open (Took v) won unread e = unread v e.1
    won_open (Lost w) won unread e = let f = one stage.Won (stage.Lost w) won e in cc
    won_open Undecided won unread e = let f = one stage.Won stage.Undecided won e in cc

    -- if a claim that is lost to w has ended as a note says, the note is `Lost w`
    pub lost_end : (w : ℕ) (n : Note) → IsClaimPrefix cs d (claim_part d j (claim_accesses h)) (stage.Lost w)
        → Ends h d j n → Lost w ≡ n
    lost_end w (Took v) lost e = absurd (let f = one (stage.Lost w) stage.Won lost e.0 in cc)
    lost_end w (Lost u) lost e =
        let f = one (stage.Lost w) (stage.Lost u) lost e in
        let same : w ≡ u = cc in ap Lost same
    lost_end w Undecided lost e = absurd (let f = one (stage.Lost w) stage.Undecided lost e in cc)

    -- if an undecided claim has ended as a note says, the note is `Undecided`
    pub undecided_end : (n : Note) → IsClaimPrefix cs d (claim_part d j (claim_accesses h)) stage.Undecided
        → Ends h d j n → Undecided ≡ n
    undecided_end (Took v) still e = absurd (let f = one stage.Undecided stage.Won still e.0 in cc)
    undecided_end (Lost u) still e = absurd (let f = one stage.Undecided (stage.Lost u) still e in cc)
    undecided_end Undecided still e = refl

    -- if a claim is won, only v was loaded from its item, and it has ended as a note says, the note is `Took v`
    pub won_end : (v : ℕ) (n : Note) → IsClaimPrefix cs d (claim_part d j (claim_accesses h)) stage.Won
        → ((u : ℕ) → HasItem h d j u → v ≡ u) → Ends h d j n → Took v ≡ n
    won_end v (Took u) won only e = ap Took (only u e.1)
    won_end v (Lost w) won only e = absurd (let f = one stage.Won (stage.Lost w) won e in cc)
    won_end v Undecided won only e = absurd (let f = one stage.Won stage.Undecided won e in cc)
