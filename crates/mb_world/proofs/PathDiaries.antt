-- What a consumer's path on a lane tells of its diary there.
use Rattle.std.proofs.Common.{◌≡◌, ◌≢◌, ◌⊎◌, ℕ, suc, ◌<◌, true, List, [], ◌∷◌, length, Option, Some, None, refl, sym, ◌∙◌, ap, subst, inl, inr, arith}
use Rattle.std.specs.Prelude.{reverse, slice_get}
use Rattle.std.proofs.lemmas.List.{length-reverse}
use Rattle.mb_claim.specs.declared.access.Stage.TheVariants as stage
use Rattle.mb_world.specs.declared.report.Note.{Note}
use Rattle.mb_world.specs.declared.report.Note.TheVariants.{Took, Lost, Undecided}
use Rattle.mb_world.specs.Imports.{Claims, Gave, Has, History, IsClaimPrefix, IsGift, IsOnceEach, ObjectTurn, PoolAccess, Stage, claim_part}
use Rattle.mb_world.specs.World.{WorldHistory, claim_accesses}
use Rattle.mb_world.specs.ConsumerPath.{has_begun, note_of}
use Rattle.mb_world.proofs.Positions.{HasPosition, at_within, get-snoc}
use Rattle.mb_world.proofs.Tracks.{AreEnds, EndsIn, Tracks, ends_some}
use mathlib.Core.List.{reverse-cons}

-- ---- ends of claims along cells, and what was given
-- if `AreEnds` holds of cells and notes, there are as many notes as cells
pub ends_length : (E : ℕ → Note → Type 0) (ks : List ℕ) (ns : List Note) → AreEnds E ks ns → length ns ≡ length ks
ends_length E [] [] h = refl
ends_length E [] (n ∷ ns) h = absurd h
ends_length E (k ∷ ks) [] h = absurd h
ends_length E (k ∷ ks) (n ∷ ns) h = ap suc (ends_length E ks ns h.1)

-- if `AreEnds` holds, so does E of the note at position j and the cell at position j, both counted from the oldest
pub ends_at : (E : ℕ → Note → Type 0) (ks : List ℕ) (ns : List Note) (j : ℕ) (n : Note) → AreEnds E ks ns
    → slice_get (reverse ns) j ≡ Some n → (k : ℕ) × HasPosition ks j k × E k n
ends_at E [] [] j n h e = absurd (cc)
ends_at E [] (m ∷ ns) j n h e = absurd h
ends_at E (k ∷ ks) [] j n h e = absurd h
ends_at E (k ∷ ks) (m ∷ ns) j n h e =
    by (get-snoc (reverse ns) m j n (subst (λ (ys : List Note). slice_get ys j ≡ Some n) (reverse-cons m ns) e))
    (λ g. ends_at E ks ns j n h.1 g)
  where
    by : (slice_get (reverse ns) j ≡ Some n) ⊎ ((j ≡ length (reverse ns)) × (m ≡ n))
        → (slice_get (reverse ns) j ≡ Some n → (k : ℕ) × HasPosition ks j k × E k n) → (i : ℕ)
        × HasPosition (k ∷ ks) j i × E i n
    by (inl g) older = let q = older g in (q.0, inr q.1, q.2)
    by (inr g) older = (k, inl (g.0 ∙ (length-reverse ns ∙ ends_length E ks ns h.1), refl), subst (E k) g.1 h.0)

-- if these accesses gave a cell, one of them gave it
pub gave-some : (d : History) (k : ℕ) → Gave k d → (a : PoolAccess) × Has d a × IsGift k a.word a.act
gave-some [] k g = absurd g
gave-some (a ∷ d) k (inl g) = (a, inl refl, g)
gave-some (a ∷ d) k (inr g) = let q = gave-some d k g in (q.0, inr q.1, q.2)

-- ---- what the notes and the claim held at a place say
module _ (cs : Claims) (c : ℕ)
    (one_stage : (c : ℕ) (xs : List ObjectTurn) (s r : Stage) → IsClaimPrefix cs c xs s → IsClaimPrefix cs c xs r
    → s ≡ r) where
  -- no note says how a claim that is held has ended
  open_end : (done : WorldHistory) (k : ℕ) (qs : List ℕ) (ns : List Note) (xs : List ObjectTurn) → IsOnceEach (k ∷ qs)
      → Tracks cs c done (k ∷ qs) ns (Some xs) → (n : Note) → EndsIn cs c done k n → ⊥
  open_end done k qs ns xs once y n e = by y.is_open.0 y.is_open.1 y.is_open.2 n e
    where
      -- the stage of the claim by the path is its stage by the steps made
      same : (s r : Stage) → IsClaimPrefix cs c xs s → IsClaimPrefix cs c (claim_part c k (claim_accesses done)) r
          → s ≡ r
      same s r q w = one_stage c xs s r q (subst (λ zs. IsClaimPrefix cs c zs r) y.is_held w)

      by : (s : Stage) → IsClaimPrefix cs c xs s → note_of s ≡ None → (m : Note) → EndsIn cs c done k m → ⊥
      by stage.Going q still (Took v) w = let d = same stage.Going stage.Won q w.0 in cc
      by stage.Going q still (Lost u) w = let d = same stage.Going (stage.Lost u) q w in cc
      by stage.Going q still Undecided w = let d = same stage.Going stage.Undecided q w in cc
      by stage.Won q still (Took v) w = once.0 (y.items k v w.1)
      by stage.Won q still (Lost u) w = let d = same stage.Won (stage.Lost u) q w in cc
      by stage.Won q still Undecided w = let d = same stage.Won stage.Undecided q w in cc
      by (stage.Lost u) q still m w = cc
      by stage.Undecided q still m w = cc

  -- a claim on a cell met that has ended as a note says has its note
  pub noted_within : (done : WorldHistory) (ks : List ℕ) (ns : List Note) (held : Option (List ObjectTurn))
      → IsOnceEach ks → Tracks cs c done ks ns held
      → (j k : ℕ) (n : Note) → HasPosition ks j k → EndsIn cs c done k n → j < length ns
  noted_within done ks ns None once y j k n at e =
      omega (arith, at_within ks j k at, ends_length (EndsIn cs c done) ks ns y.ended)
  noted_within done [] ns (Some xs) once y j k n at e = absurd at
  noted_within done (q ∷ qs) ns (Some xs) once y j k n (inl at) e =
      absurd (open_end done q qs ns xs once y n (subst (λ i. EndsIn cs c done i n) (sym at.1) e))
  noted_within done (q ∷ qs) ns (Some xs) once y j k n (inr at) e =
      omega (arith, at_within qs j k at, ends_length (EndsIn cs c done) qs ns y.ended)

  -- cell k is one of these, consumer c has made steps of its claim there, and no note says how the claim has ended
  abbrev pub IsOpenAt : WorldHistory → List ℕ → ℕ → Type 0
  IsOpenAt done ks k = Has ks k × (claim_part c k (claim_accesses done) ≢ []) × ((n : Note) → EndsIn cs c done k n → ⊥)

  -- if the claim that is held is begun, `IsOpenAt` holds of some cell
  pub begun_open : (done : WorldHistory) (ks : List ℕ) (ns : List Note) (held : Option (List ObjectTurn))
      → IsOnceEach ks → Tracks cs c done ks ns held
      → has_begun held ≡ true → (k : ℕ) × IsOpenAt done ks k
  begun_open done ks ns None once y b = absurd (cc)
  begun_open done [] ns (Some xs) once y b = absurd y.is_held
  begun_open done (q ∷ qs) ns (Some []) once y b = absurd (cc)
  begun_open done (q ∷ qs) ns (Some (x ∷ xs)) once y b =
      (q, (inl refl, (λ e. let d : x ∷ xs ≡ [] = sym y.is_held ∙ e in cc), open_end done q qs ns (x ∷ xs) once y))

  -- if `IsOpenAt` holds of some cell, a claim is held there and is begun
  pub open_begun : (done : WorldHistory) (ks : List ℕ) (ns : List Note) (held : Option (List ObjectTurn))
      → Tracks cs c done ks ns held
      → (k : ℕ) → IsOpenAt done ks k → has_begun held ≡ true
  open_begun done ks ns None y k z =
      let e = ends_some (EndsIn cs c done) ks ns k y.ended z.0 in absurd (z.2 e.0 e.1)
  open_begun done [] ns (Some xs) y k z = absurd z.0
  open_begun done (q ∷ qs) ns (Some xs) y k z = by z.0
    where
      -- a claim with an access is begun
      begun : (zs : List ObjectTurn) → claim_part c q (claim_accesses done) ≡ zs → q ≡ k → has_begun (Some zs) ≡ true
      begun [] e same = absurd (z.1 (subst (λ i. claim_part c i (claim_accesses done) ≡ []) same e))
      begun (x ∷ zs) e same = refl

      by : Has (q ∷ qs) k → has_begun (Some xs) ≡ true
      by (inl same) = begun xs y.is_held same
      by (inr has) = let e = ends_some (EndsIn cs c done) qs ns k y.ended has in absurd (z.2 e.0 e.1)
