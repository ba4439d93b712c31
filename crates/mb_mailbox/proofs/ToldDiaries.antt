-- A consumer's place on a lane, and its notes there, determine its diary.
use Rattle.std.proofs.Common.{◌≡◌, ◌≢◌, ◌↔◌, ℕ, ◌<◌, true, List, [], ◌∷◌, length, refl, sym, ap, ◌∙◌, subst, inl, inr, ⊎_elim}
use Rattle.std.specs.Prelude.{Some, None, reverse, slice_get}
use Rattle.std.proofs.lemmas.Bool.{false≢true}
use Rattle.std.proofs.lemmas.List.{length-reverse, reverse-reverse}
use Rattle.mb_claim.specs.declared.access.Stage.TheVariants as stage
use Rattle.mb_world.specs.Fitting.{parts_of as parts_in}
use Rattle.mb_world.specs.Plan.{Histories, Plan}
use Rattle.mb_world.specs.Reporting.{HasMetAll, IsDiaryOf}
use Rattle.mb_mailbox.specs.Imports.{Claim, Claims, EndsAs, Has, IsClaimIn, IsClaimPrefix, Layout, Lost, Note, ObjectTurn, Parts, Stage, Took, Undecided}
use Rattle.mb_mailbox.specs.Imports.{cells_met, claim_stage, consumer_of, is_begun, note_of}
use Rattle.mb_mailbox.specs.Consumers.{AreEnds, ConsumerIsAt, StandsOn}
use Rattle.mb_world.specs.Places.{has_begun_at}
use Rattle.mb_world.specs.declared.place.Place.{Place}
use Rattle.mb_world.specs.declared.place.Place.TheVariants.{At, Before}
use Rattle.mb_mailbox.proofs.Standings.{same_length}
use Rattle.mb_mailbox.proofs.Turned.{FromEnd, at_end, end_within, from_end}

module _ (cs : Claims) (c : ℕ) (x : Parts) where
  -- the note at place j from the end says how the claim on the cell at place j from the end has ended
  note_end : (ks : List ℕ) (ns : List Note) (j : ℕ) (n : Note) → AreEnds cs c ks ns x → FromEnd ns j n
      → (k : ℕ) × FromEnd ks j k × EndsAs cs c k n x
  note_end [] [] j n e at = absurd at
  note_end [] (m ∷ ns) j n e at = absurd e
  note_end (k ∷ ks) [] j n e at = absurd at
  note_end (k ∷ ks) (m ∷ ns) j n e (inl at) =
      (k, inl (at.0 ∙ same_length cs c ks ns x e.1, refl), subst (λ z. EndsAs cs c k z x) at.1 e.0)
  note_end (k ∷ ks) (m ∷ ns) j n e (inr at) = let t = note_end ks ns j n e.1 at in (t.0, inr t.1, t.2)

  -- the claim on each of these cells has ended with some note
  has_end : (ks : List ℕ) (ns : List Note) (k : ℕ) → AreEnds cs c ks ns x → Has ks k → (n : Note) × EndsAs cs c k n x
  has_end [] ns k e has = absurd has
  has_end (j ∷ ks) [] k e has = absurd e
  has_end (j ∷ ks) (n ∷ ns) k e (inl is) = (n, subst (λ i. EndsAs cs c i n x) is e.0)
  has_end (j ∷ ks) (n ∷ ns) k e (inr has) = has_end ks ns k e.1 has

  -- in the order of time and from 0 on, note j says how the claim on the j-th cell met has ended
  noted : (ks : List ℕ) (notes : List Note) (j : ℕ) (n : Note) → AreEnds cs c ks (reverse notes) x
      → slice_get notes j ≡ Some n
      → (k : ℕ) × FromEnd ks j k × EndsAs cs c k n x
  noted ks notes j n e at =
      note_end ks (reverse notes) j n e
      (from_end (reverse notes) j n (subst (λ (l : List Note). slice_get l j ≡ Some n)
      (sym (reverse-reverse notes)) at))

  -- if there is a j-th cell met, there is a j-th note
  short : (ks : List ℕ) (notes : List Note) (j k : ℕ) → AreEnds cs c ks (reverse notes) x
      → FromEnd ks j k → j < length notes
  short ks notes j k e at =
      subst (λ n. j < n) (sym (same_length cs c ks (reverse notes) x e) ∙ length-reverse notes) (end_within ks j k at)

  -- a claim that the consumer holds has not ended with any note
  held_open : (layout : Layout) (p : ℕ) (notes : List Note) (k : ℕ) (claim : Claim) (n : Note)
      → ((xs : List ObjectTurn) (s r : Stage) → IsClaimPrefix cs c xs s → IsClaimPrefix cs c xs r → s ≡ r)
      → ((xs : List ObjectTurn) → IsClaimIn layout claim xs → consumer_of claim ≡ c
      → IsClaimPrefix cs c xs (claim_stage claim))
      → ConsumerIsAt layout cs c p x notes k claim → EndsAs cs c k n x → ⊥
  held_open layout p notes k claim (Took v) one path o e = o.left.0 v e.1
  held_open layout p notes k claim (Lost w) one path o e =
      let s = one (x.claimed k) (claim_stage claim) (stage.Lost w) (path (x.claimed k) o.path o.own) e in
      let f : Some (Lost w) ≡ None = sym (ap note_of s) ∙ o.unnoted in
      absurd (cc)
  held_open layout p notes k claim Undecided one path o e =
      let s = one (x.claimed k) (claim_stage claim) stage.Undecided (path (x.claimed k) o.path o.own) e in
      let f : Some Undecided ≡ None = sym (ap note_of s) ∙ o.unnoted in
      absurd (cc)

-- by the histories, a consumer's diary on a lane has its notes there, and says whether the claim at its place is begun
pub diary_is : (plan : Plan) (layout : Layout) (c p : ℕ) (hs : Histories) (notes : List Note) (place : Place)
    → ((xs : List ObjectTurn) (s r : Stage) → IsClaimPrefix plan.claims c xs s
    → IsClaimPrefix plan.claims c xs r → s ≡ r)
    → ((claim : Claim) (xs : List ObjectTurn) → IsClaimIn layout claim xs → consumer_of claim ≡ c
    → IsClaimPrefix plan.claims c xs (claim_stage claim))
    → HasMetAll (hs.reader_of c) p (cells_met p (parts_in c hs).reads) hs.pool
    → StandsOn layout plan.claims c p (parts_in c hs) notes place
    → IsDiaryOf plan c p hs (record { consumer = c; lane = p; notes = notes; begun = has_begun_at place })
diary_is plan layout c p hs notes (Before at) one path met o =
    let cs = plan.claims in
    let x = parts_in c hs in
    let ks = cells_met p x.reads in
    record {
      consumer = refl;
      lane = refl;
      cells = ks;
      met = met;
      notes = λ j n e. let t = noted cs c x ks notes j n o.ended e in (t.0, at_end ks j t.0 t.1, t.2);
      all = λ j k n e end. short cs c x ks notes j k o.ended (from_end ks j k e);
      begun = (
        λ e. absurd (false≢true e),
        λ t. let e = has_end cs c x ks (reverse notes) t.0 o.ended t.1 in absurd (t.3 e.0 e.1),
      );
    }
diary_is plan layout c p hs notes (At k claim) one path met o =
    let cs = plan.claims in
    let x = parts_in c hs in
    let ks = cells_met p x.reads in
    let still = λ (n : Note). held_open cs c x layout p notes k claim n one (path claim) o in
    let begun : (is_begun claim ≡ true) ↔ (x.claimed k ≢ []) = o.path.begun in
    record {
      consumer = refl;
      lane = refl;
      cells = ks;
      met = met;
      notes = λ j n e.
          let t = noted cs c x o.cells notes j n o.ended e in (
            t.0,
            subst (λ (l : List ℕ). slice_get (reverse l) j ≡ Some t.0) (sym o.met)
                (at_end (k ∷ o.cells) j t.0 (inr t.1)),
            t.2,
          );
      all = λ j i n e end.
          ⊎_elim (λ (is : (j ≡ length o.cells) × (k ≡ i)). absurd
          (still n (subst (λ z. EndsAs cs c z n x) (sym is.1) end)))
          (λ (older : FromEnd o.cells j i). short cs c x o.cells notes j i o.ended older)
          (from_end (k ∷ o.cells) j i (subst (λ (l : List ℕ). slice_get (reverse l) j ≡ Some i) o.met e));
      begun = (
        λ e. (k, subst (λ (l : List ℕ). Has l k) (sym o.met) (inl refl), begun.0 e, still),
        λ t. ⊎_elim (λ (is : k ≡ t.0). begun.1 (subst (λ i. x.claimed i ≢ []) (sym is) t.2))
            (λ (has : Has o.cells t.0). let e = has_end cs c x o.cells (reverse notes) t.0 o.ended
            has in absurd (t.3 e.0 e.1))
            (subst (λ (l : List ℕ). Has l t.0) o.met t.1),
      );
    }
