-- A consumer's places and notes after an access, on the lane of the access and on the others.
use Rattle.std.proofs.Common.{◌≡◌, ◌≢◌, ℕ, ◌<◌, List, [], ◌∷◌, ◌++◌, length, reverse, refl, sym, ap, ◌∙◌, subst, inl, inr, ⊎_elim, arith}
use Rattle.std.specs.Prelude.{Option, Some, None, slice_get}
use Rattle.std.specs.Option.{option_map_or}
use Rattle.std.proofs.lemmas.Option.{slice_get_within}
use Rattle.std.proofs.lemmas.List.{length-set}
use Rattle.mb_claim.specs.declared.access.Stage.TheVariants as stage
use Rattle.mb_mailbox.specs.Imports.{ClaimAccess, Claims, EndsAs, Fits, HasNotPassed, HasRead, Has, History, IsClaimIn, IsClaimPrefix, Item}
use Rattle.mb_mailbox.specs.Imports.{Layout, Lost, Note, Parts, Took, Undecided, cells_met, claims_in, part_on, place_past}
use Rattle.mb_mailbox.specs.Consumers.{AreEnds, ConsumerView, IsConsumer, StandsOn, parts_of}
use Rattle.mb_mailbox.specs.Moves.{moved_to}
use Rattle.mb_mailbox.specs.Steps.{notes_on, with_note}
use Rattle.mb_world.specs.declared.place.Place.{Place}
use Rattle.mb_world.specs.declared.place.Place.TheVariants.{At, Before}
use Rattle.mb_mailbox.proofs.Lists.{get_some, set_get, some_same}

-- ---- claims that have ended with notes
-- if each claim on these cells that ended with a note by x ended with that note by y, `AreEnds` of x gives it of y
pub ends_more : (cs : Claims) (c : ℕ) (x y : Parts) (ks : List ℕ) (ns : List Note)
    → ((k : ℕ) (n : Note) → Has ks k → EndsAs cs c k n x → EndsAs cs c k n y) → AreEnds cs c ks ns x
    → AreEnds cs c ks ns y
ends_more cs c x y [] [] more e = tt
ends_more cs c x y [] (n ∷ ns) more e = absurd e
ends_more cs c x y (k ∷ ks) [] more e = absurd e
ends_more cs c x y (k ∷ ks) (n ∷ ns) more e =
    (more k n (inl refl) e.0, ends_more cs c x y ks ns (λ j m has. more j m (inr has)) e.1)

-- a claim that ended with a note by x ended with it by y, if its steps are the same and y has x's loads of its item
pub end_kept : (cs : Claims) (c k : ℕ) (n : Note) (x y : Parts) → x.claimed k ≡ y.claimed k
    → ((v : ℕ) → HasRead (Item k) v x.reads → HasRead (Item k) v y.reads) → EndsAs cs c k n x → EndsAs cs c k n y
end_kept cs c k (Took v) x y same more e = (subst (λ xs. IsClaimPrefix cs c xs stage.Won) same e.0, more v e.1)
end_kept cs c k (Lost w) x y same more e = subst (λ xs. IsClaimPrefix cs c xs (stage.Lost w)) same e
end_kept cs c k Undecided x y same more e = subst (λ xs. IsClaimPrefix cs c xs stage.Undecided) same e

-- if claims on cells have ended with notes, there are as many notes as cells
pub same_length : (cs : Claims) (c : ℕ) (ks : List ℕ) (ns : List Note) (x : Parts)
    → AreEnds cs c ks ns x → length ns ≡ length ks
same_length cs c [] [] x e = refl
same_length cs c [] (n ∷ ns) x e = absurd e
same_length cs c (k ∷ ks) [] x e = absurd e
same_length cs c (k ∷ ks) (n ∷ ns) x e = omega (arith, same_length cs c ks ns x e.1)

-- ---- lanes on which nothing changes
-- y keeps of lane q what x has: the cells met, their claims, and which are not passed. It has x's loads of items, too
pub record Leaves (q : ℕ) (x y : Parts) : Type 0 where
  pub met : cells_met q y.reads ≡ cells_met q x.reads
  pub claims : (k : ℕ) → Has (cells_met q x.reads) k → x.claimed k ≡ y.claimed k
  pub more : (k v : ℕ) → HasRead (Item k) v x.reads → HasRead (Item k) v y.reads
  pub left : (k : ℕ) → Has (cells_met q x.reads) k → HasNotPassed k x → HasNotPassed k y

-- if y leaves of lane q what x has (`Leaves`), the consumer stands there by the parts y as it does by x
pub stands_still : (layout : Layout) (cs : Claims) (c q : ℕ) (x y : Parts) (notes : List Note)
    (place : Place) → Leaves q x y
    → StandsOn layout cs c q x notes place → StandsOn layout cs c q y notes place
stands_still layout cs c q x y notes (Before at) l o = record {
  word = o.word ∙ ap (place_past q) (sym l.met);
  ended = subst (λ ks. AreEnds cs c ks (reverse notes) y) (sym l.met)
      (ends_more cs c x y (cells_met q x.reads) (reverse notes)
      (λ k n has. end_kept cs c k n x y (l.claims k has) (l.more k)) o.ended);
}
stands_still layout cs c q x y notes (At k claim) l o =
    let has : (j : ℕ) → Has (k ∷ o.cells) j → Has (cells_met q x.reads) j = λ j h.
    subst (λ ks. Has ks j) (sym o.met) h in
    record {
      cells = o.cells;
      met = l.met ∙ o.met;
      ended = ends_more cs c x y o.cells (reverse notes)
          (λ j n h. end_kept cs c j n x y (l.claims j (has j (inr h))) (l.more j)) o.ended;
      own = o.own;
      path = subst (IsClaimIn layout claim) (l.claims k (has k (inl refl))) o.path;
      unnoted = o.unnoted;
      left = l.left k (has k (inl refl)) o.left;
    }

-- ---- the consumer after an access
-- these notes, with one more at the end if there is a note to add
abbrev pub with_one : Option Note → List Note → List Note
with_one None notes = notes
with_one (Some n) notes = notes ++ n ∷ []

-- to add a note, or none, leaves the number of lists as it is
count_with : (p : ℕ) (o : Option Note) (lists : List (List Note)) → length (with_note p o lists) ≡ length lists
count_with p None lists = refl
count_with p (Some n) lists = length-set lists p (notes_on p lists ++ n ∷ [])

-- after a note is added on lane p, if there is one, the list of lane p has it at its end
list_with : (p : ℕ) (o : Option Note) (lists : List (List Note)) (ns ms : List Note) → slice_get lists p ≡ Some ns
    → slice_get (with_note p o lists) p ≡ Some ms → with_one o ns ≡ ms
list_with p None lists ns ms e f = some_same ns ms (sym e ∙ f)
list_with p (Some n) lists ns ms e f =
    let on : notes_on p lists ≡ ns = ap (λ (z : Option (List Note)). option_map_or (λ (l : List Note). l) z []) e in
    ⊎_elim (λ t. ap (λ l. l ++ n ∷ []) (sym on) ∙ t.1) (λ t. absurd (t.0 refl))
    (set_get lists p p (notes_on p lists ++ n ∷ []) ms f)

-- after a note is added on lane p, the list of another lane is as before
list_else : (p q : ℕ) (o : Option Note) (lists : List (List Note)) (ms : List Note) → q ≢ p
    → slice_get (with_note p o lists) q ≡ Some ms → slice_get lists q ≡ Some ms
list_else p q None lists ms ne f = f
list_else p q (Some n) lists ms ne f =
    ⊎_elim (λ t. absurd (ne t.0)) (λ t. t.1) (set_get lists p q (notes_on p lists ++ n ∷ []) ms f)

-- `IsConsumer` still holds after an access on lane p if the parts fit, the consumer stands on lane p as they say, and
-- the access changes nothing on the other lanes
pub moves : (s : ConsumerView) (p : ℕ) (was place : Place) (o : Option Note) (reads : History)
    (made : List ClaimAccess) (i : IsConsumer s)
    → slice_get s.places p ≡ Some was
    → let cs = claims_in i.size.layout i.size.cells in
    let c = s.seat.consumer in
    let x = parts_of s.reader s.seat in
    let y : Parts = record { reads = reads; claimed = λ k. part_on c k made } in
    Fits cs c y
    → ((ns : List Note) → slice_get s.notes p ≡ Some ns → StandsOn i.size.layout cs c p y (with_one o ns) place)
    → ((q : ℕ) → q ≢ p → Leaves q x y)
    → IsConsumer (moved_to p place o reads made s)
moves s p was place o reads made i at fit own others =
    let cs = claims_in i.size.layout i.size.cells in
    let c = s.seat.consumer in
    let x = parts_of s.reader s.seat in
    let y : Parts = record { reads = reads; claimed = λ k. part_on c k made } in
    record {
      size = i.size;
      table = i.table;
      same = i.same;
      fit = fit;
      places_count = length-set s.places p place ∙ i.places_count;
      notes_count = count_with p o s.notes ∙ i.notes_count;
      lanes = λ q other ns e f.
          ⊎_elim
          (λ (t : (q ≡ p) × (place ≡ other)).
          let low : p < length s.notes = subst (λ n. p < n) (i.places_count ∙ sym i.notes_count)
          (slice_get_within s.places p was at) in
          let list = get_some s.notes p low in
          let is : with_one o list.0 ≡ ns = list_with p o s.notes list.0 ns list.1
          (subst (λ (z : ℕ). slice_get (with_note p o s.notes) z ≡ Some ns) t.0 f) in
          subst (λ (z : ℕ × (List Note × Place)). StandsOn i.size.layout cs c z.0 y z.1.0 z.1.1)
          (λ j. (sym t.0 j, (is j, t.1 j))) (own list.0 list.1))
          (λ (t : (q ≢ p) × (slice_get s.places q ≡ Some other)).
          stands_still i.size.layout cs c q x y ns other (others q t.0)
          (i.lanes q other ns t.1 (list_else p q o s.notes ns t.0 f)))
          (set_get s.places p q place other e);
    }
