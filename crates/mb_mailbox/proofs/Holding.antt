-- A consumer that holds a claim: what holds of that claim, and of the consumer after one access more.
use Rattle.std.proofs.Common.{◌≡◌, ◌≢◌, ℕ, ◌<◌, ◌≤◌, List, [], ◌∷◌, ◌++◌, length, reverse, cond, refl, sym, ap, ◌∙◌, subst, inl, ⊎_elim, arith, Some, None, nat_eq, slice_get, sum_by}
use Rattle.std.proofs.lemmas.Bool.{cases_eq, ne_eqb, eq-eqb}
use Rattle.std.proofs.lemmas.List.{length-reverse, reverse-append}
use Rattle.std.proofs.lemmas.Option.{slice_get_within}
use Rattle.mb_world.proofs.Tracks.{past_item, read-cases, read-more}
use Rattle.mb_claim.specs.declared.access.ClaimOp.{ClaimOp}
use Rattle.mb_claim.specs.declared.access.Stage.TheVariants as stage
use Rattle.mb_cells.specs.declared.cursor.Cursor.TheVariants.{Past}
use Rattle.mb_mailbox.specs.Imports.{Claim, ClaimAccess, Claims, EndsAs, Fits, Gave, Has, HasStageIn, IsClaimIn, IsClaimPrefix, IsOnceEach, Item, Link, Lost, Note, ObjectTurn, Parts, PoolAccess}
use Rattle.mb_mailbox.specs.Imports.{Stage, TableSize, Took, Undecided, access_of, cells_met, claim_stage, claims_in, consumer_of, load, note_of, part_on, place_past, with_load}
use Rattle.mb_mailbox.specs.ConsumerWords.{AreEnds, ConsumerView, ConsumerIsAt, ConsumerIsBefore, IsConsumer, StandsOn, parts_of, HasLoads, HasPlace, HasTurns, reads_with_item, moved_to, Laws}
use Rattle.mb_world.specs.Vocabulary.{place_after}
use Rattle.mb_world.specs.declared.place.Place.{Place}
use Rattle.mb_world.specs.declared.place.Place.TheVariants.{At, Before}
use Rattle.mb_mailbox.proofs.KnownLoads.{Known}
use Rattle.mb_mailbox.proofs.Lists.{get_some, some_same}
use Rattle.mb_mailbox.proofs.Moving.{holds, loads_known}
use Rattle.mb_mailbox.proofs.Standings.{Leaves, end_kept, ends_more, moves, same_length, with_one}
use Rattle.mb_mailbox.proofs.Totals.{sum_less, total}

-- a note added at the end of a list comes first in the reversed list
snoc_back : (ns : List Note) (n : Note) → reverse (ns ++ n ∷ []) ≡ n ∷ reverse ns
snoc_back ns n = reverse-append ns (n ∷ [])

-- a stage without a note that is not `Won` is `Going`
pub goes_on : (st : Stage) → note_of st ≡ None → st ≢ stage.Won → st ≡ stage.Going
goes_on stage.Going e ne = refl
goes_on stage.Won e ne = absurd (ne refl)
goes_on (stage.Lost w) e ne = absurd (cc)
goes_on stage.Undecided e ne = absurd (cc)

module _ (s : ConsumerView) (p k : ℕ) (claim : Claim) (i : IsConsumer s) (e : HasPlace p (At k claim) s) where
  -- cs are the claims of the consumer's table, c is the consumer's number, and x has its parts
  abbrev cs : Claims
  cs = claims_in i.size.layout i.size.cells

  abbrev c : ℕ
  c = s.seat.consumer

  abbrev x : Parts
  x = parts_of s.reader s.seat

  -- the claim is the consumer's own
  pub own_claim : consumer_of claim ≡ c
  own_claim = (holds s p k claim i e).2.own

  -- the claim has made the turns of the consumer's part on the cell
  pub turns_made : HasTurns s claim (part_on c k s.seat.part)
  turns_made = λ size is. let same : i.size ≡ size = some_same i.size size (sym i.table ∙ is) in
      subst (λ (z : TableSize). IsClaimIn z.layout claim (part_on c k s.seat.part)) same (holds s p k claim i e).2.path

  -- if the claim is not won, it goes on
  pub stage_held : claim_stage claim ≢ stage.Won → claim_stage claim ≡ stage.Going
  stage_held ne = goes_on (claim_stage claim) (holds s p k claim i e).2.unnoted ne

  -- the consumer met the cell on lane p
  has_here : Has (cells_met p s.reader.part) k
  has_here = subst (λ ks. Has ks k) (sym (holds s p k claim i e).2.met) (inl refl)

  module _ (laws : Laws) (h : HasLoads s) where
    -- `Known` holds of the consumer's loads
    abbrev known : Known s.reader.table.size s.reader.part
    known = loads_known laws s h

    -- one of the consumer's loads found the cell
    pub given : Gave k s.reader.part
    given = known.given p k has_here

    -- the cell is one of the pool
    pub within : k < s.reader.table.size.cells
    within = known.within p k has_here

    -- on each lane the consumer has at most as many notes as it met cells
    noted : (q : ℕ) (ns : List Note) → slice_get s.notes q ≡ Some ns → length ns ≤ length (cells_met q s.reader.part)
    noted q ns f = by t.0 (i.lanes q t.0 ns t.1 f)
      where
        t : (place : Place) × (slice_get s.places q ≡ Some place)
        t = get_some s.places q (subst (λ n. q < n) (i.notes_count ∙ sym i.places_count)
            (slice_get_within s.notes q ns f))

        turned : length (reverse ns) ≡ length ns
        turned = length-reverse ns

        by : (place : Place) → StandsOn i.size.layout cs c q x ns place → length ns ≤ length (cells_met q s.reader.part)
        by (Before at) b = let same = same_length cs c (cells_met q s.reader.part) (reverse ns) x
            b.ended in omega (arith, same, turned)
        by (At j held) a =
            let same = same_length cs c a.cells (reverse ns) x a.ended in
            let long : length (cells_met q s.reader.part) ≡ length (j ∷ a.cells) = ap length a.met in
            omega (arith, same, long, turned)

    -- on lane p the consumer has fewer notes than it met cells
    noted_here : (ns : List Note) → slice_get s.notes p ≡ Some ns → length ns < length (cells_met p s.reader.part)
    noted_here ns f =
        let o : ConsumerIsAt i.size.layout cs c p x ns k claim = i.lanes p (At k claim) ns e f in
        let long : length (cells_met p s.reader.part) ≡ length (k ∷ o.cells) = ap length o.met in
        let same = same_length cs c o.cells (reverse ns) x o.ended in
        let turned : length (reverse ns) ≡ length ns = length-reverse ns in
        omega (arith, long, same, turned)

    -- all lanes together have fewer notes than the pool has cells
    pub room : sum_by length s.notes < s.reader.table.size.cells
    room =
        let low : p < length s.notes = subst (λ n. p < n) (i.places_count ∙ sym i.notes_count)
        (slice_get_within s.places p (At k claim) e) in
        let less = sum_less length (λ q. length (cells_met q s.reader.part)) s.notes p low noted noted_here in
        let share = known.share in
        let same : total (λ q. length (cells_met q s.reader.part)) (length s.notes)
        ≡ total (λ q. length (cells_met q s.reader.part)) s.reader.table.size.lanes =
        ap (total (λ q. length (cells_met q s.reader.part))) i.notes_count in
        omega (arith, less, share, same)

    -- the cells that the consumer met before on lane p are other cells than k
    before_else : (ns : List Note) (o : ConsumerIsAt i.size.layout cs c p x ns k claim) (j : ℕ)
        → Has o.cells j → j ≡ k → ⊥
    before_else ns o j has f =
        let once : IsOnceEach (k ∷ o.cells) = subst IsOnceEach o.met (known.once p) in
        once.0 (subst (Has o.cells) f has)

    -- ---- an access of the claim
    module _ (word seen : ℕ) (now : Claim) (next : ClaimOp) (own_now : consumer_of now ≡ c)
        (turns_now : HasTurns s now (part_on c k (access_of c k next seen word ∷ s.seat.part))) where
      -- a is the access, `made` the consumer's part with it, and y has the two parts then
      abbrev a : ClaimAccess
      a = access_of c k next seen word

      abbrev made : List ClaimAccess
      made = a ∷ s.seat.part

      abbrev y : Parts
      y = record { reads = s.reader.part; claimed = λ j. part_on c j made }

      -- the part on each other cell is as it was
      else : (j : ℕ) → (j ≡ k → ⊥) → part_on c j made ≡ part_on c j s.seat.part
      else j ne = laws.other_cells c j a s.seat.part (λ u v. ne (sym v))

      -- on each cell j, the part before, with the access added if j is k, is the part after the access
      stepped : (j : ℕ) → cond (nat_eq j k) (a.step ∷ x.claimed j) (x.claimed j) ≡ part_on c j made
      stepped j = ⊎_elim
          (λ (same : j ≡ k).
          ap (λ b. cond b (a.step ∷ x.claimed j) (x.claimed j)) (eq-eqb j k same)
          ∙ subst (λ (z : ℕ). a.step ∷ part_on c z s.seat.part ≡ part_on c z made) (sym same)
          (sym (laws.own_cell a s.seat.part)))
          (λ (ne : j ≡ k → ⊥).
          ap (λ b. cond b (a.step ∷ x.claimed j) (x.claimed j)) (ne_eqb j k ne) ∙ sym (else j ne))
          (cases_eq j k)

      -- the two parts still fit
      fits : Fits cs c y
      fits =
          subst (λ (f : ℕ → List ObjectTurn). Fits cs c (record {
            reads = s.reader.part;
            claimed = f;
          })) (λ z j. stepped j z)
          (laws.claims cs c k a.step x i.fit given (holds s p k claim i e).2.left)

      -- on each other lane the access leaves the cells met, the claims and the loads of items as they are
      others : (q : ℕ) → q ≢ p → Leaves q x y
      others q ne = record {
        met = refl;
        claims = λ j has. sym (else j (λ f. ne
            (known.apart q p k (subst (Has (cells_met q s.reader.part)) f has) has_here)));
        more = λ j u r. r;
        left = λ j has l. l;
      }

      -- the claims on the cells met before this one have ended with the same notes as before the access
      ends : (ns : List Note) (o : ConsumerIsAt i.size.layout cs c p x ns k claim) → AreEnds cs c o.cells (reverse ns) y
      ends ns o = ends_more cs c x y o.cells (reverse ns)
          (λ j n has. end_kept cs c j n x y (sym (else j (before_else ns o j has))) (λ u r. r)) o.ended

      -- after the access the claim has made the turns of the consumer's part on the cell
      path : IsClaimIn i.size.layout now (y.claimed k)
      path = turns_now i.size i.table

      -- after the access the consumer's part on the cell has the stage that the claim says
      prefix : HasStageIn cs c k (claim_stage now) y
      prefix = subst (λ d. IsClaimPrefix cs d (y.claimed k) (claim_stage now)) own_now path.prefix

      -- after the access the consumer stands at the place to which the claim's stage leads, and has its note, if any
      stands : (st : Stage) → claim_stage now ≡ st → (ns : List Note) → slice_get s.notes p ≡ Some ns
          → StandsOn i.size.layout cs c p y (with_one (note_of st) ns) (place_after k now st)
      stands stage.Going is ns f = held ns f (ap note_of is)
        where
          held : (ns : List Note) → slice_get s.notes p ≡ Some ns → note_of (claim_stage now) ≡ None
              → ConsumerIsAt i.size.layout cs c p y ns k now
          held ns f none = let o : ConsumerIsAt i.size.layout cs c p x ns k claim = i.lanes p (At k claim) ns e f in
              record {
                cells = o.cells;
                met = o.met;
                ended = ends ns o;
                own = own_now;
                path = path;
                unnoted = none;
                left = o.left;
              }
      stands stage.Won is ns f = held ns f (ap note_of is)
        where
          held : (ns : List Note) → slice_get s.notes p ≡ Some ns → note_of (claim_stage now) ≡ None
              → ConsumerIsAt i.size.layout cs c p y ns k now
          held ns f none = let o : ConsumerIsAt i.size.layout cs c p x ns k claim = i.lanes p (At k claim) ns e f in
              record {
                cells = o.cells;
                met = o.met;
                ended = ends ns o;
                own = own_now;
                path = path;
                unnoted = none;
                left = o.left;
              }
      stands (stage.Lost w) is ns f = passed (Lost w) ns f
          (subst (λ z. EndsAs cs c k (Lost w) y) is (subst (λ z. HasStageIn cs c k z y) is prefix))
        where
          passed : (n : Note) (ns : List Note) → slice_get s.notes p ≡ Some ns → EndsAs cs c k n y
              → ConsumerIsBefore cs c p y (ns ++ n ∷ []) (Past k)
          passed n ns f end = let o : ConsumerIsAt i.size.layout cs c p x ns k claim = i.lanes p (At k claim) ns e f in
              record {
                word = ap (place_past p) (sym o.met);
                ended = subst (λ (z : List ℕ × List Note). AreEnds cs c z.0 z.1 y)
                    (λ j. (sym o.met j, sym (snoc_back ns n) j)) (end, ends ns o);
              }
      stands stage.Undecided is ns f = passed Undecided ns f (subst (λ z. HasStageIn cs c k z y) is prefix)
        where
          passed : (n : Note) (ns : List Note) → slice_get s.notes p ≡ Some ns → EndsAs cs c k n y
              → ConsumerIsBefore cs c p y (ns ++ n ∷ []) (Past k)
          passed n ns f end = let o : ConsumerIsAt i.size.layout cs c p x ns k claim = i.lanes p (At k claim) ns e f in
              record {
                word = ap (place_past p) (sym o.met);
                ended = subst (λ (z : List ℕ × List Note). AreEnds cs c z.0 z.1 y)
                    (λ j. (sym o.met j, sym (snoc_back ns n) j)) (end, ends ns o);
              }

      -- after the access `IsConsumer` still holds of the consumer
      pub competes : IsConsumer (moved_to p (place_after k now (claim_stage now))
          (note_of (claim_stage now)) s.reader.part made s)
      competes = moves s p (At k claim) (place_after k now (claim_stage now))
          (note_of (claim_stage now)) s.reader.part made i e fits
          (stands (claim_stage now) refl) others

    -- ---- the load of the item
    module _ (v : ℕ) (won : claim_stage claim ≡ stage.Won) where
      -- b is the load, and z has the two parts with it
      abbrev b : PoolAccess
      b = load s.reader.reader (Item k) v

      abbrev z : Parts
      z = with_load b x

      -- the consumer's claim on the cell is won
      has_won : HasStageIn cs c k stage.Won x
      has_won =
          let o = (holds s p k claim i e).2 in
          subst (λ st. IsClaimPrefix cs c (x.claimed k) st) won
          (subst (λ d. IsClaimPrefix cs d (x.claimed k) (claim_stage claim)) o.own o.path.prefix)

      -- the word of the item is not the link before which the consumer stands on a lane
      no_link : (q : ℕ) → Item k ≢ place_past q (cells_met q s.reader.part)
      no_link q f = past_item q k (cells_met q s.reader.part) (sym f)

      -- if the item words of two cells are equal, so are the cells
      same_item : (j : ℕ) → Item k ≡ Item j → k ≡ j
      same_item j f = cc

      -- on each other lane the load leaves the cells met, the claims and the loads of items as they are
      left_else : (q : ℕ) → q ≢ p → Leaves q x z
      left_else q ne = record {
        met = laws.elsewhere q b s.reader.part (no_link q);
        claims = λ j has. refl;
        more = λ j u r. read-more b s.reader.part (Item j) u r;
        left = λ j has l. (
          (λ u r. ⊎_elim (λ t. ne (known.apart q p k
              (subst (Has (cells_met q s.reader.part)) (sym (same_item j t)) has) has_here))
              (λ old. l.0 u old)
              (read-cases b s.reader.part (Item j) u r)),
          (λ u r. ⊎_elim (λ t. let f : Item k ≡ Link j = t in cc) (λ old. l.1 u old)
              (read-cases b s.reader.part (Link j) u r)),
        );
      }

      -- after the load the consumer stands past the cell, with a note there, and `IsConsumer` still holds of it
      pub takes : IsConsumer (moved_to p (Before (Past k)) (Some (Took v)) (reads_with_item s k v) s.seat.part s)
      takes =
          let same : cells_met p (b ∷ s.reader.part)
          ≡ cells_met p s.reader.part = laws.elsewhere p b s.reader.part (no_link p) in
          moves s p (At k claim) (Before (Past k)) (Some (Took v)) (b ∷ s.reader.part) s.seat.part i e
          (laws.takes cs c s.reader.reader k v x i.fit has_won)
          (λ ns f.
          let o : ConsumerIsAt i.size.layout cs c p x ns k claim = i.lanes p (At k claim) ns e f in
          let met : cells_met p (b ∷ s.reader.part) ≡ k ∷ o.cells = same ∙ o.met in
          let before : AreEnds cs c o.cells (reverse ns) z = ends_more cs c x z o.cells (reverse ns)
          (λ j n has. end_kept cs c j n x z refl (λ u r. read-more b s.reader.part (Item j) u r)) o.ended in
          record {
            word = ap (place_past p) (sym met);
            ended = subst (λ (t : List ℕ × List Note). AreEnds cs c t.0 t.1 z)
                (λ j. (sym met j, sym (snoc_back ns (Took v)) j))
                ((has_won, (b, inl refl, refl, refl)), before);
          })
          left_else
