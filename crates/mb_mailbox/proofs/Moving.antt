-- A consumer that stands before a link moves on by a load of that link.
use Rattle.std.proofs.Common.{◌≡◌, ◌≢◌, ◌⊎◌, ℕ, ◌+◌, ◌<◌, List, [], ◌∷◌, reverse, refl, sym, ap, ◌∙◌, subst, inl, ⊎_elim}
use Rattle.std.specs.Prelude.{Some, None, slice_get}
use Rattle.std.proofs.lemmas.Option.{slice_get_within}
use Rattle.mb_world.proofs.Tracks.{past_item, past_link, read-cases, read-more}
use Rattle.mb_claim.specs.declared.access.Stage.TheVariants as stage
use Rattle.mb_mailbox.specs.Imports.{Claim, Claims, Cursor, END, EndsAs, Fits, Gave, Has, IsAccessAfter, IsClaimIn, IsDoneWith, IsOnceEach, Item, Layout}
use Rattle.mb_mailbox.specs.Imports.{Link, Lost, MayLookPast, MayRead, Note, ObjectTurn, Parts, PoolAccess, Took, Undecided, cells_met, claim_stage}
use Rattle.mb_mailbox.specs.Imports.{claims_in, consumer_of, load, note_of, place_past, with_load, word_of}
use Rattle.mb_mailbox.specs.Consumers.{AreEnds, ConsumerView, ConsumerIsAt, ConsumerIsBefore, IsConsumer, parts_of}
use Rattle.mb_mailbox.specs.Moves.{HasLoads, HasPlace, HasTurns, reads_with_link, moved_to}
use Rattle.mb_world.specs.declared.place.Place.{Place}
use Rattle.mb_world.specs.declared.place.Place.TheVariants.{At, Before}
use Rattle.mb_mailbox.specs.Laws.{Laws}
use Rattle.mb_mailbox.proofs.KnownLoads.{Known, fresh, known, past_apart}
use Rattle.mb_mailbox.proofs.Lists.{get_some}
use Rattle.mb_mailbox.proofs.Standings.{Leaves, end_kept, ends_more, moves}

-- `Known` holds of the consumer's loads
pub loads_known : Laws → (s : ConsumerView) → HasLoads s → Known s.reader.table.size s.reader.part
loads_known laws s h = known laws s.reader.table.size s.reader.reader h.0 s.reader.part h.1 h.2

-- if a consumer has a place on a lane, it has a list of notes there
list_there : (s : ConsumerView) (p : ℕ) (place : Place) → (i : IsConsumer s) → slice_get s.places p ≡ Some place
    → (ns : List Note) × (slice_get s.notes p ≡ Some ns)
list_there s p place i e =
    get_some s.notes p (subst (λ n. p < n) (i.places_count ∙ sym i.notes_count) (slice_get_within s.places p place e))

-- if a consumer's place is before a link, `ConsumerIsBefore` holds. If it is at a claim, `holds` gives `ConsumerIsAt`
pub before : (s : ConsumerView) (p : ℕ) (at : Cursor) (i : IsConsumer s) → slice_get s.places p ≡ Some (Before at)
    → (ns : List Note) × (slice_get s.notes p ≡ Some ns)
    × ConsumerIsBefore (claims_in i.size.layout i.size.cells) s.seat.consumer p
    (parts_of s.reader s.seat) ns at
before s p at i e = let l = list_there s p (Before at) i e in (l.0, l.1, i.lanes p (Before at) l.0 e l.1)

pub holds : (s : ConsumerView) (p k : ℕ) (claim : Claim) (i : IsConsumer s) → slice_get s.places p ≡ Some (At k claim)
    → (ns : List Note) × (slice_get s.notes p ≡ Some ns)
    × ConsumerIsAt i.size.layout (claims_in i.size.layout i.size.cells) s.seat.consumer p
    (parts_of s.reader s.seat) ns k claim
holds s p k claim i e = let l = list_there s p (At k claim) i e in (l.0, l.1, i.lanes p (At k claim) l.0 e l.1)

-- ---- before a link
-- the consumer may load the link before which it stands
pub may_look : Laws → (s : ConsumerView) (p : ℕ) (at : Cursor) → IsConsumer s → HasLoads s → HasPlace p (Before at) s
    → MayRead s.reader.table.size.lanes (word_of at) s.reader.part
may_look laws s p at i h e =
    let b = before s p at i e in
    let low : p < s.reader.table.size.lanes =
    subst (λ n. p < n) i.places_count (slice_get_within s.places p (Before at) e) in
    subst (λ w. MayRead s.reader.table.size.lanes w s.reader.part) (sym b.2.word)
    (by (cells_met p s.reader.part) low (λ k has. (loads_known laws s h).given p k has))
  where
    by : (ks : List ℕ) → p < s.reader.table.size.lanes → ((k : ℕ) → Has ks k → Gave k s.reader.part)
        → MayRead s.reader.table.size.lanes (place_past p ks) s.reader.part
    by [] low given = low
    by (k ∷ ks) low given = given k (inl refl)

-- if the claim on a cell has ended, the consumer is done with the cell
done_with : Laws → (layout : Layout) (cells c k : ℕ) (n : Note) (x : Parts) → EndsAs (claims_in layout cells) c k n x
    → IsDoneWith (claims_in layout cells) c k x
done_with laws layout cells c k (Took v) x e = record { ended = (stage.Won, e.0, λ f. cc); taken = λ won. (v, e.1) }
done_with laws layout cells c k (Lost w) x e = record {
  ended = (stage.Lost w, e, λ f. cc);
  taken = λ won. let f : stage.Lost w ≡ stage.Won = laws.one_stage (claims_in layout cells) c
      (x.claimed k) (stage.Lost w) stage.Won (laws.table layout) e won in absurd (cc);
}
done_with laws layout cells c k Undecided x e = record {
  ended = (stage.Undecided, e, λ f. cc);
  taken = λ won. let f : stage.Undecided ≡ stage.Won = laws.one_stage (claims_in layout cells) c
      (x.claimed k) stage.Undecided stage.Won (laws.table layout) e won in absurd (cc);
}

-- if the claims on all these cells have ended, the consumer may load the link past the last of them
pub may_past : Laws → (layout : Layout) (cells c : ℕ) (ks : List ℕ) (ns : List Note) (x : Parts)
    → AreEnds (claims_in layout cells) c ks ns x
    → MayLookPast (claims_in layout cells) c ks x
may_past laws layout cells c [] ns x e = tt
may_past laws layout cells c (k ∷ ks) [] x e = absurd e
may_past laws layout cells c (k ∷ ks) (n ∷ ns) x e = done_with laws layout cells c k n x e.0

module _ (laws : Laws) (s : ConsumerView) (p : ℕ) (at : Cursor) (i : IsConsumer s) (h : HasLoads s)
    (e : HasPlace p (Before at) s) where
  -- cs are the claims of the consumer's table, c is the consumer's number, x has its parts, and ks are the cells that
  -- it met on the lane
  abbrev cs : Claims
  cs = claims_in i.size.layout i.size.cells

  abbrev c : ℕ
  c = s.seat.consumer

  abbrev x : Parts
  x = parts_of s.reader s.seat

  abbrev ks : List ℕ
  ks = cells_met p s.reader.part

  -- a v is the load that finds v, and y v has the parts with it
  abbrev a : ℕ → PoolAccess
  a v = load s.reader.reader (place_past p ks) v

  abbrev y : ℕ → Parts
  y v = with_load (a v) x

  -- the two parts still fit
  fits : (v : ℕ) → Fits cs c (y v)
  fits v = let b = before s p at i e in
      laws.looks cs c s.reader.reader p v x i.fit
      (may_past laws i.size.layout i.size.cells c ks (reverse b.0) x b.2.ended)

  -- on another lane the consumer stands before another link than this one
  elsewhere : (q : ℕ) → q ≢ p → place_past p ks ≡ place_past q (cells_met q s.reader.part) → ⊥
  elsewhere q ne = past_apart p q ks (cells_met q s.reader.part)
      (λ k m n. (loads_known laws s h).apart p q k m n) (λ f. ne (sym f))

  -- on each other lane the load leaves the cells met, the claims and the loads of items as they are
  others : (v q : ℕ) → q ≢ p → Leaves q x (y v)
  others v q ne = record {
    met = laws.elsewhere q (a v) s.reader.part (elsewhere q ne);
    claims = λ k has. refl;
    more = λ k u r. read-more (a v) s.reader.part (Item k) u r;
    left = λ k has l. (
      (λ u r. ⊎_elim (λ t. past_item p k ks t) (λ old. l.0 u old) (read-cases (a v) s.reader.part (Item k) u r)),
      (λ u r. ⊎_elim (λ t. ne ((loads_known laws s h).apart q p k has (past_link p k ks t))) (λ old. l.1 u old)
          (read-cases (a v) s.reader.part (Link k) u r)),
    );
  }

  -- the claims on the cells met have ended with the same notes as before the load
  ends : (v : ℕ) (ns : List Note) → slice_get s.notes p ≡ Some ns → AreEnds cs c ks (reverse ns) (y v)
  ends v ns f =
      ends_more cs c x (y v) ks (reverse ns)
      (λ k n has. end_kept cs c k n x (y v) refl
      (λ u r. read-more (a v) s.reader.part (Item k) u r))
      (i.lanes p (Before at) ns e f).ended

  -- the consumer stands before the link past the cells met
  word : word_of at ≡ place_past p ks
  word = (before s p at i e).2.word

  -- if `IsConsumer` holds after a load of the link past the cells met, it holds after a load at the cursor `at`
  with_word : (v : ℕ) (place : Place) → IsConsumer (moved_to p place None (a v ∷ s.reader.part) s.seat.part s)
      → IsConsumer (moved_to p place None (reads_with_link s at v) s.seat.part s)
  with_word v place done =
      subst (λ w. IsConsumer (moved_to p place None (load s.reader.reader w v ∷ s.reader.part)
      s.seat.part s)) (sym word) done

  -- if the link leads to no cell, the consumer stays where it is, and `IsConsumer` still holds of it
  pub waits : (v : ℕ) → (v ≡ 0) ⊎ (v ≡ END)
      → IsConsumer (moved_to p (Before at) None (reads_with_link s at v) s.seat.part s)
  waits v says =
      let met : cells_met p (a v ∷ s.reader.part) ≡ ks = laws.none s.reader.reader p v s.reader.part says in
      with_word v (Before at)
      (moves s p (Before at) (Before at) None (a v ∷ s.reader.part) s.seat.part i e (fits v)
      (λ ns f. record {
        word = word ∙ ap (place_past p) (sym met);
        ended = subst (λ js. AreEnds cs c js (reverse ns) (y v)) (sym met) (ends v ns f);
      })
      (others v))

  -- if the link leads to a cell, the consumer holds a new claim there, and `IsConsumer` still holds of it
  pub finds : (k : ℕ) (claim : Claim) → k + 1 ≢ END
      → IsAccessAfter s.reader.table.size s.reader.known (load s.reader.reader (word_of at) (k + 1)) s.reader.part
      → consumer_of claim ≡ c → claim_stage claim ≡ stage.Going → HasTurns s claim []
      → IsConsumer (moved_to p (At k claim) None (reads_with_link s at (k + 1)) s.seat.part s)
  finds k claim real comes own going turns =
      let v = k + 1 in
      let met : cells_met p (a v ∷ s.reader.part) ≡ k ∷ ks = laws.cell s.reader.reader p k s.reader.part real in
      let after : IsAccessAfter s.reader.table.size s.reader.known (a v) s.reader.part =
      subst (λ w. IsAccessAfter s.reader.table.size s.reader.known (load s.reader.reader w v)
      s.reader.part) word comes in
      let new = fresh laws s.reader.table.size s.reader.reader p k after.older s.reader.part
      i.fit.follows real after.lawful after.own in
      let once : IsOnceEach (k ∷ ks) = subst IsOnceEach met (new.1.once p) in
      let none : x.claimed k ≡ [] = no_turns (x.claimed k) (λ some. new.0 (i.fit.met k some)) in
      with_word v (At k claim)
      (moves s p (Before at) (At k claim) None (a v ∷ s.reader.part) s.seat.part i e (fits v)
      (λ ns f. record {
        cells = ks;
        met = met;
        ended = ends v ns f;
        own = own;
        path = subst (IsClaimIn i.size.layout claim) (sym none) (turns i.size i.table);
        unnoted = ap note_of going;
        left = (
          (λ u r. ⊎_elim (λ t. past_item p k ks t)
              (λ old. new.0 ((loads_known laws s h).item k u old))
              (read-cases (a v) s.reader.part (Item k) u r)),
          (λ u r. ⊎_elim (λ t. once.0 (past_link p k ks t))
              (λ old. new.0 ((loads_known laws s h).link k u old))
              (read-cases (a v) s.reader.part (Link k) u r)),
        );
      })
      (others v))
    where
      no_turns : (xs : List ObjectTurn) → (xs ≢ [] → ⊥) → xs ≡ []
      no_turns [] never = refl
      no_turns (t ∷ ts) never = absurd (never (λ f. cc))
