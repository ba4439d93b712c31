-- What the cells, notes and claim to which a consumer's path on a lane leads tell of all that it did there.
use Rattle.std.proofs.Common.{◌≡◌, ◌≢◌, ◌⊎◌, ℕ, ◌+◌, List, [], ◌∷◌, Option, Some, None, refl, sym, ◌∙◌, ap, subst, inl, inr}
use Rattle.std.proofs.lemmas.Bool.{cases_eq}
use Rattle.mb_claim.specs.declared.access.Stage.TheVariants as stage
use Rattle.mb_world.specs.declared.report.Note.{Note}
use Rattle.mb_world.specs.declared.report.Note.TheVariants.{Took, Lost, Undecided}
use Rattle.mb_world.specs.Imports.{Claims, Gave, Has, History, IsClaimPrefix, IsGift, IsOnceEach, Item, Link, Load, ObjectTurn, PoolAccess, Stage, Word, claim_part, load, place_past}
use Rattle.mb_world.specs.Fitting.{EndsAs, HasRead, Parts}
use Rattle.mb_world.specs.World.{ToCells, WorldHistory, claim_accesses, pool_accesses}
use Rattle.mb_world.specs.ConsumerPath.{ConsumerPath, begins, ends, finds, goes, note_of, claim_access, claim_step, takes, waits}
use Rattle.mb_world.proofs.Claimed.{part-elsewhere, part-own}
use Rattle.mb_world.proofs.Loads.{gift_past}

-- what consumer c did on one lane (`done`), as its two parts: its loads of cells, and its steps of claims
abbrev pub local : ℕ → WorldHistory → Parts
local c done = record { reads = pool_accesses done; claimed = λ k. claim_part c k (claim_accesses done) }

-- the claim of consumer c on cell k has ended as the note says, by what c did on one lane
abbrev pub EndsIn : Claims → ℕ → WorldHistory → ℕ → Note → Type 0
EndsIn cs c done k n = EndsAs cs c k n (local c done)

-- the cells met whose claims have notes: all cells met, or all but the last if a claim is held
abbrev pub closed : List ℕ → Option (List ObjectTurn) → List ℕ
closed ks None = ks
closed [] (Some xs) = []
closed (k ∷ ks) (Some xs) = ks

-- if a claim is held, some cell was met, and the steps of the claim are all that consumer c made on the last one met
abbrev pub IsHeld : ℕ → WorldHistory → List ℕ → Option (List ObjectTurn) → Type 0
IsHeld c done ks None = Unit {0}
IsHeld c done [] (Some xs) = ⊥
IsHeld c done (k ∷ ks) (Some xs) = claim_part c k (claim_accesses done) ≡ xs

-- if a claim is held, it goes on or is won, so it has no note yet
abbrev pub IsOpenHeld : Claims → ℕ → Option (List ObjectTurn) → Type 0
IsOpenHeld cs c None = Unit {0}
IsOpenHeld cs c (Some xs) = (s : Stage) × IsClaimPrefix cs c xs s × (note_of s ≡ None)

-- there is one note for each cell, in the same order, and E holds of each cell with its note
abbrev pub AreEnds : (ℕ → Note → Type 0) → List ℕ → List Note → Type 0
AreEnds E [] [] = Unit {0}
AreEnds E [] (n ∷ ns) = ⊥
AreEnds E (k ∷ ks) [] = ⊥
AreEnds E (k ∷ ks) (n ∷ ns) = E k n × AreEnds E ks ns

-- if E implies F for each of these cells and any note, then `AreEnds` for E implies `AreEnds` for F
pub ends_more : (E F : ℕ → Note → Type 0) (ks : List ℕ) (ns : List Note)
    → ((k : ℕ) (n : Note) → Has ks k → E k n → F k n) → AreEnds E ks ns → AreEnds F ks ns
ends_more E F [] [] more h = tt
ends_more E F [] (n ∷ ns) more h = absurd h
ends_more E F (k ∷ ks) [] more h = absurd h
ends_more E F (k ∷ ks) (n ∷ ns) more h =
    (more k n (inl refl) h.0, ends_more E F ks ns (λ i m has. more i m (inr has)) h.1)

-- each of these cells has a note, and E holds of the cell with this note
pub ends_some : (E : ℕ → Note → Type 0) (ks : List ℕ) (ns : List Note) (k : ℕ) → AreEnds E ks ns → Has ks k
    → (n : Note) × E k n
ends_some E [] ns k h has = absurd has
ends_some E (j ∷ ks) [] k h has = absurd h
ends_some E (j ∷ ks) (n ∷ ns) k h (inl e) = (n, subst (λ i. E i n) e h.0)
ends_some E (j ∷ ks) (n ∷ ns) k h (inr has) = ends_some E ks ns k h.1 has

-- if the older accesses loaded a value from a word, the accesses with one more did, too
pub read-more : (a : PoolAccess) (d : History) (w : Word) (v : ℕ) → HasRead w v d → HasRead w v (a ∷ d)
read-more a d w v h = (h.0, inr h.1, h.2, h.3)

-- if v was loaded from word w, the newest access is to w, or an older one loaded v from w
pub read-cases : (a : PoolAccess) (d : History) (w : Word) (v : ℕ) → HasRead w v (a ∷ d) → (a.word ≡ w) ⊎ HasRead w v d
read-cases a d w v h = by h.1
  where
    by : Has (a ∷ d) h.0 → (a.word ≡ w) ⊎ HasRead w v d
    by (inl e) = inl (ap (λ (x : PoolAccess). x.word) e ∙ h.2)
    by (inr m) = inr (h.0, m, h.2, h.3)

-- the link past these cells, or the lane's head if there are none, is not the word of an item
pub past_item : (p k : ℕ) (ks : List ℕ) → place_past p ks ≡ Item k → ⊥
past_item p k [] e = cc
past_item p k (j ∷ ks) e = cc

-- if the link past these cells is the link of cell k, then k is one of them
pub past_link : (p k : ℕ) (ks : List ℕ) → place_past p ks ≡ Link k → Has ks k
past_link p k [] e = absurd (cc)
past_link p k (j ∷ ks) e = let same : j ≡ k = cc in inl same

-- what the cells, notes and held claim to which a path leads tell of all that the consumer did on the lane
pub record Tracks (cs : Claims) (c : ℕ) (done : WorldHistory) (ks : List ℕ) (ns : List Note)
    (held : Option (List ObjectTurn)) : Type 0 where
  -- the consumer's loads gave it each cell met
  pub given : (k : ℕ) → Has ks k → Gave k (pool_accesses done)
  -- no step was made on a cell that was not met
  pub none : (k : ℕ) → (Has ks k → ⊥) → claim_part c k (claim_accesses done) ≡ []
  pub is_held : IsHeld c done ks held
  pub is_open : IsOpenHeld cs c held
  -- the steps on each cell are a prefix of a claim path
  pub prefix : (k : ℕ) → claim_part c k (claim_accesses done) ≢ []
      → (s : Stage) × IsClaimPrefix cs c (claim_part c k (claim_accesses done)) s
  -- each cell met has a note that says how its claim ended, except the last one if a claim is held there
  pub ended : AreEnds (EndsIn cs c done) (closed ks held) ns
  -- an item was loaded only if the claim there is won
  pub won : (k v : ℕ) → HasRead (Item k) v (pool_accesses done)
      → IsClaimPrefix cs c (claim_part c k (claim_accesses done)) stage.Won
  -- items and links were loaded only of cells whose claims have notes
  pub items : (k v : ℕ) → HasRead (Item k) v (pool_accesses done) → Has (closed ks held) k
  pub links : (k v : ℕ) → HasRead (Link k) v (pool_accesses done) → Has (closed ks held) k

module _ (cs : Claims) (c : ℕ) where
  -- if a claim had ended as note n says, this is still so after one more load
  loaded : (a : PoolAccess) (done : WorldHistory) (k : ℕ) (n : Note) → EndsAs cs c k n (local c done)
      → EndsAs cs c k n (local c (ToCells a ∷ done))
  loaded a done k (Took v) e = (e.0, read-more a (pool_accesses done) (Item k) v e.1)
  loaded a done k (Lost w) e = e
  loaded a done k Undecided e = e

  -- if a claim had ended as note n says, this is still so after a step on another cell
  stepped : (k : ℕ) (x : ObjectTurn) (done : WorldHistory) (j : ℕ) (n : Note) → (k ≡ j → ⊥)
      → EndsAs cs c j n (local c done) → EndsAs cs c j n (local c (claim_step c k x ∷ done))
  stepped k x done j (Took v) ne e = (
    subst (λ xs. IsClaimPrefix cs c xs stage.Won)
        (sym (part-elsewhere c j (claim_access c k x) (claim_accesses done) ne)) e.0,
    e.1,
  )
  stepped k x done j (Lost w) ne e =
      subst (λ xs. IsClaimPrefix cs c xs (stage.Lost w))
      (sym (part-elsewhere c j (claim_access c k x) (claim_accesses done) ne)) e
  stepped k x done j Undecided ne e =
      subst (λ xs. IsClaimPrefix cs c xs stage.Undecided)
      (sym (part-elsewhere c j (claim_access c k x) (claim_accesses done) ne)) e

  -- if a claim has a stage with a note (it is lost or undecided), it has ended as the note says
  noted_end : (k : ℕ) (done : WorldHistory) (s : Stage) (n : Note)
      → IsClaimPrefix cs c (claim_part c k (claim_accesses done)) s → note_of s ≡ Some n
      → EndsAs cs c k n (local c done)
  noted_end k done stage.Going n q e = absurd (cc)
  noted_end k done stage.Won n q e = absurd (cc)
  noted_end k done (stage.Lost w) n q e =
      let same : Lost w ≡ n = cc in subst (EndsIn cs c done k) same q
  noted_end k done stage.Undecided n q e =
      let same : Undecided ≡ n = cc in subst (EndsIn cs c done k) same q

  -- what holds after one more step of the claim that is held on the last cell met
  module _ (k : ℕ) (ks : List ℕ) (ns : List Note) (xs : List ObjectTurn) (x : ObjectTurn) (older : WorldHistory)
      (once : IsOnceEach (k ∷ ks)) (z : Stage)
      (q : IsClaimPrefix cs c (x ∷ xs) z) (y : Tracks cs c older (k ∷ ks) ns (Some xs)) where
    -- what the consumer did on the lane, with the step
    abbrev Now : WorldHistory
    Now = claim_step c k x ∷ older

    -- on cell k the consumer has made the older steps of the held claim, and this one
    step_own : claim_part c k (claim_accesses Now) ≡ x ∷ xs
    step_own = part-own c k (claim_access c k x) (claim_accesses older) refl refl ∙ ap (λ zs. x ∷ zs) y.is_held

    -- on a cell that was not met no step was made
    step_none : (j : ℕ) → (Has (k ∷ ks) j → ⊥) → claim_part c j (claim_accesses Now) ≡ []
    step_none j not_met = part-elsewhere c j (claim_access c k x) (claim_accesses older) (λ e. not_met (inl e))
        ∙ y.none j not_met

    -- the steps on each cell are still a prefix of a claim path
    step_prefix : (j : ℕ) → claim_part c j (claim_accesses Now) ≢ []
        → (s : Stage) × IsClaimPrefix cs c (claim_part c j (claim_accesses Now)) s
    step_prefix j some = by (cases_eq k j)
      where
        by : (k ≡ j) ⊎ (k ≡ j → ⊥) → (s : Stage) × IsClaimPrefix cs c (claim_part c j (claim_accesses Now)) s
        by (inl e) = (
          z,
          subst (λ i. IsClaimPrefix cs c (claim_part c i (claim_accesses Now)) z) e
              (subst (λ zs. IsClaimPrefix cs c zs z) (sym step_own) q),
        )
        by (inr ne) =
            let same = part-elsewhere c j (claim_access c k x) (claim_accesses older) ne in
            let r = y.prefix j (λ e. some (same ∙ e)) in
            (r.0, subst (λ zs. IsClaimPrefix cs c zs r.0) (sym same) r.1)

    -- a cell met before the last one differs from it
    another : (j : ℕ) → Has ks j → k ≡ j → ⊥
    another j has e = once.0 (subst (Has ks) (sym e) has)

    -- if the item of a cell was loaded, the claim there is still won
    step_won : (j v : ℕ) → HasRead (Item j) v (pool_accesses older)
        → IsClaimPrefix cs c (claim_part c j (claim_accesses Now)) stage.Won
    step_won j v h =
        subst (λ zs. IsClaimPrefix cs c zs stage.Won)
        (sym (part-elsewhere c j (claim_access c k x) (claim_accesses older) (another j (y.items j v h)))) (y.won j v h)

    -- the claims on the cells met before have ended as their notes say, also after the step
    step_ended : AreEnds (EndsIn cs c Now) ks ns
    step_ended =
        ends_more (EndsIn cs c older) (EndsIn cs c Now) ks ns
        (λ j n has. stepped k x older j n (another j has)) y.ended

  -- if a path leads to these cells, each met once, and to these notes and this claim, all of `Tracks` holds
  pub track : {p : ℕ} {done : WorldHistory} {ks : List ℕ} {ns : List Note} {held : Option (List ObjectTurn)}
      → IsOnceEach ks → ConsumerPath cs c p done ks ns held → Tracks cs c done ks ns held
  track once begins = record {
    given = λ k has. absurd has;
    none = λ k _. refl;
    is_held = tt;
    is_open = tt;
    prefix = λ k some. absurd (some refl);
    ended = tt;
    won = λ k v h. absurd h.1;
    items = λ k v h. h.1;
    links = λ k v h. h.1;
  }
  -- the last access is a load of a link that leads to no cell
  track {p} once (waits {older} {ks} {ns} {v} says s) =
      let y = track once s in
      let a = load c (place_past p ks) v in
      record {
        given = λ k has. inr (y.given k has);
        none = y.none;
        is_held = tt;
        is_open = tt;
        prefix = y.prefix;
        ended = ends_more (EndsIn cs c older) (EndsIn cs c (ToCells a ∷ older)) ks ns
            (λ k n _. loaded a older k n) y.ended;
        won = λ k u h. elim (read-cases a (pool_accesses older) (Item k) u h) [
          | inl e ↦ absurd
              (past_item p k ks e)
          | inr m ↦ y.won k u m
        ];
        items = λ k u h. elim (read-cases a (pool_accesses older) (Item k) u h) [
          | inl e ↦ absurd
              (past_item p k ks e)
          | inr m ↦ y.items k u m
        ];
        links = λ k u h. elim
            (read-cases a (pool_accesses older) (Link k) u h) [ inl e ↦ past_link p k ks e | inr m ↦ y.links k u m ];
      }
  -- the last access is a load of a link that leads to cell k
  track {p} once (finds {older} {ks} {ns} {k} ne fresh s) =
      let y = track once.1 s in
      let a = load c (place_past p ks) (k + 1) in
      record {
        given = λ j has. elim has [
          | inl e ↦ inl (subst (λ i. IsGift i (place_past p ks) (Load (k + 1))) e (gift_past p ks k ne))
          | inr m ↦ inr (y.given j m)
        ];
        none = λ j not_met. y.none j (λ has. not_met (inr has));
        is_held = y.none k once.0;
        is_open = (stage.Going, fresh, refl);
        prefix = y.prefix;
        ended = ends_more (EndsIn cs c older) (EndsIn cs c (ToCells a ∷ older)) ks ns
            (λ j n _. loaded a older j n) y.ended;
        won = λ j u h. elim (read-cases a (pool_accesses older) (Item j) u h) [
          | inl e ↦ absurd
              (past_item p j ks e)
          | inr m ↦ y.won j u m
        ];
        items = λ j u h. elim (read-cases a (pool_accesses older) (Item j) u h) [
          | inl e ↦ absurd
              (past_item p j ks e)
          | inr m ↦ y.items j u m
        ];
        links = λ j u h. elim
            (read-cases a (pool_accesses older) (Link j) u h) [ inl e ↦ past_link p j ks e | inr m ↦ y.links j u m ];
      }
  -- the last access is a step of the claim, which then has no note
  track once (goes {older} {ks} {ns} {k} {xs} {x} z q still s) =
      let y = track once s in
      record {
        given = y.given;
        none = step_none k ks ns xs x older once z q y;
        is_held = step_own k ks ns xs x older once z q y;
        is_open = (z, q, still);
        prefix = step_prefix k ks ns xs x older once z q y;
        ended = step_ended k ks ns xs x older once z q y;
        won = step_won k ks ns xs x older once z q y;
        items = y.items;
        links = y.links;
      }
  -- the last access is the last step of the claim, which then has a note
  track once (ends {older} {ks} {ns} {k} {xs} {x} {n} z q note s) =
      let y = track once s in
      let own = step_own k ks ns xs x older once z q y in
      record {
        given = y.given;
        none = step_none k ks ns xs x older once z q y;
        is_held = tt;
        is_open = tt;
        prefix = step_prefix k ks ns xs x older once z q y;
        ended = (
          noted_end k (claim_step c k x ∷ older) z n (subst (λ zs. IsClaimPrefix cs c zs z) (sym own) q) note,
          step_ended k ks ns xs x older once z q y,
        );
        won = step_won k ks ns xs x older once z q y;
        items = λ j v h. inr (y.items j v h);
        links = λ j v h. inr (y.links j v h);
      }
  -- the last access is the load of the item
  track once (takes {older} {ks} {ns} {k} {xs} {v} q s) =
      let y = track once s in
      let a = load c (Item k) v in
      let won = subst (λ zs. IsClaimPrefix cs c zs stage.Won) (sym y.is_held) q in
      record {
        given = λ j has. inr (y.given j has);
        none = y.none;
        is_held = tt;
        is_open = tt;
        prefix = y.prefix;
        ended = (
          (won, (a, inl refl, refl, refl)),
          ends_more (EndsIn cs c older) (EndsIn cs c (ToCells a ∷ older)) ks ns (λ j n _. loaded a older j n) y.ended,
        );
        won = λ j u h. elim (read-cases a (pool_accesses older) (Item j) u h) [
          | inl e ↦ let same : k
              ≡ j = cc in subst (λ i. IsClaimPrefix cs c (claim_part c i (claim_accesses older)) stage.Won) same won
          | inr m ↦ y.won j u m
        ];
        items = λ j u h. elim (read-cases a (pool_accesses older) (Item j) u h) [
          | inl e ↦ let same : k
              ≡ j = cc in inl same
          | inr m ↦ inr (y.items j u m)
        ];
        links = λ j u h. elim
            (read-cases a (pool_accesses older) (Link j) u h) [ inl e ↦ absurd (cc) | inr m ↦ inr (y.links j u m) ];
      }
