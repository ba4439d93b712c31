-- A run with one more step, and what a board says of the run at its end.
use Rattle.std.proofs.Common.{◌≡◌, ◌≢◌, ◌<◌, ◌⊎◌, ℕ, false, List, [], ◌∷◌, ◌++◌, length, map, refl, sym, ◌∙◌, ap, ap₂}
use Rattle.std.proofs.Common.{subst, subst₂, inl, inr, get_or, set, get_or-set_other, get_or-set_same, length-set}
use Rattle.std.proofs.Common.{arith}
use Rattle.std.proofs.lemmas.Bool.{cases_eq}
use Rattle.std.proofs.lemmas.List.{length-map, get_or-map}
use Rattle.mb_claim.specs.declared.run.ClaimEntry.TheVariants as entry
use Rattle.mb_claim.specs.{Begin, InRatifier, Claim, ClaimAccess, ClaimEntry, Going, Layout, ObjectTurn, Claims}
use Rattle.mb_claim.specs.{BoardState, IsBoard, HasStage, part_on, claims_in, consumer_count, consumer_of, claim_stage}
use Rattle.mb_claim.specs.{IsClaimIn, IsClaimOn, claim_access, IsClaimPrefix, entry_consumer, with_entry, history_from}
use Rattle.mb_claim.specs.{history_of, IsEntryAfter, AreEntriesOf, IsPlayed}
use Rattle.mb_claim.proofs.HistorySteps.{other_part}

-- ---- the entries of a longer run
-- with one more step and its entry, the history of the run has that entry's access too, if it has one
history_from-push :
    (cs : Claims) (h : List ClaimAccess) (steps : List (ℕ × ℕ)) (entries : List ClaimEntry) (step : ℕ
    × ℕ) (e : ClaimEntry)
    → AreEntriesOf cs steps entries h
    → history_from (steps ++ step ∷ []) (entries ++ e ∷ []) h ≡ with_entry step.1 e (history_from steps entries h)
history_from-push cs h [] [] step e all = refl
history_from-push cs h [] (y ∷ entries) step e all = absurd all
history_from-push cs h (x ∷ steps) [] step e all = absurd all
history_from-push cs h (x ∷ steps) (y ∷ entries) step e all =
    history_from-push cs (with_entry x.1 y h) steps entries step e all.2

-- the entries of steps, and one more entry that may come after their accesses, are the entries of one step more
entries_push :
    (cs : Claims) (h : List ClaimAccess) (steps : List (ℕ × ℕ)) (entries : List ClaimEntry) (step : ℕ
    × ℕ) (e : ClaimEntry)
    → AreEntriesOf cs steps entries h → entry_consumer e ≡ step.0
    → IsEntryAfter cs e (history_from steps entries h)
    → AreEntriesOf cs (steps ++ step ∷ []) (entries ++ e ∷ []) h
entries_push cs h [] [] step e all is here = (is, here, tt)
entries_push cs h [] (y ∷ entries) step e all is here = absurd all
entries_push cs h (x ∷ steps) [] step e all is here = absurd all
entries_push cs h (x ∷ steps) (y ∷ entries) step e all is here =
    (all.0, all.1, entries_push cs (with_entry x.1 y h) steps entries step e all.2 is here)

-- ---- one more step of a board
module _
    (layout : Layout) (steps : List (ℕ × ℕ)) (board : BoardState) (ran : IsBoard layout steps board) (c word : ℕ)
    (known : c < consumer_count layout) (claim : Claim) (is : claim ≡ get_or board.claims c claim) where
  -- the history of the run so far
  abbrev past : List ClaimAccess
  past = history_of steps board.entries

  -- the board has a claim of consumer c
  inside : c < length board.claims
  inside = let e = ran.consumers in omega arith

  -- the claim is consumer c's
  claim_own : consumer_of claim ≡ c
  claim_own = ap consumer_of is ∙ ran.own c claim inside

  -- the words of the board and the claim belong to the history so far, which is lawful
  pub held : IsClaimOn layout 1 0 claim board.words past
  held =
      record {
        cell = omega arith;
        memory = ran.memory;
        standing = subst₂ (λ a d. IsClaimIn layout a (part_on d 0 past)) (sym is) (sym claim_own)
            (ran.standing c claim inside);
      }

  -- in the history so far consumer c's claim has the stage that `claim` has
  has_stage : HasStage (claims_in layout 1) c 0 (claim_stage claim) past
  has_stage =
      subst (λ d. HasStage (claims_in layout 1) d 0 (claim_stage claim) past) claim_own
      (held.standing.known, held.standing.prefix)

  -- if the claim has ended, the board with the entry `Done` is the board of the run with one more step
  pub board_done :
      claim_stage claim ≢ Going
      → IsBoard layout (steps ++ (c, word) ∷ [])
      (record { words = board.words; claims = board.claims; entries = board.entries ++ entry.Done c ∷ [] })
  board_done ended =
      let same : history_of (steps ++ (c, word) ∷ []) (board.entries ++ entry.Done c ∷ []) ≡ past =
      history_from-push (claims_in layout 1) [] steps board.entries (c, word) (entry.Done c) ran.fits in
      record {
        fits = entries_push (claims_in layout 1) [] steps board.entries (c, word) (entry.Done c) ran.fits refl
            (claim_stage claim, has_stage, ended);
        memory = rw same ran.memory;
        consumers = ran.consumers;
        own = ran.own;
        standing = rw same ran.standing;
      }

  -- A step of a claim that is going made the access `made`, and led to the claim `after` and to these words.
  module _
      (going : claim_stage claim ≡ Going) (after : Claim) (own : consumer_of after ≡ consumer_of claim)
      (made : ObjectTurn)
      (random : made.turn.word ≡ word) (words : List ℕ)
      (now : IsClaimOn layout 1 0 after words (claim_access claim 0 made ∷ past)) where
    -- the entry of the step
    abbrev made_entry : ClaimEntry
    made_entry = entry.Access c made.object made.turn.act

    -- the history of the longer run is the history so far with this access
    same : history_of (steps ++ (c, word) ∷ []) (board.entries ++ made_entry ∷ []) ≡ claim_access claim 0 made ∷ past
    same =
        history_from-push (claims_in layout 1) [] steps board.entries (c, word) made_entry ran.fits
        ∙ ap₂ (λ d w. record {
          consumer = d;
          cell = 0;
          step = record { object = made.object; turn = record { act = made.turn.act; word = w } };
        } ∷ past) (sym claim_own) (sym random)

    -- after the step the claim at position d is still consumer d's
    own_after :
        (d : ℕ) (e : Claim) → d < length (set board.claims c after) → (d ≡ c) ⊎ (d ≢ c)
        → consumer_of (get_or (set board.claims c after) d e) ≡ d
    own_after d e below (inl here) =
        subst (λ n. consumer_of (get_or (set board.claims c after) n e) ≡ n) (sym here)
        (ap consumer_of (get_or-set_same board.claims c after e inside) ∙ (own ∙ claim_own))
    own_after d e below (inr other) =
        let old : d < length board.claims = rw length-set at below in
        ap consumer_of (get_or-set_other board.claims c d after e other) ∙ ran.own d e old

    -- after the step each claim is the claim of a consumer that has made its part of the longer history
    standing_after :
        (d : ℕ) (e : Claim) → d < length (set board.claims c after) → (d ≡ c) ⊎ (d ≢ c)
        → IsClaimIn layout (get_or (set board.claims c after) d e) (part_on d 0 (claim_access claim 0 made ∷ past))
    standing_after d e below (inl here) =
        subst₂ (λ a n. IsClaimIn layout a (part_on n 0 (claim_access claim 0 made ∷ past)))
        (sym (ap (λ n. get_or (set board.claims c after) n e) here ∙ get_or-set_same board.claims c after e inside))
        (own ∙ (claim_own ∙ sym here)) now.standing
    standing_after d e below (inr other) =
        let old : d < length board.claims = rw length-set at below in
        subst₂ (λ a xs. IsClaimIn layout a xs) (sym (get_or-set_other board.claims c d after e other))
        (sym (other_part d 0 (claim_access claim 0 made) past (λ f g. other (sym f ∙ claim_own))))
        (ran.standing d e old)

    -- if the claim is going, the board with its access and its new claim is the board of the run with one more step
    pub board_stepped :
        IsBoard layout (steps ++ (c, word) ∷ [])
        (record { words = words; claims = set board.claims c after; entries = board.entries ++ made_entry ∷ [] })
    board_stepped =
        record {
          fits = entries_push (claims_in layout 1) [] steps board.entries (c, word) made_entry ran.fits refl
              (subst (λ s. HasStage (claims_in layout 1) c 0 s past) going has_stage);
          memory = rw same now.memory;
          consumers = length-set board.claims c after ∙ ran.consumers;
          own = λ d e below. own_after d e below (cases_eq d c);
          standing = rw same (λ d e below. standing_after d e below (cases_eq d c));
        }

-- ---- the end of a run
-- any claim, as a default for reading a list of claims past its end
nobody : Claim
nobody = record { consumer = 0; object = 0; place = InRatifier (Begin 0); stage = Going; begun = false }

-- the entries of a board and the stages of its claims are what a run of the steps comes to (`IsPlayed`)
pub board_played :
    (layout : Layout) (steps : List (ℕ × ℕ)) (board : BoardState) → IsBoard layout steps board
    → IsPlayed (claims_in layout 1) steps board.entries (map claim_stage board.claims)
board_played layout steps board ran =
    record {
      lawful = ran.memory.lawful;
      fits = ran.fits;
      consumers = length-map board.claims claim_stage ∙ ran.consumers;
      reached = λ c d below.
          let inside : c < length board.claims = rw length-map at below in
          let h : List ClaimAccess = history_of steps board.entries in
          let of : IsClaimIn layout (get_or board.claims c nobody) (part_on c 0 h) = ran.standing c nobody inside in
          subst₂ (λ n s. (n < consumer_count layout) × IsClaimPrefix (claims_in layout 1) n (part_on c 0 h) s)
          (ran.own c nobody inside) (sym (get_or-map claim_stage board.claims c nobody d inside)) (of.known, of.prefix);
    }
