-- A claim that has made no access is going, not begun, on object 0. If that is a conciliator, its word is loaded first.
use Rattle.std.proofs.Common.{◌≡◌, ◌<◌, ◌≤◌, ℕ, zero, suc, Bool, true, false, List, [], ◌∷◌, ◌++◌, ◌+◌, length, refl}
use Rattle.std.proofs.Common.{sym, ◌∙◌, ap, subst, inl, arith}
use Rattle.mb_quorum.specs.Vocabulary.{QuorumTable}
use Rattle.mb_deciding.specs.declared.access.Op.TheVariants as to
use Rattle.mb_deciding.specs.Vocabulary.{answer, PcIsAt, IsOpAt, CanFind, spread}
use Rattle.mb_claim.specs.{Op, Value, Turn, Draw, Put, Look, Kind, Conciliator, Ratifier, LastObject, Pc, InRatifier, InConciliator, InLast}
use Rattle.mb_claim.specs.{ObjectTurn, Going, Claim, Layout, pairs_of, fast_row, last_row, quorums_of, kinds_of, turns_on}
use Rattle.mb_claim.specs.{IsClaimPrefixFrom, PassesAll, StandsAt, IsClaimOf}
use Rattle.mb_claim.proofs.KindLaws.{AreDeciding}
use Rattle.mb_claim.proofs.Lists.{not_empty, append_nil_parts, append_nil_rest, heads}
use Rattle.mb_claim.proofs.Unique.{open_closed, one_stage_lem}

-- ---- the first object of a row, and the place there
-- if turns on object o make an empty list of steps, there are no turns
no_turns_on : (o : ℕ) (turns : List Turn) → turns_on o turns ≡ [] → turns ≡ []
no_turns_on o [] none = refl
no_turns_on o (x ∷ turns) none = absurd (not_empty _ _ none)

-- a row that begins with one pair or more begins with a conciliator
first_object : (s n : ℕ) (ys : List Kind) → 1 ≤ n → (rest : List Kind) × (pairs_of s n ++ ys ≡ Conciliator s ∷ rest)
first_object s zero ys some = absurd (omega (arith, some))
first_object s (suc n) ys some = (Ratifier ∷ (pairs_of s n ++ ys), refl)

-- if there is a pair or a last object, there is a first object among these
some_object : (s n : ℕ) (b : Bool) → 1 ≤ n + length (last_row b)
    → (kind : Kind) × (rest : List Kind) × (pairs_of s n ++ last_row b ≡ kind ∷ rest)
some_object s (suc n) b some = (Conciliator s, Ratifier ∷ (pairs_of s n ++ last_row b), refl)
some_object s zero true some = (LastObject, [], refl)
some_object s zero false some = absurd (omega (arith, some))

-- if the objects after the fast path have a first one, so has the row, with a fast path or without
first_kind : (b : Bool) (kind : Kind) (rest ys : List Kind) → ys ≡ kind ∷ rest
    → (first : Kind) × (behind : List Kind) × (fast_row b ++ ys ≡ first ∷ behind)
first_kind true kind rest ys is = (Ratifier, Ratifier ∷ ys, refl)
first_kind false kind rest ys is = (kind, rest, is)

-- a process without turns in a conciliator loads the conciliator's word next, and finds at most the number of values
first_load :
    (t : QuorumTable) (s v : ℕ) (pc : Pc) (op : Op) → PcIsAt t (Conciliator s) v pc [] → IsOpAt t pc op
    → (op ≡ to.Load Value) × ((seen : ℕ) → CanFind t pc op seen → seen ≤ t.values)
first_load t s v (InRatifier place) op at is = absurd at
first_load t s v (InLast place) op at is = absurd at
first_load t s v (InConciliator (Draw input limit modulus)) op at is =
    (is, λ seen can. subst (λ o. CanFind t (InConciliator (Draw input limit modulus)) o seen) is can)
first_load t s v (InConciliator (Put input)) op at is = absurd at.1.1.2
first_load t s v (InConciliator (Look input)) op at is = absurd at.1.1.2

-- ---- a consumer without turns
module _ (t : QuorumTable) (law : AreDeciding t) (c : ℕ) (known : c < t.values) where
  -- a consumer without turns has passed no object
  none_passed : (before : List Kind) (front : List ObjectTurn) (w : ℕ) → front ≡ [] → PassesAll t before 0 c front w
      → before ≡ []
  none_passed [] front w none passed = refl
  none_passed (kind ∷ before) front w none (u, later, x, passed) =
      let empty : x.turns ≡ [] = no_turns_on 0 x.turns (append_nil_rest later (turns_on 0 x.turns) (sym x.all
      ∙ none)) in
      absurd (open_closed t kind (law kind) c [] x.turns (answer false u) (sym empty) ((law kind
      (λ p. p)).opens c known) x.path)

  -- if object 0 is a conciliator, a consumer without turns stands there, loads its word, and finds at most `t.values`
  stands_first :
      (s object : ℕ) (rest : List Kind) (pc : Pc) (op : Op) → StandsAt t (Conciliator s ∷ rest) c object pc []
      → IsOpAt t pc op
      → (object ≡ 0) × (op ≡ to.Load Value) × ((seen : ℕ) → CanFind t pc op seen → seen ≤ t.values)
  stands_first s object rest pc op at is =
      let front : at.front ≡ [] = append_nil_rest (turns_on object at.turns) at.front (sym at.all) in
      let turns : at.turns ≡ [] =
      no_turns_on object at.turns (append_nil_parts (turns_on object at.turns) at.front (sym at.all)) in
      let before : at.before ≡ [] = none_passed at.before at.front at.input front at.passed in
      let kind : Conciliator s ≡ at.kind =
      heads (Conciliator s) at.kind rest at.after (at.order ∙ ap (λ ks. ks ++ at.kind ∷ at.after) before) in
      let place : PcIsAt t (Conciliator s) at.input pc [] =
      subst (λ ts. PcIsAt t (Conciliator s) at.input pc ts) turns
      (subst (λ k. PcIsAt t k at.input pc at.turns) (sym kind) at.place) in
      let load = first_load t s at.input pc op place is in
      (at.number ∙ ap length before, load.0, load.1)

  -- a consumer without turns stands on object 0, whatever its kind is
  stands_at_first :
      (kinds : List Kind) (object : ℕ) (pc : Pc) → StandsAt t kinds c object pc [] → object ≡ 0
  stands_at_first kinds object pc at =
      let front : at.front ≡ [] = append_nil_rest (turns_on object at.turns) at.front (sym at.all) in
      at.number ∙ ap length (none_passed at.before at.front at.input front at.passed)

-- a test that is not true is false
not_true : (b : Bool) → (b ≡ true → ⊥) → b ≡ false
not_true true never = absurd (never refl)
not_true false never = refl

-- ---- a claim of a layout without accesses
module _ (layout : Layout) (law : AreDeciding (quorums_of layout)) (claim : Claim)
    (of : IsClaimOf (quorums_of layout) (kinds_of layout) claim []) where
  -- the objects of the layout after its fast path
  abbrev behind_fast : List Kind
  behind_fast = pairs_of (spread (quorums_of layout).values) layout.pairs ++ last_row layout.shape.last

  -- the objects of the layout after its fast path have a first one
  abbrev first : (kind : Kind) × (rest : List Kind) × (behind_fast ≡ kind ∷ rest)
  first = some_object (spread (quorums_of layout).values) layout.pairs layout.shape.last layout.some

  -- the layout has a first object
  abbrev any_first : (kind : Kind) × (rest : List Kind) × (kinds_of layout ≡ kind ∷ rest)
  any_first = first_kind layout.shape.fast first.0 first.1 behind_fast first.2

  -- a claim without accesses is going
  pub fresh_going : claim.stage ≡ Going
  fresh_going =
      one_stage_lem (quorums_of layout) law claim.consumer
      (kinds_of layout) 0 claim.consumer [] claim.stage Going of.prefix
      (subst (λ ks. IsClaimPrefixFrom (quorums_of layout) claim.consumer ks 0 claim.consumer [] Going) (sym any_first.2)
      (inl (record {
        turns = [];
        all = refl;
        going = (law any_first.0 (λ p. p)).opens claim.consumer of.known;
        is = refl;
      })))

  -- a claim without accesses is not begun
  pub fresh_begun : claim.begun ≡ false
  fresh_begun = not_true claim.begun (λ e. of.begun.0 e refl)

  -- a claim without accesses stands on object 0
  pub fresh_object : claim.object ≡ 0
  fresh_object =
      stands_at_first (quorums_of layout) law claim.consumer of.known (kinds_of layout) claim.object claim.place
      (of.stands fresh_going)

  -- with pairs and without a fast path, the next access of a claim without accesses loads the conciliator's word, and
  -- finds at most the number of consumers
  pub fresh_next :
      1 ≤ layout.pairs → layout.shape.fast ≡ false → (op : Op) → IsOpAt (quorums_of layout) claim.place op
      → (claim.object ≡ 0) × (op ≡ to.Load Value)
      × ((seen : ℕ) → CanFind (quorums_of layout) claim.place op seen → seen ≤ (quorums_of layout).values)
  fresh_next some slow op is =
      let pair = first_object (spread (quorums_of layout).values) layout.pairs (last_row layout.shape.last) some in
      let row : kinds_of layout ≡ Conciliator (spread (quorums_of layout).values) ∷ pair.0 =
      ap (λ b. fast_row b ++ behind_fast) slow ∙ pair.1 in
      stands_first (quorums_of layout) law claim.consumer of.known (spread
      (quorums_of layout).values) claim.object pair.0 claim.place op
      (subst (λ ks. StandsAt (quorums_of layout) ks claim.consumer claim.object claim.place []) row
      (of.stands fresh_going)) is
