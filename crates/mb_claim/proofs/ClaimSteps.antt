-- A claim after its next access, a new claim, and the object on which a claim stands.
use Rattle.std.proofs.Common.{◌≡◌, ◌≢◌, ◌+◌, ◌<◌, ℕ, suc, true, false, Option, Some, None, MatchOption}
use Rattle.std.proofs.Common.{List, [], ◌∷◌, ◌++◌, length, refl, sym, ◌∙◌, ap, ap₂, subst, subst₂, slice_get}
use Rattle.std.proofs.Common.{append-nil, append_assoc, arith}
use Rattle.std.proofs.lemmas.Option.{slice_get_within}
use Rattle.mb_quorum.specs.Vocabulary.{QuorumTable}
use Rattle.mb_deciding.specs.Vocabulary.{answer, IsPath, PcIsAt, IsPlace}
use Rattle.mb_claim.specs.{Turn, Kind, Conciliator, Ratifier, LastObject, Pc, InConciliator, InLast, InRatifier, ClaimOp, ObjectTurn, Going}
use Rattle.mb_claim.specs.{Undecided, Claim, Layout, IsOnObject, IsNextOp, quorums_of, kinds_of}
use Rattle.mb_claim.specs.{turns_on, stage_for, IsClaimPrefixFrom, PassesAll, StandsAt, IsClaimOf}
use Rattle.mb_claim.proofs.Lists.{not_empty, get_behind, first_of, none_of, length-push}
use Rattle.mb_claim.proofs.Standing.{longer_is, decided_here, undecided_here, stands_on}

-- ---- where a consumer stands after one turn more
-- a consumer that passed some objects, and then makes a whole undecided path on the next, has passed the next, too
passes_more :
    (t : QuorumTable) (before : List Kind) (kind : Kind) (o v w u : ℕ) (front : List ObjectTurn) (turns : List Turn)
    → PassesAll t before o v front w → IsPath t kind w turns (answer false u)
    → PassesAll t (before ++ kind ∷ []) o v (turns_on (o + length before) turns ++ front) u
passes_more t [] kind o v w u front turns p path =
    let n : o + 0 ≡ o = omega arith in (
      u,
      [],
      record {
        turns = turns;
        all = ap₂ (λ m zs. turns_on m turns ++ zs) n p.0 ∙ append-nil (turns_on o turns);
        path = subst (λ i. IsPath t kind i turns (answer false u)) p.1 path;
      },
      (refl, refl),
    )
passes_more t (k ∷ ks) kind o v w u front turns (i, rest, x, p) path =
    let n : o + suc (length ks) ≡ suc o + length ks = omega arith in
    let more = passes_more t ks kind (suc o) i w u rest turns p path in (
      i,
      turns_on (o + suc (length ks)) turns ++ rest,
      record {
        turns = x.turns;
        all = ap (λ zs. turns_on (o + suc (length ks)) turns ++ zs) x.all
            ∙ sym (append_assoc (turns_on (o + suc (length ks)) turns) rest (turns_on o x.turns));
        path = x.path;
      },
      subst (λ m. PassesAll t (ks ++ kind ∷ []) (suc o) i (turns_on m turns ++ rest) u) (sym n) more,
    )

module _ (t : QuorumTable) (kinds : List Kind) (c object : ℕ) (pc : Pc) (xs : List ObjectTurn)
    (p : StandsAt t kinds c object pc xs) (x : Turn) where
  -- if the new turn led to a place on the same object, the consumer stands on that object, at this place
  pub same_object : (after : Pc) → PcIsAt t p.kind p.input after (x ∷ p.turns)
      → StandsAt t kinds c object after (record { object = object; turn = x } ∷ xs)
  same_object after at =
      record {
        before = p.before;
        kind = p.kind;
        after = p.after;
        front = p.front;
        turns = x ∷ p.turns;
        input = p.input;
        order = p.order;
        number = p.number;
        passed = p.passed;
        all = longer_is t kinds c object pc xs p x;
        within = p.within;
        place = at;
      }

  -- the kind of the object with the next number is the first of the kinds after the consumer's object
  next_kind : slice_get kinds (suc object) ≡ slice_get p.after 0
  next_kind = ap₂ (λ ks n. slice_get ks (suc n)) p.order p.number ∙ get_behind p.before p.kind p.after

  -- if the new turn ended the path on its object undecided, the consumer stands on the next object, at its first place
  pub next_object :
      (u : ℕ) (kind : Kind) (after : Pc) → u < t.values → IsPath t p.kind p.input (x ∷ p.turns) (answer false u)
      → slice_get kinds (suc object) ≡ Some kind → PcIsAt t kind u after []
      → StandsAt t kinds c (suc object) after (record { object = object; turn = x } ∷ xs)
  next_object u kind after below path is at =
      let rest = first_of p.after kind (sym next_kind ∙ is) in
      record {
        before = p.before ++ p.kind ∷ [];
        kind = kind;
        after = rest.0;
        front = record { object = object; turn = x } ∷ xs;
        turns = [];
        input = u;
        order = p.order ∙ ap (λ ks. p.before ++ p.kind ∷ ks) rest.1
            ∙ sym (append_assoc p.before (p.kind ∷ []) (kind ∷ rest.0));
        number = ap suc p.number ∙ sym (length-push p.before p.kind);
        passed = subst (λ zs. PassesAll t (p.before ++ p.kind ∷ []) 0 c zs u)
            (sym (longer_is t kinds c object pc xs p x ∙ ap (λ m. turns_on m (x ∷ p.turns) ++ p.front) (p.number
            ∙ (omega arith))))
            (passes_more t p.before p.kind 0 c p.input u p.front (x ∷ p.turns) p.passed path);
        all = refl;
        within = below;
        place = at;
      }

  -- if the new turn ended the path on the row's final object undecided, the turns are a prefix with stage `Undecided`
  undecided_last :
      (u : ℕ) → IsPath t p.kind p.input (x ∷ p.turns) (answer false u) → slice_get kinds (suc object) ≡ None
      → IsClaimPrefixFrom t c kinds 0 c (record { object = object; turn = x } ∷ xs) Undecided
  undecided_last u path last =
      undecided_here t kinds c object pc xs p x u path (none_of p.after (sym next_kind ∙ last))

-- ---- a claim with an access: it goes on, or has ended
-- if a consumer stands at a place after some turns, these are a prefix of its claim path, and its claim is going
abbrev pub PlacesMakeParts : QuorumTable → List Kind → Type 0
PlacesMakeParts t kinds = (c object : ℕ) (pc : Pc) (xs : List ObjectTurn) → StandsAt t kinds c object pc xs
    → IsClaimPrefixFrom t c kinds 0 c xs Going

-- a claim that is begun and going is the claim of turns (`IsClaimOf`) after which its consumer stands at its place
pub claim_going :
    (t : QuorumTable) (kinds : List Kind) (claim : Claim) (x : ObjectTurn) (xs : List ObjectTurn)
    → PlacesMakeParts t kinds → claim.consumer < t.values → claim.stage ≡ Going → claim.begun ≡ true
    → StandsAt t kinds claim.consumer claim.object claim.place (x ∷ xs) → IsClaimOf t kinds claim (x ∷ xs)
claim_going t kinds claim x xs parts known going begun stands =
    record {
      known = known;
      prefix = subst (λ s. IsClaimPrefixFrom t claim.consumer kinds 0 claim.consumer (x ∷ xs) s) (sym going)
          (parts claim.consumer claim.object claim.place (x ∷ xs) stands);
      begun = (λ b. not_empty x xs, λ some. begun);
      stands = λ g. stands;
    }

-- a claim that is begun and has ended is the claim of turns (`IsClaimOf`) that are a prefix with the claim's stage
pub claim_ended :
    (t : QuorumTable) (kinds : List Kind) (claim : Claim) (x : ObjectTurn) (xs : List ObjectTurn)
    → claim.consumer < t.values → claim.stage ≢ Going → claim.begun ≡ true
    → IsClaimPrefixFrom t claim.consumer kinds 0 claim.consumer (x ∷ xs) claim.stage → IsClaimOf t kinds claim (x ∷ xs)
claim_ended t kinds claim x xs known ended begun prefix =
    record {
      known = known;
      prefix = prefix;
      begun = (λ b. not_empty x xs, λ some. begun);
      stands = λ g. absurd
          (ended g);
    }

-- ---- a new claim, and a claim after the last turn on an object
-- a consumer without a turn stands on object 0
pub stands_first :
    (t : QuorumTable) (kinds : List Kind) (kind : Kind) (c : ℕ) (pc : Pc) → slice_get kinds 0 ≡ Some kind → c < t.values
    → PcIsAt t kind c pc [] → StandsAt t kinds c 0 pc []
stands_first t kinds kind c pc first below at =
    let rest = first_of kinds kind first in
    record {
      before = [];
      kind = kind;
      after = rest.0;
      front = [];
      turns = [];
      input = c;
      order = rest.1;
      number = refl;
      passed = (refl, refl);
      all = refl;
      within = below;
      place = at;
    }

-- if a turn ended its object's path undecided, a begun claim is the claim of the turns (`IsClaimOf`) in two cases: it
-- stands on the next object, or there is none and it is undecided
pub claim_passed :
    (t : QuorumTable) (kinds : List Kind) (claim : Claim) (c object : ℕ) (pc : Pc) (xs : List ObjectTurn)
    (p : StandsAt t kinds c object pc xs) (x : Turn) (u : ℕ)
    → PlacesMakeParts t kinds → claim.consumer ≡ c → c < t.values → claim.begun ≡ true → u < t.values
    → IsPath t p.kind p.input (x ∷ p.turns) (answer false u)
    → (next : Option Kind) → slice_get kinds (object + 1) ≡ next
    → MatchOption next (claim.stage ≡ Undecided)
    (λ kind. (claim.stage ≡ Going) × (claim.object ≡ object + 1) × PcIsAt t kind u claim.place [])
    → IsClaimOf t kinds claim (record { object = object; turn = x } ∷ xs)
claim_passed t kinds claim c object pc xs p x u parts own known begun below path None is passed =
    let n : suc object ≡ object + 1 = omega arith in
    claim_ended t kinds claim (record { object = object; turn = x }) xs (subst (λ d. d < t.values) (sym own) known)
    (λ g. undecided_going (sym passed ∙ g)) begun
    (subst₂ (λ d s. IsClaimPrefixFrom t d kinds 0 d (record { object = object; turn = x } ∷ xs) s) (sym own)
    (sym passed)
    (undecided_last t kinds c object pc xs p x u path (ap (slice_get kinds) n ∙ is)))
  where
    -- an undecided claim is not going
    undecided_going : Undecided ≡ Going → ⊥
    undecided_going e = cc
claim_passed t kinds claim c object pc xs p x u parts own known begun below path (Some kind) is passed =
    let n : suc object ≡ object + 1 = omega arith in
    claim_going t kinds claim (record { object = object; turn = x }) xs parts
    (subst (λ d. d < t.values) (sym own) known) passed.0 begun
    (subst₂ (λ d o. StandsAt t kinds d o claim.place (record { object = object; turn = x } ∷ xs)) (sym own)
    (n ∙ sym passed.1)
    (next_object t kinds c object pc xs p x u kind claim.place below path (ap (slice_get kinds) n ∙ is) passed.2))

-- if a turn ended its object's path decided, a begun claim with the stage for the value is the claim of the turns
pub claim_decided :
    (t : QuorumTable) (kinds : List Kind) (claim : Claim) (object : ℕ) (pc : Pc) (xs : List ObjectTurn)
    (p : StandsAt t kinds claim.consumer object pc xs) (x : Turn) (u : ℕ)
    → claim.consumer < t.values → claim.begun ≡ true → claim.stage ≢ Going → claim.stage ≡ stage_for claim.consumer u
    → IsPath t p.kind p.input (x ∷ p.turns) (answer true u)
    → IsClaimOf t kinds claim (record { object = object; turn = x } ∷ xs)
claim_decided t kinds claim object pc xs p x u known begun ended is path =
    claim_ended t kinds claim (record { object = object; turn = x }) xs known ended begun
    (subst (λ s. IsClaimPrefixFrom t claim.consumer kinds 0 claim.consumer
    (record { object = object; turn = x } ∷ xs) s) (sym is)
    (decided_here t kinds claim.consumer object pc xs p x u path))

-- ---- the object on which a claim stands, as calls ask for it
-- a place to which turns of a process led is a place over the quorum table (`IsPlace`)
at_place : (t : QuorumTable) (kind : Kind) (v : ℕ) (pc : Pc) (turns : List Turn)
    → PcIsAt t kind v pc turns → IsPlace t pc
at_place t Ratifier v (InRatifier place) turns at = at.0
at_place t (Conciliator s) v (InConciliator place) turns at = at.0
at_place t Ratifier v (InConciliator place) turns at = absurd at
at_place t (Conciliator s) v (InRatifier place) turns at = absurd at
at_place t LastObject v (InLast place) turns at = at.0
at_place t LastObject v (InRatifier place) turns at = absurd at
at_place t LastObject v (InConciliator place) turns at = absurd at
at_place t Ratifier v (InLast place) turns at = absurd at
at_place t (Conciliator s) v (InLast place) turns at = absurd at

-- a claim that is going stands on one of the layout's objects
pub on_object :
    (layout : Layout) (claim : Claim) (xs : List ObjectTurn) → IsClaimOf (quorums_of layout) (kinds_of layout) claim xs
    → claim.stage ≡ Going
    → IsOnObject layout claim
on_object layout claim xs of going =
    let p = of.stands going in
    record {
      object = slice_get_within (kinds_of layout) claim.object p.kind
          (stands_on (quorums_of layout) (kinds_of layout) claim.consumer claim.object claim.place xs p);
      place = at_place (quorums_of layout) p.kind p.input claim.place p.turns p.place;
    }

-- the claim's next access is on the object where its consumer stands
pub stands_next :
    (layout : Layout) (claim : Claim) (next : ClaimOp) (xs : List ObjectTurn)
    → IsClaimOf (quorums_of layout) (kinds_of layout) claim xs → claim.stage ≡ Going
    → IsNextOp layout claim next → StandsAt (quorums_of layout)
    (kinds_of layout) claim.consumer next.object claim.place xs
stands_next layout claim next xs of going is =
    subst (λ o. StandsAt (quorums_of layout) (kinds_of layout) claim.consumer o claim.place xs) (sym is.object)
    (of.stands going)
