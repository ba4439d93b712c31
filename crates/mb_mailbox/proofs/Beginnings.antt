-- A claim before its first access to an object, and the first claim of a consumer on a cell.
use Rattle.std.proofs.Common.{◌≡◌, ◌<◌, ℕ, List, [], ◌∷◌, false, refl, sym, ◌∙◌, ap, subst, arith, length}
use Rattle.std.specs.Prelude.{Option, Some, None, MatchOption, slice_get}
use Rattle.std.proofs.lemmas.Bool.{false≢true}
use Rattle.std.proofs.lemmas.Option.{slice_get_within}
use Rattle.mb_quorum.specs.Vocabulary.{QuorumTable}
use Rattle.mb_deciding.specs.Course.{IsFitKind}
use Rattle.mb_deciding.specs.declared.object.Kind.{Kind, TheVariants.{Conciliator, Ratifier, LastObject}}
use Rattle.mb_deciding.specs.Vocabulary.{IsPlace, PcIsAt, first_place, spread}
use Rattle.mb_claim.specs.declared.access.Stage.TheVariants as stage
use Rattle.mb_claim.specs.Vocabulary.{FitsLayout, IsClaimPrefix, StandsAt, pair_count, quorums_of, shape_of, standing}
use Rattle.mb_claim.proofs.ClaimSteps.{stands_first}
use Rattle.mb_claim.proofs.LayoutObjects.{fit_in_row, last_turn_small, length-row_of}
use Rattle.mb_mailbox.specs.Imports.{Claim, IsClaimIn, IsStanding, Layout, ObjectTurn, claim_stage, claims_in, consumer_count, consumer_of, kinds_of}
use Rattle.mb_mailbox.proofs.Lists.{get_some, some_same}

-- ---- which claim it is
-- if `MatchOption` says that x is some kind, and the claim is f of it, there is such a kind
picked : (x : Option Kind) (f : Kind → Claim) (claim : Claim) → MatchOption x ⊥ (λ kind. claim ≡ f kind)
    → (kind : Kind) × (x ≡ Some kind) × (claim ≡ f kind)
picked None f claim is = absurd is
picked (Some kind) f claim is = (kind, refl, is)

module _ (layout : Layout) (c o v : ℕ) (claim : Claim) (is : IsStanding layout c o v claim) where
  -- object o of the layout has some kind, and the claim is what `standing` makes of this kind
  standing_is : (kind : Kind) × (slice_get (kinds_of layout) o ≡ Some kind) × (claim ≡ standing layout c o v kind)
  standing_is = picked (slice_get (kinds_of layout) o) (standing layout c o v) claim is

  -- the claim is consumer c's, and by the next lemma it goes on
  pub standing_own : consumer_of claim ≡ c
  standing_own = ap consumer_of standing_is.2

  pub standing_going : claim_stage claim ≡ stage.Going
  standing_going = ap claim_stage standing_is.2

  -- consumer c has only one claim that stands before object o with input v
  pub standing_same : (other : Claim) → IsStanding layout c o v other → claim ≡ other
  standing_same other also =
      let x = picked (slice_get (kinds_of layout) o) (standing layout c o v) other also in
      standing_is.2 ∙ ap (standing layout c o v) (some_same standing_is.0 x.0 (sym standing_is.1 ∙ x.1)) ∙ sym x.2

  -- the claim's object is one of the layout's. If the claim fits the layout, its input is one of the table's values
  pub standing_object : o < length (kinds_of layout)
  standing_object = slice_get_within (kinds_of layout) o standing_is.0 standing_is.1

  pub standing_value : FitsLayout layout claim → v < consumer_count layout
  standing_value fits =
      value_at (quorums_of layout) standing_is.0
      (subst (λ (z : Claim). IsPlace (quorums_of layout) z.place) standing_is.2 (fits standing_going).place)
    where
      -- the input of the first place in an object is one of the table's values
      value_at : (t : QuorumTable) (kind : Kind) → IsPlace t (first_place t kind v) → v < t.values
      value_at t (Conciliator s) at = at.0
      value_at t Ratifier at = at
      value_at t LastObject at = at

-- ---- the claim of a consumer that has made no access
-- a consumer whose claim on a cell stands before the first object has made no access there
pub standing_fresh :
    (layout : Layout) (c v : ℕ) (claim : Claim) → IsStanding layout c 0 v claim → (xs : List ObjectTurn)
    → IsClaimIn layout claim xs → xs ≡ []
standing_fresh layout c v claim is [] path = refl
standing_fresh layout c v claim is (x ∷ xs) path =
    let begun : claim.begun ≡ false = ap (λ (z : Claim). z.begun) (standing_is layout c 0 v claim is).2 in
    absurd (false≢true (sym begun ∙ path.begun.1 (λ none. cc)))

-- a process that has made no turn in an object stands at its first place there
begins : (t : QuorumTable) (kind : Kind) (v : ℕ) → IsFitKind kind → v < t.values
    → PcIsAt t kind v (first_place t kind v) []
begins t (Conciliator s) v fit low =
    ((low, (s, 0, fit, (omega arith, refl, refl))), (refl, (0, (omega arith, refl, refl), tt)))
begins t Ratifier v fit low = (low, (refl, (0, omega arith, (λ k. (λ m. (omega arith, m), λ x. x.1)), refl)))
begins t LastObject v fit low = (low, (refl, refl))

module _ (layout : Layout) (c : ℕ) (low : c < consumer_count layout) where
  -- the layout has a first object, of some kind
  pub first_kind : (kind : Kind) × (slice_get (kinds_of layout) 0 ≡ Some kind)
  first_kind =
      let all = length-row_of layout.shape (spread (quorums_of layout).values) layout.pairs in
      get_some (kinds_of layout) 0 (omega (arith, all, layout.some))

  -- a consumer that has made no turn on a cell stands at the first place of the first object
  stands : StandsAt (quorums_of layout) (kinds_of layout) c 0 (first_place (quorums_of layout) first_kind.0 c) []
  stands =
      stands_first (quorums_of layout) (kinds_of layout) first_kind.0 c (first_place (quorums_of layout) first_kind.0 c)
      first_kind.1 low
      (begins (quorums_of layout) first_kind.0 c
      (fit_in_row (shape_of layout) (spread (quorums_of layout).values) (pair_count layout) 0 first_kind.0
      (last_turn_small layout) first_kind.1) low)

  -- if no turns are a prefix of a claim that goes on, some claim before the first object has made no turn
  pub new_claim : (StandsAt (quorums_of layout) (kinds_of layout) c 0
      (first_place (quorums_of layout) first_kind.0 c) []
      → IsClaimPrefix (claims_in layout 0) c [] stage.Going)
      → (claim : Claim) × IsStanding layout c 0 c claim × IsClaimIn layout claim []
  new_claim prefix = (
    standing layout c 0 c first_kind.0,
    subst (λ x. MatchOption x ⊥ (λ kind. standing layout c 0 c first_kind.0 ≡ standing layout c 0 c kind))
        (sym first_kind.1) refl,
    record {
      known = low;
      prefix = prefix stands;
      begun = (λ b. absurd (false≢true b), λ some. absurd (some refl));
      stands = λ g. stands;
    },
  )
