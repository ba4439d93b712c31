-- A claim before its first access to an object, and its accesses to that object, after which it goes on or has ended.
use Rattle.std.proofs.Common.{◌≡◌, ◌≢◌, ◌+◌, ◌<◌, ◌==◌, ◌∙◌, ℕ, suc, Bool, true, false, cond, Option, Some, None, MatchOption, arith}
use Rattle.std.proofs.Common.{[], List, length, slice_get, get_or, refl, sym, subst, ap}
use Rattle.std.proofs.lemmas.Bool.{false≢true}
use Rattle.std.proofs.lemmas.Option.{slice_get-get_or, slice_get_within}
use Rattle.mb_quorum.specs.Vocabulary.{QuorumTable}
use Rattle.mb_deciding.specs.declared.access.Op.{Op}
use Rattle.mb_deciding.specs.declared.place.pc.Next.TheVariants as leads
use Rattle.mb_deciding.specs.Course.{IsFitKind}
use Rattle.mb_deciding.specs.Vocabulary.{answer, PcIsAt, IsPlace, IsOpAt, spread, first_place}
use Rattle.mb_deciding.specs.ManySteps.{AreSteps, DrawsAndMakes}
use Rattle.mb_claim.specs.{Kind, Conciliator, Ratifier, LastObject, Pc, Next, Site, Claim, ClaimOp, Going, Won, Lost, Undecided, Stage, Stretch, Layout}
use Rattle.mb_claim.specs.{quorums_of, kinds_of, claims_in, consumer_count, consumer_of, claim_stage, stage_for, FitsLayout, IsNextOp}
use Rattle.mb_claim.specs.{Claims, ClaimsAreSound, IsClaimIn, IsClaimPrefix, ObjectTurn, StandsAt}
use Rattle.mb_claim.specs.{standing, IsStanding, site_of, HasEnd, AreClaimSteps, DrawsAndMakesNext}
use Rattle.mb_claim.proofs.ClaimSteps.{PlacesMakeParts, claim_passed, claim_decided, stands_first}
use Rattle.mb_claim.proofs.StepsLeft.{won_ended, lost_ended}
use Rattle.mb_claim.proofs.LayoutObjects.{length-row_of, fit_in_row, last_turn_small, quorums_lawful}
use Rattle.mb_claim.proofs.ManyClaimSteps.{ended_on, stood_after, all_go_on, stage_after, object_after, place_after, joined}

-- ---- the first place of an object
-- a process with input v that has made no turn on an object is at the object's first place for v
pub first_begins :
    (t : QuorumTable) (kind : Kind) (v : ℕ) → IsFitKind kind → v < t.values → PcIsAt t kind v (first_place t kind v) []
first_begins t (Conciliator s) v fit below =
    ((below, (s, 0, fit, (omega arith, refl, refl))), (refl, (0, (omega arith, refl, refl), tt)))
first_begins t Ratifier v fit below =
    (below, (refl, (0, omega arith, (λ k. ((λ m. (omega arith, m)), (λ p. p.1))), refl)))
first_begins t LastObject v fit below = (below, (refl, refl))

-- the first place of an object, for an input that is a value of the table, is a place over that table
pub first_fits :
    (t : QuorumTable) (kind : Kind) (v : ℕ) → IsFitKind kind → v < t.values → IsPlace t (first_place t kind v)
first_fits t (Conciliator s) v fit below = (below, (s, 0, fit, (omega arith, refl, refl)))
first_fits t Ratifier v fit below = below
first_fits t LastObject v fit below = below

-- ---- claims before an object
-- each object of a layout is of some kind, and if that is a conciliator, its last attempt is at most 63 (`IsFitKind`)
pub some_kind : (layout : Layout) (o : ℕ) → o < length (kinds_of layout)
    → (kind : Kind) × (slice_get (kinds_of layout) o ≡ Some kind) × IsFitKind kind
some_kind layout o below =
    let kind = get_or (kinds_of layout) o Ratifier in
    let at = slice_get-get_or (kinds_of layout) o Ratifier below in (
      kind,
      at,
      fit_in_row layout.shape (spread (quorums_of layout).values) layout.pairs o kind (last_turn_small layout) at,
    )

module _ (layout : Layout) (c o v : ℕ) where
  -- if object o has this kind, the claim `standing` for the kind is one before its first access to object o
  pub is_standing :
      (kind : Kind) (claim : Claim) → slice_get (kinds_of layout) o ≡ Some kind → claim ≡ standing layout c o v kind
      → IsStanding layout c o v claim
  is_standing kind claim at is =
      subst (λ k. MatchOption k ⊥ (λ kind. claim ≡ standing layout c o v kind)) (sym at) is

  -- if object o has this kind, each claim before its first access to object o is `standing` for the kind
  pub standing_is :
      (kind : Kind) (claim : Claim) → slice_get (kinds_of layout) o ≡ Some kind → IsStanding layout c o v claim
      → claim ≡ standing layout c o v kind
  standing_is kind claim at is =
      subst (λ k. MatchOption k ⊥ (λ kind. claim ≡ standing layout c o v kind)) at is

  -- a claim before its first access to an object of the layout may be called with that layout (`FitsLayout`)
  pub standing_fits :
      (kind : Kind) → slice_get (kinds_of layout) o ≡ Some kind → IsFitKind kind → v < consumer_count layout
      → FitsLayout layout (standing layout c o v kind)
  standing_fits kind at fit below going =
      record {
        object = slice_get_within (kinds_of layout) o kind at;
        place = first_fits (quorums_of layout) kind v fit below;
      }

-- a claim of consumer c that ended on object o with this stage. Its input to the object was v
abbrev pub closed : Layout → ℕ → ℕ → ℕ → Kind → Stage → Claim
closed layout c o v kind stage =
    record {
      consumer = c;
      object = o;
      place = first_place (quorums_of layout) kind v;
      stage = stage;
      begun = true;
    }

-- ---- stages of claims that have ended, and the ends of stretches
-- a claim for which a value was decided is not going
pub stage_for_ended : (c u : ℕ) → stage_for c u ≢ Going
stage_for_ended c u = by_test (c == u)
  where
    -- neither `Won` nor `Lost` is `Going`, whichever of them the test b picks
    by_test : (b : Bool) → cond b Won (Lost u) ≢ Going
    by_test true = won_ended
    by_test false = lost_ended u

-- an undecided claim is not going
undecided_ended : Undecided ≢ Going
undecided_ended e = cc

-- if a stretch has a stage that is not `Going`, a claim that ended with that stage is the stretch's end (`HasEnd`)
closed_end :
    (layout : Layout) (c o v : ℕ) (kind : Kind) (stage : Stage) → stage ≢ Going → (stretch : Stretch)
    → stretch.stage ≡ stage → HasEnd layout c stretch (closed layout c o v kind stage)
closed_end layout c o v kind stage ended stretch is =
    (sym is, refl, (λ g. absurd (ended g)), (λ g. absurd (ended (sym is ∙ g))))

-- if a stretch is going, a claim before its first access to the stretch's object is the stretch's end (`HasEnd`)
pub standing_end :
    (layout : Layout) (c : ℕ) (stretch : Stretch) (claim : Claim) → stretch.stage ≡ Going
    → stretch.object < length (kinds_of layout) → stretch.value < consumer_count layout
    → IsStanding layout c stretch.object stretch.value claim → HasEnd layout c stretch claim
standing_end layout c stretch claim going below within stands =
    let kind = some_kind layout stretch.object below in
    let is = standing_is layout c stretch.object stretch.value kind.0 claim kind.1 stands in
    let there = standing layout c stretch.object stretch.value kind.0 in
    subst (λ d. HasEnd layout c stretch d) (sym is) (
      sym going,
      refl,
      standing_fits layout c stretch.object stretch.value kind.0 kind.1 kind.2 within,
      (λ g. is_standing layout c stretch.object stretch.value kind.0 there kind.1 refl),
    )

-- ---- the accesses of a claim to a whole object
module _ {M : Type 0} (layout : Layout) (parts : PlacesMakeParts (quorums_of layout) (kinds_of layout))
    (draws : M → ℕ → M → Type 0) (makes : M → ℕ → Op → ℕ → M → Type 0)
    (c o v : ℕ) (kind : Kind) (start now : M) (n u : ℕ) where
  -- n accesses to object o that end with the undecided output u are accesses of the claim. If another object comes
  -- next, the claim is then before its first access there, with input u
  pub passed_on :
      (next : Kind) → slice_get (kinds_of layout) (suc o) ≡ Some next → IsFitKind next → u < consumer_count layout
      → AreSteps (quorums_of layout) (DrawsAndMakes draws makes o) (first_place (quorums_of layout) kind v) start n
      (leads.Out (answer false u)) now
      → AreClaimSteps layout (DrawsAndMakesNext draws makes) (standing layout c o v kind) start n
      (standing layout c (suc o) u next) now
  passed_on next at fit below steps =
      let t = quorums_of layout in
      let m : suc o ≡ o + 1 = omega arith in
      ended_on layout parts draws makes (standing layout c o v kind) refl start n (answer false u) now
      (standing layout c (suc o) u next) refl steps
      (λ pc begun xs turn of reaches.
      let p = of.stands refl in
      claim_passed t (kinds_of layout) (standing layout c (suc o) u next) c o pc xs p turn u parts refl of.known refl
      below (reaches p.kind p.input p.turns p.place) (Some next)
      (subst (λ k. slice_get (kinds_of layout) k ≡ Some next) m at) (refl, m, first_begins t next u fit below))

  -- n accesses to object o, the row's final one, that end undecided are the claim's. The claim is then undecided
  pub passed_last :
      slice_get (kinds_of layout) (suc o) ≡ None → u < consumer_count layout
      → AreSteps (quorums_of layout) (DrawsAndMakes draws makes o) (first_place (quorums_of layout) kind v) start n
      (leads.Out (answer false u)) now
      → AreClaimSteps layout (DrawsAndMakesNext draws makes) (standing layout c o v kind) start n
      (closed layout c o v kind Undecided) now
  passed_last at below steps =
      let m : suc o ≡ o + 1 = omega arith in
      ended_on layout parts draws makes (standing layout c o v kind) refl start n (answer false u) now
      (closed layout c o v kind Undecided) refl steps
      (λ pc begun xs turn of reaches.
      let p = of.stands refl in
      claim_passed (quorums_of layout) (kinds_of layout) (closed layout c o v kind Undecided) c o pc xs p turn u parts
      refl of.known refl below (reaches p.kind p.input p.turns p.place) None
      (subst (λ k. slice_get (kinds_of layout) k ≡ None) m at) refl)

  -- n accesses to object o that end decided are accesses of the claim, which is then won or lost
  pub decided_at :
      AreSteps (quorums_of layout) (DrawsAndMakes draws makes o) (first_place (quorums_of layout) kind v) start n
      (leads.Out (answer true u)) now
      → AreClaimSteps layout (DrawsAndMakesNext draws makes) (standing layout c o v kind) start n
      (closed layout c o v kind (stage_for c u)) now
  decided_at steps =
      ended_on layout parts draws makes (standing layout c o v kind) refl start n (answer true u) now
      (closed layout c o v kind (stage_for c u)) refl steps
      (λ pc begun xs turn of reaches.
      let p = of.stands refl in
      claim_decided (quorums_of layout) (kinds_of layout) (closed layout c o v kind (stage_for c u)) o pc xs p turn u
      of.known refl (stage_for_ended c u) refl (reaches p.kind p.input p.turns p.place))

-- ---- what a caller has to show, and what it learns
module _ {M : Type 0} (layout : Layout) (parts : PlacesMakeParts (quorums_of layout) (kinds_of layout))
    (draws : M → ℕ → M → Type 0) (makes : M → ℕ → Op → ℕ → M → Type 0)
    (c o v : ℕ) (kind : Kind) (at : slice_get (kinds_of layout) o ≡ Some kind) (start : M)
    (begin : ℕ) (site : Site) (same : site ≡ site_of layout begin o) where
  -- accesses to the object that the site names are accesses to object o
  at_site :
      (pc : Pc) (n : ℕ) (follows : Next) (now : M)
      → AreSteps (quorums_of layout) (DrawsAndMakes draws makes site.object) pc start n follows now
      → AreSteps (quorums_of layout) (DrawsAndMakes draws makes o) pc start n follows now
  at_site pc n follows now steps =
      subst (λ s. AreSteps (quorums_of layout) (DrawsAndMakes draws makes s.object) pc start n follows now) same steps

  -- if each next access of the claim may be made, so may each access to object o of a process that began at the first
  -- place there
  pub site_may :
      (can : M → Site → Op → Type 0)
      → ((claim : Claim) → IsStanding layout c o v claim → (n word : ℕ) (follows : Claim) (before mid : M)
      (next : ClaimOp)
      → AreClaimSteps layout (DrawsAndMakesNext draws makes) claim start n follows before
      → claim_stage follows ≡ Going → draws before word mid → IsNextOp layout follows next
      → can mid (site_of layout begin next.object) next.op)
      → (n word : ℕ) (pc : Pc) (before mid : M) (op : Op)
      → AreSteps (quorums_of layout) (DrawsAndMakes draws makes site.object) (first_place (quorums_of layout) kind v)
      start n (leads.Go pc) before
      → draws before word mid → IsOpAt (quorums_of layout) pc op → can mid site op
  site_may can may n word pc before mid op steps drawn is =
      let claim = standing layout c o v kind in
      let all = at_site (first_place (quorums_of layout) kind v) n (leads.Go pc) before steps in
      subst (λ s. can mid s op) (sym same)
      (may claim (is_standing layout c o v kind claim at refl) n word (stood_after n pc claim) before mid
      (record { object = o; op = op })
      (all_go_on layout parts draws makes claim refl start n pc before all)
      (stage_after layout parts draws makes claim refl start n pc) drawn
      (record {
        object = sym (object_after layout parts draws makes claim refl start n pc);
        op = subst (λ place. IsOpAt (quorums_of layout) place op)
            (sym (place_after layout parts draws makes claim refl start n pc before all)) is;
      }))

  module _ (claim : Claim) (stands : IsStanding layout c o v claim) (n u : ℕ) (now : M) where
    -- accesses of the claim `standing` are accesses of this claim, which equals it
    of_claim :
        (follows : Claim) → AreClaimSteps layout (DrawsAndMakesNext draws makes) (standing layout c o v kind) start n
        follows now
        → AreClaimSteps layout (DrawsAndMakesNext draws makes) claim start n follows now
    of_claim follows steps =
        subst (λ d. AreClaimSteps layout (DrawsAndMakesNext draws makes) d start n follows now)
        (sym (standing_is layout c o v kind claim at stands)) steps

    -- if accesses to the object end undecided, the claim made them and is before its first access to the next object
    pub led_on :
        (m : ℕ) (next : Kind) → m ≡ suc o → slice_get (kinds_of layout) m ≡ Some next → IsFitKind next
        → u < consumer_count layout
        → AreSteps (quorums_of layout) (DrawsAndMakes draws makes site.object) (first_place (quorums_of layout) kind v)
        start n (leads.Out (answer false u)) now
        → (follows : Claim) × AreClaimSteps layout (DrawsAndMakesNext draws makes) claim start n follows now
        × FitsLayout layout follows × IsStanding layout c m u follows
    led_on m next e there fit below steps =
        let all = at_site (first_place (quorums_of layout) kind v) n (leads.Out (answer false u)) now steps in
        let after = subst (λ k. slice_get (kinds_of layout) k ≡ Some next) e there in (
          standing layout c (suc o) u next,
          of_claim (standing layout c (suc o) u next)
              (passed_on layout parts draws makes c o v kind start now n u next after fit below all),
          standing_fits layout c (suc o) u next after fit below,
          is_standing layout c m u next (standing layout c (suc o) u next) there
              (ap (λ k. standing layout c k u next) (sym e)),
        )

    -- if accesses to object o, the row's final one, end undecided, the claim made them and is undecided
    pub led_out :
        (stretch : Stretch) → stretch.stage ≡ Undecided → slice_get (kinds_of layout) (suc o) ≡ None
        → u < consumer_count layout
        → AreSteps (quorums_of layout) (DrawsAndMakes draws makes site.object) (first_place (quorums_of layout) kind v)
        start n (leads.Out (answer false u)) now
        → (end : Claim) × AreClaimSteps layout (DrawsAndMakesNext draws makes) claim start n end now
        × HasEnd layout c stretch end
    led_out stretch is none below steps =
        let all = at_site (first_place (quorums_of layout) kind v) n (leads.Out (answer false u)) now steps in (
          closed layout c o v kind Undecided,
          of_claim (closed layout c o v kind Undecided)
              (passed_last layout parts draws makes c o v kind start now n u none below all),
          closed_end layout c o v kind Undecided undecided_ended stretch is,
        )

    -- if accesses to the object end decided, the claim made them and is won or lost
    pub led_to_end :
        (stretch : Stretch) → stretch.stage ≡ stage_for c u
        → AreSteps (quorums_of layout) (DrawsAndMakes draws makes site.object) (first_place (quorums_of layout) kind v)
        start n (leads.Out (answer true u)) now
        → (end : Claim) × AreClaimSteps layout (DrawsAndMakesNext draws makes) claim start n end now
        × HasEnd layout c stretch end
    led_to_end stretch is steps =
        let all = at_site (first_place (quorums_of layout) kind v) n (leads.Out (answer true u)) now steps in (
          closed layout c o v kind (stage_for c u),
          of_claim (closed layout c o v kind (stage_for c u))
              (decided_at layout parts draws makes c o v kind start now n u all),
          closed_end layout c o v kind (stage_for c u) (stage_for_ended c u) stretch is,
        )

-- ---- object by object
-- two claims of one consumer before its first access to one object, with one input, are equal
one_of : (kind : Option Kind) (there : Kind → Claim) (a b : Claim) → MatchOption kind ⊥ (λ k. a ≡ there k)
    → MatchOption kind ⊥ (λ k. b ≡ there k) → a ≡ b
one_of None there a b p q = absurd p
one_of (Some k) there a b p q = p ∙ sym q

-- a layout has at least one object
has_first : (layout : Layout) → 0 < length (kinds_of layout)
has_first layout =
    let all = length-row_of layout.shape (spread (quorums_of layout).values) layout.pairs in
    omega (arith, all, layout.some)

-- each consumer has a claim before its first access to object 0
pub first_claim : (layout : Layout) (c : ℕ) → (claim : Claim) × IsStanding layout c 0 c claim
first_claim layout c =
    let kind = some_kind layout 0 (has_first layout) in
    (standing layout c 0 c kind.0, is_standing layout c 0 c kind.0 (standing layout c 0 c kind.0) kind.1 refl)

-- a claim of consumer c before its first access to object 0 is c's claim
pub first_owner : (layout : Layout) (c : ℕ) (claim : Claim) → IsStanding layout c 0 c claim → consumer_of claim ≡ c
first_owner layout c claim stands =
    let kind = some_kind layout 0 (has_first layout) in
    ap consumer_of (standing_is layout c 0 c kind.0 claim kind.1 stands)

-- a claim before its first access to object 0 is the claim of a consumer without turns (`IsClaimIn`)
pub first_path :
    ((cs : Claims) (c object : ℕ) (pc : Pc) (xs : List ObjectTurn) → ClaimsAreSound cs
    → StandsAt cs.table cs.kinds c object pc xs → IsClaimPrefix cs c xs Going)
    → (layout : Layout) (c : ℕ) (claim : Claim) → c < consumer_count layout → IsStanding layout c 0 c claim
    → IsClaimIn layout claim []
first_path prefix layout c claim below stands =
    let kind = some_kind layout 0 (has_first layout) in
    let is = standing_is layout c 0 c kind.0 claim kind.1 stands in
    let t = quorums_of layout in
    let place = first_place t kind.0 c in
    let at = stands_first t (kinds_of layout) kind.0 c place kind.1 below
    (first_begins t kind.0 c kind.2 below) in
    subst (λ d. IsClaimIn layout d []) (sym is) (record {
      known = below;
      prefix = prefix (claims_in layout 0) c 0 place [] (quorums_lawful layout) at;
      begun = (λ b. absurd (false≢true b), λ some. absurd (some refl));
      stands = λ g. at;
    })

-- from each claim of consumer c before its first access to object o, with input v, accesses led to a claim of which P
-- holds. Of `most` accesses that it might make, `left` are left
abbrev pub AreLed : {M : Type 0} → Layout → (M → ℕ → ClaimOp → ℕ → M → Type 0) → ℕ → ℕ → ℕ → M → ℕ → (Claim → Type 0)
    → M → ℕ → Type 0
AreLed layout makes c o v start most P now left =
    (claim : Claim) → IsStanding layout c o v claim
    → (n : ℕ) × (follows : Claim) × (n + left ≡ most) × AreClaimSteps layout makes claim start n follows now
    × P follows

-- if Q follows from P, accesses that led to a claim of which P holds led to one of which Q holds
pub led_as :
    {M : Type 0} (layout : Layout) (makes : M → ℕ → ClaimOp → ℕ → M → Type 0) (c o v : ℕ) (start : M) (most : ℕ)
    (P Q : Claim → Type 0) (now : M) (left : ℕ) → AreLed layout makes c o v start most P now left
    → ((claim : Claim) → P claim → Q claim) → AreLed layout makes c o v start most Q now left
led_as layout makes c o v start most P Q now left led follows claim stands =
    let a = led claim stands in (a.0, a.1, a.2, a.3, follows a.1 a.4)

module _ {M : Type 0} (layout : Layout) (draws : M → ℕ → M → Type 0) (makes : M → ℕ → Op → ℕ → M → Type 0) (c : ℕ)
    (start : M) (most o v : ℕ) (between : M) (left : ℕ)
    (first : AreLed layout (DrawsAndMakesNext draws makes) c 0 c start most (IsStanding layout c o v) between
    left) where
  -- accesses that begin where the first ones ended are, together with these, accesses of a new claim
  pub further :
      (P : Claim → Type 0) (now : M) (rest : ℕ)
      → AreLed layout (DrawsAndMakesNext draws makes) c o v between left P now rest
      → AreLed layout (DrawsAndMakesNext draws makes) c 0 c start most P now rest
  further P now rest more claim stands =
      let a = first claim stands in
      let b = more a.1 a.4 in (
        b.0 + a.0,
        b.1,
        omega (arith, a.2, b.2),
        joined layout (DrawsAndMakesNext draws makes) claim start a.0 a.1 between a.3 b.0 b.1 now b.3,
        b.4,
      )

  -- if each next access of a new claim may be made, so may each one that comes after the first accesses
  pub further_may :
      (may : Claim → M → ClaimOp → Type 0)
      → ((claim : Claim) → IsStanding layout c 0 c claim → (n word : ℕ) (follows : Claim) (before mid : M)
      (next : ClaimOp)
      → AreClaimSteps layout (DrawsAndMakesNext draws makes) claim start n follows before
      → claim_stage follows ≡ Going → draws before word mid → IsNextOp layout follows next → may follows mid next)
      → (claim : Claim) → IsStanding layout c o v claim → (n word : ℕ) (follows : Claim) (before mid : M)
      (next : ClaimOp)
      → AreClaimSteps layout (DrawsAndMakesNext draws makes) claim between n follows before
      → claim_stage follows ≡ Going → draws before word mid → IsNextOp layout follows next → may follows mid next
  further_may may all claim stands n word follows before mid next steps going drawn is =
      let new = first_claim layout c in
      let a = first new.0 new.1 in
      let same : a.1 ≡ claim = one_of (slice_get (kinds_of layout) o) (standing layout c o v) a.1 claim a.4 stands in
      all new.0 new.1 (n + a.0) word follows before mid next
      (joined layout (DrawsAndMakesNext draws makes) new.0 start a.0 a.1 between a.3 n follows before
      (subst (λ d. AreClaimSteps layout (DrawsAndMakesNext draws makes) d between n follows before) (sym same) steps))
      going drawn is
