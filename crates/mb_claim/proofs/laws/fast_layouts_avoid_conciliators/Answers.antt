-- Proof of `laws::fast_layouts_avoid_conciliators`: in a layout with a fast path, if object 0 of a cell has decided
-- for one consumer, nobody comes to a conciliator of that cell.
use Rattle.std.proofs.Common.{◌≡◌, ◌≤◌, true, false, ◌∷◌, ◌++◌, ℕ, List, Some, sym, ap, ◌∙◌, subst, slice_get}
use Rattle.mb_deciding.specs.Vocabulary.{answer, IsPath, spread}
use Rattle.mb_claim.specs.{Kind, Conciliator, Ratifier, Layout, pairs_of, last_row, quorums_of, kinds_of, claims_of}
use Rattle.mb_claim.specs.{IsClaimLawful, IsClaimPrefix, part_on}
use Rattle.mb_claim.proofs.LayoutObjects.{quorums_lawful}
use Rattle.mb_claim.proofs.LastObjects.{begins_fast, conciliator_behind}
use Rattle.mb_claim.proofs.ObjectHistories.{turns_at, part-object_history}
use Rattle.mb_claim.proofs.PassedRatifiers.{both_came_undecided}
use Rattle.mb_claim.proofs.laws.fast_layouts_avoid_conciliators.Goals as goal

-- the objects of a layout's row after the fast path
abbrev behind : Layout → List Kind
behind layout = pairs_of (spread (quorums_of layout).values) layout.pairs ++ last_row layout.shape.last

-- a layout with a fast path begins with two ratifiers
row : (layout : Layout) → layout.shape.fast ≡ true → kinds_of layout ≡ Ratifier ∷ Ratifier ∷ behind layout
row layout fast = begins_fast layout.shape (spread (quorums_of layout).values) layout.pairs fast

-- in a layout with a fast path each conciliator comes after the two ratifiers
past : (layout : Layout) (o s : ℕ) → layout.shape.fast ≡ true → slice_get (kinds_of layout) o
    ≡ Some (Conciliator s) → 2 ≤ o
past layout o s fast is =
    conciliator_behind (behind layout) o s (ap (λ ks. slice_get ks o) (sym (row layout fast)) ∙ is)

pub returns-clause-decided : goal.returns-clause-decided
returns-clause-decided c layout cells k d u h fast lawful path e o s is =
    let t = quorums_of layout in
    c.fast_paths_take_two_ratifiers.ensures.decided t (behind layout) cells k d u h (quorums_lawful layout)
    (subst (λ ks. IsClaimLawful (claims_of t ks cells) h) (row layout fast) lawful) path e o (past layout o s fast is)

pub returns-clause-alone : goal.returns-clause-alone
returns-clause-alone c layout cells k d s later h fast lawful alone prefix ended e o i is =
    let t = quorums_of layout in
    c.fast_paths_take_two_ratifiers.ensures.alone t (behind layout) cells k d s later h (quorums_lawful layout)
    (subst (λ ks. IsClaimLawful (claims_of t ks cells) (later ++ h)) (row layout fast) lawful) alone
    (subst (λ ks. IsClaimPrefix (claims_of t ks cells) d (part_on d k h) s) (row layout fast)
    prefix) ended e o (past layout o i fast is)

pub returns-clause-undecided : goal.returns-clause-undecided
returns-clause-undecided c layout cells k d o s h fast lawful is some =
    let t = quorums_of layout in
    let xs = part_on d k h in
    let here = part-object_history d k in
    let mine = lawful.parts d k (λ none. some (here o h ∙ ap (turns_at o) none)) in
    let left =
    both_came_undecided t d (behind layout) d o xs mine.2.0 (past layout o s fast is)
    (subst (λ ks. IsClaimPrefix (claims_of t ks cells) d xs mine.2.0) (row layout fast) mine.2.1)
    (λ none. some (here o h ∙ none)) in (
      left.0,
      left.1,
      subst (λ ts. IsPath t Ratifier d ts (answer false left.0)) (sym (here 0 h)) left.2,
      subst (λ ts. IsPath t Ratifier left.0 ts (answer false left.1)) (sym (here 1 h)) left.3,
    )
