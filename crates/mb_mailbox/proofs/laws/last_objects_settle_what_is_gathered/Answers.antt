-- Proof of `laws::last_objects_settle_what_is_gathered`: what a report shows if each cell has a last object.
use Rattle.std.proofs.Common.{◌≡◌, ◌∙◌, ◌<◌, Bool, List, [], ◌∷◌, ap, arith, false, inl, length, refl, subst, suc, true, ℕ}
use Rattle.std.specs.Prelude.{IsSome, None, Option, Some, if◌then◌else◌, slice_get}
use Rattle.std.specs.Option.{is_none, option_map_or}
use Rattle.std.proofs.lemmas.Option.{slice_get_within}
use Rattle.mb_world.specs.Theorem.{DiaryView, LaneView, diary, items_put, items_where}
use Rattle.mb_quorum.specs.declared.table.TableName.TheVariants.{Bits}
use Rattle.mb_claim.specs.Vocabulary.{pair_count, quorums_of, shape_of}
use Rattle.mb_mailbox.specs.Mailboxes.{plan_at}
use Rattle.mb_mailbox.proofs.laws.last_objects_settle_what_is_gathered.Goals as goal

pub returns-clause-notes : goal.returns-clause-notes
returns-clause-notes c m h r d p j last g =
    c.last_objects_settle_items.ensures.notes (plan_at m) g.histories r d p j
    (c.shaped_setups_have_last_objects.ensures.plans (shape_of m.claims.layout) 0
    (quorums_of m.claims.layout).values 0 (pair_count m.claims.layout) Bits last)
    g.sound g.report

pub returns-clause-beside : goal.returns-clause-beside
returns-clause-beside c m h r last g =
    c.last_objects_settle_items.ensures.beside (plan_at m) g.histories r
    (c.shaped_setups_have_last_objects.ensures.plans (shape_of m.claims.layout) 0
    (quorums_of m.claims.layout).values 0 (pair_count m.claims.layout) Bits last)
    g.sound g.report

pub returns-clause-taken : goal.returns-clause-taken
returns-clause-taken c m h r last g =
    c.last_objects_settle_items.ensures.taken (plan_at m) g.histories r
    (c.shaped_setups_have_last_objects.ensures.plans (shape_of m.claims.layout) 0
    (quorums_of m.claims.layout).values 0 (pair_count m.claims.layout) Bits last)
    g.sound g.report

-- if no position passes the test, no item is picked
none_where : (test : ℕ → Bool) (xs : List ℕ) → ((j : ℕ) → j < length xs → test j ≡ false) → items_where test xs ≡ []
none_where test [] fails = refl
none_where test (x ∷ xs) fails =
    ap (λ (b : Bool). if b then x ∷ items_where (λ j. test (suc j)) xs else items_where (λ j. test (suc j)) xs)
    (fails 0 (omega arith))
    ∙ none_where (λ j. test (suc j)) xs (λ j low. fails (suc j) (omega (arith, low)))

-- an item stands in a lane that the report has
lane_of_item : (ls : List LaneView) (p j : ℕ) (o : Option LaneView) → slice_get ls p ≡ o
    → j < length (option_map_or (λ (l : LaneView). l.put) (slice_get ls p) []) → p < length ls
lane_of_item ls p j None e low =
    let none = subst (λ (o : Option LaneView). j < length (option_map_or (λ (l : LaneView). l.put) o [])) e low in
    absurd (omega (arith, none))
lane_of_item ls p j (Some l) e low = slice_get_within ls p l e

-- a diary that says that a claim is begun is there
begun_there : (o : Option DiaryView) → option_map_or (λ (d : DiaryView). d.begun) o false ≡ true → IsSome o
begun_there None e = absurd (cc)
begun_there (Some d) e = refl

pub returns-clause-none_left : goal.returns-clause-none_left
returns-clause-none_left c m h r p last g noted =
    let theorem = g.main_theorem in
    let all = returns-clause-taken c m h r last g in
    theorem.left p ∙ none_where (λ j. is_none (theorem.assignment p j)) (items_put p r) (λ j low.
    let lane = lane_of_item r.lanes p j (slice_get r.lanes p) refl low in
    let first = (c.layouts_are_sound.ensures.consumers m.claims.layout).0 in
    let count = noted 0 (omega (arith, first)) in
    let taken = all p (λ d begun.
    let there = ((c.reports_have_all_diaries.ensures (plan_at m) g.histories r d p g.report).0
    (begun_there (diary d p r) begun)).0 in
    let full = noted d there in
    let fewer = theorem.given.begun_within d p begun in
    absurd (omega (arith, full, fewer))) 0 j low (inl (omega (arith, count, low))) in
    ap is_none ((theorem.given.taken taken.0 p j).0 taken.1))
