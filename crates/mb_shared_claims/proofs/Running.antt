-- Accesses of a claim in a memory that shows a seat and a source of random words are steps of the seat.
use Rattle.std.proofs.Common.{◌≡◌, ◌<◌, ◌≤◌, ◌+◌, ℕ, zero, suc, List, ◌∷◌, length, refl, sym, ap, ◌∙◌, subst, arith}
use Rattle.rand_core.specs.Stream.{Stream, next_u64}
use Rattle.mb_deciding.specs.Vocabulary.{reg_of}
use Rattle.mb_claim.specs.Vocabulary.{IsWordInLayout, claims_in, claim_stage, consumer_of, IsClaimIn, IsClaimLawful, IsNextOp, part, part_on}
use Rattle.mb_claim.specs.Vocabulary.{AreClaimSteps, DrawsAndMakesNext, most_accesses}
use Rattle.mb_shared_claims.specs.Types.{Claim, ClaimAccess, ClaimOp, Going, Layout, ObjectTurn, Op}
use Rattle.mb_shared_claims.specs.ViewSteps.{ComesAfter}
use Rattle.mb_shared_claims.specs.Seats.{SeatView, TableView, name_of}
use Rattle.mb_shared_claims.specs.SeatSteps.{IsSeatStep, MayComeNext, access_of, with_access}
use Rattle.mb_shared_claims.specs.ManySeatSteps.{AreSeatSteps}
use Rattle.mb_shared_claims.proofs.ClaimMoves.{CutParts, FindsTold, KeepsMemory, OwnCell, may_come, seat_step, stands_on}

-- what accesses in such a memory leave as it is: the table, the cell, and which seat and which source are borrowed
pub record Frame (N P : Type 0) : Type 0 where
  pub table : TableView
  pub cell : ℕ
  pub seat : N
  pub rng : P

-- the frame of a table, a cell, a seat and a source
frame : {N P : Type 0} → TableView → ℕ → N → P → Frame N P
frame t k n p = record { table = t; cell = k; seat = n; rng = p }

module _ {N P : Type 0} {a b : Frame N P} where
  -- frames are equal if their tables, cells, seats and sources are
  pub same_frame : a.table ≡ b.table → a.cell ≡ b.cell → a.seat ≡ b.seat → a.rng ≡ b.rng → a ≡ b
  unfolding frame
  same_frame e f g h =
      ap (λ x. frame x a.cell a.seat a.rng) e ∙ ap (λ x. frame b.table x a.seat a.rng) f
      ∙ ap (λ x. frame b.table b.cell x a.rng) g ∙ ap (λ x. frame b.table b.cell b.seat x) h

  -- equal frames have equal tables
  pub same_table : a ≡ b → a.table ≡ b.table
  same_table e = ap (λ (k : Frame N P). k.table) e

  -- equal frames have equal cells
  pub same_cell : a ≡ b → a.cell ≡ b.cell
  same_cell e = ap (λ (k : Frame N P). k.cell) e

  -- equal frames have equal seats
  pub same_seat : a ≡ b → a.seat ≡ b.seat
  same_seat e = ap (λ (k : Frame N P). k.seat) e

  -- equal frames have equal sources
  pub same_rng : a ≡ b → a.rng ≡ b.rng
  same_rng e = ap (λ (k : Frame N P). k.rng) e

-- this access was made from the seat, with this random word, and led to the seat that follows
abbrev pub IsMade : TableView → ℕ → ClaimOp → ℕ → ℕ → SeatView → SeatView → Type 0
IsMade t cell next seen word seat now =
    let a = access_of seat.consumer cell next seen word in
    (now ≡ with_access a seat) × ComesAfter (claims_in t.layout t.cells) a seat.part

-- the seat may make this access next
abbrev pub CanMake : TableView → ℕ → ClaimOp → SeatView → Type 0
CanMake t cell next seat =
    (seat.table ≡ name_of t) × (cell < t.cells) × IsWordInLayout t.layout next.object (reg_of next.op)
    × MayComeNext (claims_in t.layout t.cells) seat.consumer cell seat.part next

-- the word of a claim's next access is one of its layout
abbrev pub HasNextWord : Type 0
HasNextWord =
    (layout : Layout) (claim : Claim) (next : ClaimOp) (xs : List ObjectTurn) → IsClaimIn layout claim xs
    → claim_stage claim ≡ Going → IsNextOp layout claim next → IsWordInLayout layout next.object (reg_of next.op)

-- ---- accesses in a memory of type M, which shows a seat, a stream and a random word
module _ (t : TableView) (cell : ℕ) {M : Type 0} {K : Type 0} (seat : M → SeatView) (stream : M → Stream) (word : M → ℕ)
    (kept : M → K) (draws : M → ℕ → M → Type 0) (makes : M → ℕ → Op → ℕ → M → Type 0) where
  -- each draw gives the stream's next word, and changes nothing but the word and the stream
  abbrev pub Draws : Type 0
  Draws =
      (m mid : M) (w : ℕ) → draws m w mid
      → ((w, stream mid) ≡ next_u64 (stream m)) × (word mid ≡ w) × (seat mid ≡ seat m) × (kept mid ≡ kept m)

  -- each access is made from the seat with the memory's random word, and changes nothing but the seat
  abbrev pub MakeAccess : M → Type 0
  MakeAccess start =
      (m now : M) (next : ClaimOp) (seen : ℕ) → kept m ≡ kept start → makes m next.object next.op seen now
      → IsMade t cell next seen (word m) (seat m) (seat now) × (stream now ≡ stream m) × (kept now ≡ kept m)

  module _ (start : M) (claim : Claim) (drawn : Draws) (made : MakeAccess start) (cut : CutParts)
      (own_cell : OwnCell) (finds : FindsTold)
      (low : cell < t.cells) (named : (seat start).table ≡ name_of t) (own : consumer_of claim ≡ (seat start).consumer)
      (stands : IsClaimIn t.layout claim (part_on (seat start).consumer cell (seat start).part)) where
    -- n accesses were steps of the seat, and led to this claim. It has made all that its consumer did on the cell, n
    -- accesses more than at the start. Its consumer, the table, and what the memory keeps are the same
    pub record Arrived (n : ℕ) (at : Claim) (now : M) : Type 0 where
      pub steps : AreSeatSteps t.layout cell claim (seat start) (stream start) n at (seat now) (stream now)
      pub keeps : kept now ≡ kept start
      pub owned : consumer_of at ≡ (seat now).consumer
      pub names : (seat now).table ≡ name_of t
      pub rests : IsClaimIn t.layout at (part_on (seat now).consumer cell (seat now).part)
      pub count : length (part_on (seat now).consumer cell (seat now).part)
          ≡ n + length (part_on (seat start).consumer cell (seat start).part)

    -- after n accesses of the claim, one after the other, `Arrived` holds
    pub arrives :
        (n : ℕ) (at : Claim) (now : M) → AreClaimSteps t.layout (DrawsAndMakesNext draws makes) claim start n at now
        → Arrived n at now
    arrives zero at now (is, same) =
        subst (λ c. Arrived 0 c now) (sym is) (subst (λ m. Arrived 0 claim m) (sym same)
        (record {
          steps = (refl, refl, refl);
          keeps = refl;
          owned = own;
          names = named;
          rests = stands;
          count = omega arith;
        }))
    arrives (suc n) follows now (at, before, w, older, going, still, step) =
        let p = arrives n at before older in
        let mid = step.made.0 in
        let d = drawn before mid w step.made.1 in
        let m = made mid now step.next step.seen (d.3 ∙ p.keeps) step.made.2 in
        let is : IsMade t cell step.next step.seen w (seat before) (seat now) =
        subst (λ s. IsMade t cell step.next step.seen w s (seat now)) d.2
        (subst (λ x. IsMade t cell step.next step.seen x (seat mid) (seat now)) d.1 m.0) in
        let turn : IsSeatStep t.layout cell w at (seat before) follows (seat now) =
        seat_step cut t (seat before) cell at low p.owned p.rests going finds (seat now) w follows
        step.next step.seen p.names
        step.is is.0 is.1 step.path in
        let a = access_of (seat before).consumer cell step.next step.seen w in
        let adds : seat now ≡ with_access a (seat before) = is.0 in
        let word_drawn : (w, stream now) ≡ next_u64 (stream before) =
        subst (λ u. (w, u) ≡ next_u64 (stream before)) (sym m.1) d.0 in
        let stands_then = stands_on own_cell t.layout cell w at follows (seat before) (seat now) turn p.rests in
        record {
          steps = (at, seat before, stream before, w, p.steps, going, word_drawn, turn, still, stands_then);
          keeps = m.2 ∙ (d.3 ∙ p.keeps);
          owned = still ∙ p.owned ∙ sym (ap (λ (s : SeatView). s.consumer) adds);
          names = ap (λ (s : SeatView). s.table) adds ∙ p.names;
          rests = stands_then;
          count =
              let c = (seat before).consumer in
              let longer : length (part_on (seat now).consumer cell (seat now).part)
              ≡ length (part_on c cell (a ∷ (seat before).part)) =
              ap (λ (s : SeatView). length (part_on s.consumer cell s.part)) adds in
              let one : length (part_on c cell (a ∷ (seat before).part))
              ≡ suc (length (part_on c cell (seat before).part)) =
              ap length (own_cell a (seat before).part) in
              omega (arith, longer, one, p.count);
        }

    -- after n accesses and a draw, the seat may make the claim's next access. What the memory keeps is as at the start
    pub may_go_on :
        KeepsMemory → HasNextWord → (n w : ℕ) (at : Claim) (before mid : M) (next : ClaimOp)
        → AreClaimSteps t.layout (DrawsAndMakesNext draws makes) claim start n at before → claim_stage at ≡ Going
        → draws before w mid → IsNextOp t.layout at next → CanMake t cell next (seat mid) × (kept mid ≡ kept start)
    may_go_on keeps has n w at before mid next steps going draw is =
        let p = arrives n at before steps in
        let d = drawn before mid w draw in (
          subst (CanMake t cell next) (sym d.2) (
            p.names,
            low,
            has t.layout at next (part_on (seat before).consumer cell (seat before).part) p.rests going is,
            may_come cut t (seat before) cell at low p.owned p.rests going keeps next is,
          ),
          d.3 ∙ p.keeps,
        )

    -- n is at most the layout's `most_accesses`, if that bounds a consumer's accesses to a cell in each lawful history
    pub few_steps :
        ((h : List ClaimAccess) (c k : ℕ) → IsClaimLawful (claims_in t.layout t.cells) h
        → length (part_on c k h) ≤ most_accesses t.layout)
        → (n : ℕ) (at : Claim) (now : M) → AreClaimSteps t.layout (DrawsAndMakesNext draws makes) claim start n at now
        → n ≤ most_accesses t.layout
    few_steps bound zero at now steps = omega arith
    few_steps bound (suc n) follows now (at, before, w, older, going, still, step) =
        let p = arrives n at before older in
        let mid = step.made.0 in
        let d = drawn before mid w step.made.1 in
        let m = made mid now step.next step.seen (d.3 ∙ p.keeps) step.made.2 in
        let is : IsMade t cell step.next step.seen w (seat before) (seat now) =
        subst (λ s. IsMade t cell step.next step.seen w s (seat now)) d.2
        (subst (λ x. IsMade t cell step.next step.seen x (seat mid) (seat now)) d.1 m.0) in
        let a = access_of (seat before).consumer cell step.next step.seen w in
        let c = (seat before).consumer in
        let h = is.1.0 in
        let all : length (part_on c cell (a ∷ h)) ≤ most_accesses t.layout = bound (a ∷ h) c cell is.1.1 in
        let one : length (part_on c cell (a ∷ h)) ≡ suc (length (part_on c cell h)) = ap length (own_cell a h) in
        let mine : length (part_on c cell (part c h)) ≡ length (part_on c cell h) = ap length (cut c cell h) in
        let whole : length (part_on c cell (part c h)) ≡ length (part_on c cell (seat before).part) =
        ap (λ xs. length (part_on c cell xs)) is.1.2 in
        omega (arith, all, one, mine, whole, p.count)

    -- steps over a layout that equals the table's are steps over the table's
    module _ (l : Layout) (same : l ≡ t.layout) where
      -- accesses over the equal layout are accesses over the table's
      chain :
          (n : ℕ) (at : Claim) (now : M) → AreClaimSteps l (DrawsAndMakesNext draws makes) claim start n at now
          → AreClaimSteps t.layout (DrawsAndMakesNext draws makes) claim start n at now
      chain n at now steps = subst (λ x. AreClaimSteps x (DrawsAndMakesNext draws makes) claim start
          n at now) same steps

      -- after n accesses of the claim over the equal layout, one after the other, `Arrived` holds
      pub arrives_in :
          (n : ℕ) (at : Claim) (now : M) → AreClaimSteps l (DrawsAndMakesNext draws makes) claim start n at now
          → Arrived n at now
      arrives_in n at now steps = arrives n at now (chain n at now steps)

      -- after n accesses over the equal layout and a draw, the seat may make the claim's next access, too
      pub may_go_on_in :
          KeepsMemory → HasNextWord → (n w : ℕ) (at : Claim) (before mid : M) (next : ClaimOp)
          → AreClaimSteps l (DrawsAndMakesNext draws makes) claim start n at before → claim_stage at ≡ Going
          → draws before w mid → IsNextOp l at next → CanMake t cell next (seat mid) × (kept mid ≡ kept start)
      may_go_on_in keeps has n w at before mid next steps going draw is =
          may_go_on keeps has n w at before mid next (chain n at before steps) going draw
          (subst (λ x. IsNextOp x at next) same is)

      -- the number n of accesses over the equal layout is bounded by the table's layout, too
      pub few_steps_in :
          ((h : List ClaimAccess) (c k : ℕ) → IsClaimLawful (claims_in t.layout t.cells) h
          → length (part_on c k h) ≤ most_accesses t.layout)
          → (n : ℕ) (at : Claim) (now : M) → AreClaimSteps l (DrawsAndMakesNext draws makes) claim start n at now
          → n ≤ most_accesses t.layout
      few_steps_in bound n at now steps = few_steps bound n at now (chain n at now steps)
