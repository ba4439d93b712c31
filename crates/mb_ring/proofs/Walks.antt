-- The walk goes on by at most one event a step, and what the passes saw of it stays so.
use Rattle.mb_ring.proofs.Base.{List, [], ap, arith, eq-eqb, length, ne_eqb, refl, subst}
use Rattle.mb_ring.proofs.Base.{sym, ℕ, ◌+◌, ◌++◌, ◌∙◌, ◌∷◌, ◌≡◌, ◌≢◌}
use Rattle.mb_segment.proofs.Base.{if◌then◌else◌}
use Rattle.mb_ring.specs.Vocabulary.{AreTrue, Claimed, CountsEmpty, CountsFull, Drew, Event, FoundEmpty, FoundFull, GoesOn}
use Rattle.mb_ring.specs.Vocabulary.{History, Member, Sight, View, blind, draws, drawn, sees_empty, sees_full, taken}
use Rattle.mb_ring.specs.Vocabulary.{times_empty, times_full, waiting_after}

-- what pass i counted of its looks at n slots is so
abbrev pub Looks : ℕ → List Event → ℕ → Sight → Type 0
Looks n walk i x = CountsEmpty walk i x × CountsFull n walk i x

-- a sight without all but its looks
abbrev pub only_looks : Sight → Sight
only_looks x = record blind {
  empty = x.empty;
  empty_looks = x.empty_looks;
  empty_walk = x.empty_walk;
  full = x.full;
  full_looks = x.full_looks;
  full_walk = x.full_walk;
}

-- the walk went on, and pass i did not find nothing, or no room
more_empty : (e : Event) (i : ℕ) (x : Sight) (walk : List Event) → times_empty i (e ∷ walk) ≡ times_empty i walk
    → CountsEmpty walk i x → CountsEmpty (e ∷ walk) i x
more_empty e i x walk same_ l = (
  l.0 ∙ sym same_,
  λ some_. let g = l.1 some_ in ((e ∷ g.0.0, ap (λ w. e ∷ w) g.0.1), g.1, g.2),
)

more_full : (n : ℕ) (e : Event) (i : ℕ) (x : Sight) (walk : List Event) → times_full i (e ∷ walk) ≡ times_full i walk
    → CountsFull n walk i x → CountsFull n (e ∷ walk) i x
more_full n e i x walk same_ l = (
  l.0 ∙ sym same_,
  λ some_. let g = l.1 some_ in ((e ∷ g.0.0, ap (λ w. e ∷ w) g.0.1), g.1, g.2),
)

-- what is true of a walk is true of each earlier one
true_under : (n : ℕ) (newer earlier : List Event) → AreTrue n (newer ++ earlier) → AreTrue n earlier
true_under n [] earlier t = t
true_under n (Drew ∷ w) earlier t = true_under n w earlier t
true_under n (Claimed ∷ w) earlier t = true_under n w earlier t.1
true_under n (FoundEmpty i ∷ w) earlier t = true_under n w earlier t.1
true_under n (FoundFull i ∷ w) earlier t = true_under n w earlier t.1

pub true_before : (n : ℕ) {earlier walk : List Event} → GoesOn earlier walk → AreTrue n walk → AreTrue n earlier
true_before n {earlier} {walk} g t = true_under n g.0 earlier (subst (λ (w : List Event). AreTrue n w) g.1 t)

-- what a step of pass i, which then has the view w, does to the walk
pub record Walks {T : Type 0} (before walk : List Event) (h : History T) (n i : ℕ) (w : View T) : Type 0 where
  pub walked : (draws walk ≡ drawn h) × (waiting_after walk ≡ length h.rest)
  pub true_ : AreTrue n walk
  pub others : (j : ℕ) (x : Sight) → j ≢ i → Looks n before j x → Looks n walk j x
  pub own : w.role ≡ Member → Looks n walk i w.sight

module _ {T : Type 0} (walk : List Event) (h : History T) (n i : ℕ) (w : View T)
    (known : w.role ≡ Member → Looks n walk i w.sight) where
  -- no event
  pub silent : (draws walk ≡ drawn h) × (waiting_after walk ≡ length h.rest) → AreTrue n walk
      → Walks walk walk h n i w
  silent walked true_ = record { walked = walked; true_ = true_; others = λ j x ne l. l; own = known }

  pub a_draw : (draws walk + 1 ≡ drawn h) × (waiting_after walk + 1 ≡ length h.rest) → AreTrue n walk
      → Walks walk (Drew ∷ walk) h n i w
  a_draw walked true_ = record {
    walked = walked;
    true_ = true_;
    others = λ j x ne l. (more_empty Drew j x walk refl l.0, more_full n Drew j x walk refl l.1);
    own = λ r. let l = known r in
        (more_empty Drew i w.sight walk refl l.0, more_full n Drew i w.sight walk refl l.1);
  }

  pub a_claim : (draws walk ≡ drawn h) × (waiting_after walk ≡ length h.rest + 1) → AreTrue n walk
      → Walks walk (Claimed ∷ walk) h n i w
  a_claim walked true_ = record {
    walked = (walked.0, let e = walked.1 in omega arith);
    true_ = (let e = walked.1 in omega arith, true_);
    others = λ j x ne l. (more_empty Claimed j x walk refl l.0, more_full n Claimed j x walk refl l.1);
    own = λ r. let l = known r in
        (more_empty Claimed i w.sight walk refl l.0, more_full n Claimed i w.sight walk refl l.1);
  }

  -- it looks, and nothing waits
  pub finds_nothing : (draws walk ≡ drawn h) × (waiting_after walk ≡ length h.rest) → AreTrue n walk
      → length h.rest ≡ 0 → (r : ℕ) → r ≡ drawn h
      → Walks walk (FoundEmpty i ∷ walk) h n i (sees_empty r walk w)
  finds_nothing walked true_ none_ r is = record {
    walked = walked;
    true_ = (let e = walked.1 in omega arith, true_);
    others = λ j x ne l. (
      more_empty (FoundEmpty i) j x walk
          (ap (λ b. if b then times_empty j walk + 1 else times_empty j walk) (ne_eqb i j (λ q. ne (sym q)))) l.0,
      more_full n (FoundEmpty i) j x walk refl l.1,
    );
    own = λ role. let l = known role in (
      (
        (let e = l.0.0 in let one : times_empty i (FoundEmpty i ∷ walk) ≡ times_empty i walk + 1
            = ap (λ b. if b then times_empty i walk + 1 else times_empty i walk) (eq-eqb i i refl) in omega arith),
        λ _. (([], refl), ap (λ m. m + 1) l.0.0, walked.0 ∙ sym is),
      ),
      more_full n (FoundEmpty i) i w.sight walk refl l.1,
    );
  }

  -- it looks, and all slots have values that wait
  pub finds_no_room : (draws walk ≡ drawn h) × (waiting_after walk ≡ length h.rest) → AreTrue n walk
      → length h.rest ≡ n → (t : ℕ) → t ≡ taken h
      → Walks walk (FoundFull i ∷ walk) h n i (sees_full t walk w)
  finds_no_room walked true_ all t is = record {
    walked = walked;
    true_ = (walked.1 ∙ all, true_);
    others = λ j x ne l. (
      more_empty (FoundFull i) j x walk refl l.0,
      more_full n (FoundFull i) j x walk
          (ap (λ b. if b then times_full j walk + 1 else times_full j walk) (ne_eqb i j (λ q. ne (sym q)))) l.1,
    );
    own = λ role. let l = known role in (
      more_empty (FoundFull i) i w.sight walk refl l.0,
      (
        (let e = l.1.0 in let one : times_full i (FoundFull i ∷ walk) ≡ times_full i walk + 1
            = ap (λ b. if b then times_full i walk + 1 else times_full i walk) (eq-eqb i i refl) in omega arith),
        λ _. (([], refl), ap (λ m. m + 1) l.1.0, (t, refl, let d = walked.0 in omega arith)),
      ),
    );
  }
