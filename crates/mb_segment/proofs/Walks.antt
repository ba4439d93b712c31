-- The walk goes on by at most one event a step, and what the passes saw of it stays so.
use Rattle.mb_segment.proofs.Base.{List, Option, State, [], ap, arith, get_elem?, eq-eqb, if◌then◌else◌, length, length-append, ne_eqb, some, refl, subst}
use Rattle.mb_segment.proofs.Base.{sym, ℕ, ◌+◌, ◌++◌, ◌∙◌, ◌∷◌, ◌≡◌, ◌≢◌}
use Rattle.mb_segment.specs.Vocabulary.{AreTrue, Claimed, Drew, Entry, Event, FoundEmpty, FoundFull, GoesOn, HasLooked, History, Keeps, Member, Sight, View}
use Rattle.mb_segment.specs.Vocabulary.{draws, drawn, sees_empty, times_empty, waiting_after}

-- the walk went on, and pass n did not look
further : (e : Event) (n : ℕ) (x : Sight) (walk : List Event) → times_empty n (e ∷ walk) ≡ times_empty n walk
    → HasLooked walk n x → HasLooked (e ∷ walk) n x
further e n x walk same_ l = (
  l.0 ∙ sym same_,
  λ some_. let g = l.1 some_ in ((e ∷ g.0.0, ap (λ w. e ∷ w) g.0.1), g.1, g.2),
)

another : (n j : ℕ) (walk : List Event) → j ≢ n → times_empty j (FoundEmpty n ∷ walk) ≡ times_empty j walk
another n j walk ne =
    ap (λ b. if b then times_empty j walk + 1 else times_empty j walk) (ne_eqb n j (λ q. ne (sym q)))

-- what is true of a walk is true of each earlier one
true_under : (size : ℕ) (newer earlier : List Event) → AreTrue size (newer ++ earlier) → AreTrue size earlier
true_under size [] earlier t = t
true_under size (Drew ∷ w) earlier t = true_under size w earlier t
true_under size (Claimed ∷ w) earlier t = true_under size w earlier t.1
true_under size (FoundEmpty n ∷ w) earlier t = true_under size w earlier t.1
true_under size (FoundFull n ∷ w) earlier t = true_under size w earlier t.1

pub true_before : (size : ℕ) {earlier walk : List Event} → GoesOn earlier walk → AreTrue size walk
    → AreTrue size earlier
true_before size {earlier} {walk} g t =
    true_under size g.0 earlier (subst (λ (w : List Event). AreTrue size w) g.1 t)

-- what a step of pass n, which then has the view w, does to the walk
pub record Walks {T : Type 0} (before walk : List Event) (h : History T) (size n : ℕ) (w : View T) : Type 0 where
  pub walked : (draws walk ≡ drawn h) × (waiting_after walk ≡ length h.rest)
  pub true_ : AreTrue size walk
  pub others : (j : ℕ) (x : Sight) → j ≢ n → HasLooked before j x → HasLooked walk j x
  pub own : w.role ≡ Member → HasLooked walk n w.sight

abbrev pub SameLooks : Sight → Sight → Type 0
SameLooks x y = (x.found ≡ y.found) × (x.walk ≡ y.walk) × (x.empty ≡ y.empty)

looked_same : (walk : List Event) (n : ℕ) (x y : Sight) → SameLooks x y → HasLooked walk n x → HasLooked walk n y
looked_same walk n x y e l = (
  sym e.0 ∙ l.0,
  λ some_. let g = l.1 (let q = e.0 in omega arith) in (
    subst (λ (w : List Event). GoesOn (FoundEmpty n ∷ w) walk) e.1 g.0,
    sym e.0 ∙ (g.1 ∙ ap (λ w. times_empty n w + 1) e.1),
    ap draws (sym e.1) ∙ (g.2 ∙ e.2),
  ),
)

module _ {T : Type 0} (walk : List Event) (h : History T) (size n : ℕ) (w : View T)
    (known : w.role ≡ Member → HasLooked walk n w.sight) where
  -- no event
  pub silent : (draws walk ≡ drawn h) × (waiting_after walk ≡ length h.rest) → AreTrue size walk
      → Walks walk walk h size n w
  silent walked true_ = record { walked = walked; true_ = true_; others = λ j x ne l. l; own = known }

  pub a_draw : (e : Entry T) → (draws walk ≡ drawn h) × (waiting_after walk ≡ length h.rest) → AreTrue size walk
      → Walks walk (Drew ∷ walk) record h { rest = h.rest ++ e ∷ [] } size n w
  a_draw e walked true_ = record {
    walked = let d = walked.0 in let l = walked.1 in
        let m : length (h.rest ++ e ∷ []) ≡ length h.rest + 1 = length-append h.rest (e ∷ []) in
        (omega arith, omega arith);
    true_ = true_;
    others = λ j x ne l. further Drew j x walk refl l;
    own = λ r. further Drew n w.sight walk refl (known r);
  }

  pub a_claim : (draws walk ≡ drawn h) × (waiting_after walk ≡ length h.rest + 1) → AreTrue size walk
      → Walks walk (Claimed ∷ walk) h size n w
  a_claim walked true_ = record {
    walked = (walked.0, let e = walked.1 in omega arith);
    true_ = (let e = walked.1 in omega arith, true_);
    others = λ j x ne l. further Claimed j x walk refl l;
    own = λ r. further Claimed n w.sight walk refl (known r);
  }

  -- it looks, and nothing waits
  pub a_look : (draws walk ≡ drawn h) × (waiting_after walk ≡ length h.rest) → AreTrue size walk
      → length h.rest ≡ 0 → (r : ℕ) → r ≡ drawn h
      → Walks walk (FoundEmpty n ∷ walk) h size n (sees_empty r walk w)
  a_look walked true_ none_ r is = record {
    walked = walked;
    true_ = (let e = walked.1 in omega arith, true_);
    others = λ j x ne l. further (FoundEmpty n) j x walk (another n j walk ne) l;
    own = λ role. let l = (known role).0 in (
      (let one : times_empty n (FoundEmpty n ∷ walk) ≡ times_empty n walk + 1
          = ap (λ b. if b then times_empty n walk + 1 else times_empty n walk) (eq-eqb n n refl) in omega arith),
      λ _. (([], refl), ap (λ m. m + 1) l, walked.0 ∙ sym is),
    );
  }

module _ {T : Type 0} where
  -- what the pass of the step saw of the walk before
  pub looked_still : (s : State (Option T) (View T)) (k : Keeps s) (n : ℕ) (v w : View T) → get_elem? s.views n ≡ some v
      → w.role ≡ v.role → SameLooks v.sight w.sight → w.role ≡ Member → HasLooked k.walk n w.sight
  looked_still s k n v w at ro si r = looked_same k.walk n v.sight w.sight si (k.looked n v at (sym ro ∙ r))

  -- a step that is no event of the walk
  pub unmoved : (s : State (Option T) (View T)) (k : Keeps s) (n : ℕ) (v w : View T) → get_elem? s.views n ≡ some v
      → w.role ≡ v.role → SameLooks v.sight w.sight → Walks k.walk k.walk k.history (length k.states) n w
  unmoved s k n v w at ro si = silent k.walk k.history (length k.states) n w (looked_still s k n v w at ro si) k.walked
      k.true_
