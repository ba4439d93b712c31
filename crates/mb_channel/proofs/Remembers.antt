-- Each step leaves an end that remembers that the list was closed, or that no sender is left.
use Rattle.std.proofs.Common.{ℕ, true, List, [], sym, ap, subst, ◌≡◌, ◌≢◌, ◌∷◌, ◌++◌, ◌∙◌}
use Rattle.std.specs.Prelude.{slice_set}
use mathlib.Core.Option.{some, some-injective}
use lib.ListN.{get_elem?}
use native.Mathlib.Decide.{ℕ_discrete}
use Rattle.atomic_table.proofs.Lists.{at_longer, set_else, set_here}
use Rattle.mb_channel.specs.Types.{Knows}
use Rattle.mb_channel.specs.Remembers.{Remembers, SomeView}
use Rattle.mb_channel.proofs.Views.{there}

module _ {T : Type 0} where
  same_view : (views : List (Knows T)) (i j : ℕ) (u v : Knows T) → get_elem? views i ≡ some u
      → get_elem? views j ≡ some v → i ≡ j → u ≡ v
  same_view views i j u v at at' e = some-injective u v (sym at ∙ (ap (get_elem? views) e ∙ at'))

  pub some_here : (P : Knows T → Type 0) (views : List (Knows T)) (id : ℕ) (v w : Knows T)
      → get_elem? views id ≡ some v → P w → SomeView P (slice_set views id w)
  some_here P views id v w at p = (id, w, set_here views id w (there views id v at), p)

  pub some_set : (P : Knows T → Type 0) (views : List (Knows T)) (id : ℕ) (v w : Knows T)
      → get_elem? views id ≡ some v → (P v → P w) → SomeView P views → SomeView P (slice_set views id w)
  some_set P views id v w at keep some_ = go (ℕ_discrete some_.0 id)
    where
      go : Dec (some_.0 ≡ id) → SomeView P (slice_set views id w)
      go (yes e) = some_here P views id v w at (keep (subst P
          (same_view views some_.0 id some_.1 v some_.2 at e) some_.3))
      go (no ne) = (some_.0, some_.1, set_else views id some_.0 w ne ∙ some_.2, some_.3)

  pub some_longer : (P : Knows T → Type 0) (views : List (Knows T)) (w : Knows T) → SomeView P views
      → SomeView P (views ++ w ∷ [])
  some_longer P views w some_ = (some_.0, some_.1, at_longer views (w ∷ []) some_.0 some_.1 some_.2, some_.3)

  -- one end is given back to another, which then knows what either did
  pub some_joined : (P : Knows T → Type 0) (views : List (Knows T)) (id other : ℕ) (v w x y : Knows T)
      → get_elem? views id ≡ some v → get_elem? views other ≡ some w → other ≢ id → (P v → P x) → (P w → P x)
      → SomeView P views → SomeView P (slice_set (slice_set views id x) other y)
  some_joined P views id other v w x y at at' apart mine theirs some_ = go (ℕ_discrete some_.0 other)
    where
      one : List (Knows T)
      one = slice_set views id x

      stays : (j : ℕ) (u : Knows T) → j ≢ other → get_elem? one j ≡ some u → P u → SomeView P (slice_set one other y)
      stays j u ne is p = (j, u, set_else one other j y ne ∙ is, p)

      go : Dec (some_.0 ≡ other) → SomeView P (slice_set one other y)
      go (yes e) = stays id x (λ q. apart (sym q)) (set_here views id x (there views id v at))
          (theirs (subst P (same_view views some_.0 other some_.1 w some_.2 at' e) some_.3))
      go (no ne) = go' ne (ℕ_discrete some_.0 id)
        where
          go' : some_.0 ≢ other → Dec (some_.0 ≡ id) → SomeView P (slice_set one other y)
          go' ne (yes e) = stays id x (λ q. apart (sym q)) (set_here views id x (there views id v at))
              (mine (subst P (same_view views some_.0 id some_.1 v some_.2 at e) some_.3))
          go' ne (no ne') = stays some_.0 some_.1 ne (set_else views id some_.0 x ne' ∙ some_.2) some_.3

  -- after a step of one that forgets nothing
  pub still_remembers : (m n i j : ℕ) (views : List (Knows T)) (id : ℕ) (v w : Knows T) → get_elem? views id ≡ some v
      → (v.shut ≡ true → w.shut ≡ true) → (v.alone ≡ true → w.alone ≡ true) → (n ≡ 0 → m ≡ 0) → (j ≡ 0 → i ≡ 0)
      → Remembers m i views → Remembers n j (slice_set views id w)
  still_remembers m n i j views id v w at shut alone marked none r = record {
    closer = λ z. some_set (λ u. u.shut ≡ true) views id v w at shut (r.closer (marked z));
    loner = λ z. some_set (λ u. u.alone ≡ true) views id v w at alone (r.loner (none z));
  }
