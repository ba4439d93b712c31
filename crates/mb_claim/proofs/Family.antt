-- All consumers of one cell together, with their steps from one object on.
use Rattle.std.proofs.Common.{◌≡◌, ◌≢◌, ◌<◌, ◌≤◌, ◌⊎◌, ℕ, suc, Bool, true, false, cond, eqb, List, [], ◌∷◌, refl, sym}
use Rattle.std.proofs.Common.{◌∙◌, ap, subst, inl, inr, arith}
use Rattle.std.proofs.lemmas.Bool.{eqb-true}
use Rattle.mb_quorum.specs.Vocabulary.{QuorumTable}
use Rattle.mb_deciding.specs.Vocabulary.{object_of, IsMemoryTrue as IsObjectMemoryTrue, part}
use Rattle.mb_deciding.specs.Vocabulary.{AreInWords as AreObjectInWords, answer, IsPath, IsPrefix, IsObjectLawful}
use Rattle.mb_deciding.specs.Vocabulary.{HasOutput}
use Rattle.mb_claim.specs.{Access, Kind, ObjectTurn, Stage, Going, Won, Lost, Undecided, stage_for, StageNames}
use Rattle.mb_claim.proofs.KindLaws.{OfKind}
use Rattle.mb_claim.proofs.ObjectHistories.{turns_at}
use Rattle.mb_claim.proofs.Parts.{Member, Forward, Ends, forward}

-- The consumers of one cell, from object o on. `hs n` is the history of object n, true to memory and in words. Each
-- consumer has an input to o, its steps from there on, and their stage. If it has such a step, P holds of its input.
pub record Family (t : QuorumTable) (ks : List Kind) (o : ℕ) (hs : ℕ → List Access) (P : ℕ → Type 0) : Type 0 where
  pub input : ℕ → ℕ
  pub rest : ℕ → List ObjectTurn
  pub stage : ℕ → Stage
  pub member : (c : ℕ) → Member t c ks o (input c) (rest c) (stage c)
  pub holds : (c : ℕ) → rest c ≢ [] → (input c < t.values) × P (input c)
  pub turns : (c n : ℕ) → o ≤ n → part c (hs n) ≡ turns_at n (rest c)
  pub memory : (n : ℕ) → IsObjectMemoryTrue (hs n)
  pub words : (n : ℕ) → AreObjectInWords (hs n)

-- ---- which winner a stage names, if a value was decided
-- if consumer c has won and is a, or has lost to a, the winner u that its stage names is a
names_decided : (c a u : ℕ) (b : Bool) → eqb c a ≡ b → StageNames c (cond b Won (Lost a)) u → u ≡ a
names_decided c a u true e n = n ∙ eqb-true c a e
names_decided c a u false e n = n

-- if a was decided for consumer c, the winner that c's stage names is a
names_stage : (c a u : ℕ) (s : Stage) → s ≡ stage_for c a → StageNames c s u → u ≡ a
names_stage c a u s e n = names_decided c a u (eqb c a) refl (subst (λ r. StageNames c r u) e n)

-- if a value was decided, the claim is not undecided
pub decided_undecided : (c a : ℕ) (b : Bool) → Undecided ≡ cond b Won (Lost a) → ⊥
decided_undecided c a true e = cc
decided_undecided c a false e = cc

module _ (t : QuorumTable) (k : Kind) (ks : List Kind) (o : ℕ) (hs : ℕ → List Access) (P : ℕ → Type 0)
    (fam : Family t (k ∷ ks) o hs P) where
  -- ---- object o: its history, and the outputs there
  -- each consumer's steps from object o on, split after o
  unfoldable pub step : (c : ℕ) → Forward t c k ks o (fam.input c) (fam.rest c) (fam.stage c)
  step c = forward t c k ks o (fam.input c) (fam.rest c) (fam.stage c) (fam.member c)

  -- the turns of a consumer in the history of object o are the turns on o among its steps
  pub here : (c : ℕ) → part c (hs o) ≡ turns_at o (fam.rest c)
  here c = fam.turns c o (omega arith)

  -- a consumer with a turn on object o has a step from o on
  pub acted : (c : ℕ) → part c (hs o) ≢ [] → fam.rest c ≢ []
  acted c ne e = ne (here c ∙ ap (turns_at o) e)

  -- if a consumer has turns on object o, they are a prefix of a path of its input, which is a value of the table
  part_here :
      (c : ℕ) → part c (hs o) ≢ []
      → (turns_at o (fam.rest c) ≡ []) ⊎ IsPrefix t k (fam.input c) (turns_at o (fam.rest c))
      → (fam.input c < t.values) × IsPrefix t k (fam.input c) (part c (hs o))
  part_here c ne (inl e) = absurd (ne (here c ∙ e))
  part_here c ne (inr p) = ((fam.holds c (acted c ne)).0, subst (λ ts. IsPrefix t k (fam.input c) ts) (sym (here c)) p)

  -- the history of object o is lawful, with these inputs
  pub lawful_here : IsObjectLawful (object_of t k fam.input) (hs o)
  lawful_here = record { memory = fam.memory o; words = fam.words o; parts = λ c ne. part_here c ne (step c).here }

  -- a consumer whose turns on object o are a whole path has that path's output
  pub output :
      (c : ℕ) (d : Bool) (u : ℕ) → IsPath t k (fam.input c) (turns_at o (fam.rest c)) (answer d u)
      → HasOutput (object_of t k fam.input) c d u (hs o)
  output c d u p = subst (λ ts. IsPath t k (fam.input c) ts (answer d u)) (sym (here c)) p

  -- P holds of each output of object o, as it holds of each input
  pub output_holds :
      OfKind t k → (c : ℕ) (d : Bool) (u : ℕ) → HasOutput (object_of t k fam.input) c d u (hs o) → (u < t.values) × P u
  output_holds law c d u out =
      let from = (law fam.input).validity (hs o) lawful_here c d u out in
      let at : (fam.input from.0 < t.values) × P (fam.input from.0) = fam.holds from.0 (acted from.0 from.1) in
      subst (λ n. (n < t.values) × P n) from.2 at

  -- ---- the family from the next object on
  -- the family from the next object on, with Q, if Q holds of each undecided output of object o
  abbrev pub next_with :
      (Q : ℕ → Type 0) → ((c u : ℕ) → HasOutput (object_of t k fam.input) c false u (hs o) → (u < t.values) × Q u)
      → Family t ks (suc o) hs Q
  next_with Q holds =
      record {
        input = λ c. (step c).value;
        rest = λ c. (step c).rest;
        stage = λ c. (step c).stage;
        member = λ c. (step c).member;
        holds = λ c ne. holds c (step c).value (output c false (step c).value ((step c).came ne).path);
        turns = λ c n l. fam.turns c n (omega arith) ∙ (step c).ahead n (omega arith);
        memory = fam.memory;
        words = fam.words;
      }

  -- the family from the next object on, with P: each undecided output of object o is an input of which P holds
  abbrev pub next : OfKind t k → Family t ks (suc o) hs P
  next law = next_with P (λ c u out. output_holds law c false u out)

  -- the family from the next object on, if u was decided on object o: each consumer that goes on has the input u
  abbrev pub next_decided :
      OfKind t k → (c u : ℕ) → HasOutput (object_of t k fam.input) c true u (hs o) → Family t ks (suc o) hs (λ a. a ≡ u)
  next_decided law c u p =
      next_with (λ a. a ≡ u) (λ b a out.
      ((output_holds law b false a out).0, (law fam.input).coherence (hs o) lawful_here c b false u a p out))

  -- ---- where a claim was decided, or not
  -- object o decided u for consumer c, or left it undecided and its stage from the next object on names u
  abbrev pub Ended : ℕ → ℕ → Type 0
  Ended c u =
      HasOutput (object_of t k fam.input) c true u (hs o)
      ⊎ (HasOutput (object_of t k fam.input) c false (step c).value (hs o) × StageNames c (step c).stage u)

  -- if the stage of consumer c names u, u was decided for c on object o or after it. Cases: how c's steps on o end
  ended_by :
      (c u : ℕ) → StageNames c (fam.stage c) u
      → Ends t c k o (fam.input c) (fam.rest c) (fam.stage c) (step c).value (step c).stage → Ended c u
  ended_by c u n (inl g) = absurd (subst (λ r. StageNames c r u) g n)
  ended_by c u n (inr (inl (a, path, e))) =
      inl (subst (λ w. HasOutput (object_of t k fam.input) c true w (hs o)) (sym (names_stage c a u (fam.stage c) e n))
      (output c true a path))
  ended_by c u n (inr (inr x)) = inr (output c false (step c).value x.0, subst (λ r. StageNames c r u) (sym x.1) n)

  -- if the stage of consumer c names u, u was decided for c on object o or after it
  pub ended : (c u : ℕ) → StageNames c (fam.stage c) u → Ended c u
  ended c u n = ended_by c u n (step c).ends

  -- if consumer c is undecided, object o and the later ones left it undecided. Cases: how its steps on o end
  passed_by :
      (c : ℕ) → fam.stage c ≡ Undecided
      → Ends t c k o (fam.input c) (fam.rest c) (fam.stage c) (step c).value (step c).stage
      → HasOutput (object_of t k fam.input) c false (step c).value (hs o) × ((step c).stage ≡ Undecided)
  passed_by c e (inl g) = let h : Undecided ≡ Going = sym e ∙ g in cc
  passed_by c e (inr (inl (a, path, g))) = absurd (decided_undecided c a (eqb c a) (sym e ∙ g))
  passed_by c e (inr (inr x)) = (output c false (step c).value x.0, x.1 ∙ e)

  -- if consumer c is undecided, object o left it undecided, and so did the later ones
  pub passed :
      (c : ℕ) → fam.stage c ≡ Undecided
      → HasOutput (object_of t k fam.input) c false (step c).value (hs o) × ((step c).stage ≡ Undecided)
  passed c e = passed_by c e (step c).ends

-- with no object left, no stage names a winner
pub none_named :
    (t : QuorumTable) (c o v u : ℕ) (xs : List ObjectTurn) (s : Stage) → Member t c [] o v xs s → StageNames c s u → ⊥
none_named t c o v u xs s (inl x) n = subst (λ r. StageNames c r u) x.1 n
none_named t c o v u xs s (inr x) n = subst (λ r. StageNames c r u) x.1 n
