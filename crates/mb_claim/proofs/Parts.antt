-- One consumer's steps on a cell, from an object on: its turns on that object, and its steps on the objects after it.
use Rattle.std.proofs.Common.{◌≡◌, ◌≢◌, ◌<◌, ◌⊎◌, ℕ, suc, true, false, cond, Some, None, List, [], ◌∷◌, ◌++◌, length}
use Rattle.std.proofs.Common.{◌+◌, length-append, refl, sym, ◌∙◌, ap, subst, inl, inr, arith}
use Rattle.std.specs.List.{cons_option}
use Rattle.std.proofs.lemmas.Bool.{eq-eqb, ne_eqb}
use Rattle.std.proofs.lemmas.List.Elements.{filter_map-append}
use Rattle.mb_quorum.specs.Vocabulary.{QuorumTable}
use Rattle.mb_deciding.specs.Vocabulary.{answer, IsPath, IsPrefix, IsOpen}
use Rattle.mb_claim.specs.{Turn, Kind, ObjectTurn, Stage, Going, turns_on, stage_for, Passes, IsClaimPrefixFrom, Enters}
use Rattle.mb_claim.proofs.ObjectHistories.{turn_at, turns_at}
use Rattle.mb_claim.proofs.Lists.{append_nils, append_nil_left, append_nil_right, append_nil_parts}

-- ---- the turns of a part on one object
-- if all turns were made on object o, the turns on o are all of them
pub turns_at-turns_on : (o : ℕ) (ts : List Turn) → turns_at o (turns_on o ts) ≡ ts
turns_at-turns_on o [] = refl
turns_at-turns_on o (t ∷ ts) =
    ap (λ b. cons_option (cond b (Some t) None) (turns_at o (turns_on o ts))) (eq-eqb o o refl)
    ∙ ap (λ zs. t ∷ zs) (turns_at-turns_on o ts)

-- the steps of some turns on one object are as many as the turns
pub length-turns_on : (o : ℕ) (ts : List Turn) → length (turns_on o ts) ≡ length ts
length-turns_on o [] = refl
length-turns_on o (t ∷ ts) = ap suc (length-turns_on o ts)

-- turns that were made on one object are no turns on another
pub turns_at-turns_on_other : (o n : ℕ) (ts : List Turn) → (o ≡ n → ⊥) → turns_at n (turns_on o ts) ≡ []
turns_at-turns_on_other o n [] ne = refl
turns_at-turns_on_other o n (t ∷ ts) ne =
    ap (λ b. cons_option (cond b (Some t) None) (turns_at n (turns_on o ts))) (ne_eqb o n ne)
    ∙ turns_at-turns_on_other o n ts ne

-- the turns on object n in two lists joined are those in the first, joined with those in the second
pub turns_at-append : (n : ℕ) (xs ys : List ObjectTurn) → turns_at n (xs ++ ys) ≡ turns_at n xs ++ turns_at n ys
turns_at-append n xs ys = filter_map-append (turn_at n) xs ys

-- a prefix of a path from object o on has no turn on an object before o
pub nothing_before :
    (t : QuorumTable) (c : ℕ) (ks : List Kind) (o v n : ℕ) (xs : List ObjectTurn) (s : Stage) → n < o
    → IsClaimPrefixFrom t c ks o v xs s → turns_at n xs ≡ []
nothing_before t c [] o v n xs s l p = ap (turns_at n) p.0
nothing_before t c (k ∷ ks) o v n xs s l (inl x) =
    ap (turns_at n) x.all ∙ turns_at-turns_on_other o n x.turns (λ e. omega arith)
nothing_before t c (k ∷ ks) o v n xs s l (inr (inl x)) =
    ap (turns_at n) x.all ∙ turns_at-turns_on_other o n x.turns (λ e. omega arith)
nothing_before t c (k ∷ ks) o v n xs s l (inr (inr (u, rest, x, p))) =
    ap (turns_at n) x.all ∙ turns_at-append n rest (turns_on o x.turns)
    ∙ append_nils (turns_at n rest) (turns_at n (turns_on o x.turns))
    (nothing_before t c ks (suc o) u n rest s (omega arith) p)
    (turns_at-turns_on_other o n x.turns (λ e. omega arith))

-- turns on an object that are an open prefix of a path are a prefix of one
pub open_part : (t : QuorumTable) (k : Kind) (v : ℕ) (turns : List Turn) → IsOpen t k v turns → IsPrefix t k v turns
open_part t k v turns g = (g.0, g.2.0, g.2.1)

-- the turns with which steps pass object o are all the turns on o among these steps
pub passed_turns :
    (t : QuorumTable) (c : ℕ) (k : Kind) (ks : List Kind) (o v : ℕ) (xs : List ObjectTurn) (s : Stage) (u : ℕ)
    (rest : List ObjectTurn) (x : Passes t k o v xs u rest)
    → IsClaimPrefixFrom t c ks (suc o) u rest s → x.turns ≡ turns_at o xs
passed_turns t c k ks o v xs s u rest x p =
    sym
    (ap (turns_at o) x.all ∙ turns_at-append o rest (turns_on o x.turns)
    ∙ append_nil_left (turns_at o rest) (turns_at o (turns_on o x.turns))
    (nothing_before t c ks (suc o) u o rest s (omega arith) p)
    ∙ turns_at-turns_on o x.turns)

-- ---- a consumer's steps from object o on, split after o
-- consumer c's steps from object o on are a prefix of a path with input v, and have the stage s. Or c has not come to o
-- yet: it has no steps there and is going
abbrev pub Member : QuorumTable → ℕ → List Kind → ℕ → ℕ → List ObjectTurn → Stage → Type 0
Member t c ks o v xs s = ((xs ≡ []) × (s ≡ Going)) ⊎ IsClaimPrefixFrom t c ks o v xs s

-- the consumer has passed object o, which left it undecided with this value, and `rest` are its steps on later objects.
-- If `rest`, from o + 1 on, comes to an object with some input, all steps from o on come there with that input
pub record Came (t : QuorumTable) (k : Kind) (ks : List Kind) (o v : ℕ) (xs : List ObjectTurn) (value : ℕ)
    (rest : List ObjectTurn) : Type 0 where
  pub path : IsPath t k v (turns_at o xs) (answer false value)
  pub nonempty : xs ≢ []
  pub enters : (n w : ℕ) → Enters t ks (suc o) value rest n w → Enters t (k ∷ ks) o v xs n w

-- the claim is going, or object o decided for it, or o left it undecided and the rest has `stage`, which is s
abbrev pub Ends : QuorumTable → ℕ → Kind → ℕ → ℕ → List ObjectTurn → Stage → ℕ → Stage → Type 0
Ends t c k o v xs s value stage =
    (s ≡ Going)
    ⊎ (((a : ℕ) × IsPath t k v (turns_at o xs) (answer true a) × (s ≡ stage_for c a))
    ⊎ (IsPath t k v (turns_at o xs) (answer false value) × (stage ≡ s)))

-- a consumer's steps from object o on, split after o: the value with which it left o (0 if it did not go on), the rest
-- of its steps, and the stage of that rest
pub record Forward (t : QuorumTable) (c : ℕ) (k : Kind) (ks : List Kind) (o v : ℕ) (xs : List ObjectTurn)
    (s : Stage) : Type 0 where
  pub value : ℕ
  pub rest : List ObjectTurn
  pub stage : Stage
  pub member : Member t c ks (suc o) value rest stage
  pub ahead : (n : ℕ) → o < n → turns_at n xs ≡ turns_at n rest
  pub came : rest ≢ [] → Came t k ks o v xs value rest
  pub here : (turns_at o xs ≡ []) ⊎ IsPrefix t k v (turns_at o xs)
  pub ends : Ends t c k o v xs s value stage
  pub counted : length xs ≡ length (turns_at o xs) + length rest

-- ---- steps from an object on can always be split after that object
module _ (t : QuorumTable) (c : ℕ) (k : Kind) (ks : List Kind) (o v : ℕ) (xs : List ObjectTurn) (s : Stage) where
  -- if all steps were made on object o, they are as many as the turns there
  pub counts : (turns : List Turn) → xs ≡ turns_on o turns → turns_at o xs ≡ turns → length xs ≡ length (turns_at o xs)
  counts turns all here = ap length all ∙ length-turns_on o turns ∙ sym (ap length here)

  -- if no step was made on a later object, the split has an empty rest
  abbrev stays :
      ((n : ℕ) → o < n → turns_at n xs ≡ []) → (turns_at o xs ≡ []) ⊎ IsPrefix t k v (turns_at o xs)
      → Ends t c k o v xs s 0 Going
      → length xs ≡ length (turns_at o xs) → Forward t c k ks o v xs s
  stays ahead here ends counted =
      record {
        value = 0;
        rest = [];
        stage = Going;
        member = inl (refl, refl);
        ahead = ahead;
        came =
            λ ne. absurd (ne refl);
        here = here;
        ends = ends;
        counted = omega (arith, counted);
      }

  -- if the steps pass object o, the steps on later objects are the rest of the split
  abbrev moves :
      (u : ℕ) (rest : List ObjectTurn) → Passes t k o v xs u rest → IsClaimPrefixFrom t c ks (suc o) u rest s
      → Forward t c k ks o v xs s
  moves u rest x p =
      let here : turns_at o xs ≡ x.turns = sym (passed_turns t c k ks o v xs s u rest x p) in
      let P : List Turn → Type 0 = λ ts. IsPath t k v ts (answer false u) in
      let path : P (turns_at o xs) = subst P (sym here) x.path in
      record {
        value = u;
        rest = rest;
        stage = s;
        member = inr p;
        ahead = λ n l. ap (turns_at n) x.all ∙ turns_at-append n rest (turns_on o x.turns)
            ∙ append_nil_right (turns_at n rest) (turns_at n (turns_on o x.turns))
            (turns_at-turns_on_other o n x.turns (λ e. omega arith));
        came = λ ne. record {
          path = path;
          nonempty =
              λ e. ne (append_nil_parts rest (turns_on o x.turns) (sym x.all ∙ e));
          enters =
              λ n w q. inr (u, rest, x, q);
        };
        here = inr ([], answer false u, path);
        ends = inr (inr (path, refl));
        counted = omega (
          arith,
          ap length x.all,
          length-append rest (turns_on o x.turns),
          length-turns_on o x.turns,
          ap length here,
        );
      }

  -- steps from object o on can be split after o
  abbrev pub forward : Member t c (k ∷ ks) o v xs s → Forward t c k ks o v xs s
  forward (inl x) = stays (λ n l. ap (turns_at n) x.0) (inl (ap (turns_at o) x.0)) (inl x.1)
      (ap length x.0 ∙ sym (ap (λ zs. length (turns_at o zs)) x.0))
  forward (inr (inl x)) =
      let here : turns_at o xs ≡ x.turns = ap (turns_at o) x.all ∙ turns_at-turns_on o x.turns in
      let P : List Turn → Type 0 = λ ts. IsOpen t k v ts in
      stays (λ n l. ap (turns_at n) x.all ∙ turns_at-turns_on_other o n x.turns (λ e. omega arith))
      (inr (open_part t k v (turns_at o xs) (subst P (sym here) x.going))) (inl x.is) (counts x.turns x.all here)
  forward (inr (inr (inl x))) =
      let here : turns_at o xs ≡ x.turns = ap (turns_at o) x.all ∙ turns_at-turns_on o x.turns in
      let P : List Turn → Type 0 = λ ts. IsPath t k v ts (answer true x.value) in
      let path : P (turns_at o xs) = subst P (sym here) x.path in
      stays (λ n l. ap (turns_at n) x.all ∙ turns_at-turns_on_other o n x.turns (λ e. omega arith))
      (inr ([], answer true x.value, path))
      (inr (inl (x.value, path, x.is))) (counts x.turns x.all here)
  forward (inr (inr (inr (u, rest, x, p)))) = moves u rest x p
