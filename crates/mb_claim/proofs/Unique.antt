-- A prefix of a claim path has one stage, and a consumer uses an object once.
use Rattle.std.proofs.Common.{◌≡◌, ◌⊎◌, append_assoc, ℕ, suc, true, false, List, [], ◌∷◌, ◌++◌, refl, sym, ◌∙◌, ap}
use Rattle.std.proofs.Common.{subst, subst₂, inl, inr}
use Rattle.std.proofs.lemmas.Bool.{true≢false}
use Rattle.std.proofs.lemmas.List.{append_cancel_right}
use Rattle.mb_quorum.specs.Vocabulary.{QuorumTable}
use Rattle.mb_deciding.specs.Vocabulary.{answer, IsPath, IsPrefix, IsOpen}
use Rattle.mb_claim.specs.{Turn, Kind, Out, ObjectTurn, Stage, turns_on, stage_for, GoesOnIn, DecidesIn}
use Rattle.mb_claim.specs.{IsClaimPrefixFrom}
use Rattle.mb_claim.proofs.KindLaws.{OfKind, AreDeciding}
use Rattle.mb_claim.proofs.ObjectHistories.{turns_at}
use Rattle.mb_claim.proofs.Lists.{append_nil_parts, append_nil_rest}
use Rattle.mb_claim.proofs.Parts.{turns_at-turns_on, passed_turns}

module _ (t : QuorumTable) (k : Kind) (law : OfKind t k) (v : ℕ) where
  -- an open prefix of a path is no whole path
  pub open_closed : (xs ys : List Turn) (out : Out) → xs ≡ ys → IsOpen t k v xs → IsPath t k v ys out → ⊥
  open_closed xs ys out e g p =
      g.1 ((law (λ p. p)).unique v xs g.0 out g.2.0 (subst (λ zs. IsPath t k v zs out) (sym e) p) g.2.1).0

  -- a whole path has one output
  pub same_out : (xs ys : List Turn) (a b : Out) → xs ≡ ys → IsPath t k v xs a → IsPath t k v ys b → a ≡ b
  same_out xs ys a b e p q =
      ((law (λ p. p)).unique v xs [] a b p (subst (λ zs. IsPath t k v zs b) (sym e) q)).1

-- if all steps were made on object o, their turns are the turns on o
pub only :
    (t : QuorumTable) (k : Kind) (o v : ℕ) (xs : List ObjectTurn) (ts : List Turn) → xs ≡ turns_on o ts
    → ts ≡ turns_at o xs
only t k o v xs ts e = sym (turns_at-turns_on o ts) ∙ ap (turns_at o) (sym e)

module _ (t : QuorumTable) (k : Kind) (law : OfKind t k) (c o v : ℕ) (xs : List ObjectTurn) (s : Stage)
    (ys : List Turn) (out : Out) (here : ys ≡ turns_at o xs) (path : IsPath t k v ys out) where
  -- if the turns on object o are a whole path, the consumer does not go on within o
  pub not_ended : GoesOnIn t k o v xs s → ⊥
  not_ended x = open_closed t k law v x.turns ys out (only t k o v xs x.turns x.all ∙ sym here) x.going path

  -- if object o decided, the output of the whole path there is the decided value
  pub decided_as : (x : DecidesIn t c k o v xs s) → answer true x.value ≡ out
  decided_as x =
      same_out t k law v x.turns ys (answer true x.value) out (only t k o v xs x.turns x.all ∙ sym here) x.path path

  -- if object o decided, the output of the whole path there is not undecided
  pub not_undecided : DecidesIn t c k o v xs s → out.decided ≡ false → ⊥
  not_undecided x e = true≢false (ap (λ (a : Out). a.decided) (decided_as x) ∙ e)

-- a prefix of a claim path has one stage
pub one_stage_lem :
    (t : QuorumTable) → AreDeciding t → (c : ℕ) (ks : List Kind) (o v : ℕ) (xs : List ObjectTurn) (s r : Stage)
    → IsClaimPrefixFrom t c ks o v xs s → IsClaimPrefixFrom t c ks o v xs r → s ≡ r
one_stage_lem t law c [] o v xs s r p q = p.1 ∙ sym q.1
one_stage_lem t law c (k ∷ ks) o v xs s r (inl x) (inl y) = x.is ∙ sym y.is
one_stage_lem t law c (k ∷ ks) o v xs s r (inl x) (inr (inl y)) =
    absurd (not_ended t k (law k) c o v xs s y.turns (answer true y.value) (only t k o v xs y.turns y.all) y.path x)
one_stage_lem t law c (k ∷ ks) o v xs s r (inl x) (inr (inr (w, rest, y, q))) =
    absurd (not_ended t k (law k) c o v xs s y.turns (answer false w)
    (passed_turns t c k ks o v xs r w rest y q) y.path x)
one_stage_lem t law c (k ∷ ks) o v xs s r (inr (inl x)) (inl y) =
    absurd (not_ended t k (law k) c o v xs r x.turns (answer true x.value) (only t k o v xs x.turns x.all) x.path y)
one_stage_lem t law c (k ∷ ks) o v xs s r (inr (inl x)) (inr (inl y)) =
    x.is
    ∙ ap (λ (a : Out). stage_for c a.value)
    (decided_as t k (law k) c o v xs s y.turns (answer true y.value) (only t k o v xs y.turns y.all) y.path x)
    ∙ sym y.is
one_stage_lem t law c (k ∷ ks) o v xs s r (inr (inl x)) (inr (inr (w, rest, y, q))) =
    absurd (not_undecided t k (law k) c o v xs s y.turns (answer false w) (passed_turns t c k ks o v xs r w rest y q)
    y.path x refl)
one_stage_lem t law c (k ∷ ks) o v xs s r (inr (inr (u, front, x, p))) (inl y) =
    absurd (not_ended t k (law k) c o v xs r x.turns (answer false u)
    (passed_turns t c k ks o v xs s u front x p) x.path y)
one_stage_lem t law c (k ∷ ks) o v xs s r (inr (inr (u, front, x, p))) (inr (inl y)) =
    absurd (not_undecided t k (law k) c o v xs r x.turns (answer false u) (passed_turns t c k ks o v xs s u front x p)
    x.path y refl)
one_stage_lem t law c (k ∷ ks) o v xs s r (inr (inr (u, front, x, p))) (inr (inr (w, rest, y, q))) =
    let e : x.turns ≡ y.turns =
    passed_turns t c k ks o v xs s u front x p ∙ sym (passed_turns t c k ks o v xs r w rest y q) in
    let values : u ≡ w =
    ap (λ (a : Out). a.value) (same_out t k (law k) v x.turns y.turns (answer false u)
    (answer false w) e x.path y.path) in
    let rests : front ≡ rest =
    append_cancel_right front rest (turns_on o y.turns)
    (ap (λ ts. front ++ turns_on o ts) (sym e) ∙ sym x.all ∙ y.all) in
    one_stage_lem t law c ks (suc o) w rest s r (subst₂ (λ n zs. IsClaimPrefixFrom t c ks
    (suc o) n zs s) values rests p) q

-- an object is used once: after a whole path there is no turn
pub used_once :
    (t : QuorumTable) (k : Kind) (law : OfKind t k) (v : ℕ) (later turns all : List Turn) (out : Out)
    → IsPath t k v turns out → all ≡ later ++ turns → (all ≡ []) ⊎ IsPrefix t k v all → later ≡ []
used_once t k law v later turns all out path e (inl none) = append_nil_parts later turns (sym e ∙ none)
used_once t k law v later turns all out path e (inr begun) =
    let P : List Turn → Type 0 = λ ts. IsPath t k v ts begun.1 in
    let whole : P ((begun.0 ++ later) ++ turns) =
    subst P (ap (λ ts. begun.0 ++ ts) e ∙ sym (append_assoc begun.0 later turns)) begun.2 in
    append_nil_rest begun.0 later ((law (λ p. p)).unique v turns (begun.0 ++ later) out begun.1 path whole).0
