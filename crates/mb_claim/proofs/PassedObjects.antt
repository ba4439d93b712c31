-- The objects that a claim has passed, and the one on which it stands.
use Rattle.std.proofs.Common.{◌≡◌, ◌+◌, ◌<◌, ℕ, suc, false, List, [], ◌∷◌, ◌++◌, length, refl, sym, ◌∙◌, ap, ap₂, subst}
use Rattle.std.proofs.Common.{inl, inr, append-nil, append_assoc, arith}
use Rattle.std.proofs.lemmas.List.{append_cancel_right}
use Rattle.mb_quorum.specs.Vocabulary.{QuorumTable}
use Rattle.mb_deciding.specs.Vocabulary.{object_of, part, answer, IsPath, IsObjectLawful}
use Rattle.mb_claim.specs.{Turn, Access, Kind, Out, ObjectTurn, Stage, turns_on, Passes, PassesAll}
use Rattle.mb_claim.proofs.KindLaws.{OfKind, AreDeciding}
use Rattle.mb_claim.proofs.ObjectHistories.{turns_at}
use Rattle.mb_claim.proofs.Parts.{Member, forward, passed_turns, turns_at-append, turns_at-turns_on}
use Rattle.mb_claim.proofs.Parts.{turns_at-turns_on_other}
use Rattle.mb_claim.proofs.Unique.{open_closed, same_out, not_ended, not_undecided}
use Rattle.mb_claim.proofs.Family.{Family, step, lawful_here, output, output_holds, next}
use Rattle.mb_claim.proofs.Lists.{append_nils, append_nil_left}

-- whole paths through the objects from object o on have no turn on an object before o
nothing_passed :
    (t : QuorumTable) (ks : List Kind) (o v w n : ℕ) (xs : List ObjectTurn) → n < o → PassesAll t ks o v xs w
    → turns_at n xs ≡ []
nothing_passed t [] o v w n xs l p = ap (turns_at n) p.0
nothing_passed t (k ∷ ks) o v w n xs l (u, later, x, p) =
    ap (turns_at n) x.all ∙ turns_at-append n later (turns_on o x.turns)
    ∙ append_nils (turns_at n later) (turns_at n (turns_on o x.turns))
    (nothing_passed t ks (suc o) u w n later (omega arith) p) (turns_at-turns_on_other o n x.turns (λ e. omega arith))

-- ---- steps from object o on that pass o can be split in one way
module _ (t : QuorumTable) (c : ℕ) (k : Kind) (ks : List Kind) (o v : ℕ) (xs : List ObjectTurn) (s : Stage)
    (law : OfKind t k) (l : v < t.values)
    (u : ℕ) (later : List ObjectTurn) (x : Passes t k o v xs u later) (none : turns_at o later ≡ []) where
  -- the turns with which object o was passed are all the turns on o
  pub here : x.turns ≡ turns_at o xs
  here =
      sym (ap (turns_at o) x.all ∙ turns_at-append o later (turns_on o x.turns)
      ∙ append_nil_left (turns_at o later) (turns_at o (turns_on o x.turns)) none ∙ turns_at-turns_on o x.turns)

  -- the split after object o (`forward`) gives the value u with which o was passed, and the steps after that
  pub forward_passes :
      (m : Member t c (k ∷ ks) o v xs s)
      → ((forward t c k ks o v xs s m).value ≡ u) × ((forward t c k ks o v xs s m).rest ≡ later)
  forward_passes (inl y) =
      absurd (open_closed t k law v [] x.turns (answer false u) (sym (here ∙ ap (turns_at o) y.0))
      ((law (λ p. p)).opens v l) x.path)
  forward_passes (inr (inl y)) = absurd (not_ended t k law c o v xs s x.turns (answer false u) here x.path y)
  forward_passes (inr (inr (inl y))) =
      absurd (not_undecided t k law c o v xs s x.turns (answer false u) here x.path y refl)
  forward_passes (inr (inr (inr (w, front, y, p)))) =
      let e : y.turns ≡ x.turns = passed_turns t c k ks o v xs s w front y p ∙ sym here in
      let values : w ≡ u =
      ap (λ (a : Out). a.value) (same_out t k law v y.turns x.turns (answer false w)
      (answer false u) e y.path x.path) in (
        values,
        append_cancel_right front later (turns_on o x.turns)
            (ap (λ ts. front ++ turns_on o ts) (sym e) ∙ sym y.all ∙ x.all),
      )

-- ---- the object on which a claim stands has a lawful history
-- object o has a lawful history with some inputs. There consumer c's input is w, a value of the table, and it has made
-- these turns
pub record LawfulObject (t : QuorumTable) (kind : Kind) (hs : ℕ → List Access) (c o w : ℕ) (turns : List Turn)
    : Type 0 where
  pub inputs : ℕ → ℕ
  pub lawful : IsObjectLawful (object_of t kind inputs) (hs o)
  pub own : inputs c ≡ w
  pub same : part c (hs o) ≡ turns
  pub within : inputs c < t.values

-- also in a family: the split of a consumer's steps after object o, which it passed, gives its output and later steps
pub step_passes :
    (t : QuorumTable) (k : Kind) (ks : List Kind) (o : ℕ) (hs : ℕ → List Access) (P : ℕ → Type 0)
    (fam : Family t (k ∷ ks) o hs P) (law : OfKind t k) (c : ℕ) → fam.input c < t.values
    → (u : ℕ) (later : List ObjectTurn) (x : Passes t k o (fam.input c) (fam.rest c) u later) → turns_at o later ≡ []
    → ((step t k ks o hs P fam c).value ≡ u) × ((step t k ks o hs P fam c).rest ≡ later)
unfolding step
step_passes t k ks o hs P fam law c l u later x none =
    forward_passes t c k ks o (fam.input c) (fam.rest c) (fam.stage c) law l u later x none (fam.member c)

-- the object after those that consumer c passed has a lawful history, with c's input w and c's turns there
pub family_at :
    (t : QuorumTable) (hs : ℕ → List Access) (law : AreDeciding t) (before : List Kind) (kind : Kind)
    (after : List Kind) (o : ℕ) (P : ℕ → Type 0)
    (fam : Family t (before ++ kind ∷ after) o hs P) (c w m : ℕ) (front : List ObjectTurn) (turns : List Turn)
    → m ≡ o + length before → fam.input c < t.values
    → fam.rest c ≡ turns_on m turns ++ front → PassesAll t before o (fam.input c) front w
    → LawfulObject t kind hs c m w turns
family_at t hs law [] kind after o P fam c w m front turns e l all p =
    let n : m ≡ o = omega arith in
    subst (λ i. LawfulObject t kind hs c i w turns) (sym n)
    (record {
      inputs = fam.input;
      lawful = lawful_here t kind after o hs P fam;
      own = sym p.1;
      same = fam.turns c o (omega arith)
          ∙ ap (turns_at o) (all ∙ ap₂ (λ i zs. turns_on i turns ++ zs) n p.0 ∙ append-nil (turns_on o turns))
          ∙ turns_at-turns_on o turns;
      within = l;
    })
family_at t hs law (b ∷ bs) kind after o P fam c w m front turns e l all (u, rest, x, p) =
    let ys : List ObjectTurn = turns_on m turns in
    let y : Passes t b o (fam.input c) (fam.rest c) u (ys ++ rest) =
    record {
      turns = x.turns;
      all = all ∙ ap (λ zs. turns_on m turns ++ zs) x.all
          ∙ sym (append_assoc (turns_on m turns) rest (turns_on o x.turns));
      path = x.path;
    } in
    let none : turns_at o (ys ++ rest) ≡ [] =
    turns_at-append o (turns_on m turns) rest
    ∙ append_nils (turns_at o (turns_on m turns)) (turns_at o rest)
    (turns_at-turns_on_other m o turns (λ q. omega arith)) (nothing_passed t bs (suc o) u w o rest (omega arith) p) in
    let at = step_passes t b (bs ++ kind ∷ after) o hs P fam (law b) c l u (ys ++ rest) y none in
    let path : IsPath t b (fam.input c) (turns_at o (fam.rest c)) (answer false u) =
    subst (λ ts. IsPath t b (fam.input c) ts (answer false u))
    (here t c b (bs ++ kind ∷ after) o (fam.input c) (fam.rest c) (fam.stage c) (law b) l u
    (ys ++ rest) y none) x.path in
    let below : u < t.values =
    (output_holds t b (bs ++ kind ∷ after) o hs P fam (law b) c false u
    (output t b (bs ++ kind ∷ after) o hs P fam c false u path)).0 in
    family_at t hs law bs kind after (suc o) P (next t b (bs ++ kind ∷ after) o hs P fam (law b)) c w m rest turns
    (omega arith)
    (subst (λ n. n < t.values) (sym at.0) below) at.1 (subst (λ n. PassesAll t bs (suc o) n rest w) (sym at.0) p)
