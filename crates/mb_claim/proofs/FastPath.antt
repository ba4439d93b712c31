-- A row that begins with two ratifiers: if the first has decided, nobody comes to an object after the second.
use Rattle.std.proofs.lemmas.Bool.{cases_eq}
use Rattle.std.proofs.lemmas.List.Elements.{filter_map-append}
use Rattle.std.proofs.Common.{subst, inl, inr, ◌++◌, ◌≡◌, ◌≢◌, ◌≤◌, ℕ, true, false, List, [], ◌∷◌, sym, ◌∙◌, ap, ⊎_elim}
use Rattle.std.proofs.Common.{true≢false}
use Rattle.mb_quorum.specs.Vocabulary.{QuorumTable}
use Rattle.mb_deciding.specs.Vocabulary.{turn_by, part, answer, IsPath}
use Rattle.mb_claim.specs.{claims_of, Turn, Access, Kind, Ratifier, ClaimAccess, Stage, Going, part_on, access_on}
use Rattle.mb_claim.specs.{object_history, IsClaimPrefixFrom, IsClaimLawful}
use Rattle.mb_claim.proofs.KindLaws.{AreDeciding, AreRatifying}
use Rattle.mb_claim.proofs.Lists.{nil_or, append_nil_left}
use Rattle.mb_claim.proofs.ObjectHistories.{turns_at, part-object_history}
use Rattle.mb_claim.proofs.Unique.{only, used_once}
use Rattle.mb_claim.proofs.Parts.{passed_turns}
use Rattle.mb_claim.proofs.OlderHistories.{older_history_lawful}
use Rattle.mb_claim.proofs.Family.{Family, step, acted, output, lawful_here, next, next_decided}
use Rattle.mb_claim.proofs.CellFamily.{competes, family}

-- ---- the first ratifier has decided for some consumer
module _ (t : QuorumTable) (ks : List Kind) (hs : ℕ → List Access) (law : AreDeciding t) (ratifying : AreRatifying t)
    (P : ℕ → Type 0) (fam : Family t (Ratifier ∷ Ratifier ∷ ks) 0 hs P) (c u : ℕ)
    (p : IsPath t Ratifier (fam.input c) (part c (hs 0)) (answer true u)) where
  -- the family from the second ratifier on: each consumer that comes there has the input u
  abbrev second : Family t (Ratifier ∷ ks) 1 hs (λ a. a ≡ u)
  second = next_decided t Ratifier (Ratifier ∷ ks) 0 hs P fam (law Ratifier) c u p

  -- the family from the object after the second ratifier on: each consumer that comes there has the input u, too
  abbrev third : Family t ks 2 hs (λ a. a ≡ u)
  third = next t Ratifier ks 1 hs (λ a. a ≡ u) second (law Ratifier)

  -- nobody comes after the second ratifier, which decides for all who come to it with u
  nobody : (d : ℕ) → third.rest d ≢ [] → ⊥
  nobody d ne =
      let f = step t Ratifier ks 1 hs (λ a. a ≡ u) second d in
      let out = output t Ratifier ks 1 hs (λ a. a ≡ u) second d false f.value (f.came ne).path in
      true≢false
      (sym
      ((ratifying second.input).acceptance (hs 1) (lawful_here t Ratifier ks 1 hs (λ a. a ≡ u) second) u
      (λ q m. (second.holds q (acted t Ratifier ks 1 hs (λ a. a ≡ u) second q m)).1) d false f.value out).0)

  -- no object after the second ratifier has a turn
  pub none_behind : (d o : ℕ) → 2 ≤ o → part d (hs o) ≡ []
  none_behind d o l =
      third.turns d o l ∙ ap (turns_at o) (⊎_elim (λ e. e) (λ ne. absurd (nobody d ne)) (nil_or (third.rest d)))

-- in a lawful history of claims, if the first ratifier has decided, nobody has a turn after the second
pub fast_path_lem :
    (t : QuorumTable) → AreDeciding t → AreRatifying t
    → (ks : List Kind) (cells : ℕ) (h : List ClaimAccess) (k c u : ℕ)
    → IsClaimLawful (claims_of t (Ratifier ∷ Ratifier ∷ ks) cells) h
    → IsPath t Ratifier c (part c (object_history k 0 h)) (answer true u) → (d o : ℕ) → 2 ≤ o
    → part d (object_history k o h) ≡ []
fast_path_lem t law ratifying ks cells h k c u lawful p =
    none_behind t ks (λ n. object_history k n h) law ratifying
    (competes (claims_of t (Ratifier ∷ Ratifier ∷ ks) cells) h k law lawful)
    (family (claims_of t (Ratifier ∷ Ratifier ∷ ks) cells) h k law lawful) c u p

-- ---- a consumer that ended its claim before any other came
module _ (t : QuorumTable) (law : AreDeciding t) (ratifying : AreRatifying t) (ks : List Kind) (cells : ℕ)
    (k c : ℕ) where
  -- a row that begins with two ratifiers
  abbrev kinds : List Kind
  kinds = Ratifier ∷ Ratifier ∷ ks

  -- the turns of consumer c on object 0 of the cell
  abbrev firsts : List ClaimAccess → List Turn
  firsts h = part c (object_history k 0 h)

  -- if only consumer c has come, the first ratifier does not leave it undecided
  not_passed :
      (h : List ClaimAccess) → IsClaimLawful (claims_of t kinds cells) h → ((d : ℕ) → d ≢ c → part_on d k h ≡ [])
      → (u : ℕ)
      → IsPath t Ratifier c (firsts h) (answer false u) → ⊥
  not_passed h lawful alone u path =
      let hs : ℕ → List Access = λ o. object_history k o h in
      let here =
      lawful_here t Ratifier (Ratifier ∷ ks) 0 hs (competes (claims_of t kinds cells) h k law lawful)
      (family (claims_of t kinds cells) h k law lawful) in
      let mine : (q : ℕ) → part q (hs 0) ≢ [] → q ≡ c =
      λ q some. ⊎_elim (λ e. e) (λ ne. absurd
      (some (part-object_history q k 0 h ∙ ap (turns_at 0) (alone q ne)))) (cases_eq q c) in
      true≢false (sym ((ratifying (λ q. q)).acceptance (hs 0) here c mine c false u path).0)

  -- if only consumer c has come and has ended its claim, the first ratifier has decided for c
  decided_by :
      (h : List ClaimAccess) → IsClaimLawful (claims_of t kinds cells) h → ((d : ℕ) → d ≢ c → part_on d k h ≡ [])
      → (s : Stage)
      → IsClaimPrefixFrom t c kinds 0 c (part_on c k h) s → s ≢ Going → (u : ℕ)
      × IsPath t Ratifier c (firsts h) (answer true u)
  decided_by h lawful alone s (inl x) ended = absurd (ended x.is)
  decided_by h lawful alone s (inr (inl x)) ended =
      let P : List Turn → Type 0 = λ ts. IsPath t Ratifier c ts (answer true x.value) in
      (x.value, subst P (only t Ratifier 0 c (part_on c k h) x.turns x.all ∙ sym (part-object_history c k 0 h)) x.path)
  decided_by h lawful alone s (inr (inr (u, rest, x, p))) ended =
      let P : List Turn → Type 0 = λ ts. IsPath t Ratifier c ts (answer false u) in
      absurd (not_passed h lawful alone u
      (subst P (passed_turns t c Ratifier (Ratifier ∷ ks) 0 c (part_on c k h) s u rest x p
      ∙ sym (part-object_history c k 0 h)) x.path))

  -- later accesses leave consumer c's turns on the first object as they are, if these are a whole path
  firsts_stay :
      (later h : List ClaimAccess) → IsClaimLawful (claims_of t kinds cells) (later ++ h) → (u : ℕ)
      → IsPath t Ratifier c (firsts h) (answer true u)
      → firsts (later ++ h) ≡ firsts h
  firsts_stay later h lawful u path =
      let hs : ℕ → List Access = λ o. object_history k o (later ++ h) in
      let fam = family (claims_of t kinds cells) (later ++ h) k law lawful in
      let joined : firsts (later ++ h) ≡ firsts later ++ firsts h =
      ap (part c) (filter_map-append (access_on k 0) later h)
      ∙ filter_map-append (turn_by c) (object_history k 0 later) (object_history k 0 h) in
      let here = (step t Ratifier (Ratifier ∷ ks) 0 hs (competes (claims_of t kinds cells)
      (later ++ h) k law lawful) fam c).here in
      let none : firsts later ≡ [] =
      used_once t Ratifier (law Ratifier) c (firsts later) (firsts h) (turns_at 0 (part_on c k (later ++ h)))
      (answer true u) path
      (sym (part-object_history c k 0 (later ++ h)) ∙ joined) here in
      joined ∙ append_nil_left (firsts later) (firsts h) none

  -- if consumer c has ended its claim before any other came, nobody comes after the second ratifier
  pub none_behind_alone :
      (later h : List ClaimAccess) (s : Stage) → IsClaimLawful (claims_of t kinds cells) (later ++ h)
      → ((d : ℕ) → d ≢ c → part_on d k h ≡ [])
      → IsClaimPrefixFrom t c kinds 0 c (part_on c k h) s → s ≢ Going → (d o : ℕ) → 2 ≤ o
      → part d (object_history k o (later ++ h)) ≡ []
  none_behind_alone later h s lawful alone p ended =
      let decided = decided_by h (older_history_lawful (claims_of t kinds cells) later h lawful) alone s p ended in
      let P : List Turn → Type 0 = λ ts. IsPath t Ratifier c ts (answer true decided.0) in
      fast_path_lem t law ratifying ks cells (later ++ h) k c decided.0 lawful
      (subst P (sym (firsts_stay later h lawful decided.0 decided.1)) decided.1)
