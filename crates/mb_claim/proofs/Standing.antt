-- Where a claim stands: its turns with one more there are a prefix of its path, and the access that its place names may
-- come next.
use Rattle.std.proofs.Common.{◌≡◌, ◌+◌, ◌<◌, ℕ, suc, Bool, true, false, cond, Some, None, List, [], ◌∷◌, ◌++◌, length}
use Rattle.std.proofs.Common.{refl, sym, ◌∙◌, ap, ap₂, subst, subst₂, slice_get, inl, inr, append-nil, append_assoc}
use Rattle.std.proofs.Common.{arith}
use Rattle.std.proofs.lemmas.Bool.{eq-eqb}
use Rattle.std.specs.List.{cons_option}
use Rattle.mb_quorum.specs.Vocabulary.{QuorumTable}
use Rattle.mb_deciding.specs.Vocabulary.{object_of, ReadsLast, part, IsInWords, answer, IsPath, IsPrefix, IsOpen}
use Rattle.mb_deciding.specs.Vocabulary.{IsObjectLawful, CanFind, PcIsAt, IsOpAt, turn_after, seen_by}
use Rattle.mb_claim.specs.{Claims, claims_of, Turn, Access, Op, Kind, Out, Pc, ObjectTurn, ClaimAccess, Stage, Going}
use Rattle.mb_claim.specs.{Undecided, part_on, object_history, turns_on, stage_for, IsClaimPrefixFrom, IsClaimLawful}
use Rattle.mb_claim.specs.{MayFollow, PassesAll, StandsAt, HasPlace, access_after}
use Rattle.mb_claim.proofs.KindLaws.{AreDeciding}
use Rattle.mb_claim.proofs.Lists.{not_empty, get_at}
use Rattle.mb_claim.proofs.Turns.{reads_seen}
use Rattle.mb_claim.proofs.CellFamily.{competes, family}
use Rattle.mb_claim.proofs.PassedObjects.{LawfulObject, family_at}

-- ---- a prefix of a claim path, from the object on which the claim stands
-- whole undecided paths through the objects `before`, joined with a prefix through those `after`, are one through all
pub passed_then :
    (t : QuorumTable) (c : ℕ) (before after : List Kind) (o v w : ℕ) (front ys : List ObjectTurn) (s : Stage)
    → PassesAll t before o v front w → IsClaimPrefixFrom t c after (o + length before) w ys s
    → IsClaimPrefixFrom t c (before ++ after) o v (ys ++ front) s
passed_then t c [] after o v w front ys s p q =
    let n : o + 0 ≡ o = omega arith in
    let xs : ys ≡ ys ++ front = sym (ap (λ zs. ys ++ zs) p.0 ∙ append-nil ys) in
    subst (λ zs. IsClaimPrefixFrom t c after o v zs s) xs (subst₂ (λ m u. IsClaimPrefixFrom t c after m u ys s) n p.1 q)
passed_then t c (k ∷ ks) after o v w front ys s (u, rest, x, p) q =
    let n : o + suc (length ks) ≡ suc o + length ks = omega arith in
    let all : ys ++ front ≡ (ys ++ rest) ++ turns_on o x.turns =
    ap (λ zs. ys ++ zs) x.all ∙ sym (append_assoc ys rest (turns_on o x.turns)) in
    inr (inr (
      u,
      ys ++ rest,
      record { turns = x.turns; all = all; path = x.path },
      passed_then t c ks after (suc o) u w rest ys s p (subst (λ m. IsClaimPrefixFrom t c after m w ys s) n q),
    ))

module _ (t : QuorumTable) (kinds : List Kind) (c object : ℕ) (pc : Pc) (xs : List ObjectTurn)
    (p : StandsAt t kinds c object pc xs) where
  -- a prefix from the claim's object on, joined with the steps on the objects before, is a prefix from object 0 on
  from_here : (ys : List ObjectTurn) (s : Stage) → IsClaimPrefixFrom t c (p.kind ∷ p.after) object p.input ys s
      → IsClaimPrefixFrom t c kinds 0 c (ys ++ p.front) s
  from_here ys s q =
      subst (λ ks. IsClaimPrefixFrom t c ks 0 c (ys ++ p.front) s) (sym p.order)
      (passed_then t c p.before (p.kind ∷ p.after) 0 c p.input p.front ys s p.passed
      (subst (λ n. IsClaimPrefixFrom t c (p.kind ∷ p.after) n p.input ys s) (p.number ∙ (omega arith)) q))

  module _ (x : Turn) where
    -- the claim's turns, with one more turn on its object
    abbrev longer : List ObjectTurn
    longer = record { object = object; turn = x } ∷ xs

    -- the longer turns are the steps on the objects before, and then the turns on this object with one more
    pub longer_is : longer ≡ turns_on object (x ∷ p.turns) ++ p.front
    longer_is = ap (λ zs. record { object = object; turn = x } ∷ zs) p.all

    -- if the turns on this object with one more are a prefix from it on, the longer turns are a prefix from object 0 on
    then_here : (s : Stage) → IsClaimPrefixFrom t c (p.kind ∷ p.after) object p.input (turns_on object (x ∷ p.turns)) s
        → IsClaimPrefixFrom t c kinds 0 c longer s
    then_here s q = subst (λ zs. IsClaimPrefixFrom t c kinds 0 c zs s) (sym longer_is)
        (from_here (turns_on object (x ∷ p.turns)) s q)

    -- if the turn ends the path on this object with the decided output u, the claim has the stage for u
    pub decided_here : (u : ℕ) → IsPath t p.kind p.input (x ∷ p.turns) (answer true u)
        → IsClaimPrefixFrom t c kinds 0 c longer (stage_for c u)
    decided_here u path =
        then_here (stage_for c u)
        (inr (inl (record { turns = x ∷ p.turns; value = u; all = refl; path = path; is = refl })))

    -- if the turn ends this object's path undecided, the claim has the stage of an empty part on the later objects
    undecided_then :
        (u : ℕ) (s : Stage) → IsPath t p.kind p.input (x ∷ p.turns) (answer false u)
        → IsClaimPrefixFrom t c p.after (suc object) u [] s → IsClaimPrefixFrom t c kinds 0 c longer s
    undecided_then u s path behind =
        then_here s (inr (inr (u, [], record { turns = x ∷ p.turns; all = refl; path = path }, behind)))

    -- if the turn ends the path on the row's final object undecided, the claim is undecided
    pub undecided_here :
        (u : ℕ) → IsPath t p.kind p.input (x ∷ p.turns) (answer false u) → p.after ≡ []
        → IsClaimPrefixFrom t c kinds 0 c longer Undecided
    undecided_here u path last =
        undecided_then u Undecided path
        (subst (λ ks. IsClaimPrefixFrom t c ks (suc object) u [] Undecided) (sym last) (refl, refl))

    -- if the turn ends the path on this object undecided and another object comes after it, the claim is going
    passed_here :
        AreDeciding t → (k : Kind) (ks : List Kind) → p.after ≡ k ∷ ks
        → (u : ℕ) → IsPath t p.kind p.input (x ∷ p.turns) (answer false u) → u < t.values
        → IsClaimPrefixFrom t c kinds 0 c longer Going
    passed_here law k ks next u path l =
        undecided_then u Going path
        (subst (λ js. IsClaimPrefixFrom t c js (suc object) u [] Going) (sym next)
        (inl (record { turns = []; all = refl; going = (law k (λ p. p)).opens u l; is = refl })))

    -- if the turn ends the path on this object, the longer turns are a prefix of the claim's path, with some stage
    ended :
        AreDeciding t → (ks : List Kind) → p.after ≡ ks → (d : Bool) (u : ℕ)
        → IsPath t p.kind p.input (x ∷ p.turns) (answer d u) → u < t.values
        → (s : Stage) × IsClaimPrefixFrom t c kinds 0 c longer s
    ended law ks e true u path l = (stage_for c u, decided_here u path)
    ended law [] e false u path l = (Undecided, undecided_here u path e)
    ended law (k ∷ ks) e false u path l = (Going, passed_here law k ks e u path l)

    -- if the turns on this object with one more are a prefix of its path, the longer turns are a prefix of a claim path
    pub goes_on :
        AreDeciding t
        → ((u : ℕ) (d : Bool) → IsPath t p.kind p.input (x ∷ p.turns) (answer d u) → u < t.values)
        → IsPrefix t p.kind p.input (x ∷ p.turns) → (s : Stage) × IsClaimPrefixFrom t c kinds 0 c longer s
    goes_on law below ([], out, path) =
        ended law p.after refl out.decided out.value path (below out.value out.decided path)
    goes_on law below (y ∷ more, out, path) = (
      Going,
      then_here Going (inl (record {
        turns = x ∷ p.turns;
        all = refl;
        going = (y ∷ more, not_empty y more, (out, path));
        is = refl;
      })),
    )

-- ---- the access that a place names may come next
-- objects over a table keep the laws of one access more: it goes on with a path, finds what its place allows, and the
-- history stays lawful
pub record AreStepping (t : QuorumTable) : Type 0 where
  pub steps :
      (kind : Kind) (inputs : ℕ → ℕ) (h : List Access) (p : ℕ) (pc : Pc) (op : Op) (word : ℕ)
      → IsObjectLawful (object_of t kind inputs) h
      → PcIsAt t kind (inputs p) pc (part p h) → IsOpAt t pc op
      → IsPrefix t kind (inputs p) (turn_after op word h ∷ part p h)
  pub finds :
      (kind : Kind) (inputs : ℕ → ℕ) (h : List Access) (p : ℕ) (pc : Pc) (op : Op)
      → IsObjectLawful (object_of t kind inputs) h
      → PcIsAt t kind (inputs p) pc (part p h) → IsOpAt t pc op → CanFind t pc op (seen_by op h)
  pub longer :
      (kind : Kind) (inputs : ℕ → ℕ) (h : List Access) (p : ℕ) (turn : Turn)
      → IsObjectLawful (object_of t kind inputs) h
      → inputs p < t.values → IsInWords turn
      → ReadsLast turn.act h → IsPrefix t kind (inputs p) (turn ∷ part p h)
      → IsObjectLawful (object_of t kind inputs) (record { process = p; turn = turn } ∷ h)

module _ (t : QuorumTable) (law : AreDeciding t) (stepping : AreStepping t) (kind : Kind) (hs : ℕ → List Access)
    (c o w : ℕ) (turns : List Turn) (at : LawfulObject t kind hs c o w turns)
    (pc : Pc) (op : Op) (word : ℕ) (small : IsInWords (turn_after op word (hs o))) (place : PcIsAt t kind w pc turns)
    (is : IsOpAt t pc op) where
  -- with the turn that the place names, the process's turns on this object are a prefix of a path with its input
  own_step : IsPrefix t kind (at.inputs c) (turn_after op word (hs o) ∷ part c (hs o))
  own_step =
      stepping.steps kind at.inputs (hs o) c pc op word at.lawful
      (subst₂ (λ v ts. PcIsAt t kind v pc ts) (sym at.own) (sym at.same) place) is

  -- with that turn, the claim's turns on this object are a prefix of a path there
  pub part_here : IsPrefix t kind w (turn_after op word (hs o) ∷ turns)
  part_here = subst₂ (λ v ts. IsPrefix t kind v (turn_after op word (hs o) ∷ ts)) at.own at.same own_step

  -- the history of this object with the turn is lawful
  then : IsObjectLawful (object_of t kind at.inputs) (record { process = c; turn = turn_after op word (hs o) } ∷ hs o)
  then =
      stepping.longer kind at.inputs (hs o) c (turn_after op word (hs o)) at.lawful at.within small
      (reads_seen op (hs o)) own_step

  -- if the turn ends the path on this object, its output is a value of the table
  pub output_below :
      (u : ℕ) (d : Bool) → IsPath t kind w (turn_after op word (hs o) ∷ turns) (answer d u) → u < t.values
  output_below u d path =
      let turn : Turn = turn_after op word (hs o) in
      let mine : part c (record { process = c; turn = turn } ∷ hs o) ≡ turn ∷ turns =
      ap (λ b. cons_option (cond b (Some turn) None) (part c (hs o))) (eq-eqb c c refl)
      ∙ ap (λ ts. turn ∷ ts) at.same in
      let output = subst₂ (λ v ts. IsPath t kind v ts (answer d u)) (sym at.own) (sym mine) path in
      let from = (law kind at.inputs).validity (record { process = c; turn = turn } ∷ hs o) then c d u output in
      subst (λ n. n < t.values) from.2 (then.parts from.0 from.1).0

-- in a lawful history of claims the accesses to the object on which a claim stands are a lawful history of that object
stands_here :
    (cs : Claims) → AreDeciding cs.table → (h : List ClaimAccess) (c k object : ℕ) (pc : Pc)
    → IsClaimLawful cs h → (p : HasPlace cs c k object pc h)
    → LawfulObject cs.table p.1.kind (λ o. object_history k o h) c object p.1.input p.1.turns
stands_here cs law h c k object pc lawful p =
    let row : Claims = claims_of cs.table (p.1.before ++ p.1.kind ∷ p.1.after) cs.cells in
    let lawful' : IsClaimLawful row h =
    subst (λ ks. IsClaimLawful (claims_of cs.table ks cs.cells) h) p.1.order lawful in
    family_at cs.table (λ o. object_history k o h) law p.1.before p.1.kind p.1.after 0
    (competes row h k law lawful') (family row h k law lawful') c p.1.input object p.1.front p.1.turns
    (p.1.number ∙ (omega arith)) p.0 p.1.all p.1.passed

-- the access that a claim's place names may come next
pub may_follow :
    (cs : Claims) → AreDeciding cs.table → AreStepping cs.table
    → (h : List ClaimAccess) (c k object : ℕ) (pc : Pc) (op : Op) (word : ℕ)
    → IsClaimLawful cs h → k < cs.cells → HasPlace cs c k object pc h → IsOpAt cs.table pc op
    → IsInWords (access_after c k object op word h).step.turn
    → MayFollow cs (access_after c k object op word h) h
may_follow cs law stepping h c k object pc op word lawful cell p is words =
    let at = stands_here cs law h c k object pc lawful p in
    let hs : ℕ → List Access = λ o. object_history k o h in
    record {
      consumer = p.0;
      cell = cell;
      words = words;
      reads = reads_seen op (object_history k object h);
      prefix =
          goes_on cs.table cs.kinds c object pc (part_on c k h) p.1 (turn_after op word (object_history k object h)) law
          (output_below cs.table law stepping p.1.kind hs c object p.1.input p.1.turns at pc op word words p.1.place is)
          (part_here cs.table law stepping p.1.kind hs c object p.1.input p.1.turns at pc op word words p.1.place is);
    }

-- after a lawful history the access that a claim's place names finds a value that this place allows (`CanFind`)
pub finds_there :
    (cs : Claims) → AreDeciding cs.table → AreStepping cs.table
    → (h : List ClaimAccess) (c k object : ℕ) (pc : Pc) (op : Op)
    → IsClaimLawful cs h → HasPlace cs c k object pc h → IsOpAt cs.table pc op
    → CanFind cs.table pc op (seen_by op (object_history k object h))
finds_there cs law stepping h c k object pc op lawful p is =
    let at = stands_here cs law h c k object pc lawful p in
    stepping.finds p.1.kind at.inputs (object_history k object h) c pc op at.lawful
    (subst₂ (λ v ts. PcIsAt cs.table p.1.kind v pc ts) (sym at.own) (sym at.same) p.1.place) is

-- ---- a claim that stands at a place is going
-- the object on which a claim stands is one of its cell's, of the kind that `StandsAt` names
pub stands_on :
    (t : QuorumTable) (kinds : List Kind) (c object : ℕ) (pc : Pc) (xs : List ObjectTurn)
    (p : StandsAt t kinds c object pc xs)
    → slice_get kinds object ≡ Some p.kind
stands_on t kinds c object pc xs p = ap₂ (λ ks m. slice_get ks m) p.order p.number ∙ get_at p.before p.kind p.after

-- turns that are a prefix of a path, but no whole path, are an open prefix
open_by :
    (t : QuorumTable) (kind : Kind) (v : ℕ) (turns : List Turn) → ((out : Out) → IsPath t kind v turns out → ⊥)
    → IsPrefix t kind v turns → IsOpen t kind v turns
open_by t kind v turns not ([], out, path) = absurd (not out path)
open_by t kind v turns not (x ∷ more, out, path) = (x ∷ more, not_empty x more, (out, path))

-- if the turns on a claim's object are an unfinished prefix there, all its turns are a prefix, and it is going
pub stands_part :
    (t : QuorumTable) (kinds : List Kind) (c object : ℕ) (pc : Pc) (xs : List ObjectTurn)
    (p : StandsAt t kinds c object pc xs)
    → IsPrefix t p.kind p.input p.turns → ((out : Out) → IsPath t p.kind p.input p.turns out → ⊥)
    → IsClaimPrefixFrom t c kinds 0 c xs Going
stands_part t kinds c object pc xs p begin not =
    subst (λ zs. IsClaimPrefixFrom t c kinds 0 c zs Going) (sym p.all)
    (from_here t kinds c object pc xs p (turns_on object p.turns) Going
    (inl (record { turns = p.turns; all = refl; going = open_by t p.kind p.input p.turns not begin; is = refl })))
