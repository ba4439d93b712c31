-- The prefixes of claim paths are exactly the beginnings of whole claim paths. Also the stages of whole paths.
use Rattle.std.proofs.Common.{◌≡◌, ◌≢◌, ◌+◌, ◌⊎◌, ℕ, suc, Bool, true, false, List, [], ◌∷◌, ◌++◌, refl, sym, ◌∙◌, ap}
use Rattle.std.proofs.Common.{ap₂, subst, inl, inr, append_assoc, arith}
use Rattle.std.proofs.lemmas.List.{map-append}
use Rattle.mb_quorum.specs.Vocabulary.{QuorumTable}
use Rattle.mb_deciding.specs.Vocabulary.{answer, IsPath, IsOpen, zeros_below, announcement}
use Rattle.mb_claim.specs.{Act, Turn, Kind, Out, Value, Proposal, Last, Load, Exchange, Conciliator, Ratifier, LastObject, ObjectTurn, Stage, Going}
use Rattle.mb_claim.specs.{Undecided, turns_on, stage_for, stage_of, IsClaimPath, IsClaimPrefixFrom}
use Rattle.mb_claim.proofs.Turns.{turns_for, acts-turns_for}
use Rattle.mb_claim.proofs.Lists.{not_empty, append_nil_left, append_nil_rest, heads, tails}

-- ---- whole paths
-- each object has a whole path with any input
some_path :
    (t : QuorumTable) (kind : Kind) (v : ℕ)
    → (turns : List Turn) × (d : Bool) × (u : ℕ) × IsPath t kind v turns (answer d u)
some_path t (Conciliator s) v =
    (record { act = Load Value (v + 1); word = 0 } ∷ [], false, v, (refl, (refl, (0, (omega arith), inl tt))))
some_path t Ratifier v =
    let begin : List Act = Load Proposal (v + 1) ∷ announcement t v in
    let made : List Act = zeros_below t.registers (t.read v) ++ begin in
    (turns_for made, true, v, (begin, inr refl, acts-turns_for made))
some_path t LastObject v =
    (record { act = Exchange Last (v + 1) 0; word = 0 } ∷ [], true, v, (refl, inl (refl, refl)))

-- if the later objects have a whole path with any input, a whole path of an object begins one of it and those
path_on :
    (t : QuorumTable) (kind : Kind) (kinds : List Kind) (o v : ℕ)
    → ((u : ℕ) → (xs : List ObjectTurn) × (output : Out) × IsClaimPath t kinds (suc o) u xs output)
    → (turns : List Turn) (d : Bool) (u : ℕ) → IsPath t kind v turns (answer d u)
    → (later : List ObjectTurn) × (output : Out) × IsClaimPath t (kind ∷ kinds) o v (later ++ turns_on o turns) output
path_on t kind kinds o v behind turns true u path =
    ([], answer true u, (turns, [], true, u, refl, path, inl (refl, refl, refl)))
path_on t kind kinds o v behind turns false u path =
    let rest = behind u in (rest.0, rest.1, (turns, rest.0, false, u, refl, path, inr (refl, rest.2)))

-- the objects of a row together have a whole path with any input
whole_path :
    (t : QuorumTable) (kinds : List Kind) (o v : ℕ)
    → (xs : List ObjectTurn) × (output : Out) × IsClaimPath t kinds o v xs output
whole_path t [] o v = ([], answer false v, (refl, refl))
whole_path t (kind ∷ kinds) o v =
    let first = some_path t kind v in
    let all = path_on t kind kinds o v (whole_path t kinds (suc o)) first.0 first.1 first.2 first.3 in
    (all.0 ++ turns_on o first.0, all.1, all.2)

-- ---- each prefix of a claim path begins a whole path
-- turns on the first object that are an open prefix of a path there are the beginning of a whole path
completed_open :
    (t : QuorumTable) (kind : Kind) (kinds : List Kind) (o v : ℕ) (xs : List ObjectTurn) (turns : List Turn)
    → xs ≡ turns_on o turns → IsOpen t kind v turns
    → (later : List ObjectTurn) × (output : Out) × IsClaimPath t (kind ∷ kinds) o v (later ++ xs) output
completed_open t kind kinds o v xs turns all (more, ne, (out, path)) =
    let whole = path_on t kind kinds o v (whole_path t kinds (suc o)) (more ++ turns) out.decided out.value path in
    let P : List ObjectTurn → Type 0 = λ zs. IsClaimPath t (kind ∷ kinds) o v zs whole.1 in
    let joined : whole.0 ++ turns_on o (more ++ turns) ≡ (whole.0 ++ turns_on o more) ++ xs =
    ap (λ zs. whole.0 ++ zs) (map-append (λ (x : Turn). record { object = o; turn = x }) more turns
    ∙ ap (λ zs. turns_on o more ++ zs) (sym all))
    ∙ sym (append_assoc whole.0 (turns_on o more) xs) in
    (whole.0 ++ turns_on o more, whole.1, subst P joined whole.2)

-- each prefix of a claim path is the beginning of a whole path
pub completed :
    (t : QuorumTable) (c : ℕ) (kinds : List Kind) (o v : ℕ) (xs : List ObjectTurn) (s : Stage)
    → IsClaimPrefixFrom t c kinds o v xs s
    → (later : List ObjectTurn) × (output : Out) × IsClaimPath t kinds o v (later ++ xs) output
completed t c [] o v xs s p = ([], answer false v, (p.0, refl))
completed t c (kind ∷ kinds) o v xs s (inl x) = completed_open t kind kinds o v xs x.turns x.all x.going
completed t c (kind ∷ kinds) o v xs s (inr (inl x)) =
    ([], answer true x.value, (x.turns, [], true, x.value, x.all, x.path, inl (refl, refl, refl)))
completed t c (kind ∷ kinds) o v xs s (inr (inr (u, rest, x, p))) =
    let whole = completed t c kinds (suc o) u rest s p in
    let all : whole.0 ++ xs ≡ (whole.0 ++ rest) ++ turns_on o x.turns =
    ap (λ zs. whole.0 ++ zs) x.all ∙ sym (append_assoc whole.0 rest (turns_on o x.turns)) in
    (whole.0, whole.1, (x.turns, whole.0 ++ rest, false, u, all, x.path, inr (refl, whole.2)))

-- ---- each beginning of a whole path is a prefix of a claim path
-- One list is cut in two ways, `later ++ xs` and `rest ++ back`. Either xs ends with all of back, or back is longer
-- than xs and ends with all of xs.
abbrev IsCut : {A : Type 0} → List A → List A → List A → List A → Type 0
IsCut {A} later xs rest back =
    ((front : List A) × (xs ≡ front ++ back) × (rest ≡ later ++ front))
    ⊎ ((first : A) × (more : List A) × (back ≡ (first ∷ more) ++ xs))

-- if one of the cases of `IsCut` holds, so does one with the same element put before `later` and before `rest`
cut_more :
    {A : Type 0} (y z : A) (ys xs zs back : List A) → y ≡ z → IsCut ys xs zs back → IsCut (y ∷ ys) xs (z ∷ zs) back
cut_more y z ys xs zs back e (inl (front, p, q)) = inl (front, p, ap₂ (λ a zs. a ∷ zs) (sym e) q)
cut_more y z ys xs zs back e (inr p) = inr p

-- if one list is cut in two ways, one of the two cases of `IsCut` holds
cut : {A : Type 0} (later xs rest back : List A) → later ++ xs ≡ rest ++ back → IsCut later xs rest back
cut [] xs rest back e = inl (rest, e, refl)
cut (y ∷ ys) xs [] back e = inr (y, ys, sym e)
cut (y ∷ ys) xs (z ∷ zs) back e =
    cut_more y z ys xs zs back (heads y z (ys ++ xs) (zs ++ back) e)
    (cut ys xs zs back (tails y z (ys ++ xs) (zs ++ back) e))

-- if turns on one object are cut in two, both lists are turns on that object
cut_turns_on :
    (o : ℕ) (turns : List Turn) (mid xs : List ObjectTurn) → turns_on o turns ≡ mid ++ xs
    → (more ts : List Turn) × (turns ≡ more ++ ts) × (mid ≡ turns_on o more) × (xs ≡ turns_on o ts)
cut_turns_on o turns [] xs e = ([], turns, refl, refl, sym e)
cut_turns_on o [] (m ∷ mid) xs e = absurd (not_empty m (mid ++ xs) (sym e))
cut_turns_on o (turn ∷ turns) (m ∷ mid) xs e =
    let first : record { object = o; turn = turn } ≡ m =
    heads (record { object = o; turn = turn }) m (turns_on o turns) (mid ++ xs) e in
    let rest =
    cut_turns_on o turns mid xs (tails (record { object = o; turn = turn }) m (turns_on o turns) (mid ++ xs) e) in
    (turn ∷ rest.0, rest.1, ap (λ zs. turn ∷ zs) rest.2, ap₂ (λ a zs. a ∷ zs) (sym first) rest.3, rest.4)

-- a beginning of a whole path that ends before the end of the first object's path is a prefix with the stage `Going`
begun_within :
    (t : QuorumTable) (c : ℕ) (kind : Kind) (kinds : List Kind) (o v : ℕ) (first : ObjectTurn)
    (mid xs : List ObjectTurn) (turns : List Turn) (d : Bool) (u : ℕ)
    → turns_on o turns ≡ (first ∷ mid) ++ xs → IsPath t kind v turns (answer d u)
    → IsClaimPrefixFrom t c (kind ∷ kinds) o v xs Going
begun_within t c kind kinds o v first mid xs turns d u e path =
    let at = cut_turns_on o turns (first ∷ mid) xs e in
    let P : List Turn → Type 0 = λ ts. IsPath t kind v ts (answer d u) in
    inl
    (record {
      turns = at.1;
      all = at.4;
      going = (at.0, λ none. not_empty first mid (at.3 ∙ ap (turns_on o) none), (answer d u, subst P at.2 path));
      is = refl;
    })

-- a beginning of a whole path is a prefix of a claim path. Cases: whether it ends within the path of the first object,
-- and how the whole path goes on after that object
begun_by :
    (t : QuorumTable) (c : ℕ) (kind : Kind) (kinds : List Kind) (o v : ℕ) (later xs rest : List ObjectTurn)
    (turns : List Turn) (d : Bool) (u : ℕ) (output : Out)
    → IsPath t kind v turns (answer d u)
    → ((front : List ObjectTurn) → rest ≡ later ++ front → IsClaimPath t kinds (suc o) u rest output
    → (s : Stage) × IsClaimPrefixFrom t c kinds (suc o) u front s)
    → ((d ≡ true) × (rest ≡ []) × (output ≡ answer true u)) ⊎ ((d ≡ false) × IsClaimPath t kinds (suc o) u rest output)
    → IsCut later xs rest (turns_on o turns) → (s : Stage) × IsClaimPrefixFrom t c (kind ∷ kinds) o v xs s
begun_by t c kind kinds o v later xs rest turns d u output path behind end (inr (first, mid, e)) =
    (Going, begun_within t c kind kinds o v first mid xs turns d u e path)
begun_by t c kind kinds o v later xs rest turns d u output path behind (inl (decided, none, e)) (inl (front, p, q)) =
    let all : xs ≡ turns_on o turns =
    p ∙ append_nil_left front (turns_on o turns) (append_nil_rest later front (sym q ∙ none)) in
    let P : Bool → Type 0 = λ b. IsPath t kind v turns (answer b u) in
    (stage_for c u, inr (inl (record { turns = turns; value = u; all = all; path = subst P decided path; is = refl })))
begun_by t c kind kinds o v later xs rest turns d u output path behind (inr (undecided, whole)) (inl (front, p, q)) =
    let found = behind front q whole in
    let P : Bool → Type 0 = λ b. IsPath t kind v turns (answer b u) in
    (found.0, inr (inr (u, front, record { turns = turns; all = p; path = subst P undecided path }, found.1)))

-- each beginning of a whole path is a prefix of a claim path
pub begun :
    (t : QuorumTable) (c : ℕ) (kinds : List Kind) (o v : ℕ) (later xs ys : List ObjectTurn) (output : Out)
    → ys ≡ later ++ xs → IsClaimPath t kinds o v ys output
    → (s : Stage) × IsClaimPrefixFrom t c kinds o v xs s
begun t c [] o v later xs ys output e p = (Undecided, (append_nil_rest later xs (sym e ∙ p.0), refl))
begun t c (kind ∷ kinds) o v later xs ys output e (turns, rest, d, u, all, path, end) =
    begun_by t c kind kinds o v later xs rest turns d u output path
    (λ front f p. begun t c kinds (suc o) u later front rest output f p) end
    (cut later xs rest (turns_on o turns) (sym e ∙ all))

-- ---- whole paths and their stages
-- a whole path is a prefix with the stage that its output gives
pub whole_stage :
    (t : QuorumTable) (c : ℕ) (kinds : List Kind) (o v : ℕ) (xs : List ObjectTurn) (output : Out)
    → IsClaimPath t kinds o v xs output
    → IsClaimPrefixFrom t c kinds o v xs (stage_of c output)
whole_stage t c [] o v xs output p = (p.0, ap (stage_of c) p.1)
whole_stage t c (kind ∷ kinds) o v xs output (turns, rest, d, u, all, path, inl (decided, none, e)) =
    let P : Bool → Type 0 = λ b. IsPath t kind v turns (answer b u) in
    inr (inl (record {
      turns = turns;
      value = u;
      all = all ∙ append_nil_left rest (turns_on o turns) none;
      path =
          subst P decided path;
      is = ap (stage_of c) e;
    }))
whole_stage t c (kind ∷ kinds) o v xs output (turns, rest, d, u, all, path, inr (undecided, p)) =
    let P : Bool → Type 0 = λ b. IsPath t kind v turns (answer b u) in
    inr (inr (
      u,
      rest,
      record { turns = turns; all = all; path = subst P undecided path },
      whole_stage t c kinds (suc o) u rest output p,
    ))

-- a prefix with a stage other than `Going` is a whole path, whose output gives the stage
pub ended_path :
    (t : QuorumTable) (c : ℕ) (kinds : List Kind) (o v : ℕ) (xs : List ObjectTurn) (s : Stage)
    → IsClaimPrefixFrom t c kinds o v xs s → s ≢ Going
    → (output : Out) × IsClaimPath t kinds o v xs output × (s ≡ stage_of c output)
ended_path t c [] o v xs s p ne = (answer false v, (p.0, refl), p.1)
ended_path t c (kind ∷ kinds) o v xs s (inl x) ne = absurd (ne x.is)
ended_path t c (kind ∷ kinds) o v xs s (inr (inl x)) ne =
    (answer true x.value, (x.turns, [], true, x.value, x.all, x.path, inl (refl, refl, refl)), x.is)
ended_path t c (kind ∷ kinds) o v xs s (inr (inr (u, rest, x, p))) ne =
    let whole = ended_path t c kinds (suc o) u rest s p ne in
    (whole.0, (x.turns, rest, false, u, x.all, x.path, inr (refl, whole.1)), whole.2)
