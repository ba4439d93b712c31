-- After the same steps a claim has one next op. Also, a claim was going before its last step.
use Rattle.std.proofs.Common.{◌≡◌, ◌⊎◌, append_assoc, ℕ, suc, false, true, List, [], ◌∷◌, ◌++◌, refl, sym, ◌∙◌, ap}
use Rattle.std.proofs.Common.{subst, subst₂, inl, inr, arith}
use Rattle.std.proofs.lemmas.List.{append_cancel_right}
use Rattle.mb_quorum.specs.Vocabulary.{QuorumTable}
use Rattle.mb_deciding.specs.Vocabulary.{IsSameOp, answer, IsPath, IsPrefix}
use Rattle.mb_claim.specs.{Kind, Out, Turn, ObjectTurn, Stage, Going, turns_on, IsClaimPrefixFrom}
use Rattle.mb_claim.proofs.KindLaws.{AreDeciding, OneOp}
use Rattle.mb_claim.proofs.Lists.{append_nil_rest, heads, tails}
use Rattle.mb_claim.proofs.ObjectHistories.{turns_at}
use Rattle.mb_claim.proofs.Parts.{nothing_before, open_part, turns_at-append, turns_at-turns_on}
use Rattle.mb_claim.proofs.Unique.{same_out, used_once}

-- the last step x and the steps xs before it are all on object o, and their turns are a prefix of a path there
record IsHere (t : QuorumTable) (kind : Kind) (o v : ℕ) (x : ObjectTurn) (xs : List ObjectTurn) : Type 0 where
  pub turn : Turn
  pub turns : List Turn
  pub is : x ≡ record { object = o; turn = turn }
  pub all : xs ≡ turns_on o turns
  pub prefix : IsPrefix t kind v (turn ∷ turns)

-- the last step x is on an object after object o, and the steps xs before it begin with a whole undecided path on o
record IsBehind
    (t : QuorumTable) (c : ℕ) (kind : Kind) (kinds : List Kind) (o v : ℕ) (x : ObjectTurn) (xs : List ObjectTurn)
    (s : Stage) : Type 0 where
  pub turns : List Turn
  pub later : List ObjectTurn
  pub value : ℕ
  pub all : xs ≡ later ++ turns_on o turns
  pub path : IsPath t kind v turns (answer false value)
  pub rest : IsClaimPrefixFrom t c kinds (suc o) value (x ∷ later) s

-- if all steps are turns on object o, so are the last step and the steps before it
here :
    (t : QuorumTable) (kind : Kind) (o v : ℕ) (x : ObjectTurn) (xs : List ObjectTurn) (turns : List Turn)
    → x ∷ xs ≡ turns_on o turns → IsPrefix t kind v turns → IsHere t kind o v x xs
here t kind o v x xs [] e p = absurd (cc)
here t kind o v x xs (b ∷ turns) e p =
    record {
      turn = b;
      turns = turns;
      is = heads x (record { object = o; turn = b }) xs (turns_on o turns) e;
      all = tails x (record { object = o; turn = b }) xs (turns_on o turns) e;
      prefix = p;
    }

-- the last step of a prefix is on object o or on a later one
where_is :
    (t : QuorumTable) (c : ℕ) (kind : Kind) (kinds : List Kind) (o v : ℕ) (x : ObjectTurn) (xs : List ObjectTurn)
    (s : Stage)
    → IsClaimPrefixFrom t c (kind ∷ kinds) o v (x ∷ xs) s → IsHere t kind o v x xs ⊎ IsBehind t c kind kinds o v x xs s
where_is t c kind kinds o v x xs s (inl g) = inl (here t kind o v x xs g.turns g.all
    (open_part t kind v g.turns g.going))
where_is t c kind kinds o v x xs s (inr (inl d)) =
    inl (here t kind o v x xs d.turns d.all ([], answer true d.value, d.path))
where_is t c kind kinds o v x xs s (inr (inr (u, [], y, p))) =
    inl (here t kind o v x xs y.turns y.all ([], answer false u, y.path))
where_is t c kind kinds o v x xs s (inr (inr (u, z ∷ later, y, p))) =
    inr
    (record {
      turns = y.turns;
      later = later;
      value = u;
      all = tails x z xs (later ++ turns_on o y.turns) y.all;
      path = y.path;
      rest = subst (λ b. IsClaimPrefixFrom t c kinds (suc o) u (b ∷ later) s)
          (sym (heads x z xs (later ++ turns_on o y.turns) y.all)) p;
    })

-- if the last step is on an object after object o, the turns on o are exactly the whole path there
behind_turns :
    (t : QuorumTable) (c : ℕ) (kind : Kind) (kinds : List Kind) (o v : ℕ) (x : ObjectTurn) (xs : List ObjectTurn)
    (s : Stage)
    (y : IsBehind t c kind kinds o v x xs s) → turns_at o xs ≡ y.turns
behind_turns t c kind kinds o v x xs s y =
    let none : turns_at o (x ∷ []) ++ turns_at o y.later ≡ [] =
    sym (turns_at-append o (x ∷ []) y.later)
    ∙ nothing_before t c kinds (suc o) y.value o (x ∷ y.later) s (omega arith) y.rest in
    let later : turns_at o y.later ≡ [] = append_nil_rest (turns_at o (x ∷ [])) (turns_at o y.later) none in
    ap (turns_at o) y.all
    ∙ (turns_at-append o y.later (turns_on o y.turns)
    ∙ (ap (λ zs. zs ++ turns_at o (turns_on o y.turns)) later ∙ turns_at-turns_on o y.turns))

-- it cannot be that after the same steps one next step is on object o, and another is on an object after it
no_more :
    (t : QuorumTable) (law : AreDeciding t) (c : ℕ) (kind : Kind) (kinds : List Kind) (o v : ℕ) (x y : ObjectTurn)
    (xs : List ObjectTurn) (s : Stage) → IsHere t kind o v x xs → IsBehind t c kind kinds o v y xs s → ⊥
no_more t law c kind kinds o v x y xs s h b =
    let same : h.turns ≡ b.turns =
    sym (turns_at-turns_on o h.turns) ∙ (ap (turns_at o) (sym h.all) ∙ behind_turns t c kind kinds o v y xs s b) in
    let used =
    used_once t kind (law kind) v (h.turn ∷ []) b.turns (h.turn ∷ h.turns) (answer false b.value) b.path
    (ap (λ zs. h.turn ∷ zs) same) (inr h.prefix) in
    cc

-- after the same steps two next steps are on the same object, and their acts are of one op
pub one_next :
    (t : QuorumTable) → AreDeciding t → OneOp t
    → (c : ℕ) (kinds : List Kind) (o v : ℕ) (x y : ObjectTurn) (xs : List ObjectTurn) (s r : Stage)
    → IsClaimPrefixFrom t c kinds o v (x ∷ xs) s → IsClaimPrefixFrom t c kinds o v (y ∷ xs) r
    → (x.object ≡ y.object) × IsSameOp x.turn.act y.turn.act
one_next t law one c [] o v x y xs s r p q = absurd (let e = p.0 in cc)
one_next t law one c (kind ∷ kinds) o v x y xs s r p q =
    by (where_is t c kind kinds o v x xs s p) (where_is t c kind kinds o v y xs r q)
    (λ u l g h. one_next t law one c kinds (suc o) u x y l s r g h)
  where
    -- the next steps x and y are on one object, by one op. Cases: whether each is on object o or on one after it
    by :
        IsHere t kind o v x xs ⊎ IsBehind t c kind kinds o v x xs s
        → IsHere t kind o v y xs ⊎ IsBehind t c kind kinds o v y xs r
        → ((u : ℕ) (l : List ObjectTurn) → IsClaimPrefixFrom t c kinds (suc o) u (x ∷ l) s
        → IsClaimPrefixFrom t c kinds (suc o) u (y ∷ l) r → (x.object ≡ y.object) × IsSameOp x.turn.act y.turn.act)
        → (x.object ≡ y.object) × IsSameOp x.turn.act y.turn.act
    by (inl h) (inl g) further =
        let same : h.turns ≡ g.turns =
        sym (turns_at-turns_on o h.turns) ∙ (ap (turns_at o) (sym h.all ∙ g.all) ∙ turns_at-turns_on o g.turns) in
        let op : IsSameOp h.turn.act g.turn.act =
        one kind v g.turns h.turn g.turn (subst (λ zs. IsPrefix t kind v (h.turn ∷ zs)) same h.prefix) g.prefix in (
          ap (λ (z : ObjectTurn). z.object) h.is ∙ sym (ap (λ (z : ObjectTurn). z.object) g.is),
          subst₂ (λ a b. IsSameOp a b) (sym (ap (λ (z : ObjectTurn). z.turn.act) h.is))
              (sym (ap (λ (z : ObjectTurn). z.turn.act) g.is)) op,
        )
    by (inl h) (inr b) further = absurd (no_more t law c kind kinds o v x y xs r h b)
    by (inr b) (inl h) further = absurd (no_more t law c kind kinds o v y x xs s h b)
    by (inr b) (inr d) further =
        let same : b.turns ≡ d.turns =
        sym (behind_turns t c kind kinds o v x xs s b) ∙ behind_turns t c kind kinds o v y xs r d in
        let values : b.value ≡ d.value =
        ap (λ (a : Out). a.value)
        (same_out t kind (law kind) v b.turns d.turns (answer false b.value)
        (answer false d.value) same b.path d.path) in
        let laters : b.later ≡ d.later =
        append_cancel_right b.later d.later (turns_on o d.turns)
        (ap (λ ts. b.later ++ turns_on o ts) (sym same) ∙ (sym b.all ∙ d.all)) in
        further d.value d.later
        (subst₂ (λ n zs. IsClaimPrefixFrom t c kinds (suc o) n (x ∷ zs) s) values laters b.rest) d.rest

-- a claim with one step more was going before that step
pub older_goes :
    (t : QuorumTable) (c : ℕ) (kinds : List Kind) (o v : ℕ) (x : ObjectTurn) (xs : List ObjectTurn) (s : Stage)
    → IsClaimPrefixFrom t c kinds o v (x ∷ xs) s → IsClaimPrefixFrom t c kinds o v xs Going
older_goes t c [] o v x xs s p = absurd (let e = p.0 in cc)
older_goes t c (kind ∷ kinds) o v x xs s p =
    by (where_is t c kind kinds o v x xs s p) (λ u l q. older_goes t c kinds (suc o) u x l s q)
  where
    -- without its last step the claim is going. Cases: whether that step is on object o or on an object after it
    by :
        IsHere t kind o v x xs ⊎ IsBehind t c kind kinds o v x xs s
        → ((u : ℕ) (l : List ObjectTurn) → IsClaimPrefixFrom t c kinds (suc o) u (x ∷ l) s
        → IsClaimPrefixFrom t c kinds (suc o) u l Going) → IsClaimPrefixFrom t c (kind ∷ kinds) o v xs Going
    by (inl h) further =
        inl
        (record {
          turns = h.turns;
          all = h.all;
          going = (
            h.prefix.0 ++ h.turn ∷ [],
            (λ e. let f = append_nil_rest h.prefix.0 (h.turn ∷ []) e in cc),
            (
              h.prefix.1,
              subst (λ zs. IsPath t kind v zs h.prefix.1) (sym (append_assoc h.prefix.0
                  (h.turn ∷ []) h.turns)) h.prefix.2,
            ),
          );
          is = refl;
        })
    by (inr b) further =
        inr (inr (
          b.value,
          b.later,
          record { turns = b.turns; all = b.all; path = b.path },
          further b.value b.later b.rest,
        ))
