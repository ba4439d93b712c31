-- A consumer that goes on past an object was left undecided by that object.
use Rattle.std.proofs.Common.{◌≡◌, ◌≢◌, ◌<◌, ◌≤◌, ℕ, suc, false, List, [], ◌∷◌, inl, inr, sym, ◌∙◌, ap, subst, arith}
use Rattle.mb_quorum.specs.Vocabulary.{QuorumTable}
use Rattle.mb_deciding.specs.Vocabulary.{answer, IsPath}
use Rattle.mb_claim.specs.{Kind, Ratifier, ObjectTurn, Stage, turns_on, IsClaimPrefixFrom}
use Rattle.mb_claim.proofs.ObjectHistories.{turns_at}
use Rattle.mb_claim.proofs.Lists.{append_nil_right}
use Rattle.mb_claim.proofs.Parts.{passed_turns, turns_at-append, turns_at-turns_on_other}

-- object o left the consumer undecided with `value`, and `later` are its steps on later objects, a prefix from there on
pub record CameUndecided (t : QuorumTable) (c : ℕ) (kind : Kind) (ks : List Kind) (o v : ℕ) (xs : List ObjectTurn)
    (s : Stage)
    : Type 0 where
  pub value : ℕ
  pub later : List ObjectTurn
  pub path : IsPath t kind v (turns_at o xs) (answer false value)
  pub prefix : IsClaimPrefixFrom t c ks (suc o) value later s
  pub ahead : (n : ℕ) → o < n → turns_at n xs ≡ turns_at n later

-- a consumer whose part has a turn on a later object was left undecided by object o
pub came_undecided :
    (t : QuorumTable) (c : ℕ) (kind : Kind) (ks : List Kind) (o v n : ℕ) (xs : List ObjectTurn) (s : Stage) → o < n
    → IsClaimPrefixFrom t c (kind ∷ ks) o v xs s → turns_at n xs ≢ [] → CameUndecided t c kind ks o v xs s
came_undecided t c kind ks o v n xs s below (inl x) some =
    absurd (some (ap (turns_at n) x.all ∙ turns_at-turns_on_other o n x.turns (λ e. omega (arith, e, below))))
came_undecided t c kind ks o v n xs s below (inr (inl x)) some =
    absurd (some (ap (turns_at n) x.all ∙ turns_at-turns_on_other o n x.turns (λ e. omega (arith, e, below))))
came_undecided t c kind ks o v n xs s below (inr (inr (u, later, x, p))) some =
    record {
      value = u;
      later = later;
      path = subst (λ ts. IsPath t kind v ts (answer false u)) (passed_turns t c kind ks o v xs s u later x p) x.path;
      prefix = p;
      ahead = λ m l. ap (turns_at m) x.all ∙ turns_at-append m later (turns_on o x.turns)
          ∙ append_nil_right (turns_at m later) (turns_at m (turns_on o x.turns))
          (turns_at-turns_on_other o m x.turns (λ e. omega (arith, e, l)));
    }

-- a consumer with a turn after two ratifiers was left undecided by both ratifiers
pub both_came_undecided :
    (t : QuorumTable) (c : ℕ) (ks : List Kind) (v n : ℕ) (xs : List ObjectTurn) (s : Stage) → 2 ≤ n
    → IsClaimPrefixFrom t c (Ratifier ∷ Ratifier ∷ ks) 0 v xs s → turns_at n xs ≢ []
    → (u w : ℕ) × IsPath t Ratifier v (turns_at 0 xs) (answer false u)
    × IsPath t Ratifier u (turns_at 1 xs) (answer false w)
both_came_undecided t c ks v n xs s below p some =
    let first = came_undecided t c Ratifier (Ratifier ∷ ks) 0 v n xs s (omega (arith, below)) p some in
    let second =
    came_undecided t c Ratifier ks 1 first.value n first.later s (omega (arith, below)) first.prefix
    (λ none. some (first.ahead n (omega (arith, below)) ∙ none)) in (
      first.value,
      second.value,
      first.path,
      subst (λ ts. IsPath t Ratifier first.value ts (answer false second.value))
          (sym (first.ahead 1 (omega arith))) second.path,
    )
