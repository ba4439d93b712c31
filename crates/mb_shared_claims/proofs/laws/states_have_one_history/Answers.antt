-- Proof of `laws::states_have_one_history`: the words and parts of each state of the claims are of one lawful history.
use Rattle.std.proofs.Common.{◌≢◌, ◌≤◌, ℕ, List, [], sym, ◌∙◌, arith}
use native.Mathlib.Decide.{dec_le}
use Rattle.mb_claim.specs.Vocabulary.{part}
use Rattle.mb_shared_claims.specs.Types.{TableSize, View}
use Rattle.mb_shared_claims.specs.Views.{HasPartAt}
use Rattle.mb_shared_claims.specs.Rule.{Plan, IsStateOf}
use Rattle.mb_shared_claims.proofs.laws.states_have_one_history.Goals as goal

-- if a consumer has done something, its part is at a seat: its number was issued, or else it has done nothing
standing :
    (k : TableSize) (words : List ℕ) (views : List View) (plan : Plan) → IsStateOf k words views plan → (c : ℕ)
    → part c plan.history ≢ [] → Dec (plan.given ≤ c) → (seat : ℕ) × HasPartAt views seat c (part c plan.history)
standing k words views plan s c some (yes past) = absurd (some (s.others c past))
standing k words views plan s c some (no below) = (plan.place c, s.stands c (omega arith))

-- the history that explains the words is that of the plan
pub returns-clause-history : goal.returns-clause-history
returns-clause-history g k words views held =
    let plan = held.0 in
    let s = held.1 in (
      plan.history,
      s.memory,
      λ seat c xs has. (s.parts seat c xs has).2,
      λ c some. standing k words views plan s c some (dec_le plan.given c),
    )

pub returns-clause-once : goal.returns-clause-once
returns-clause-once g k words views i j c xs ys held one other =
    let p = held.1.parts i c xs one in
    let q = held.1.parts j c ys other in
    (sym p.1 ∙ q.1, p.2 ∙ sym q.2)

pub returns-clause-roster : goal.returns-clause-roster
returns-clause-roster g k words views held = held.1.few

pub returns-clause-numbers : goal.returns-clause-numbers
returns-clause-numbers g k words views i c xs held has =
    let below = (held.1.parts i c xs has).0 in
    let drawn = held.1.drawn in omega arith
