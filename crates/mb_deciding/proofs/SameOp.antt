-- Two acts of one op that are both true to memory after one history are equal.
use Rattle.std.proofs.Common.{◌≡◌, List, sym, ap, ap₂, ◌∙◌}
use Rattle.mb_deciding.specs.{Act, Load, Store, Exchange, Access, IsSameOp, value_in, ReadsLast}

-- if two acts of one op are both true to memory after one history, they are equal
pub same_act : (a b : Act) (h : List Access) → IsSameOp a b → ReadsLast a h → ReadsLast b h → a ≡ b
same_act (Load reg x) (Load other y) h e f g = ap₂ Load e (f ∙ (ap (λ r. value_in r h) e ∙ sym g))
same_act (Load reg x) (Store other y) h e f g = absurd e
same_act (Store reg x) (Load other y) h e f g = absurd e
same_act (Store reg x) (Store other y) h e f g = ap₂ Store e.0 e.1
same_act (Exchange reg x m) (Exchange other y n) h e f g =
    ap₂ (λ r k. Exchange r k m) e.0 e.1 ∙ ap (λ k. Exchange other y k) (f ∙ (ap (λ r. value_in r h) e.0 ∙ sym g))
same_act (Exchange reg x m) (Load other y) h e f g = absurd e
same_act (Exchange reg x m) (Store other y) h e f g = absurd e
same_act (Load reg x) (Exchange other y n) h e f g = absurd e
same_act (Store reg x) (Exchange other y n) h e f g = absurd e
