-- What a send does to an end's account.
use Rattle.std.proofs.Common.{ℕ, ap, ◌≡◌}
use Rattle.mb_ring.specs.Vocabulary.{blinded, calm, sent_at}
use Rattle.mb_bounded.specs.Types.{View}
use Rattle.mb_bounded.specs.Ends.{NoMore, OneSent}

module _ {T : Type 0} where
  pub one_sent : (p : ℕ) (x : T) (v w : View T) → blinded w ≡ sent_at p x (calm v) → OneSent x v w
  one_sent p x v w e = (p, ap (λ (u : View T). u.account) e)

  pub no_more : (v w : View T) → blinded w ≡ calm v → NoMore v w
  no_more v w e = ap (λ (u : View T). u.account) e
