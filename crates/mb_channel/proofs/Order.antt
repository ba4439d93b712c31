-- The places of calls, in the one order.
use Rattle.std.proofs.Common.{ℕ, zero, suc, List, [], ap, ⊎_elim, arith, All}
use Rattle.std.proofs.Common.{◌≡◌, ◌<◌, ◌≤◌, ◌+◌, ◌∷◌}
use Rattle.std.proofs.lemmas.List.Elements.{All-append, All-nil, All-cons}
use Rattle.mb_segment.specs.Heard.{Below}
use Rattle.mb_channel.specs.declared.place.Place.{Place}
use Rattle.mb_channel.specs.Types.{Account, Home, Position, Visit}
use Rattle.mb_channel.specs.Deeds.{IsUpTo, after, deed, deeds_at}
use Rattle.mb_channel.specs.Inside.{in_visits}
use Rattle.mb_channel.specs.Lives.{start}
use Rattle.mb_channel.specs.Told.{KeepsOrder}
use Rattle.mb_channel.proofs.Below.{EachVisit, size}

module _ {T : Type 0} where
  steps : (hs : List (Home T)) (k j : ℕ) → k < j → start hs k + size hs k ≤ start hs j
  steps [] k j lt = omega arith
  steps (h ∷ hs) zero zero lt = absurd (omega arith)
  steps (h ∷ hs) zero (suc j) lt = omega arith
  steps (h ∷ hs) (suc k) zero lt = absurd (omega arith)
  steps (h ∷ hs) (suc k) (suc j) lt = let r = steps hs k j (omega arith) in omega arith

  before : (hs : List (Home T)) (k n : ℕ) (q : Place) → n < size hs k
      → IsUpTo (after (record { segment = k; number = n })) q → start hs k + n < start hs q.segment + q.number
  before hs k n q lt up = ⊎_elim
      (λ l. let r = steps hs k q.segment l in omega arith)
      (λ e. let r : start hs k ≡ start hs q.segment = ap (start hs) e.0 in let d = e.1 in omega arith) up

  order_at : (hs : List (Home T)) (k : ℕ) (ss : List (Position T)) → Below (size hs k) ss
      → All (KeepsOrder hs) (deeds_at k ss)
  order_at hs k [] low = All-nil (KeepsOrder hs)
  order_at hs k (s ∷ ss) low = All-cons (KeepsOrder hs) (deed k s) (deeds_at k ss)
      (λ q up. before hs k s.at q low.0 up) (order_at hs k ss low.1)

  pub in_order : (f : Account T → List (Position T)) (hs : List (Home T)) (vs : List (Visit T))
      → EachVisit (λ v. Below (size hs v.segment) (f v.account)) vs → All (KeepsOrder hs) (in_visits f vs)
  in_order f hs [] fit = All-nil (KeepsOrder hs)
  in_order f hs (v ∷ vs) fit = All-append (KeepsOrder hs) (in_visits f vs) (deeds_at v.segment (f v.account))
      (in_order f hs vs fit.1) (order_at hs v.segment (f v.account) fit.0)
