-- What an end lists of its calls, after one more or none.
use Rattle.std.proofs.Common.{ℕ, List, [], sym, ap, append_assoc, arith}
use Rattle.std.proofs.Common.{◌≡◌, ◌∷◌, ◌++◌, ◌∙◌}
use Rattle.std.proofs.lemmas.List.{map-append}
use Rattle.std.specs.Prelude.{Option, Some}
use Rattle.mb_segment.specs.Vocabulary.{spot}
use Rattle.mb_channel.specs.Types.{Account, Knows, Position, View}
use Rattle.mb_channel.specs.Deeds.{deed, deeds_at}
use Rattle.mb_channel.specs.Inside.{in_visits, log_in}
use Rattle.mb_channel.specs.Work.{HasSent, IsStill, Work}

module _ {T : Type 0} where
  pub log_more : (f : Account T → List (Position T)) (k : Knows T) (o : Option (View T)) (u w : View T) (n : ℕ) (x : T)
      → o ≡ Some u → f w.account ≡ f u.account ++ spot n x ∷ []
      → log_in f k (Some w) ≡ log_in f k o ++ deed k.at (spot n x) ∷ []
  log_more f k o u w n x is more = let vs = in_visits f k.visits in
      ap (λ l. vs ++ deeds_at k.at l) more
      ∙ ap (λ l. vs ++ l) (map-append (deed k.at) (f u.account) (spot n x ∷ []))
      ∙ sym (append_assoc vs (deeds_at k.at (f u.account)) (deed k.at (spot n x) ∷ []))
      ∙ ap (λ p. log_in f k p ++ deed k.at (spot n x) ∷ []) (sym is)

  pub log_same : (f : Account T → List (Position T)) (k : Knows T) (o : Option (View T)) (u w : View T)
      → o ≡ Some u → f w.account ≡ f u.account → log_in f k (Some w) ≡ log_in f k o
  log_same f k o u w is same = ap (λ l. in_visits f k.visits ++ deeds_at k.at l) same ∙ ap (log_in f k) (sym is)

  -- what was sent stays so
  pub sent_still : (x : T) (u v w : Work T) → HasSent x u v → IsStill v w → HasSent x u w
  sent_still x u v w s k =
      let a = s.there in let b = a.1 in let c = a.2 in let d = a.3 in
      let e = k.there in let f = e.1 in let g = e.2 in let h = e.3 in let n = s.known in record {
        there = (e.0 ∙ a.0, omega arith, omega arith, omega arith, e.4 ∙ a.4);
        number = s.number;
        sent = ap (λ (y : Account T). y.sent) k.account ∙ s.sent;
        behind = s.behind;
        known = omega arith;
        got = ap (λ (y : Account T). y.got) k.account ∙ s.got;
        told = k.told ∙ s.told;
      }
