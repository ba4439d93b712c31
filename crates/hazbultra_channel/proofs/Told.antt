-- An end that was told how many values wait, or nothing.
use Rattle.std.proofs.Common.{ap, subst, sym, true, ◌≡◌, ◌<◌, ◌∙◌}
use denote.Struct.Props.{props}
use Rattle.std.specs.Prelude.{IfNone, IfSome, None, Option, Some, ℕ}
use Rattle.mb_channel.specs.declared.end.End.{End}
use Rattle.mb_channel.specs.declared.end.Receiver.{Receiver}
use Rattle.mb_channel.specs.declared.held.Held.TheVariants as held
use Rattle.mb_channel.specs.declared.kept.KeptSender.{KeptSender}
use Rattle.mb_channel.specs.Ends.{end_told}
use Rattle.mb_channel.specs.Kept.{kept_told}
use Rattle.hazbultra_channel.specs.Ends.{ToldLength}

module _ {T : Type 0} where
  pub sender_told : (told : Option ℕ) (k l : KeptSender T) → l ≡ kept_told told k
      → IfSome told (λ n. ToldLength n (held.OfSender k) (held.OfSender l))
  sender_told (Some n) k l is = is
  sender_told None k l is = tt

  pub sender_same : (told : Option ℕ) (k l : KeptSender T) → l ≡ kept_told told k
      → IfNone told (held.OfSender l ≡ held.OfSender k)
  sender_same (Some n) k l is = tt
  sender_same None k l is = ap (λ x. held.OfSender x) is

  pub receiver_told : (told : Option ℕ) (r q : Receiver T) → q.end ≡ end_told told r.end
      → IfSome told (λ n. ToldLength n (held.OfReceiver r) (held.OfReceiver q))
  receiver_told (Some n) r q is = is
  receiver_told None r q is = tt

  -- what else a receiver has is said of its end, and has one proof
  same_receiver : (r q : Receiver T) → q.end ≡ r.end → q ≡ r
  same_receiver r q is = subst P (sym is) there q.takes q.sends q.receives
    where
      P : End T → Type 0
      P e = (t : e.chair.me.0.takes ≡ true) (s : e.chair.me.0.sends ≡ 0) (v : 0 < e.chair.me.0.receives)
          → record { end = e; takes = t; sends = s; receives = v } ≡ r

      there : P r.end
      there t s v =
          let one : IsProp (r.end.chair.me.0.takes ≡ true) = hlevel props in
          let two : IsProp (r.end.chair.me.0.sends ≡ 0) = hlevel props in
          let three : IsProp (0 < r.end.chair.me.0.receives) = hlevel props in
          ap (λ x. record { end = r.end; takes = x; sends = s; receives = v }) (one t r.takes)
          ∙ (ap (λ x. record { end = r.end; takes = r.takes; sends = x; receives = v }) (two s r.sends)
          ∙ ap (λ x. record { end = r.end; takes = r.takes; sends = r.sends; receives = x }) (three v r.receives))

  pub receiver_same : (told : Option ℕ) (r q : Receiver T) → q.end ≡ end_told told r.end
      → IfNone told (held.OfReceiver q ≡ held.OfReceiver r)
  receiver_same (Some n) r q is = tt
  receiver_same None r q is = ap (λ x. held.OfReceiver x) (same_receiver r q is)
