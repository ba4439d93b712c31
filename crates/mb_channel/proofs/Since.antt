-- An end that has gone on, and what it found since.
use Rattle.std.proofs.Common.{Bool, List, ap, false, inl, inr, subst, sym, true, ⊎_elim, arith, [], ◌≡◌, ◌∷◌, ◌++◌, ◌∙◌}
use Rattle.mb_channel.specs.declared.polls.Asleep.{Asleep}
use Rattle.mb_channel.specs.declared.polls.Polled.{Polled}
use Rattle.mb_channel.specs.declared.polls.Polled.TheVariants as polled
use Rattle.mb_channel.specs.declared.channel.Refused.{Refused}
use Rattle.mb_channel.specs.declared.end.Receiver.{Receiver}
use Rattle.mb_channel.specs.declared.place.Place.{Place}
use Rattle.mb_channel.specs.Deeds.{Deed, IsUpTo, OneMore}
use Rattle.mb_channel.specs.Ends.{IsLater, IsOne, Standing, knows}
use Rattle.mb_channel.specs.declared.debtor.Debtor.{Debtor}
use Rattle.mb_channel.specs.declared.heard.Heard.{Heard}
use Rattle.mb_channel.specs.declared.heard.Heard.TheVariants as heard
use Rattle.mb_channel.specs.Polls.{OfLook, OfPolled}
use Rattle.mb_channel.specs.Receives.{SawEmpty}
use Rattle.mb_channel.specs.Standing.{NoMore, OneGot, OneSent, stand_with}
use Rattle.mb_channel.specs.Work.{IfAsleep}

-- places in turn
pub up_then : (p q r : Place) → IsUpTo p q → IsUpTo q r → IsUpTo p r
up_then p q r a b = ⊎_elim
    (λ l. ⊎_elim (λ m. inl (omega arith)) (λ m. let e = m.0 in inl (omega arith)) b)
    (λ l. let e = l.0 in let f = l.1 in
    ⊎_elim (λ m. inl (omega arith)) (λ m. let g = m.0 in let h = m.1 in inr (omega arith, omega arith)) b) a

module _ {T : Type 0} where
  pub later_then : (a b c : Standing T) → IsLater a b → IsLater b c → IsLater a c
  later_then a b c p q = let x = p.0 in let y = q.0 in (
    omega arith,
    ⊎_elim
        (λ l. ⊎_elim (λ m. inl (omega arith)) (λ m. let e = m.0 in inl (omega arith)) q.1)
        (λ l. let e = l.0 in let f = l.1 in let i = l.2 in let j = l.3 in
        ⊎_elim (λ m. inl (omega arith)) (λ m. let g = m.0 in let h = m.1 in let o = m.2 in let u = m.3 in
        inr (omega arith, omega arith, omega arith, omega arith)) q.1) p.1,
  )

  pub one_then : (a b c : Standing T) → IsOne a b → IsOne b c → IsOne a c
  one_then a b c p q = record {
    list = q.list ∙ p.list;
    number = q.number ∙ p.number;
    name = q.name ∙ p.name;
    ended = q.ended ∙ p.ended;
    sends = q.sends ∙ p.sends;
    receives = q.receives ∙ p.receives;
    told = ((λ z. q.told.0 (p.told.0 z)), (λ z. q.told.1 (p.told.1 z)), λ z. q.told.2 (p.told.2 z));
    later = later_then a b c p.later q.later;
  }

  pub more_then : (a b c : Standing T) → NoMore a b → NoMore b c → NoMore a c
  more_then a b c p q =
      record { one = one_then a b c p.one q.one; sent = q.sent ∙ p.sent; got = q.got ∙ p.got }

  -- an end never forgets what it knows
  pub knows_later : (b : Bool) (v w : Standing T) → IsLater v w → IsUpTo (knows b v) (knows b w)
  knows_later false v w l = ⊎_elim (λ m. inl m) (λ m. inr (m.0, m.2)) l.1
  knows_later true v w l = ⊎_elim (λ m. inl m) (λ m. inr (m.0, m.3)) l.1

  more_since : (x : T) (k l m : Place) (cs ds es : List (Deed T)) → IsUpTo k l → ds ≡ cs → OneMore x l m ds es
      → OneMore x k m cs es
  more_since x k l m cs ds es up same o = record {
    place = o.place;
    more = o.more ∙ ap (λ c. c ++ record { place = o.place; value = x } ∷ []) same;
    behind = up_then k l o.place up o.behind;
    known = o.known;
  }

  more_before : (x : T) (k l m : Place) (cs ds es : List (Deed T)) → OneMore x k l cs ds → IsUpTo l m → es ≡ ds
      → OneMore x k m cs es
  more_before x k l m cs ds es o up same = record {
    place = o.place;
    more = same ∙ o.more;
    behind = o.behind;
    known = up_then _ l m o.known up;
  }

  pub sent_since : (x : T) (a b c : Standing T) → NoMore a b → OneSent x b c → OneSent x a c
  sent_since x a b c p o = record {
    one = one_then a b c p.one o.one;
    sent = more_since x _ _ _ _ _ _ (knows_later false a b p.one.later) p.sent o.sent;
    got = o.got ∙ p.got;
  }

  pub sent_before : (x : T) (a b c : Standing T) → OneSent x a b → NoMore b c → OneSent x a c
  sent_before x a b c o p = record {
    one = one_then a b c o.one p.one;
    sent = more_before x _ _ _ _ _ _ o.sent (knows_later false b c p.one.later) p.sent;
    got = p.got ∙ o.got;
  }

  pub got_since : (x : T) (a b c : Standing T) → NoMore a b → OneGot x b c → OneGot x a c
  got_since x a b c p o = record {
    one = one_then a b c p.one o.one;
    sent = o.sent ∙ p.sent;
    got = more_since x _ _ _ _ _ _ (knows_later true a b p.one.later) p.got o.got;
  }

  pub got_before : (x : T) (a b c : Standing T) → OneGot x a b → NoMore b c → OneGot x a c
  got_before x a b c o p = record {
    one = one_then a b c o.one p.one;
    sent = p.sent ∙ o.sent;
    got = more_before x _ _ _ _ _ _ o.got (knows_later true b c p.one.later) p.got;
  }

  pub saw_since : (a b c : Standing T) → IsLater a b → SawEmpty b c → SawEmpty a c
  saw_since a b c p s = (
    s.0,
    s.1,
    s.2,
    ⊎_elim
        (λ l. ⊎_elim (λ m. let e = m.0 in inl (omega arith, m.1))
        (λ m. let e = m.0 in let f = m.1 in inl (omega arith, omega arith)) s.3)
        (λ l. let d = l.0 in let g = l.1 in ⊎_elim (λ m. let e = m.0 in inl (omega arith, m.1))
        (λ m. let e = m.0 in let f = m.1 in inr (omega arith, omega arith)) s.3) p.1,
  )

  pub look_since : (h : Heard T) (a b : Standing T) (d : Debtor T) → NoMore a b → OfLook h b d → OfLook h a d
  look_since (heard.Value x) a b d p l = (got_since x a b (stand_with d) p l.0, l.1)
  look_since heard.Asleep a b d p l = (more_then a b (stand_with d) p l.0, l.1)
  look_since heard.Again a b d p l = (more_then a b (stand_with d) p l.0, l.1)
  look_since heard.Over a b d p l = (more_then a b (stand_with d) p l.0, l.1, l.2)

  -- what is said of an answer, said of less
  pub polled_then : (r : Polled T) (v : Standing T) (s t : Asleep T → Type 0) (c d : Receiver T → Refused → Type 0)
      → ((a : Asleep T) → s a → t a) → ((e : Receiver T) (why : Refused) → c e why → d e why) → OfPolled r v s c
      → OfPolled r v t d
  polled_then (polled.Took e x) v s t c d f h p = p
  polled_then (polled.TookOwing l x) v s t c d f h p = p
  polled_then (polled.Sleeps a) v s t c d f h p = (p.0, p.1, f a p.2)
  polled_then (polled.Again e) v s t c d f h p = p
  polled_then (polled.Owes l) v s t c d f h p = p
  polled_then (polled.Refused e why) v s t c d f h p = (p.0, h e why p.1)

  -- one that sleeps looked since, and its answer is no other
  pub polled_since : (r : Polled T) (h : Heard T) (a b : Standing T) (d : Debtor T)
      (c : Receiver T → Refused → Type 0) → NoMore a b → IfAsleep h (SawEmpty b (stand_with d))
      → OfPolled r a (λ s. (s.debtor ≡ d) × (h ≡ heard.Asleep)) (λ _ _. ⊥)
      → OfPolled r a (λ s. SawEmpty a (stand_with s.debtor)) c
  polled_since r h a b d c p saw o = polled_then r a (λ s. (s.debtor ≡ d) × (h ≡ heard.Asleep))
      (λ s. SawEmpty a (stand_with s.debtor)) (λ _ _. ⊥) c
      (λ s x. subst (λ e. SawEmpty a (stand_with e)) (sym x.0) (saw_since a b (stand_with d) p.one.later
      (subst (λ k. IfAsleep k (SawEmpty b (stand_with d))) x.1 saw)))
      (λ e why z. absurd z) o
