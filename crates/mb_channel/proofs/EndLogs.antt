-- What a step in its segment does to an end.
use Rattle.std.proofs.Common.{sym, refl, ap, subst, arith, inr, true, false}
use Rattle.std.proofs.Common.{◌≡◌, ◌<◌, ◌≤◌}
use Rattle.std.specs.Prelude.{Err, IfNone, IfSome, None, Ok, OnOk, Option, Result, Some}
use Rattle.atomic_table.specs.declared.shared.Seat.{Seat}
use Rattle.mb_segment.specs.declared.waiting.Received.{Received}
use Rattle.mb_segment.specs.declared.waiting.Received.TheVariants as received
use Rattle.mb_segment.specs.Vocabulary.{OfReceived, found_empty}
use Rattle.mb_channel.specs.Types.{Account, Homes, Knows, View}
use Rattle.mb_channel.specs.declared.debtor.Debtor.{Debtor}
use Rattle.mb_channel.specs.declared.heard.Heard.{Heard}
use Rattle.mb_channel.specs.declared.heard.Heard.TheVariants as heard
use Rattle.mb_channel.specs.declared.tried.Tried.{Tried}
use Rattle.mb_channel.specs.declared.tried.Tried.TheVariants as tried
use Rattle.mb_channel.specs.Ends.{IsOne, Standing}
use Rattle.mb_channel.specs.Inside.{SawNothing, found_there, known_there}
use Rattle.mb_channel.specs.Polls.{OfLook}
use Rattle.mb_channel.specs.Receives.{OfTried, SawEmpty}
use Rattle.mb_channel.specs.Standing.{NoMore, OneGot, OneSent}
use Rattle.mb_channel.specs.Work.{HasGot, HasSent, IsStill, IsThere, IsTold, OfHeard, Work, work_of}
use Rattle.mb_channel.proofs.Deeds.{log_more, log_same}

module _ {T : Type 0} where
  -- an end with this chair
  abbrev stand : Seat (Homes T) (Knows T) → Option (View T) → Standing T
  stand c o = record { chair = c; pass = o }

  abbrev stands : Seat (Homes T) (Knows T) → Work T → Standing T
  stands c w = record { chair = c; pass = Some w.pass }

  one : (c : Seat (Homes T) (Knows T)) (o : Option (View T)) (u w : Work T) → o ≡ Some u.pass
      → IsThere u w → IsOne (stand c o) (stands c w)
  one c o u w is here = record {
    list = refl;
    number = refl;
    name = refl;
    ended = refl;
    sends = refl;
    receives = refl;
    told = ((λ q. q), (λ q. q), λ q. q);
    later = (
      omega arith,
      inr (
        refl,
        subst (λ m. m ≤ found_empty w.pass) (sym (ap found_there is)) here.1,
        subst (λ m. m ≤ w.pass.known.drawn) (sym (ap (known_there false) is)) here.2,
        subst (λ m. m ≤ w.pass.known.taken) (sym (ap (known_there true) is)) here.3,
      ),
    );
  }

  pub one_sent : (c : Seat (Homes T) (Knows T)) (o : Option (View T)) (u w : Work T) (x : T) → o ≡ Some u.pass
      → HasSent x u w → OneSent x (stand c o) (stands c w)
  one_sent c o u w x is has = let n = has.number in record {
    one = one c o u w is has.there;
    sent = record {
      place = record { segment = c.me.0.at; number = n };
      more = log_more (λ a. a.sent) c.me.0 o u.pass w.pass n x is has.sent;
      behind = inr (refl, subst (λ m. m ≤ n) (sym (ap (known_there false) is)) has.behind);
      known = inr (refl, has.known);
    };
    got = log_same (λ a. a.got) c.me.0 o u.pass w.pass is has.got;
  }

  pub one_got : (c : Seat (Homes T) (Knows T)) (o : Option (View T)) (u w : Work T) (x : T) → o ≡ Some u.pass
      → HasGot x u w → OneGot x (stand c o) (stands c w)
  one_got c o u w x is has = let n = has.number in record {
    one = one c o u w is has.there;
    sent = log_same (λ a. a.sent) c.me.0 o u.pass w.pass is has.sent;
    got = record {
      place = record { segment = c.me.0.at; number = n };
      more = log_more (λ a. a.got) c.me.0 o u.pass w.pass n x is has.got;
      behind = inr (refl, subst (λ m. m ≤ n) (sym (ap (known_there true) is)) has.behind);
      known = inr (refl, has.known);
    };
  }

  same : (c : Seat (Homes T) (Knows T)) (o : Option (View T)) (u w : Work T) → o ≡ Some u.pass
      → IsThere u w → w.pass.account ≡ u.pass.account → NoMore (stand c o) (stands c w)
  same c o u w is here account = record {
    one = one c o u w is here;
    sent = log_same (λ a. a.sent) c.me.0 o u.pass w.pass is (ap (λ (a : Account T). a.sent) account);
    got = log_same (λ a. a.got) c.me.0 o u.pass w.pass is (ap (λ (a : Account T). a.got) account);
  }

  pub still : (c : Seat (Homes T) (Knows T)) (o : Option (View T)) (u w : Work T) → o ≡ Some u.pass
      → IsStill u w → NoMore (stand c o) (stands c w)
  still c o u w is s = same c o u w is s.there s.account

  pub told : (c : Seat (Homes T) (Knows T)) (o : Option (View T)) (u w : Work T) → o ≡ Some u.pass
      → IsTold u w → (w.pass.over ≡ true) × NoMore (stand c o) (stands c w)
  told c o u w is t = (t.told, same c o u w is t.there t.account)

  pub saw : (c : Seat (Homes T) (Knows T)) (o : Option (View T)) (u w : Work T) → o ≡ Some u.pass
      → IsStill u w × SawNothing (found_empty u.pass) w.pass
      → SawEmpty (stand c o) (stands c w) × NoMore (stand c o) (stands c w)
  saw c o u w is s = (
    (
      w.pass,
      refl,
      s.1.0,
      inr (refl, subst (λ m. m < found_empty w.pass) (sym (ap found_there is)) s.1.1),
    ),
    still c o u w is s.0,
  )

  -- ---- of an answer
  pub looked : (h : Heard T) (o : Option (View T)) (u : Work T) (d : Debtor T) → o ≡ Some u.pass
      → OfHeard h u d.busy → OfLook h (stand d.chair o) d
  looked (heard.Value x) o u d is l = (one_got d.chair o u (work_of d.busy) x is l.0, l.1)
  looked heard.Asleep o u d is l = (still d.chair o u (work_of d.busy) is l.0, l.1)
  looked heard.Again o u d is l = (still d.chair o u (work_of d.busy) is l.0, l.1)
  looked heard.Over o u d is l = let t = told d.chair o u (work_of d.busy) is l.0 in (t.1, t.0, l.1)

  pub sent_if : {A : Type 0} (c : Seat (Homes T) (Knows T)) (o : Option (View T)) (u w : Work T) (x : T)
      (r : Result A T) → o ≡ Some u.pass → OnOk r (HasSent x u w)
      → OnOk r (OneSent x (stand c o) (stands c w))
  sent_if c o u w x (Ok z) is has = one_sent c o u w x is has
  sent_if c o u w x (Err y) is has = tt

  pub got_if : (c : Seat (Homes T) (Knows T)) (o : Option (View T)) (u w : Work T) (r : Option T)
      → o ≡ Some u.pass
      → IfSome r (λ x. HasGot x u w) → IfSome r (λ x. OneGot x (stand c o) (stands c w))
  got_if c o u w None is has = has
  got_if c o u w (Some x) is has = one_got c o u w x is has

  pub told_if : {A : Type 0} (c : Seat (Homes T) (Knows T)) (o : Option (View T)) (u w : Work T)
      (r : Option A) → o ≡ Some u.pass → IfNone r (IsTold u w)
      → IfNone r ((w.pass.over ≡ true) × NoMore (stand c o) (stands c w))
  told_if c o u w None is t = told c o u w is t
  told_if c o u w (Some x) is t = t

  pub received_if : (c : Seat (Homes T) (Knows T)) (o : Option (View T)) (u w : Work T)
      (r : Received T) → o ≡ Some u.pass
      → OfReceived r (λ x. HasGot x u w) (IsTold u w)
      (IsStill u w × SawNothing (found_empty u.pass) w.pass)
      → OfReceived r (λ x. OneGot x (stand c o) (stands c w))
      ((w.pass.over ≡ true) × NoMore (stand c o) (stands c w))
      (SawEmpty (stand c o) (stands c w) × NoMore (stand c o) (stands c w))
  received_if c o u w (received.Value x) is a = one_got c o u w x is a
  received_if c o u w received.Over is a = told c o u w is a
  received_if c o u w received.TimedOut is a = saw c o u w is a

  tried_one : (c : Seat (Homes T) (Knows T)) (o : Option (View T)) (u w : Work T) (t : Tried T)
      → o ≡ Some u.pass
      → OfTried t (λ x. HasGot x u w)
      (IsStill u w × SawNothing (found_empty u.pass) w.pass)
      (IsStill u w)
      → OfTried t (λ x. OneGot x (stand c o) (stands c w))
      (SawEmpty (stand c o) (stands c w) × NoMore (stand c o) (stands c w))
      (NoMore (stand c o) (stands c w))
  tried_one c o u w (tried.Value x) is a = one_got c o u w x is a
  tried_one c o u w tried.Empty is a = saw c o u w is a
  tried_one c o u w tried.Again is a = still c o u w is a

  pub tried_if : (c : Seat (Homes T) (Knows T)) (o : Option (View T)) (u w : Work T)
      (r : Option (Tried T)) → o ≡ Some u.pass → IfSome r (λ t. OfTried t (λ x. HasGot x u w)
      (IsStill u w × SawNothing (found_empty u.pass) w.pass)
      (IsStill u w))
      → IfSome r (λ t. OfTried t (λ x. OneGot x (stand c o) (stands c w))
      (SawEmpty (stand c o) (stands c w) × NoMore (stand c o) (stands c w))
      (NoMore (stand c o) (stands c w)))
  tried_if c o u w None is a = a
  tried_if c o u w (Some t) is a = tried_one c o u w t is a
