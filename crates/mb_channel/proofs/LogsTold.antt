-- What the theorem says of the ends is what their logs have.
use Rattle.std.proofs.Common.{ℕ, List, [], map, sym, refl, ap, subst}
use Rattle.std.proofs.Common.{◌≡◌, ◌∷◌, ◌++◌, ◌∙◌}
use Rattle.std.proofs.lemmas.List.{map-append}
use Rattle.mb_segment.specs.Heard.{Heeds}
use Rattle.mb_channel.specs.Types.{Account, Home, Knows, Past, Position, Visit}
use Rattle.mb_channel.specs.Deeds.{deeds_at}
use Rattle.mb_channel.specs.Homes.{Falls, IsWhole, made_by, past_of}
use Rattle.mb_channel.specs.Lives.{HaveEnded, end_in, placed, start, visits_of}
use Rattle.mb_channel.specs.Inside.{in_visits, log_of_past}
use Rattle.mb_channel.specs.Told.{AllTell, TellsLog, spot_of}
use Rattle.mb_channel.proofs.Lives.{each_heeds}
use Rattle.mb_channel.proofs.Below.{EachVisit, VisitIsBelow, each_part, visits_below}
use Rattle.mb_channel.proofs.Order.{in_order}
use Rattle.mb_channel.proofs.Places.{spots_in}
use Rattle.mb_channel.proofs.Views.{made_map, past_map}
use Rattle.mb_channel.proofs.Visited.{AllVisits, made_heed, spots_called, visits_are, visits_made}

module _ {T : Type 0} where
  spots_at : (hs : List (Home T)) (k : ℕ) (ss : List (Position T))
      → map (spot_of hs) (deeds_at k ss) ≡ map (placed (start hs k)) ss
  spots_at hs k [] = refl
  spots_at hs k (s ∷ ss) = ap (λ l. placed (start hs k) s ∷ l) (spots_at hs k ss)

  spots_so : (f : Account T → List (Position T)) (hs : List (Home T)) (vs : List (Visit T))
      → spots_in f hs vs ≡ map (spot_of hs) (in_visits f vs)
  spots_so f hs [] = refl
  spots_so f hs (v ∷ vs) =
      (λ i. spots_so f hs vs i ++ sym (spots_at hs v.segment (f v.account)) i)
      ∙ sym (map-append (spot_of hs) (in_visits f vs) (deeds_at v.segment (f v.account)))

  tells : (v : Knows T) (hs : List (Home T)) (ls : List (List T)) (w : IsWhole v hs) → HaveEnded hs ls → (p : Past T)
      → p.visits ≡ made_by p.number w.all → TellsLog hs (end_in v hs p.number) (log_of_past p)
  tells v hs ls w ended p own =
      let heed = made_heed w.all (each_heeds v hs ls w ended) in
      let same : visits_of p.number v ≡ p.visits = visits_are v hs w p.number ∙ sym own in
      let sent : AllVisits (λ a. Heeds a.sent a.sent_knew) (visits_of p.number v) = subst
      (λ l. AllVisits (λ a. Heeds a.sent a.sent_knew) l) (sym (visits_are v hs w p.number))
      (visits_made (λ a. Heeds a.sent a.sent_knew) p.number w.all (made_map
      (λ m. Heeds m.visit.account.sent m.visit.account.sent_knew × Heeds m.visit.account.got m.visit.account.got_knew)
      (λ m. Heeds m.visit.account.sent m.visit.account.sent_knew) w.all (λ m x. x.0) heed)) in
      let got : AllVisits (λ a. Heeds a.got a.got_knew) (visits_of p.number v) = subst
      (λ l. AllVisits (λ a. Heeds a.got a.got_knew) l) (sym (visits_are v hs w p.number))
      (visits_made (λ a. Heeds a.got a.got_knew) p.number w.all (made_map
      (λ m. Heeds m.visit.account.sent m.visit.account.sent_knew × Heeds m.visit.account.got m.visit.account.got_knew)
      (λ m. Heeds m.visit.account.got m.visit.account.got_knew) w.all (λ m x. x.1) heed)) in
      let low : EachVisit (VisitIsBelow hs) p.visits = subst (λ l. EachVisit (VisitIsBelow hs) l) (sym own)
      (visits_below v hs ls w ended p.number) in record {
        sends = spots_called (λ a. a.sent) (λ a. a.sent_knew) hs (visits_of p.number v) sent
            ∙ spots_so (λ a. a.sent) hs (visits_of p.number v)
            ∙ ap (λ l. map (spot_of hs) (in_visits (λ a. a.sent) l)) same;
        takes = spots_called (λ a. a.got) (λ a. a.got_knew) hs (visits_of p.number v) got
            ∙ spots_so (λ a. a.got) hs (visits_of p.number v)
            ∙ ap (λ l. map (spot_of hs) (in_visits (λ a. a.got) l)) same;
        sent = in_order (λ a. a.sent) hs p.visits (each_part (VisitIsBelow hs) _ p.visits (λ y x. x.0) low);
        got = in_order (λ a. a.got) hs p.visits (each_part (VisitIsBelow hs) _ p.visits (λ y x. x.1) low);
      }

  pub all_tell : (v : Knows T) (hs : List (Home T)) (ls : List (List T)) → IsWhole v hs → HaveEnded hs ls
      → AllTell v hs
  all_tell v hs ls w ended = (
    tells v hs ls w ended (past_of v) w.own.0,
    past_map (λ p. (p.visits ≡ made_by p.number w.all) × ((b : ℕ) × Falls b p.visits))
        (λ p. TellsLog hs (end_in v hs p.number) (log_of_past p)) v.ended (λ p x. tells v hs ls w ended p x.0) w.others,
  )
