-- What an end did, read off its visits.
use Rattle.std.proofs.Common.{ℕ, Bool, true, false, List, [], map, nat_eq, sym, refl, ap, subst, arith, eq-eqb, ne_eqb}
use Rattle.std.proofs.Common.{◌≡◌, ◌≤◌, ◌+◌, ◌∷◌, ◌++◌, ◌∙◌, if◌then◌else◌, All}
use native.Mathlib.Decide.{ℕ_discrete}
use Rattle.std.proofs.lemmas.List.{map-append}
use Rattle.std.proofs.lemmas.List.Elements.{All-append, All-nil, All-cons}
use Rattle.mb_segment.specs.Heard.{AllHeed, Heeds}
use Rattle.mb_channel.specs.Types.{Account, Home, Knows, Past, Position, Visit}
use Rattle.mb_channel.specs.ChannelTheorem.{Call}
use Rattle.mb_channel.specs.Homes.{AllMade, AllPast, Falls, IsNone, IsWhole, Made, made_by, made_in}
use Rattle.mb_channel.specs.Lives.{calls_at, calls_in, past_visits, placed, start, visits_of}
use Rattle.mb_channel.proofs.Accounts.{EachFalls}
use Rattle.mb_channel.proofs.Places.{spots_in}

module _ {T : Type 0} where
  -- its visits are those made by it
  past_are : (n : ℕ) (all : List (Made T)) (ps : List (Past T))
      → AllPast (λ p. (p.visits ≡ made_by p.number all) × ((b : ℕ) × Falls b p.visits)) ps
      → (IsNone n ps → made_by n all ≡ []) → past_visits n ps ≡ made_by n all
  past_are n all [] fit nobody = sym (nobody tt)
  past_are n all (p ∷ ps) fit nobody = go (λ none_. past_are n all ps fit.1 none_) (ℕ_discrete p.number n)
    where
      go : ((IsNone n ps → made_by n all ≡ []) → past_visits n ps ≡ made_by n all) → Dec (p.number ≡ n)
          → past_visits n (p ∷ ps) ≡ made_by n all
      go rec (yes e) = ap (λ (b : Bool). if b then p.visits else past_visits n ps) (eq-eqb p.number n e)
          ∙ fit.0.0 ∙ ap (λ i. made_by i all) e
      go rec (no e) = ap (λ (b : Bool). if b then p.visits else past_visits n ps) (ne_eqb p.number n e)
          ∙ rec (λ none_. nobody (e, none_))

  pub visits_are : (v : Knows T) (hs : List (Home T)) (w : IsWhole v hs) (n : ℕ) → visits_of n v ≡ made_by n w.all
  visits_are v hs w n = go (ℕ_discrete v.number n)
    where
      go : Dec (v.number ≡ n) → visits_of n v ≡ made_by n w.all
      go (yes e) = ap (λ (b : Bool). if b then v.visits else past_visits n v.ended) (eq-eqb v.number n e)
          ∙ w.own.0 ∙ ap (λ i. made_by i w.all) e
      go (no e) = ap (λ (b : Bool). if b then v.visits else past_visits n v.ended) (ne_eqb v.number n e)
          ∙ past_are n w.all v.ended w.others (w.nobody n e)

  past_falls : (n : ℕ) (all : List (Made T)) (ps : List (Past T))
      → AllPast (λ p. (p.visits ≡ made_by p.number all) × ((b : ℕ) × Falls b p.visits)) ps
      → (b : ℕ) × Falls b (past_visits n ps)
  past_falls n all [] fit = (0, tt)
  past_falls n all (p ∷ ps) fit = go (nat_eq p.number n) (past_falls n all ps fit.1)
    where
      go : (d : Bool) → (b : ℕ) × Falls b (past_visits n ps)
          → (b : ℕ) × Falls b (if d then p.visits else past_visits n ps)
      go true rec = fit.0.1
      go false rec = rec

  pub each_falls : (v : Knows T) (hs : List (Home T)) (w : IsWhole v hs) → EachFalls w.all
  each_falls v hs w n = let f = go (nat_eq v.number n) in
      (f.0, subst (λ l. Falls f.0 l) (visits_are v hs w n) f.1)
    where
      go : (d : Bool) → (b : ℕ) × Falls b (if d then v.visits else past_visits n v.ended)
      go true = (v.at, w.own.1)
      go false = past_falls n w.all v.ended w.others

  -- ---- each call stands behind what was known
  abbrev pub AllVisits : (Account T → Type 0) → List (Visit T) → Type 0
  AllVisits P [] = Unit {0}
  AllVisits P (v ∷ vs) = P v.account × AllVisits P vs

  pub spots_at : (p : ℕ) (ss : List (Position T)) (ks : List ℕ) → Heeds ss ks
      → map (λ (c : Call T). c.spot) (calls_at p ss ks) ≡ map (placed p) ss
  spots_at p [] ks heeds = refl
  spots_at p (s ∷ ss) [] heeds = absurd heeds
  spots_at p (s ∷ ss) (k ∷ ks) heeds = ap (λ l. placed p s ∷ l) (spots_at p ss ks heeds.1)

  pub behind_at : (p : ℕ) (ss : List (Position T)) (ks : List ℕ) → Heeds ss ks
      → All (λ (c : Call T). c.knew ≤ c.spot.at) (calls_at p ss ks)
  behind_at p [] ks heeds = All-nil (λ (c : Call T). c.knew ≤ c.spot.at)
  behind_at p (s ∷ ss) [] heeds = absurd heeds
  behind_at p (s ∷ ss) (k ∷ ks) heeds = let le = heeds.0 in All-cons (λ (c : Call T). c.knew ≤ c.spot.at)
      (record { spot = placed p s; knew = p + k }) (calls_at p ss ks) (omega arith) (behind_at p ss ks heeds.1)

  pub spots_called : (f : Account T → List (Position T)) (g : Account T → List ℕ) (hs : List (Home T))
      (vs : List (Visit T)) → AllVisits (λ a. Heeds (f a) (g a)) vs
      → map (λ (c : Call T). c.spot) (calls_in f g hs vs) ≡ spots_in f hs vs
  spots_called f g hs [] heed = refl
  spots_called f g hs (v ∷ vs) heed =
      let p = start hs v.segment in
      map-append (λ (c : Call T). c.spot) (calls_in f g hs vs) (calls_at p (f v.account) (g v.account))
      ∙ (λ i. spots_called f g hs vs heed.1 i ++ spots_at p (f v.account) (g v.account) heed.0 i)

  pub all_behind : (f : Account T → List (Position T)) (g : Account T → List ℕ) (hs : List (Home T))
      (vs : List (Visit T)) → AllVisits (λ a. Heeds (f a) (g a)) vs
      → All (λ (c : Call T). c.knew ≤ c.spot.at) (calls_in f g hs vs)
  all_behind f g hs [] heed = All-nil (λ (c : Call T). c.knew ≤ c.spot.at)
  all_behind f g hs (v ∷ vs) heed =
      let p = start hs v.segment in
      All-append (λ (c : Call T). c.knew ≤ c.spot.at) (calls_in f g hs vs) (calls_at p (f v.account) (g v.account))
      (all_behind f g hs vs heed.1) (behind_at p (f v.account) (g v.account) heed.0)

  pub visits_made : (P : Account T → Type 0) (n : ℕ) (all : List (Made T)) → AllMade (λ m. P m.visit.account) all
      → AllVisits P (made_by n all)
  visits_made P n [] fit = tt
  visits_made P n (m ∷ ms) fit = go (nat_eq m.by n) (visits_made P n ms fit.1)
    where
      go : (b : Bool) → AllVisits P (made_by n ms) → AllVisits P (if b then m.visit ∷ made_by n ms else made_by n ms)
      go true rec = (fit.0, rec)
      go false rec = rec

  -- where the accounts of each segment heed what was known, each visit does
  pub made_heed : (all : List (Made T)) → ((k : ℕ) → AllHeed (made_in k all))
      → AllMade (λ m. Heeds m.visit.account.sent m.visit.account.sent_knew
      × Heeds m.visit.account.got m.visit.account.got_knew) all
  made_heed [] each = tt
  made_heed (m ∷ ms) each = ((first.0, first.1), made_heed ms behind)
    where
      own : (k : ℕ) → m.visit.segment ≡ k → AllHeed (m.visit.account ∷ made_in k ms)
      own k e = subst (λ l. AllHeed l) (ap (λ (b : Bool). if b then m.visit.account ∷ made_in k ms else made_in k ms)
          (eq-eqb m.visit.segment k e)) (each k)

      first : AllHeed (m.visit.account ∷ made_in m.visit.segment ms)
      first = own m.visit.segment refl

      behind : (k : ℕ) → AllHeed (made_in k ms)
      behind k = go (ℕ_discrete m.visit.segment k)
        where
          go : Dec (m.visit.segment ≡ k) → AllHeed (made_in k ms)
          go (yes e) = (own k e).2
          go (no e) = subst (λ l. AllHeed l)
              (ap (λ (b : Bool). if b then m.visit.account ∷ made_in k ms else made_in k ms)
              (ne_eqb m.visit.segment k e)) (each k)
