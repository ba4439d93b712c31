-- The logs of the ends, segment by segment.
use Rattle.std.proofs.Common.{ℕ, suc, ◌≡◌, ◌+◌, List, [], ◌∷◌, ◌++◌, length, nat_eq, if◌then◌else◌, sym, refl, ap, ◌∙◌, ⊎_elim, arith}
use Rattle.std.proofs.lemmas.List.{append-nil, append_assoc, length-map}
use Rattle.mb_channel.specs.ChannelTheorem.{Claim, Entry, History, Spot, TakenInTurn, entries, sent, spots_by, spots_to, taken}
use Rattle.mb_channel.specs.Segments.{drawn, logs_by, logs_to}

module _ {T : Type 0} where
  by_append : (n p : ℕ) (xs ys : List (Entry T))
      → spots_by n p (xs ++ ys) ≡ spots_by n p xs ++ spots_by n (p + length xs) ys
  by_append n p [] ys = let e : p ≡ p + 0 = omega arith in ap (λ q. spots_by n q ys) e
  by_append n p (x ∷ xs) ys = let e : suc p + length xs ≡ p + suc (length xs) = omega arith in
      let here : List (Spot T) = if nat_eq x.by n then record { at = p; value = x.value } ∷ [] else [] in
      ap (λ l. here ++ l) (by_append n (suc p) xs ys ∙ ap (λ q. spots_by n (suc p) xs ++ spots_by n q ys) e)
      ∙ sym (append_assoc here (spots_by n (suc p) xs) (spots_by n (p + suc (length xs)) ys))

  to_append : (n p : ℕ) (xs ys : List (Claim T))
      → spots_to n p (xs ++ ys) ≡ spots_to n p xs ++ spots_to n (p + length xs) ys
  to_append n p [] ys = let e : p ≡ p + 0 = omega arith in ap (λ q. spots_to n q ys) e
  to_append n p (x ∷ xs) ys = let e : suc p + length xs ≡ p + suc (length xs) = omega arith in
      let here : List (Spot T) = if nat_eq x.to n then record { at = p; value = x.entry.value } ∷ [] else [] in
      ap (λ l. here ++ l) (to_append n (suc p) xs ys ∙ ap (λ q. spots_to n (suc p) xs ++ spots_to n q ys) e)
      ∙ sym (append_assoc here (spots_to n (suc p) xs) (spots_to n (p + suc (length xs)) ys))

  pub sent_logs : (n p : ℕ) (hs : List (History T)) → logs_by n p hs ≡ spots_by n p (sent hs)
  sent_logs n p [] = refl
  sent_logs n p (h ∷ hs) = ap (λ l. spots_by n p (entries h.claims ++ h.rest) ++ l) (sent_logs n (p + drawn h) hs)
      ∙ sym (by_append n p (entries h.claims ++ h.rest) (sent hs))

  pub taken_logs : (n p : ℕ) (hs : List (History T)) → TakenInTurn hs → logs_to n p hs ≡ spots_to n p (taken hs)
  taken_logs n p [] turn = refl
  taken_logs n p (h ∷ hs) turn = let rec = taken_logs n (p + drawn h) hs turn.1 in
      ⊎_elim (λ e. none e rec) (λ e. first e rec) turn.0
    where
      none : h.rest ≡ [] → logs_to n (p + drawn h) hs ≡ spots_to n (p + drawn h) (taken hs)
          → spots_to n p h.claims ++ logs_to n (p + drawn h) hs ≡ spots_to n p (h.claims ++ taken hs)
      none e rec = let long : drawn h ≡ length h.claims = (λ i. length (entries h.claims ++ e i))
          ∙ ap length (append-nil (entries h.claims)) ∙ length-map h.claims (λ c. c.entry) in
          (λ i. spots_to n p h.claims ++ rec i)
          ∙ (λ i. spots_to n p h.claims ++ spots_to n (p + long i) (taken hs))
          ∙ sym (to_append n p h.claims (taken hs))

      first : taken hs ≡ [] → logs_to n (p + drawn h) hs ≡ spots_to n (p + drawn h) (taken hs)
          → spots_to n p h.claims ++ logs_to n (p + drawn h) hs ≡ spots_to n p (h.claims ++ taken hs)
      first e rec = (λ i. spots_to n p h.claims ++ rec i)
          ∙ (λ i. spots_to n p h.claims ++ spots_to n (p + drawn h) (e i))
          ∙ append-nil (spots_to n p h.claims)
          ∙ (λ i. spots_to n p (sym (append-nil h.claims) i))
          ∙ (λ i. spots_to n p (h.claims ++ sym e i))
