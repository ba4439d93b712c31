-- What one segment tells at its end, by the numbers of ends.
use Rattle.std.proofs.Common.{ℕ, suc, Bool, true, false, List, [], map, nat_eq, sym, refl, ap, subst, inl, inr, ⊎_elim, arith, eq-eqb, ne_eqb}
use Rattle.std.proofs.Common.{◌≡◌, ◌≢◌, ◌≤◌, ◌⊎◌, ◌∷◌, ◌++◌, ◌∙◌, if◌then◌else◌}
use mathlib.Core.Option.{some}
use lib.ListN.{get_elem?}
use native.Mathlib.Decide.{ℕ_discrete}
use Rattle.std.proofs.lemmas.List.{map-append}
use Rattle.mb_segment.specs.History as seg
use Rattle.mb_segment.specs.Passes.{Distinct, In, Match}
use Rattle.mb_segment.specs.Whole.{IsWhole as IsToldWhole}
use Rattle.mb_channel.specs.Types.{Account, Position}
use Rattle.mb_channel.specs.ChannelTheorem.{Spot, entries, spots_by, spots_to}
use Rattle.mb_channel.specs.Homes.{Falls, Made, made_by, made_in}
pub use Rattle.mb_channel.specs.States.{claim_of as claim, entry_of as entry, history_of}
use Rattle.mb_channel.specs.Stays.{AllBy, AllTo, AreApart, DidSo, IsEnd, IsPass, Stay, Told}

module _ {T : Type 0} where
  -- a segment's history in the channel's words
  abbrev pub pos : Position T → Spot T
  pos s = record { at = s.at; value = s.value }

  pub by_same : (n p : ℕ) (es : List (seg.Entry T)) → map pos (seg.spots_by n p es) ≡ spots_by n p (map entry es)
  by_same n p [] = refl
  by_same n p (e ∷ es) = go (nat_eq e.by n) (by_same n (suc p) es)
    where
      go : (b : Bool) → map pos (seg.spots_by n (suc p) es) ≡ spots_by n (suc p) (map entry es)
          → map pos (if b then seg.spot p e.value ∷ seg.spots_by n (suc p) es else seg.spots_by n (suc p) es)
          ≡ (if b then record { at = p; value = e.value } ∷ [] else []) ++ spots_by n (suc p) (map entry es)
      go true rec = ap (λ l. record { at = p; value = e.value } ∷ l) rec
      go false rec = rec

  pub to_same : (n p : ℕ) (cs : List (seg.Claim T)) → map pos (seg.spots_to n p cs) ≡ spots_to n p (map claim cs)
  to_same n p [] = refl
  to_same n p (c ∷ cs) = go (nat_eq c.to n) (to_same n (suc p) cs)
    where
      go : (b : Bool) → map pos (seg.spots_to n (suc p) cs) ≡ spots_to n (suc p) (map claim cs)
          → map pos (if b then seg.spot p c.entry.value ∷ seg.spots_to n (suc p) cs else seg.spots_to n (suc p) cs)
          ≡ (if b then record { at = p; value = c.entry.value } ∷ [] else []) ++ spots_to n (suc p) (map claim cs)
      go true rec = ap (λ l. record { at = p; value = c.entry.value } ∷ l) rec
      go false rec = rec

  entries_same : (cs : List (seg.Claim T)) → map entry (seg.entries cs) ≡ entries (map claim cs)
  entries_same [] = refl
  entries_same (c ∷ cs) = ap (λ l. entry c.entry ∷ l) (entries_same cs)

  pub all_same : (h : seg.History T)
      → map entry (seg.all_entries h) ≡ entries (history_of h).claims ++ (history_of h).rest
  all_same h = map-append entry (seg.entries h.claims) h.rest
      ∙ ap (λ l. l ++ map entry h.rest) (entries_same h.claims)

  -- ---- the visits of segment k, and the stays that they make
  abbrev pub made_at : ℕ → List (Made T) → List (Made T)
  made_at k [] = []
  made_at k (m ∷ ms) = if nat_eq m.visit.segment k then m ∷ made_at k ms else made_at k ms

  abbrev pub accounts : List (Made T) → List (Account T)
  accounts = map (λ m. m.visit.account)

  pub accounts_at : (k : ℕ) (all : List (Made T)) → made_in k all ≡ accounts (made_at k all)
  accounts_at k [] = refl
  accounts_at k (m ∷ ms) = go (nat_eq m.visit.segment k) (accounts_at k ms)
    where
      go : (b : Bool) → made_in k ms ≡ accounts (made_at k ms)
          → (if b then m.visit.account ∷ made_in k ms else made_in k ms)
          ≡ accounts (if b then m ∷ made_at k ms else made_at k ms)
      go true rec = ap (λ l. m.visit.account ∷ l) rec
      go false rec = rec

  abbrev pub stay : ℕ → Made T → Stay T
  stay n m = record {
    pass = n;
    end = m.by;
    sent = map pos m.visit.account.sent;
    got = map pos m.visit.account.got;
  }

  abbrev pub stays_of : List ℕ → List (Made T) → List (Stay T)
  stays_of ns [] = []
  stays_of [] (m ∷ ms) = []
  stays_of (n ∷ ns) (m ∷ ms) = stay n m ∷ stays_of ns ms

  pub did_so : (h : seg.History T) (ns : List ℕ) (ms : List (Made T)) → Match h ns (accounts ms)
      → DidSo (history_of h) (stays_of ns ms)
  did_so h ns [] is = tt
  did_so h [] (m ∷ ms) is = absurd is
  did_so h (n ∷ ns) (m ∷ ms) is = (
    ap (map pos) is.0 ∙ by_same n 0 (seg.all_entries h) ∙ ap (spots_by n 0) (all_same h),
    ap (map pos) is.1 ∙ to_same n 0 h.claims,
    did_so h ns ms is.3,
  )

  -- ---- no two have the same pass or the same end
  abbrev IsBy : ℕ → List (Made T) → Type 0
  IsBy n [] = ⊥
  IsBy n (m ∷ ms) = (n ≡ m.by) ⊎ IsBy n ms

  abbrev AreOnce : List (Made T) → Type 0
  AreOnce [] = Unit {0}
  AreOnce (m ∷ ms) = (IsBy m.by ms → ⊥) × AreOnce ms

  abbrev pub EachFalls : List (Made T) → Type 0
  EachFalls all = (n : ℕ) → (b : ℕ) × Falls b (made_by n all)

  -- an end whose visits lie below b was in no segment from b on
  not_there : (n k b : ℕ) (all : List (Made T)) → Falls b (made_by n all) → b ≤ k → IsBy n (made_at k all) → ⊥
  not_there n k b [] falls low is = is
  not_there n k b (m ∷ ms) falls low is = go (λ c f l i. not_there n k c ms f l i) (ℕ_discrete m.by n)
      (ℕ_discrete m.visit.segment k)
    where
      own : m.by ≡ n → Falls b (m.visit ∷ made_by n ms)
      own e = subst (λ l. Falls b l) (ap (λ (b : Bool). if b then m.visit ∷ made_by n ms else made_by n ms)
          (eq-eqb m.by n e)) falls

      other : m.by ≢ n → Falls b (made_by n ms)
      other e = subst (λ l. Falls b l) (ap (λ (b : Bool). if b then m.visit ∷ made_by n ms else made_by n ms)
          (ne_eqb m.by n e)) falls

      in_k : m.visit.segment ≡ k → IsBy n (m ∷ made_at k ms)
      in_k e = subst (λ l. IsBy n l) (ap (λ (b : Bool). if b then m ∷ made_at k ms else made_at k ms)
          (eq-eqb m.visit.segment k e)) is

      off_k : m.visit.segment ≢ k → IsBy n (made_at k ms)
      off_k e = subst (λ l. IsBy n l) (ap (λ (b : Bool). if b then m ∷ made_at k ms else made_at k ms)
          (ne_eqb m.visit.segment k e)) is

      go : ((c : ℕ) → Falls c (made_by n ms) → c ≤ k → IsBy n (made_at k ms) → ⊥)
          → Dec (m.by ≡ n) → Dec (m.visit.segment ≡ k) → ⊥
      go rec (yes p) (yes q) = let l = (own p).0 in omega arith
      go rec (yes p) (no q) = let f = own p in let l = f.0 in rec m.visit.segment f.1 (omega arith) (off_k q)
      go rec (no p) (yes q) = ⊎_elim (λ e. p (sym e)) (λ r. rec b (other p) low r) (in_k q)
      go rec (no p) (no q) = rec b (other p) low (off_k q)

  falls_behind : (m : Made T) (ms : List (Made T)) → EachFalls (m ∷ ms) → EachFalls ms
  falls_behind m ms each n = go (ℕ_discrete m.by n)
    where
      go : Dec (m.by ≡ n) → (b : ℕ) × Falls b (made_by n ms)
      go (yes p) = let f = subst (λ l. Falls (each n).0 l)
          (ap (λ (b : Bool). if b then m.visit ∷ made_by n ms else made_by n ms) (eq-eqb m.by n p)) (each n).1 in
          (m.visit.segment, f.1)
      go (no p) = (
        (each n).0,
        subst (λ l. Falls (each n).0 l)
            (ap (λ (b : Bool). if b then m.visit ∷ made_by n ms else made_by n ms) (ne_eqb m.by n p)) (each n).1,
      )

  pub once_each : (k : ℕ) (all : List (Made T)) → EachFalls all → AreOnce (made_at k all)
  once_each k [] each = tt
  once_each k (m ∷ ms) each = go (ℕ_discrete m.visit.segment k) (once_each k ms (falls_behind m ms each))
    where
      go : Dec (m.visit.segment ≡ k) → AreOnce (made_at k ms) → AreOnce (made_at k (m ∷ ms))
      go (yes q) rec =
          let f = subst (λ l. Falls (each m.by).0 l)
          (ap (λ (b : Bool). if b then m.visit ∷ made_by m.by ms else made_by m.by ms) (eq-eqb m.by m.by refl))
          (each m.by).1 in
          subst (λ l. AreOnce l) (sym (ap (λ (b : Bool). if b then m ∷ made_at k ms else made_at k ms)
          (eq-eqb m.visit.segment k q)))
          ((λ is. not_there m.by k m.visit.segment ms f.1 (omega arith) is), rec)
      go (no q) rec = subst (λ l. AreOnce l) (sym (ap (λ (b : Bool). if b then m ∷ made_at k ms else made_at k ms)
          (ne_eqb m.visit.segment k q))) rec

  pass_in : (n : ℕ) (ns : List ℕ) (ms : List (Made T)) → IsPass n (stays_of ns ms) → In n ns
  pass_in n ns [] is = absurd is
  pass_in n [] (m ∷ ms) is = absurd is
  pass_in n (k ∷ ns) (m ∷ ms) is = ⊎_elim (λ e. inl e) (λ r. inr (pass_in n ns ms r)) is

  end_by : (n : ℕ) (ns : List ℕ) (ms : List (Made T)) → IsEnd n (stays_of ns ms) → IsBy n ms
  end_by n ns [] is = absurd is
  end_by n [] (m ∷ ms) is = absurd is
  end_by n (k ∷ ns) (m ∷ ms) is = ⊎_elim (λ e. inl e) (λ r. inr (end_by n ns ms r)) is

  pub are_apart : (ns : List ℕ) (ms : List (Made T)) → Distinct ns → AreOnce ms → AreApart (stays_of ns ms)
  are_apart ns [] apart once = tt
  are_apart [] (m ∷ ms) apart once = tt
  are_apart (n ∷ ns) (m ∷ ms) apart once = (
    λ is. apart.0 (pass_in n ns ms is),
    λ is. once.0 (end_by m.by ns ms is),
    are_apart ns ms apart.1 once.1,
  )

  -- ---- nobody else
  pub in_pass : (h : seg.History T) (n : ℕ) (ns : List ℕ) (ms : List (Made T)) → Match h ns (accounts ms) → In n ns
      → IsPass n (stays_of ns ms)
  in_pass h n [] [] is here = here
  in_pass h n (k ∷ ns) [] is here = is
  in_pass h n [] (m ∷ ms) is here = here
  in_pass h n (k ∷ ns) (m ∷ ms) is here = ⊎_elim (λ e. inl e) (λ r. inr (in_pass h n ns ms is.3 r)) here

  pub all_by : (ss : List (Stay T)) (es : List (seg.Entry T))
      → ((k : ℕ) (e : seg.Entry T) → get_elem? es k ≡ some e → IsPass e.by ss) → AllBy ss (map entry es)
  all_by ss [] f = tt
  all_by ss (e ∷ es) f = (f 0 e refl, all_by ss es (λ k d at. f (suc k) d at))

  pub all_to : (ss : List (Stay T)) (cs : List (seg.Claim T))
      → ((k : ℕ) (c : seg.Claim T) → get_elem? cs k ≡ some c → IsPass c.to ss) → AllTo ss (map claim cs)
  all_to ss [] f = tt
  all_to ss (c ∷ cs) f = (f 0 c refl, all_to ss cs (λ k d at. f (suc k) d at))

  -- what the segment tells
  abbrev pub told : (k : ℕ) (all : List (Made T)) (left : List T) → EachFalls all
      → IsToldWhole (accounts (made_at k all)) left → Told T
  told k all left each w = let ms = made_at k all in record {
    history = history_of w.history;
    stays = stays_of w.numbers ms;
    apart = are_apart w.numbers ms w.apart (once_each k all each);
    did = did_so w.history w.numbers ms w.accounts_;
    senders = subst (λ l. AllBy (stays_of w.numbers ms) l) (all_same w.history)
        (all_by (stays_of w.numbers ms) (seg.all_entries w.history)
        (λ j e at. in_pass w.history e.by w.numbers ms w.accounts_ (w.senders j e at)));
    receivers = all_to (stays_of w.numbers ms) w.history.claims
        (λ j c at. in_pass w.history c.to w.numbers ms w.accounts_ (w.receivers j c at));
  }

  -- ---- nothing was taken where nobody received
  pub none_got : (h : seg.History T) (ns : List ℕ) (xs : List (Account T)) → Match h ns xs
      → ((k : ℕ) (a : Account T) → get_elem? xs k ≡ some a → a.got ≡ []) → (m : ℕ) → In m ns
      → seg.got_by m h ≡ []
  none_got h [] [] is none_ m here = absurd here
  none_got h (n ∷ ns) [] is none_ m here = absurd is
  none_got h [] (a ∷ xs) is none_ m here = absurd is
  none_got h (n ∷ ns) (a ∷ xs) is none_ m here = ⊎_elim
      (λ e. ap (λ j. seg.got_by j h) e ∙ sym is.1 ∙ none_ 0 a refl)
      (λ r. none_got h ns xs is.3 (λ k b at. none_ (suc k) b at) m r) here
