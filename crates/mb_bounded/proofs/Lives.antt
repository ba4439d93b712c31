-- What the accounts of all ends and the values left tell is a whole life.
use Rattle.std.proofs.Common.{ℕ, suc, Bool, true, false, List, [], All, map, nat_eq, sym, refl, ap, inl, inr, ⊎_elim, arith, eq-eqb, ne_eqb, subst}
use Rattle.std.proofs.Common.{◌≡◌, ◌+◌, ◌≤◌, ◌∷◌, ◌++◌, ◌∙◌, if◌then◌else◌}
use mathlib.Core.Option.{some}
use lib.ListN.{get_elem?}
use native.Mathlib.Decide.{ℕ_discrete}
use Rattle.std.proofs.lemmas.List.{append-nil}
use Rattle.std.proofs.lemmas.List.Elements.{All-nil}
use Rattle.mb_segment.specs.History as seg
use Rattle.mb_segment.specs.Vocabulary.{AllHeed, In, IsWhole, Match}
use Rattle.mb_channel.specs.Types.{Position}
use Rattle.mb_channel.specs.ChannelTheorem.{Call, End, Entry, Spot, entries, spots_by, spots_to}
use Rattle.mb_channel.specs.Lives.{placed}
use Rattle.mb_channel.proofs.Accounts.{all_same, by_same, entry, history_of, pos, to_same}
use Rattle.mb_channel.proofs.Visited.{behind_at, spots_at}
use Rattle.mb_channel.proofs.Lives.{values_same}
use Rattle.mb_channel.proofs.Theorems.{whole_life}
use Rattle.mb_bounded.specs.Types.{Account}
use Rattle.mb_bounded.specs.Lives.{IsLife, calls_of, end_by}

module _ {T : Type 0} where
  -- what the account of end n lists
  abbrev row : (Account T → List (Position T)) → ℕ → List ℕ → List (Account T) → List (Position T)
  row f n [] xs = []
  row f n (m ∷ ms) [] = []
  row f n (m ∷ ms) (a ∷ xs) = if nat_eq m n then f a else row f n ms xs

  abbrev one_or : Bool → Account T → End T → End T
  one_or b a e = if b then calls_of a else e

  -- the places of the calls are what it lists, and each call stands behind all that was known
  abbrev Listed : (End T → List (Call T)) → (Account T → List (Position T)) → Type 0
  Listed g f = (n : ℕ) (ms : List ℕ) (xs : List (Account T)) → AllHeed xs
      → (map (λ (c : Call T). c.spot) (g (end_by ms xs n)) ≡ map (placed 0) (row f n ms xs))
      × All (λ (c : Call T). c.knew ≤ c.spot.at) (g (end_by ms xs n))

  sends_listed : Listed (λ e. e.sends) (λ a. a.sent)
  sends_listed n [] xs heed = (refl, All-nil (λ (c : Call T). c.knew ≤ c.spot.at))
  sends_listed n (m ∷ ms) [] heed = (refl, All-nil (λ (c : Call T). c.knew ≤ c.spot.at))
  sends_listed n (m ∷ ms) (a ∷ xs) heed = go (nat_eq m n) (sends_listed n ms xs heed.2)
    where
      go : (b : Bool) → (map (λ (c : Call T). c.spot) (end_by ms xs n).sends
          ≡ map (placed 0) (row (λ a. a.sent) n ms xs))
          × All (λ (c : Call T). c.knew ≤ c.spot.at) (end_by ms xs n).sends
          → (map (λ (c : Call T). c.spot) (one_or b a (end_by ms xs n)).sends
          ≡ map (placed 0) (if b then a.sent else row (λ a. a.sent) n ms xs))
          × All (λ (c : Call T). c.knew ≤ c.spot.at) (one_or b a (end_by ms xs n)).sends
      go true rec = (spots_at 0 a.sent a.sent_knew heed.0, behind_at 0 a.sent a.sent_knew heed.0)
      go false rec = rec

  takes_listed : Listed (λ e. e.takes) (λ a. a.got)
  takes_listed n [] xs heed = (refl, All-nil (λ (c : Call T). c.knew ≤ c.spot.at))
  takes_listed n (m ∷ ms) [] heed = (refl, All-nil (λ (c : Call T). c.knew ≤ c.spot.at))
  takes_listed n (m ∷ ms) (a ∷ xs) heed = go (nat_eq m n) (takes_listed n ms xs heed.2)
    where
      go : (b : Bool) → (map (λ (c : Call T). c.spot) (end_by ms xs n).takes
          ≡ map (placed 0) (row (λ a. a.got) n ms xs))
          × All (λ (c : Call T). c.knew ≤ c.spot.at) (end_by ms xs n).takes
          → (map (λ (c : Call T). c.spot) (one_or b a (end_by ms xs n)).takes
          ≡ map (placed 0) (if b then a.got else row (λ a. a.got) n ms xs))
          × All (λ (c : Call T). c.knew ≤ c.spot.at) (one_or b a (end_by ms xs n)).takes
      go true rec = (spots_at 0 a.got a.got_knew heed.1, behind_at 0 a.got a.got_knew heed.1)
      go false rec = rec

  -- it lists what the history has of number n, which has nothing of any other
  rows_sent : (h : seg.History T) (n : ℕ) (ms : List ℕ) (xs : List (Account T)) → Match h ms xs
      → ((In n ms → ⊥) → seg.sent_by n h ≡ []) → row (λ a. a.sent) n ms xs ≡ seg.sent_by n h
  rows_sent h n [] [] is nobody = sym (nobody (λ no. no))
  rows_sent h n [] (a ∷ xs) is nobody = absurd is
  rows_sent h n (m ∷ ms) [] is nobody = absurd is
  rows_sent h n (m ∷ ms) (a ∷ xs) is nobody = go (rows_sent h n ms xs is.3) (ℕ_discrete m n)
    where
      go : (((In n ms → ⊥) → seg.sent_by n h ≡ []) → row (λ a. a.sent) n ms xs ≡ seg.sent_by n h)
          → Dec (m ≡ n) → row (λ a. a.sent) n (m ∷ ms) (a ∷ xs) ≡ seg.sent_by n h
      go rec (yes e) = ap (λ (b : Bool). if b then a.sent else row (λ a. a.sent) n ms xs) (eq-eqb m n e)
          ∙ is.0 ∙ ap (λ k. seg.sent_by k h) e
      go rec (no ne) = ap (λ (b : Bool). if b then a.sent else row (λ a. a.sent) n ms xs) (ne_eqb m n ne)
          ∙ rec (λ out. nobody (λ here. ⊎_elim (λ e. ne (sym e)) out here))

  rows_got : (h : seg.History T) (n : ℕ) (ms : List ℕ) (xs : List (Account T)) → Match h ms xs
      → ((In n ms → ⊥) → seg.got_by n h ≡ []) → row (λ a. a.got) n ms xs ≡ seg.got_by n h
  rows_got h n [] [] is nobody = sym (nobody (λ no. no))
  rows_got h n [] (a ∷ xs) is nobody = absurd is
  rows_got h n (m ∷ ms) [] is nobody = absurd is
  rows_got h n (m ∷ ms) (a ∷ xs) is nobody = go (rows_got h n ms xs is.3) (ℕ_discrete m n)
    where
      go : (((In n ms → ⊥) → seg.got_by n h ≡ []) → row (λ a. a.got) n ms xs ≡ seg.got_by n h)
          → Dec (m ≡ n) → row (λ a. a.got) n (m ∷ ms) (a ∷ xs) ≡ seg.got_by n h
      go rec (yes e) = ap (λ (b : Bool). if b then a.got else row (λ a. a.got) n ms xs) (eq-eqb m n e)
          ∙ is.1 ∙ ap (λ k. seg.got_by k h) e
      go rec (no ne) = ap (λ (b : Bool). if b then a.got else row (λ a. a.got) n ms xs) (ne_eqb m n ne)
          ∙ rec (λ out. nobody (λ here. ⊎_elim (λ e. ne (sym e)) out here))

  none_by : (n p : ℕ) (es : List (seg.Entry T))
      → ((k : ℕ) (e : seg.Entry T) → get_elem? es k ≡ some e → e.by ≡ n → ⊥) → seg.spots_by n p es ≡ []
  none_by n p [] other = refl
  none_by n p (e ∷ es) other =
      ap (λ (b : Bool). if b then seg.spot p e.value ∷ seg.spots_by n (suc p) es else seg.spots_by n (suc p) es)
      (ne_eqb e.by n (other 0 e refl)) ∙ none_by n (suc p) es (λ k d at. other (suc k) d at)

  none_to : (n p : ℕ) (cs : List (seg.Claim T))
      → ((k : ℕ) (c : seg.Claim T) → get_elem? cs k ≡ some c → c.to ≡ n → ⊥) → seg.spots_to n p cs ≡ []
  none_to n p [] other = refl
  none_to n p (c ∷ cs) other =
      ap (λ (b : Bool). if b then seg.spot p c.entry.value ∷ seg.spots_to n (suc p) cs else seg.spots_to n (suc p) cs)
      (ne_eqb c.to n (other 0 c refl)) ∙ none_to n (suc p) cs (λ k d at. other (suc k) d at)

  abbrev at_place : ℕ → T → Spot T
  at_place k x = record { at = k; value = x }

  placed_same : (ss : List (Position T)) → map (placed 0) ss ≡ map pos ss
  placed_same [] = refl
  placed_same (s ∷ ss) = let z : 0 + s.at ≡ s.at = omega arith in
      ap (λ k. at_place k s.value ∷ map (placed 0) ss) z ∙ ap (λ l. pos s ∷ l) (placed_same ss)

  pub is_life : (xs : List (Account T)) (back : List T) → IsWhole xs back → IsLife xs back
  is_life xs back w = (
    w,
    history_of w.history,
    whole_life (history_of w.history ∷ []) (end_by w.numbers xs) back
        (inr refl, tt) record {
          sends = λ n. (sends_listed n w.numbers xs w.heeds).0 ∙ placed_same (row (λ a. a.sent) n w.numbers xs)
              ∙ ap (map pos) (rows_sent w.history n w.numbers xs w.accounts_ (λ out.
              none_by n 0 (seg.all_entries w.history) (λ k e at is. out (subst (λ m. In m w.numbers) is
              (w.senders k e at)))))
              ∙ by_same n 0 (seg.all_entries w.history) ∙ ap (spots_by n 0) (all_same w.history)
              ∙ sym (append-nil (spots_by n 0 (entries (history_of w.history).claims ++ (history_of w.history).rest)));
          after = λ n. (sends_listed n w.numbers xs w.heeds).1;
          takes = λ n. (takes_listed n w.numbers xs w.heeds).0 ∙ placed_same (row (λ a. a.got) n w.numbers xs)
              ∙ ap (map pos) (rows_got w.history n w.numbers xs w.accounts_ (λ out.
              none_to n 0 w.history.claims (λ k c at is. out (subst (λ m. In m w.numbers) is (w.receivers k c at)))))
              ∙ to_same n 0 w.history.claims ∙ sym (append-nil (spots_to n 0 (history_of w.history).claims));
          later = λ n. (takes_listed n w.numbers xs w.heeds).1;
          rest = w.left_is ∙ values_same w.history.rest
              ∙ ap (map (λ (e : Entry T). e.value)) (sym (append-nil (map entry w.history.rest)));
        },
  )
