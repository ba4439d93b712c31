-- The end of a segment: the state of each position tells who sent its value, and who received it.
use Rattle.mb_segment.proofs.Base.{List, None, Option, Some, ap, arith, dec_lt, dite, get_elem?, inl, inr, length}
use Rattle.mb_segment.proofs.Base.{refl, slice_index, some, some-injective, some-ne-none, subst, suc, sym, zero, ℕ, ⊎_elim}
use Rattle.mb_segment.proofs.Base.{[], ◌%◌, ◌*◌, ◌+◌, ◌<◌, ◌∙◌, ◌∷◌, ◌≡◌, ◌≤◌}
use Rattle.mb_segment.specs.Vocabulary.{Account, Called, Claim, Each, Entry, Has, History, In, IsFate, Issuer, Keeps, Match, OfFate}
use Rattle.mb_segment.specs.Vocabulary.{Nothing, Reads, Somebody, Spot, View, Writes, all_entries, drawn, fate_of, got_by}
use Rattle.mb_segment.specs.Vocabulary.{name_in, sent_by, spot, taken}
use Rattle.mb_segment.proofs.Spots.{all_length, at_below, below_length, entry_of, index_at, state_word}
use Rattle.mb_segment.proofs.Halves.{no_reads, no_writes}
use Rattle.mb_segment.proofs.Kept.{St}
use Rattle.mb_segment.proofs.Places.{claimed_at, drawer, drawn_at, has_by, has_to, taker}
use Rattle.mb_segment.proofs.Endings.{in_roll, nothing_begun}
use Rattle.std.specs.Prelude.{◌/◌}
use Rattle.atomic_table.specs.Table.{Final, Seen}

-- what a state tells that has two names
spoken : (w a b : ℕ) → w ≡ a + 1 + 4294967296 * b → a < 4294967295
    → fate_of w ≡ Some record { sender = name_in a; receiver = name_in b }
spoken zero a b is lt = absurd (omega arith)
spoken (suc n) a b is lt =
    let low : n % 4294967296 ≡ a = omega arith in
    let high : n / 4294967296 ≡ b = omega arith in
    λ i. Some record { sender = name_in (low i); receiver = name_in (high i) }

past : (l : List ℕ) (i : ℕ) → length l ≤ i → slice_index l i ≡ 0
past [] i le = refl
past (x ∷ xs) zero le = absurd (omega arith)
past (x ∷ xs) (suc i) le = past xs i (omega arith)

module _ {T : Type 0} where
  -- the account is that of pass m
  abbrev IsOf : (ℕ → ℕ) → History T → ℕ → Account T → Type 0
  IsOf names h m a = (a.sent ≡ sent_by m h) × (a.got ≡ got_by m h) × (a.name ≡ names m)

  account_of : (names : ℕ → ℕ) (h : History T) (ms : List ℕ) (as_ : List (Account T)) → Match h ms as_
      → Called names ms as_ → (m : ℕ) → In m ms
      → (i : ℕ) × (a : Account T) × (get_elem? as_ i ≡ some a) × IsOf names h m a
  account_of names h [] as_ ma c m in_ = absurd in_
  account_of names h (j ∷ js) [] ma c m in_ = absurd ma
  account_of names h (j ∷ js) (a ∷ as_) ma c m in_ = ⊎_elim
      (λ q. (0, a, refl, subst (λ (l : ℕ). IsOf names h l a) (sym q) (ma.0, ma.1, c.0)))
      (λ i. let r = account_of names h js as_ ma.3 c.1 m i in (suc r.0, r.1, r.2, r.3)) in_

  number_of : (names : ℕ → ℕ) (h : History T) (ms : List ℕ) (as_ : List (Account T)) → Match h ms as_
      → Called names ms as_ → (i : ℕ) (a : Account T) → get_elem? as_ i ≡ some a → (m : ℕ) × IsOf names h m a
  number_of names h ms [] ma c i a at = absurd (some-ne-none a (sym at))
  number_of names h [] (b ∷ bs) ma c i a at = absurd ma
  number_of names h (j ∷ js) (b ∷ bs) ma c zero a at =
      (j, subst (λ (x : Account T). IsOf names h j x) (some-injective b a at) (ma.0, ma.1, c.0))
  number_of names h (j ∷ js) (b ∷ bs) ma c (suc i) a at = number_of names h js bs ma.3 c.1 i a at

  module _ (s : St T) (k : Keeps s) (n : ℕ) (v : View T) (at : get_elem? s.views n ≡ some v)
      (role : v.role ≡ Issuer) (none_out : v.out ≡ 0) where
    ends : Match k.history k.roll v.ends
    ends = ((k.fits n v at).hub_ role).ends

    called : Called k.names k.roll v.ends
    called = (k.called n v at).1 role

    sent_there : (j : ℕ) (e : Entry T) → get_elem? (all_entries k.history) j ≡ some e
        → Somebody (λ a. a.sent) v.ends j
    sent_there j e e_at =
        let d = drawer s k j e e_at in
        let r = account_of k.names k.history k.roll v.ends ends called e.by
        (in_roll s k n v at role none_out e.by d.0 d.1) in (
          r.0,
          r.1,
          r.2,
          e.value,
          subst (λ (l : List (Spot T)). Has j e.value l) (sym r.3.0)
              (has_by e.by 0 (all_entries k.history) j e e_at refl j (omega arith)),
        )

    got_there : (j : ℕ) (c : Claim T) → get_elem? k.history.claims j ≡ some c → Somebody (λ a. a.got) v.ends j
    got_there j c c_at =
        let d = taker s k j c c_at in
        let r = account_of k.names k.history k.roll v.ends ends called c.to
        (in_roll s k n v at role none_out c.to d.0 d.1) in (
          r.0,
          r.1,
          r.2,
          c.entry.value,
          subst (λ (l : List (Spot T)). Has j c.entry.value l) (sym r.3.1)
              (has_to c.to 0 k.history.claims j c c_at refl j (omega arith)),
        )

    -- who sent there has the name of the entry's pass
    sender_is : (j : ℕ) (e : Entry T) → get_elem? (all_entries k.history) j ≡ some e
        → Each (λ a. a.sent) v.ends j (λ a. name_in (k.names e.by) ≡ name_in a.name)
    sender_is j e e_at i a x a_at has =
        let m = number_of k.names k.history k.roll v.ends ends called i a a_at in
        let d = drawn_at m.0 j x 0 (all_entries k.history) (subst (λ (l : List (Spot T)). Has j x l) m.1.0 has) in
        let same_ : j ≡ d.0 = let q = d.2 in omega arith in
        let one : e ≡ d.1 = some-injective e d.1
        (sym e_at ∙ (ap (λ (l : ℕ). get_elem? (all_entries k.history) l) same_ ∙ d.3)) in
        ap name_in (ap (λ (y : Entry T). k.names y.by) one ∙ (ap k.names d.4 ∙ sym m.1.2))

    -- who got a value there has claimed that position
    claim_there : (j i : ℕ) (a : Account T) (x : T) → get_elem? v.ends i ≡ some a → Has j x a.got
        → (c : Claim T) × (get_elem? k.history.claims j ≡ some c) × (k.names c.to ≡ a.name)
    claim_there j i a x a_at has =
        let m = number_of k.names k.history k.roll v.ends ends called i a a_at in
        let d = claimed_at m.0 j x 0 k.history.claims (subst (λ (l : List (Spot T)). Has j x l) m.1.1 has) in
        let same_ : d.0 ≡ j = let q = d.2 in omega arith in (
          d.1,
          subst (λ (l : ℕ). get_elem? k.history.claims l ≡ some d.1) same_ d.3,
          ap k.names d.4 ∙ sym m.1.2,
        )

    -- a position that was claimed
    fate_claimed : (j : ℕ) (c : Claim T) → get_elem? k.history.claims j ≡ some c
        → IsFate v.ends j record { sender = name_in (k.names c.entry.by); receiver = name_in (k.names c.to) }
    fate_claimed j c c_at =
        let e_at = entry_of k.history.claims k.history.rest j c c_at in record {
          sent = sent_there j c.entry e_at;
          sender = sender_is j c.entry e_at;
          receiver = λ i a x a_at has. let d = claim_there j i a x a_at has in
              ap name_in (ap (λ (y : Claim T). k.names y.to) (some-injective c d.0 (sym c_at ∙ d.1)) ∙ d.2);
          got = inr (got_there j c c_at);
        }

    -- one that waits
    fate_waiting : (j : ℕ) (e : Entry T) → taken k.history ≤ j → get_elem? (all_entries k.history) j ≡ some e
        → IsFate v.ends j record { sender = name_in (k.names e.by); receiver = None }
    fate_waiting j e le e_at = record {
      sent = sent_there j e e_at;
      sender = sender_is j e e_at;
      receiver = λ i a x a_at has. let d = claim_there j i a x a_at has in
          absurd (let b = below_length k.history.claims j d.0 d.1 in omega arith);
      got = inl refl;
    }

    -- and one that nobody drew
    fate_undrawn : (j : ℕ) → drawn k.history ≤ j → Somebody (λ a. a.sent) v.ends j → ⊥
    fate_undrawn j le some_ =
        let m = number_of k.names k.history k.roll v.ends ends called some_.0 some_.1 some_.2 in
        let d = drawn_at m.0 j some_.3 0 (all_entries k.history)
        (subst (λ (l : List (Spot T)). Has j some_.3 l) m.1.0 some_.4) in
        let b = below_length (all_entries k.history) d.0 d.1 d.3 in
        let l = all_length k.history in let q = d.2 in absurd (omega arith)

    abbrev IsTold : ℕ → Type 0
    IsTold j = OfFate v.ends j (fate_of (slice_index k.states j))

    told_as : (j w : ℕ) (f : Option _) → get_elem? k.states j ≡ some w → fate_of w ≡ f → OfFate v.ends j f → IsTold j
    told_as j w f w_at is o = subst (λ (x : Option _). OfFate v.ends j x)
        (sym (ap fate_of (index_at k.states j w w_at) ∙ is)) o

    told : (j : ℕ) → IsTold j
    told j = dite (dec_lt j (taken k.history))
        (λ lt. let c = at_below k.history.claims j lt in
        ⊎_elim
        (λ z. absurd (nothing_begun s k n v at role none_out c.0.to (Reads (spot j c.0.entry.value))
        (no_reads Nothing (spot j c.0.entry.value) refl) z.1))
        (λ z. told_as j (k.names c.0.entry.by + 1 + 4294967296 * k.names c.0.to)
        (Some record { sender = name_in (k.names c.0.entry.by); receiver = name_in (k.names c.0.to) }) z.0
        (spoken (k.names c.0.entry.by + 1 + 4294967296 * k.names c.0.to) (k.names c.0.entry.by) (k.names c.0.to) refl
        (k.short c.0.entry.by))
        (fate_claimed j c.0 c.1))
        (k.taken_ j c.0 c.1))
        (λ not_taken. dite (dec_lt j (drawn k.history))
        (λ lt. let l = all_length k.history in
        let e = at_below (all_entries k.history) j (omega arith) in
        ⊎_elim
        (λ z. absurd (nothing_begun s k n v at role none_out e.0.by (Writes (spot j e.0.value))
        (no_writes Nothing (spot j e.0.value) refl) z.1))
        (λ z. told_as j (k.names e.0.by + 1) (Some record { sender = name_in (k.names e.0.by); receiver = None }) z.0
        (spoken (k.names e.0.by + 1) (k.names e.0.by) 0 (omega arith) (k.short e.0.by))
        (fate_waiting j e.0 (omega arith) e.1))
        (k.waits j e.0 (omega arith) e.1))
        (λ not_drawn. dite (dec_lt j (length k.states))
        (λ lt. told_as j 0 None (k.undrawn j (omega arith) lt).0 refl (fate_undrawn j (omega arith)))
        (λ out. subst (λ (w : ℕ). OfFate v.ends j (fate_of w)) (sym (past k.states j (omega arith)))
        (fate_undrawn j (omega arith)))))

  -- what the words of a closed segment tell
  pub fates : (n : ℕ) (v : View T) (ws : List ℕ) (slots : List (Option T)) → v.role ≡ Issuer → v.out ≡ 0
      → Final (Seen Keeps n v) ws slots → (j : ℕ) → OfFate v.ends j (fate_of (slice_index ws (j + 17)))
  fates n v ws slots role none_out (s, seen, words, many, home) j =
      let k = seen.0 in
      let is : state_word j ≡ j + 17 = omega arith in
      let here : slice_index k.states j ≡ slice_index ws (j + 17) = λ i.
      slice_index ((sym k.words ∙ words) i) (is i) in
      subst (λ (w : ℕ). OfFate v.ends j (fate_of w)) here (told s k n v seen.1 role none_out j)
