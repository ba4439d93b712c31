-- Segments that follow each other in turn.
use Rattle.std.proofs.Common.{ℕ, zero, suc, ◌≡◌, ◌+◌, ◌<◌, ◌≤◌, ◌⊎◌, Bool, true, false, List, [], ◌∷◌, ◌++◌, length, map, sym, refl, ap, ◌∙◌, subst, inl, inr, ⊎_elim, arith, true≢false}
use Rattle.std.specs.Prelude.{All, Contains, slice_index_or}
use Rattle.std.proofs.lemmas.List.{append-nil, append_assoc, map-append}
use Rattle.std.proofs.lemmas.List.Elements.{All-head, All-tail}
use Rattle.mb_channel.specs.ChannelTheorem.{History, IsAwake, Segment, TakenInTurn, entries, left, sent, taken}
use Rattle.mb_channel.specs.Segments.{EachKeeps, InTurn, Keeps}

module _ {T : Type 0} where
  abbrev pub lives : List (Segment T) → List (History T)
  lives ss = map (λ s. s.history) ss

  -- nobody came to the first segment, so nothing was taken of any
  untouched : (s : Segment T) (ss : List (Segment T)) → EachKeeps (s ∷ ss) → InTurn (s ∷ ss)
      → s.is_visited ≡ false → taken (lives (s ∷ ss)) ≡ []
  untouched s [] k turn un = append-nil s.history.claims ∙ (k.0.unvisited un).0
  untouched s (t ∷ ss) k turn un = go (untouched t ss k.1 turn.1) t.is_visited refl
    where
      go : (t.is_visited ≡ false → taken (lives (t ∷ ss)) ≡ []) → (b : Bool) → t.is_visited ≡ b
          → taken (lives (s ∷ t ∷ ss)) ≡ []
      go rec true is = absurd (true≢false (sym (turn.0.1 is).0 ∙ un))
      go rec false is = let u = k.0.unvisited un in let r = rec is in (λ i. u.0 i ++ r i)

  -- nothing is left here, or nothing was taken of those behind
  pub turns : (ss : List (Segment T)) → EachKeeps ss → InTurn ss → TakenInTurn (lives ss)
  turns [] k turn = tt
  turns (s ∷ []) k turn = (inr refl, tt)
  turns (s ∷ t ∷ ss) k turn = (go t.is_visited refl, turns (t ∷ ss) k.1 turn.1)
    where
      go : (b : Bool) → t.is_visited ≡ b → (s.history.rest ≡ []) ⊎ (taken (lives (t ∷ ss)) ≡ [])
      go true is = inl (turn.0.1 is).1
      go false is = inr (untouched t ss k.1 turn.1 is)

  -- what was taken is a beginning of what was sent
  pub begins : (hs : List (History T)) → TakenInTurn hs → sent hs ≡ entries (taken hs) ++ left hs
  begins [] turn = refl
  begins (h ∷ hs) turn = ⊎_elim (λ e. none e (begins hs turn.1)) (λ e. first e (begins hs turn.1)) turn.0
    where
      none : h.rest ≡ [] → sent hs ≡ entries (taken hs) ++ left hs
          → (entries h.claims ++ h.rest) ++ sent hs ≡ entries (h.claims ++ taken hs) ++ (h.rest ++ left hs)
      none e rec = (λ i. (entries h.claims ++ e i) ++ rec i)
          ∙ (λ i. append-nil (entries h.claims) i ++ (entries (taken hs) ++ left hs))
          ∙ sym (append_assoc (entries h.claims) (entries (taken hs)) (left hs))
          ∙ (λ i. sym (map-append (λ c. c.entry) h.claims (taken hs)) i ++ (sym e i ++ left hs))

      first : taken hs ≡ [] → sent hs ≡ entries (taken hs) ++ left hs
          → (entries h.claims ++ h.rest) ++ sent hs ≡ entries (h.claims ++ taken hs) ++ (h.rest ++ left hs)
      first e rec = (λ i. (entries h.claims ++ h.rest) ++ rec i)
          ∙ (λ i. (entries h.claims ++ h.rest) ++ (entries (e i) ++ left hs))
          ∙ append_assoc (entries h.claims) h.rest (left hs)
          ∙ (λ i. entries (sym (append-nil h.claims) i) ++ (h.rest ++ left hs))
          ∙ (λ i. entries (h.claims ++ sym e i) ++ (h.rest ++ left hs))

  -- ---- what a receiver finds in its own segment, if that is not over, is so for the channel
  left_at : (s₀ : Segment T) (ss : List (Segment T)) → InTurn (s₀ ∷ ss) → (s : Segment T) (k : ℕ)
      → k < length (s₀ ∷ ss) → slice_index_or (s₀ ∷ ss) k s ≡ s → s.is_visited ≡ true → s.is_over ≡ false
      → (s₀.is_visited ≡ true) × (left (lives (s₀ ∷ ss)) ≡ s.history.rest)
  left_at s₀ [] turn s zero lt at came on =
      (ap (λ x. x.is_visited) at ∙ came, append-nil s₀.history.rest ∙ ap (λ x. x.history.rest) at)
  left_at s₀ (t ∷ ss) turn s zero lt at came on = absurd (true≢false (sym turn.0.0 ∙ ap (λ x. x.is_over) at ∙ on))
  left_at s₀ [] turn s (suc k) lt at came on = absurd (omega arith)
  left_at s₀ (t ∷ ss) turn s (suc k) lt at came on = let r = left_at t ss turn.1 s k (omega arith) at came on in
      let e = turn.0.1 r.0 in (e.0, (λ i. e.1 i ++ r.1 i))

  pub left_here : (ss : List (Segment T)) → InTurn ss → (s : Segment T) → Contains ss s
      → s.is_visited ≡ true → s.is_over ≡ false → left (lives ss) ≡ s.history.rest
  left_here [] turn s has came on = absurd (omega (arith, has.1))
  left_here (t ∷ ss) turn s has came on = (left_at t ss turn s has.0 has.1 has.2 came on).1

  pub all_taken : (ss : List (Segment T)) → All (λ s. s.history.rest ≡ []) ss → left (lives ss) ≡ []
  all_taken [] none = refl
  all_taken (s ∷ ss) none = (λ i. All-head (λ s. s.history.rest ≡ []) s ss none i
      ++ all_taken ss (All-tail (λ s. s.history.rest ≡ []) s ss none) i)

  -- ---- sleep
  keeps_at : (ss : List (Segment T)) → EachKeeps ss → (s : Segment T) (k : ℕ)
      → k < length ss → slice_index_or ss k s ≡ s → Keeps s
  keeps_at [] keep s k lt at = absurd (omega arith)
  keeps_at (t ∷ ss) keep s zero lt at = subst (λ x. Keeps x) at keep.0
  keeps_at (t ∷ ss) keep s (suc k) lt at = keeps_at ss keep.1 s k (omega arith) at

  pub awake_of : (ss : List (Segment T)) → EachKeeps ss → InTurn ss → (s : Segment T) → Contains ss s
      → IsAwake (s.is_over ≡ false) (length (left (lives ss))) s.sleepers
  awake_of ss keep turn s has few = over s.is_over refl
    where
      here : s.is_over ≡ false → (v : Bool) → s.is_visited ≡ v
          → length (left (lives ss)) ≤ s.sleepers.tokens + s.sleepers.owed + s.sleepers.owed_to_all
      here on false is = let z = ((keeps_at ss keep s has.0 has.1 has.2).unvisited is).1 in absurd (omega arith)
      here on true is = let e = ap length (left_here ss turn s has is on) in
          ⊎_elim (λ q. absurd (omega arith)) (λ q. omega arith) (keeps_at ss keep s has.0 has.1 has.2).quiet

      paid : (n : ℕ) → s.sleepers.owed_to_all ≡ n → s.is_over ≡ false → (0 < s.sleepers.owed_to_all)
          ⊎ ((s.is_over ≡ false) × (length (left (lives ss)) ≤ s.sleepers.tokens + s.sleepers.owed))
      paid zero e is = let h = here is s.is_visited refl in inr (is, omega arith)
      paid (suc n) e is = inl (omega arith)

      over : (b : Bool) → s.is_over ≡ b → (0 < s.sleepers.owed_to_all)
          ⊎ ((s.is_over ≡ false) × (length (left (lives ss)) ≤ s.sleepers.tokens + s.sleepers.owed))
      over true is = ⊎_elim (λ q. absurd (omega arith)) (λ q. inl q) ((keeps_at ss keep s has.0 has.1 has.2).shut is)
      over false is = paid s.sleepers.owed_to_all refl is
