-- What the visits of an end say, segment by segment.
use Rattle.std.proofs.Common.{ℕ, zero, suc, Bool, true, false, List, [], length, map, nat_eq, sym, refl, ap, subst, arith, eq-eqb, ne_eqb}
use Rattle.std.proofs.Common.{◌≡◌, ◌≢◌, ◌+◌, ◌<◌, ◌≤◌, ◌∷◌, ◌++◌, ◌∙◌, if◌then◌else◌}
use native.Mathlib.Decide.{dec_lt, ℕ_discrete}
use Rattle.std.proofs.lemmas.List.{append-nil, append_assoc}
use Rattle.mb_segment.specs.History as seg
use Rattle.mb_segment.specs.Passes.{Match}
use Rattle.mb_channel.specs.Types.{Account, Home, Position, Visit}
use Rattle.mb_channel.specs.ChannelTheorem.{Spot}
use Rattle.mb_channel.specs.Homes.{AllMade, Falls, Made, came_back, made_by, made_in}
use Rattle.mb_channel.specs.Stays.{Stay, log_of, moved_by}
use Rattle.mb_channel.specs.Lives.{count_sent, placed, start}
use Rattle.mb_channel.proofs.Accounts.{accounts, made_at, pos, stay, stays_of}

module _ {T : Type 0} where
  -- what the accounts of the visits list, by its places, the oldest first
  abbrev pub spots_in : (Account T → List (Position T)) → List (Home T) → List (Visit T) → List (Spot T)
  spots_in f hs [] = []
  spots_in f hs (v ∷ vs) = spots_in f hs vs ++ map (placed (start hs v.segment)) (f v.account)

  -- the visit to segment k, if there is one
  abbrev pub at_visit : (Account T → List (Position T)) → ℕ → List (Visit T) → List (Position T)
  at_visit f k [] = []
  at_visit f k (v ∷ vs) = if nat_eq v.segment k then f v.account else at_visit f k vs

  -- of the segments from k on, which starts at place p
  abbrev pub rows : (Account T → List (Position T)) → ℕ → ℕ → List (Home T) → List (Visit T) → List (Spot T)
  rows f k p [] vs = []
  rows f k p (h ∷ hs) vs = map (placed p) (at_visit f k vs) ++ rows f (suc k) (p + count_sent (came_back h)) hs vs

  here : (f : Account T → List (Position T)) (k : ℕ) (v : Visit T) (vs : List (Visit T)) → v.segment ≡ k
      → at_visit f k (v ∷ vs) ≡ f v.account
  here f k v vs e = ap (λ (b : Bool). if b then f v.account else at_visit f k vs) (eq-eqb v.segment k e)

  elsewhere : (f : Account T → List (Position T)) (k : ℕ) (v : Visit T) (vs : List (Visit T)) → v.segment ≢ k
      → at_visit f k (v ∷ vs) ≡ at_visit f k vs
  elsewhere f k v vs e = ap (λ (b : Bool). if b then f v.account else at_visit f k vs) (ne_eqb v.segment k e)

  none_here : (f : Account T → List (Position T)) (k b : ℕ) (vs : List (Visit T)) → Falls b vs → b ≤ k
      → at_visit f k vs ≡ []
  none_here f k b [] falls low = refl
  none_here f k b (v ∷ vs) falls low = let l = falls.0 in
      elsewhere f k v vs (λ e. omega arith) ∙ none_here f k v.segment vs falls.1 (omega arith)

  no_rows : (f : Account T → List (Position T)) (k p b : ℕ) (hs : List (Home T)) (vs : List (Visit T)) → Falls b vs
      → b ≤ k → rows f k p hs vs ≡ []
  no_rows f k p b [] vs falls low = refl
  no_rows f k p b (h ∷ hs) vs falls low = let q = p + count_sent (came_back h) in
      λ i. map (placed p) (none_here f k b vs falls low i) ++ no_rows f (suc k) q b hs vs falls (omega arith) i

  -- the newest visit comes last
  one_row : (f : Account T → List (Position T)) (j k p : ℕ) (hs : List (Home T)) (v : Visit T) (vs : List (Visit T))
      → v.segment ≡ k + j → j < length hs → Falls v.segment vs
      → rows f k p hs (v ∷ vs) ≡ rows f k p hs vs ++ map (placed (p + start hs j)) (f v.account)
  one_row f j k p [] v vs e lt falls = absurd (omega arith)
  one_row f zero k p (h ∷ hs) v vs e lt falls =
      let q = p + count_sent (came_back h) in
      let a = none_here f k v.segment vs falls (omega arith) in
      let b = no_rows f (suc k) q (suc k) hs (v ∷ vs) (omega arith, falls) (omega arith) in
      let c = no_rows f (suc k) q v.segment hs vs falls (omega arith) in
      let at = here f k v vs (omega arith) in
      let z : p ≡ p + 0 = omega arith in
      (λ i. map (placed p) (at i) ++ b i) ∙ append-nil (map (placed p) (f v.account))
      ∙ (λ i. map (placed (z i)) (f v.account))
      ∙ sym (λ i. (map (placed p) (a i) ++ c i) ++ map (placed (p + 0)) (f v.account))
  one_row f (suc j) k p (h ∷ hs) v vs e lt falls =
      let q = p + count_sent (came_back h) in
      let off = elsewhere f k v vs (λ d. omega arith) in
      let rec = one_row f j (suc k) q hs v vs (omega arith) (omega arith) falls in
      let z : q + start hs j ≡ p + (count_sent (came_back h) + start hs j) = omega arith in
      (λ i. map (placed p) (off i) ++ rec i)
      ∙ sym (append_assoc (map (placed p) (at_visit f k vs)) (rows f (suc k) q hs vs)
      (map (placed (q + start hs j)) (f v.account)))
      ∙ (λ i. (map (placed p) (at_visit f k vs) ++ rows f (suc k) q hs vs) ++ map (placed (z i)) (f v.account))

  weaker : (b c : ℕ) (vs : List (Visit T)) → Falls b vs → b ≤ c → Falls c vs
  weaker b c [] falls le = tt
  weaker b c (v ∷ vs) falls le = let l = falls.0 in (omega arith, falls.1)

  pub all_rows : (f : Account T → List (Position T)) (hs : List (Home T)) (vs : List (Visit T)) → Falls (length hs) vs
      → spots_in f hs vs ≡ rows f 0 0 hs vs
  all_rows f hs [] falls = sym (no_rows f 0 0 0 hs [] tt (omega arith))
  all_rows f hs (v ∷ vs) falls = let l = falls.0 in
      let z : start hs v.segment ≡ 0 + start hs v.segment = omega arith in
      (λ i. all_rows f hs vs (weaker v.segment (length hs) vs falls.1 (omega arith)) i
      ++ map (placed (z i)) (f v.account))
      ∙ sym (one_row f v.segment 0 0 hs v vs (omega arith) falls.0 falls.1)

  -- ---- each segment that was visited is there
  pub within : (n : ℕ) (all : List (Made T)) → ((k : ℕ) → n ≤ k → made_in k all ≡ [])
      → AllMade (λ m. m.visit.segment < n) all
  within n [] none_behind = tt
  within n (m ∷ ms) none_behind = (first, within n ms behind)
    where
      seen : (k : ℕ) → m.visit.segment ≡ k → made_in k (m ∷ ms) ≡ m.visit.account ∷ made_in k ms
      seen k e = ap (λ (b : Bool). if b then m.visit.account ∷ made_in k ms else made_in k ms)
          (eq-eqb m.visit.segment k e)

      first : m.visit.segment < n
      first = go (dec_lt m.visit.segment n)
        where
          go : Dec (m.visit.segment < n) → m.visit.segment < n
          go (yes lt) = lt
          go (no far) = let le : n ≤ m.visit.segment = omega arith in
              let z = ap length (sym (seen m.visit.segment refl) ∙ none_behind m.visit.segment le) in
              absurd (omega arith)

      behind : (k : ℕ) → n ≤ k → made_in k ms ≡ []
      behind k le = go (ℕ_discrete m.visit.segment k)
        where
          go : Dec (m.visit.segment ≡ k) → made_in k ms ≡ []
          go (yes e) = let z = ap length (sym (seen k e) ∙ none_behind k le) in absurd (omega arith)
          go (no e) = sym (ap (λ (b : Bool). if b then m.visit.account ∷ made_in k ms else made_in k ms)
              (ne_eqb m.visit.segment k e)) ∙ none_behind k le

  pub falls_within : (b c n : ℕ) (all : List (Made T)) → AllMade (λ m. m.visit.segment < c) all
      → Falls b (made_by n all) → Falls c (made_by n all)
  falls_within b c n [] low falls = tt
  falls_within b c n (m ∷ ms) low falls = go (nat_eq m.by n) (falls_within b c n ms low.1) falls
    where
      go : (d : Bool) → (Falls b (made_by n ms) → Falls c (made_by n ms))
          → Falls b (if d then m.visit ∷ made_by n ms else made_by n ms)
          → Falls c (if d then m.visit ∷ made_by n ms else made_by n ms)
      go true rec f = (low.0, f.1)
      go false rec f = rec f

  -- ---- what the stays say of an end is what its visits say
  abbrev LogsHere : (Stay T → List (Spot T)) → (Account T → List (Position T)) → ℕ → ℕ → seg.History T → List (Made T)
      → Type 0
  LogsHere f g n k h ms = (ns : List ℕ) → Match h ns (accounts (made_at k ms))
      → log_of f n (stays_of ns (made_at k ms)) ≡ map pos (at_visit g k (made_by n ms))

  pub log_here : (f : Stay T → List (Spot T)) (g : Account T → List (Position T))
      → ((n : ℕ) (m : Made T) → f (stay n m) ≡ map pos (g m.visit.account))
      → (n k : ℕ) (h : seg.History T) (ns : List ℕ) (all : List (Made T)) → Match h ns (accounts (made_at k all))
      → log_of f n (stays_of ns (made_at k all)) ≡ map pos (at_visit g k (made_by n all))
  log_here f g same n k h ns [] is = refl
  log_here f g same n k h ns (m ∷ ms) is = go (λ is it. log_here f g same n k h is ms it)
      (ℕ_discrete m.visit.segment k)
    where
      off : m.visit.segment ≢ k → (b : Bool) → at_visit g k (if b then m.visit ∷ made_by n ms else made_by n ms)
          ≡ at_visit g k (made_by n ms)
      off e true = elsewhere g k m.visit (made_by n ms) e
      off e false = refl

      on : LogsHere f g n k h ms → m.visit.segment ≡ k → (ns : List ℕ) → Match h ns (accounts (m ∷ made_at k ms))
          → log_of f n (stays_of ns (m ∷ made_at k ms)) ≡ map pos (at_visit g k (made_by n (m ∷ ms)))
      on rec e [] it = absurd it
      on rec e (i ∷ is) it = one (nat_eq m.by n) (rec is it.3)
        where
          one : (b : Bool) → log_of f n (stays_of is (made_at k ms)) ≡ map pos (at_visit g k (made_by n ms))
              → (if b then f (stay i m) else log_of f n (stays_of is (made_at k ms)))
              ≡ map pos (at_visit g k (if b then m.visit ∷ made_by n ms else made_by n ms))
          one true l = same i m ∙ ap (map pos) (sym (here g k m.visit (made_by n ms) e))
          one false l = l

      go : LogsHere f g n k h ms → Dec (m.visit.segment ≡ k)
          → log_of f n (stays_of ns (made_at k (m ∷ ms))) ≡ map pos (at_visit g k (made_by n (m ∷ ms)))
      go rec (yes e) = let q = ap (λ (b : Bool). if b then m ∷ made_at k ms else made_at k ms)
          (eq-eqb m.visit.segment k e) in
          ap (λ l. log_of f n (stays_of ns l)) q ∙ on rec e ns (subst (λ l. Match h ns (accounts l)) q is)
      go rec (no e) = let q = ap (λ (b : Bool). if b then m ∷ made_at k ms else made_at k ms)
          (ne_eqb m.visit.segment k e) in
          ap (λ l. log_of f n (stays_of ns l)) q
          ∙ rec ns (subst (λ l. Match h ns (accounts l)) q is)
          ∙ ap (map pos) (sym (off e (nat_eq m.by n)))

  pub moved_placed : (p : ℕ) (xs : List (Position T)) → map (moved_by p) (map pos xs) ≡ map (placed p) xs
  moved_placed p [] = refl
  moved_placed p (x ∷ xs) = ap (λ l. placed p x ∷ l) (moved_placed p xs)
