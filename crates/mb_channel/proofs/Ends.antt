-- What ends did is what their passes did.
use Rattle.std.proofs.Common.{ℕ, suc, Bool, true, false, List, [], Option, Some, None, length, map, nat_eq, sym, refl, ap, subst, inl, inr, ⊎_elim, arith, eq-eqb, ne_eqb}
use Rattle.std.proofs.Common.{◌≡◌, ◌≢◌, ◌+◌, ◌∷◌, ◌++◌, if◌then◌else◌, ◌∙◌}
use native.Mathlib.Decide.{ℕ_discrete}
use Rattle.std.proofs.lemmas.List.{length-map, length-append, map-append}
use Rattle.mb_channel.specs.ChannelTheorem.{Claim, Entry, History, Spot, TakenInTurn, entries, left, spots_by, spots_to, taken}
use Rattle.mb_channel.specs.Segments.{drawn, logs_by, logs_to}
use Rattle.mb_channel.specs.Stays.{AllBy, AllTo, AreApart, DidSo, IsEnd, IsPass, Stay, Told, by_ends, end_of, life_of, log_of, logs_of, moved_by, named, named_claim}

abbrev is_it : Option ℕ → ℕ → Bool
is_it None m = false
is_it (Some q) m = nat_eq m q

module _ {T : Type 0} where
  -- the pass that end n had
  abbrev pass_of : ℕ → List (Stay T) → Option ℕ
  pass_of n [] = None
  pass_of n (s ∷ ss) = if nat_eq s.end n then Some s.pass else pass_of n ss

  named_so : (s : Stay T) (ss : List (Stay T)) (m : ℕ) → s.pass ≡ m → end_of (s ∷ ss) m ≡ s.end
  named_so s ss m e = ap (λ (b : Bool). if b then s.end else end_of ss m) (eq-eqb s.pass m e)

  named_behind : (s : Stay T) (ss : List (Stay T)) (m : ℕ) → (s.pass ≢ m) → end_of (s ∷ ss) m ≡ end_of ss m
  named_behind s ss m ne = ap (λ (b : Bool). if b then s.end else end_of ss m) (ne_eqb s.pass m ne)

  is_end : (ss : List (Stay T)) (m : ℕ) → IsPass m ss → IsEnd (end_of ss m) ss
  is_end [] m is = absurd is
  is_end (s ∷ ss) m is = go (ℕ_discrete s.pass m) (is_end ss m)
    where
      go : Dec (s.pass ≡ m) → (IsPass m ss → IsEnd (end_of ss m) ss) → IsEnd (end_of (s ∷ ss) m) (s ∷ ss)
      go (yes e) rec = inl (named_so s ss m e)
      go (no ne) rec = ⊎_elim (λ e. absurd (ne (sym e)))
          (λ r. inr (subst (λ n. IsEnd n ss) (sym (named_behind s ss m ne)) (rec r))) is

  not_it : (ss : List (Stay T)) (n m : ℕ) → (IsPass m ss → ⊥) → is_it (pass_of n ss) m ≡ false
  not_it [] n m un = refl
  not_it (s ∷ ss) n m un = go (nat_eq s.end n) (not_it ss n m (λ r. un (inr r)))
    where
      go : (b : Bool) → is_it (pass_of n ss) m ≡ false → is_it (if b then Some s.pass else pass_of n ss) m ≡ false
      go true rec = ne_eqb m s.pass (λ e. un (inl e))
      go false rec = rec

  -- an entry is end n's exactly if it is of the pass that end n had
  same_test : (ss : List (Stay T)) (n m : ℕ) → AreApart ss → IsPass m ss
      → nat_eq (end_of ss m) n ≡ is_it (pass_of n ss) m
  same_test [] n m apart is = absurd is
  same_test (s ∷ ss) n m apart is = go (ℕ_discrete s.pass m) (ℕ_discrete s.end n) (same_test ss n m apart.2)
    where
      go : Dec (s.pass ≡ m) → Dec (s.end ≡ n) → (IsPass m ss → nat_eq (end_of ss m) n ≡ is_it (pass_of n ss) m)
          → nat_eq (end_of (s ∷ ss) m) n ≡ is_it (pass_of n (s ∷ ss)) m
      go (yes p) (yes q) rec = ap (λ k. nat_eq k n) (named_so s ss m p) ∙ eq-eqb s.end n q
          ∙ sym (eq-eqb m s.pass (sym p))
          ∙ ap (λ (b : Bool). is_it (if b then Some s.pass else pass_of n ss) m) (sym (eq-eqb s.end n q))
      go (yes p) (no nq) rec = ap (λ k. nat_eq k n) (named_so s ss m p) ∙ ne_eqb s.end n nq
          ∙ sym (not_it ss n m (λ r. apart.0 (subst (λ k. IsPass k ss) (sym p) r)))
          ∙ ap (λ (b : Bool). is_it (if b then Some s.pass else pass_of n ss) m) (sym (ne_eqb s.end n nq))
      go (no np) (yes q) rec = ap (λ k. nat_eq k n) (named_behind s ss m np)
          ∙ ne_eqb (end_of ss m) n (λ e. apart.1 (subst (λ k. IsEnd k ss) (e ∙ sym q)
          (is_end ss m (⊎_elim (λ d. absurd (np (sym d))) (λ r. r) is))))
          ∙ sym (ne_eqb m s.pass (λ e. np (sym e)))
          ∙ ap (λ (b : Bool). is_it (if b then Some s.pass else pass_of n ss) m) (sym (eq-eqb s.end n q))
      go (no np) (no nq) rec = ap (λ k. nat_eq k n) (named_behind s ss m np)
          ∙ rec (⊎_elim (λ d. absurd (np (sym d))) (λ r. r) is)
          ∙ ap (λ (b : Bool). is_it (if b then Some s.pass else pass_of n ss) m) (sym (ne_eqb s.end n nq))

  -- the spots of the pass that may be there
  abbrev by_pass : Option ℕ → ℕ → List (Entry T) → List (Spot T)
  by_pass None p es = []
  by_pass (Some q) p es = spots_by q p es

  abbrev to_pass : Option ℕ → ℕ → List (Claim T) → List (Spot T)
  to_pass None p cs = []
  to_pass (Some q) p cs = spots_to q p cs

  by_none : (o : Option ℕ) (p : ℕ) → [] ≡ by_pass o p []
  by_none None p = refl
  by_none (Some q) p = refl

  to_none : (o : Option ℕ) (p : ℕ) → [] ≡ to_pass o p []
  to_none None p = refl
  to_none (Some q) p = refl

  by_one : (o : Option ℕ) (p : ℕ) (e : Entry T) (es : List (Entry T))
      → (if is_it o e.by then record { at = p; value = e.value } ∷ [] else [])
      ++ by_pass o (suc p) es ≡ by_pass o p (e ∷ es)
  by_one None p e es = refl
  by_one (Some q) p e es = refl

  to_one : (o : Option ℕ) (p : ℕ) (c : Claim T) (cs : List (Claim T))
      → (if is_it o c.to then record { at = p; value = c.entry.value } ∷ [] else [])
      ++ to_pass o (suc p) cs ≡ to_pass o p (c ∷ cs)
  to_one None p c cs = refl
  to_one (Some q) p c cs = refl

  by_named : (ss : List (Stay T)) (n p : ℕ) → AreApart ss → (es : List (Entry T)) → AllBy ss es
      → spots_by n p (map (named ss) es) ≡ by_pass (pass_of n ss) p es
  by_named ss n p apart [] all = by_none (pass_of n ss) p
  by_named ss n p apart (e ∷ es) all =
      (λ i. (if same_test ss n e.by apart all.0 i then record { at = p; value = e.value } ∷ [] else [])
      ++ by_named ss n (suc p) apart es all.1 i)
      ∙ by_one (pass_of n ss) p e es

  to_named : (ss : List (Stay T)) (n p : ℕ) → AreApart ss → (cs : List (Claim T)) → AllTo ss cs
      → spots_to n p (map (named_claim ss) cs) ≡ to_pass (pass_of n ss) p cs
  to_named ss n p apart [] all = to_none (pass_of n ss) p
  to_named ss n p apart (c ∷ cs) all =
      (λ i. (if same_test ss n c.to apart all.0 i then record { at = p; value = c.entry.value } ∷ [] else [])
      ++ to_named ss n (suc p) apart cs all.1 i)
      ∙ to_one (pass_of n ss) p c cs

  sent_here : (h : History T) (n : ℕ) (ss : List (Stay T)) → DidSo h ss
      → log_of (λ s. s.sent) n ss ≡ by_pass (pass_of n ss) 0 (entries h.claims ++ h.rest)
  sent_here h n [] did = refl
  sent_here h n (s ∷ ss) did = go (nat_eq s.end n) (sent_here h n ss did.2)
    where
      go : (b : Bool) → log_of (λ s. s.sent) n ss ≡ by_pass (pass_of n ss) 0 (entries h.claims ++ h.rest)
          → (if b then s.sent else log_of (λ s. s.sent) n ss)
          ≡ by_pass (if b then Some s.pass else pass_of n ss) 0 (entries h.claims ++ h.rest)
      go true rec = did.0
      go false rec = rec

  got_here : (h : History T) (n : ℕ) (ss : List (Stay T)) → DidSo h ss
      → log_of (λ s. s.got) n ss ≡ to_pass (pass_of n ss) 0 h.claims
  got_here h n [] did = refl
  got_here h n (s ∷ ss) did = go (nat_eq s.end n) (got_here h n ss did.2)
    where
      go : (b : Bool) → log_of (λ s. s.got) n ss ≡ to_pass (pass_of n ss) 0 h.claims
          → (if b then s.got else log_of (λ s. s.got) n ss)
          ≡ to_pass (if b then Some s.pass else pass_of n ss) 0 h.claims
      go true rec = did.1
      go false rec = rec

  -- places of a segment become places of the channel
  by_moved : (q p k : ℕ) (es : List (Entry T)) → map (moved_by p) (spots_by q k es) ≡ spots_by q (p + k) es
  by_moved q p k [] = refl
  by_moved q p k (e ∷ es) = go (nat_eq e.by q) (by_moved q p (suc k) es)
    where
      go : (b : Bool) → map (moved_by p) (spots_by q (suc k) es) ≡ spots_by q (p + suc k) es
          → map (moved_by p) ((if b then record { at = k; value = e.value } ∷ [] else []) ++ spots_by q (suc k) es)
          ≡ (if b then record { at = p + k; value = e.value } ∷ [] else []) ++ spots_by q (suc (p + k)) es
      go true rec = let n : p + suc k ≡ suc (p + k) = omega arith in
          ap (λ l. record { at = p + k; value = e.value } ∷ l) (rec ∙ ap (λ x. spots_by q x es) n)
      go false rec = let n : p + suc k ≡ suc (p + k) = omega arith in rec ∙ ap (λ x. spots_by q x es) n

  to_moved : (q p k : ℕ) (cs : List (Claim T)) → map (moved_by p) (spots_to q k cs) ≡ spots_to q (p + k) cs
  to_moved q p k [] = refl
  to_moved q p k (c ∷ cs) = go (nat_eq c.to q) (to_moved q p (suc k) cs)
    where
      go : (b : Bool) → map (moved_by p) (spots_to q (suc k) cs) ≡ spots_to q (p + suc k) cs
          → map (moved_by p) ((if b then record { at = k; value = c.entry.value } ∷ [] else [])
          ++ spots_to q (suc k) cs)
          ≡ (if b then record { at = p + k; value = c.entry.value } ∷ [] else []) ++ spots_to q (suc (p + k)) cs
      go true rec = let n : p + suc k ≡ suc (p + k) = omega arith in
          ap (λ l. record { at = p + k; value = c.entry.value } ∷ l) (rec ∙ ap (λ x. spots_to q x cs) n)
      go false rec = let n : p + suc k ≡ suc (p + k) = omega arith in rec ∙ ap (λ x. spots_to q x cs) n

  by_placed : (o : Option ℕ) (p : ℕ) (es : List (Entry T)) → map (moved_by p) (by_pass o 0 es) ≡ by_pass o p es
  by_placed None p es = refl
  by_placed (Some q) p es = let n : p + 0 ≡ p = omega arith in by_moved q p 0 es ∙ ap (λ x. spots_by q x es) n

  to_placed : (o : Option ℕ) (p : ℕ) (cs : List (Claim T)) → map (moved_by p) (to_pass o 0 cs) ≡ to_pass o p cs
  to_placed None p cs = refl
  to_placed (Some q) p cs = let n : p + 0 ≡ p = omega arith in to_moved q p 0 cs ∙ ap (λ x. spots_to q x cs) n

  entries_named : (ss : List (Stay T)) (cs : List (Claim T))
      → entries (map (named_claim ss) cs) ≡ map (named ss) (entries cs)
  entries_named ss [] = refl
  entries_named ss (c ∷ cs) = ap (λ l. named ss c.entry ∷ l) (entries_named ss cs)

  all_named : (t : Told T)
      → entries (by_ends t).claims ++ (by_ends t).rest
      ≡ map (named t.stays) (entries t.history.claims ++ t.history.rest)
  all_named t = ap (λ l. l ++ map (named t.stays) t.history.rest) (entries_named t.stays t.history.claims)
      ∙ sym (map-append (named t.stays) (entries t.history.claims) t.history.rest)

  drawn_named : (t : Told T) → drawn (by_ends t) ≡ drawn t.history
  drawn_named t = ap length (all_named t) ∙ length-map (entries t.history.claims ++ t.history.rest) (named t.stays)

  sent_part : (n p : ℕ) (t : Told T)
      → map (moved_by p) (log_of (λ s. s.sent) n t.stays)
      ≡ spots_by n p (entries (by_ends t).claims ++ (by_ends t).rest)
  sent_part n p t = ap (map (moved_by p)) (sent_here t.history n t.stays t.did)
      ∙ by_placed (pass_of n t.stays) p (entries t.history.claims ++ t.history.rest)
      ∙ sym (by_named t.stays n p t.apart (entries t.history.claims ++ t.history.rest) t.senders)
      ∙ ap (spots_by n p) (sym (all_named t))

  got_part : (n p : ℕ) (t : Told T) → map (moved_by p) (log_of (λ s. s.got) n t.stays) ≡ spots_to n p (by_ends t).claims
  got_part n p t = ap (map (moved_by p)) (got_here t.history n t.stays t.did)
      ∙ to_placed (pass_of n t.stays) p t.history.claims
      ∙ sym (to_named t.stays n p t.apart t.history.claims t.receivers)

  pub sent_so : (n p : ℕ) (ts : List (Told T)) → logs_of (λ s. s.sent) n p ts ≡ logs_by n p (life_of ts)
  sent_so n p [] = refl
  sent_so n p (t ∷ ts) = (λ i. sent_part n p t i ++ sent_so n (p + drawn t.history) ts i)
      ∙ ap (λ q. spots_by n p (entries (by_ends t).claims ++ (by_ends t).rest) ++ logs_by n (p + q) (life_of ts))
      (sym (drawn_named t))

  pub got_so : (n p : ℕ) (ts : List (Told T)) → logs_of (λ s. s.got) n p ts ≡ logs_to n p (life_of ts)
  got_so n p [] = refl
  got_so n p (t ∷ ts) = (λ i. got_part n p t i ++ got_so n (p + drawn t.history) ts i)
      ∙ ap (λ q. spots_to n p (by_ends t).claims ++ logs_to n (p + q) (life_of ts)) (sym (drawn_named t))

  -- ---- turn, and what is left
  empty_named : (ss : List (Stay T)) (es : List (Entry T)) → es ≡ [] → map (named ss) es ≡ []
  empty_named ss es e = ap (map (named ss)) e

  none_taken : (ts : List (Told T)) → taken (map (λ t. t.history) ts) ≡ [] → taken (life_of ts) ≡ []
  none_taken [] e = refl
  none_taken (t ∷ ts) e =
      let l = length-append t.history.claims (taken (map (λ t. t.history) ts)) in
      let z = ap length e in
      (λ i. map (named_claim t.stays) (nothing t.history.claims (omega arith) i)
      ++ none_taken ts (nothing (taken (map (λ t. t.history) ts)) (omega arith)) i)
    where
      nothing : {A : Type 0} (xs : List A) → length xs ≡ 0 → xs ≡ []
      nothing [] q = refl
      nothing (x ∷ xs) q = absurd (omega arith)

  pub turn_so : (ts : List (Told T)) → TakenInTurn (map (λ t. t.history) ts) → TakenInTurn (life_of ts)
  turn_so [] turn = tt
  turn_so (t ∷ ts) turn = (
    ⊎_elim (λ e. inl (empty_named t.stays t.history.rest e)) (λ e. inr (none_taken ts e)) turn.0,
    turn_so ts turn.1,
  )

  values_named : (ss : List (Stay T)) (es : List (Entry T))
      → map (λ e. e.value) (map (named ss) es) ≡ map (λ e. e.value) es
  values_named ss [] = refl
  values_named ss (e ∷ es) = ap (λ l. e.value ∷ l) (values_named ss es)

  pub left_so : (ts : List (Told T))
      → map (λ e. e.value) (left (map (λ t. t.history) ts)) ≡ map (λ e. e.value) (left (life_of ts))
  left_so [] = refl
  left_so (t ∷ ts) = map-append (λ e. e.value) t.history.rest (left (map (λ t. t.history) ts))
      ∙ (λ i. sym (values_named t.stays t.history.rest) i ++ left_so ts i)
      ∙ sym (map-append (λ e. e.value) (map (named t.stays) t.history.rest) (left (life_of ts)))
