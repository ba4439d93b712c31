use Rattle.mb_segment.proofs.Base.{List, [], ap, arith, get_elem?, inl, inr, refl, some, some-injective, ⊎_elim}
use Rattle.mb_segment.proofs.Base.{some-ne-none, subst, suc, sym, zero, ℕ, ◌∙◌, ◌∷◌, ◌≡◌, ◌≢◌}
use Rattle.mb_segment.specs.Vocabulary.{Account, Claim, Distinct, Entry, Has, History, In, Match, Spot, got_by, has_cut}
use Rattle.mb_segment.specs.SegmentSamples.{claim, entry, history}
use Rattle.mb_segment.proofs.Spots.{same_some}
use Rattle.mb_segment.proofs.Places.{claimed_at, is_cutter}
use Rattle.mb_segment.proofs.samples.sample_ends.Goals as goal

sent_here : (k : ℕ) (e : Entry ℕ) → get_elem? (entry 1 10 ∷ entry 1 11 ∷ []) k ≡ some e → In e.by (1 ∷ 2 ∷ [])
sent_here zero e at = inl (sym (ap (λ (y : Entry ℕ). y.by) (some-injective (entry 1 10) e at)))
sent_here (suc zero) e at = inl (sym (ap (λ (y : Entry ℕ). y.by) (some-injective (entry 1 11) e at)))
sent_here (suc (suc k)) e at = absurd (some-ne-none e (sym at))

claimed_here : (k : ℕ) (c : Claim ℕ) → get_elem? (claim 1 10 2 ∷ []) k ≡ some c → In c.to (1 ∷ 2 ∷ [])
claimed_here zero c at = inr (inl (sym (ap (λ (y : Claim ℕ). y.to) (some-injective (claim 1 10 2) c at))))
claimed_here (suc k) c at = absurd (some-ne-none c (sym at))

pub returns-clause-admitted : goal.returns-clause-admitted
returns-clause-admitted c = record {
  history = history;
  numbers = 1 ∷ 2 ∷ [];
  apart = ((λ in_. ⊎_elim (λ q. absurd (omega arith)) (λ i. i) in_), ((λ in_. in_), tt));
  accounts_ = (refl, refl, refl, (refl, refl, refl, tt));
  senders = sent_here;
  receivers = claimed_here;
  closer = λ n e. inl (sym (same_some 1 n e));
  left_is = refl;
  heeds = ((omega arith, (omega arith, tt)), tt, (tt, (omega arith, tt), tt));
}

-- two accounts are those of two numbers
two : (h : History ℕ) (x y : Account ℕ) (ns : List ℕ) → Distinct ns → Match h ns (x ∷ y ∷ [])
    → (a : ℕ) × (b : ℕ) × (a ≢ b) × (x.got ≡ got_by a h) × (y.got ≡ got_by b h) × (x.cut ≡ has_cut a h)
    × (y.cut ≡ has_cut b h)
two h x y [] d m = absurd m
two h x y (a ∷ []) d m = absurd m.3
two h x y (a ∷ b ∷ []) d m = (a, b, (λ q. d.0 (inl q)), m.1, m.3.1, m.2, m.3.2)
two h x y (a ∷ b ∷ c ∷ ns) d m = absurd m.3.3

pub returns-clause-twice : goal.returns-clause-twice
returns-clause-twice c left w =
    let h = w.history in
    let t = two h _ _ w.numbers w.apart w.accounts_ in
    let x = claimed_at t.0 0 10 0 h.claims (subst (λ (l : List (Spot ℕ)). Has 0 10 l) t.3 (inl (refl, refl))) in
    let y = claimed_at t.1 0 10 0 h.claims (subst (λ (l : List (Spot ℕ)). Has 0 10 l) t.4 (inl (refl, refl))) in
    let p = x.2 in let q = y.2 in
    let m : x.0 ≡ y.0 = omega arith in
    let one : x.1 ≡ y.1 = some-injective x.1 y.1 (sym x.3 ∙ (ap (get_elem? h.claims) m ∙ y.3)) in
    t.2 (sym x.4 ∙ (ap (λ (c : Claim ℕ). c.to) one ∙ y.4))

pub returns-clause-cutters : goal.returns-clause-cutters
returns-clause-cutters c left w =
    let t = two w.history _ _ w.numbers w.apart w.accounts_ in
    t.2 (same_some t.0 t.1 (sym (is_cutter t.0 w.history.cutter (sym t.5)).1
    ∙ (is_cutter t.1 w.history.cutter (sym t.6)).1))

pub returns-clause-unheeded : goal.returns-clause-unheeded
returns-clause-unheeded c left w = let le = w.heeds.0.0 in absurd (omega arith)
