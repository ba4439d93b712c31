-- A view that differs a little still fits.
use Rattle.mb_segment.proofs.Base.{List, Some, ap, get_elem?, length, some, subst, sym, true, ℕ}
use Rattle.mb_segment.proofs.Base.{◌<◌, ◌∙◌, ◌∷◌, ◌≡◌, ◌≢◌, ◌≤◌}
use Rattle.mb_segment.specs.Vocabulary.{Account, AllHeed, Duty, Fits, Half, HalfFits, History, IsAware, Known, Match}
use Rattle.mb_segment.specs.Vocabulary.{Member, Sight, View, drawn, no_duty, taken}

module _ {T : Type 0} where
  -- ---- a view that differs in what it owes alone. Only a pass owes anything
  abbrev pub StaysIdle : View T → Duty → Type 0
  StaysIdle v d = (v.role ≡ Member → ⊥) → v.duty ≡ no_duty → d ≡ no_duty

  abbrev pub Plain : View T → View T → Type 0
  Plain v w = (w.role ≡ v.role) × (w.account ≡ v.account) × (w.half ≡ v.half) × (w.sight ≡ v.sight)
      × (w.over ≡ v.over) × (w.ends ≡ v.ends) × (w.known ≡ v.known) × StaysIdle v w.duty

  pub refit : (h : History T) (states : List ℕ) (cut hub : ℕ) (roll : List ℕ) (n : ℕ) (v w : View T) → Plain v w
      → Fits h states cut hub roll n v → Fits h states cut hub roll n w
  refit h states cut hub roll n v w p f = record {
    member = λ r. let m = f.member (sym p.0 ∙ r) in record {
      sent = ap (λ (a : Account T). a.sent) p.1 ∙ m.sent;
      got = ap (λ (a : Account T). a.got) p.1 ∙ m.got;
      cut = ap (λ (a : Account T). a.cut) p.1 ∙ m.cut;
      no_hub = m.no_hub;
      not_back = m.not_back;
    };
    hub_ = λ r. let m = f.hub_ (sym p.0 ∙ r) in record {
      here = m.here;
      ends = subst (λ (as_ : List (Account T)). Match h roll as_) (sym p.5) m.ends;
      nothing = p.2 ∙ m.nothing;
      idle = ap (λ (a : Account T). a.sent) p.1 ∙ m.idle;
    };
    back = λ r. let m = f.back (sym p.0 ∙ r) in
        (m.0, p.2 ∙ m.1, ap (λ (a : Account T). a.sent) p.1 ∙ m.2);
    debt = λ no_. let none_ : v.role ≡ Member → ⊥ = λ r. no_ (p.0 ∙ r) in p.7 none_ (f.debt none_);
    half = subst (λ (x : Half T). HalfFits h states n x) (sym p.2) f.half;
    low = subst (λ (x : Sight). x.low ≤ taken h) (sym p.3) f.low;
    ripe = λ i e. f.ripe i (sym (ap (λ (x : Sight). x.ripe) p.3) ∙ e);
    full = λ e. f.full (sym (ap (λ (x : Sight). x.full) p.3) ∙ e);
    cut_ = λ e. f.cut_ (sym (ap (λ (x : Sight). x.cut) p.3) ∙ e);
    empty = subst (λ (x : Sight). x.empty ≤ taken h) (sym p.3) f.empty;
    heard = (
      subst (λ (x : Known). x.drawn ≤ drawn h) (sym p.6) f.heard.0,
      subst (λ (x : Known). x.taken ≤ taken h) (sym p.6) f.heard.1,
      subst (λ (y : Known × Account T). IsAware y.0 y.1) (λ i. (sym p.6 i, sym p.1 i)) f.heard.2,
      subst (λ (l : List (Account T)). AllHeed l) (λ i. sym p.1 i ∷ sym p.5 i) f.heard.3,
    );
    over = λ e. f.over (sym p.4 ∙ e);
  }

  -- a view that saw something more
  pub sighted : (h : History T) (states : List ℕ) (cut hub : ℕ) (roll : List ℕ) (n : ℕ) (v : View T) (x : Sight)
      → Fits h states cut hub roll n v → x.low ≤ taken h
      → ((i : ℕ) → x.ripe ≡ Some i → (i < length states) × (get_elem? states i ≢ some 0) × (i ≤ taken h))
      → (x.full ≡ true → drawn h ≡ length states) → (x.cut ≡ true → 0 < cut) → x.empty ≤ taken h
      → Fits h states cut hub roll n record v { sight = x }
  sighted h states cut hub roll n v x f low ripe full cut_ empty = record {
    member = λ r. let m = f.member r in
        record { sent = m.sent; got = m.got; cut = m.cut; no_hub = m.no_hub; not_back = m.not_back };
    hub_ = λ r. let m = f.hub_ r in
        record { here = m.here; ends = m.ends; nothing = m.nothing; idle = m.idle };
    back = f.back;
    debt = f.debt;
    half = f.half;
    low = low;
    ripe = ripe;
    full = full;
    cut_ = cut_;
    empty = empty;
    heard = f.heard;
    over = f.over;
  }
