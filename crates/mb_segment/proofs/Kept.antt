-- What a step has to show, so that the rule holds after it.
use Rattle.mb_segment.proofs.Base.{Act, Allows, List, Option, State, Valid, [], ap, arith, at_set}
use Rattle.mb_segment.proofs.Base.{carried_after, either, exchanged, false, get_elem?, inl, inr, keeps, length, refl}
use Rattle.mb_segment.proofs.Base.{set_again, slice_index, slice_set, some}
use Rattle.mb_segment.proofs.Base.{stepped, subst, sym, ℕ, ⊎_elim, ◌*◌, ◌+◌}
use Rattle.mb_segment.proofs.Base.{◌-◌, ◌<◌, ◌==◌, ◌∙◌, ◌≡◌, ◌≢◌, ◌≤◌}
use Rattle.mb_segment.specs.Vocabulary.{Account, Called, Duty, Event, Fits, HasLooked, blind, Half, HalfFits, History, Homes, IsCalled, Issuer, Keeps}
use Rattle.mb_segment.specs.Vocabulary.{Match, Member, Quiet, Reads, Role, Sat, Shut, Taken, Undrawn, View, Waiting}
use Rattle.mb_segment.specs.Vocabulary.{Writes, closing, cuts_by, drawn, free, got_by, has_cut, if_hub, listed, member}
use Rattle.mb_segment.specs.Vocabulary.{Tokens, one_if_member, out, owed, row, sent_by, sleeping, spot, taken, tokens_given, tokens_taken, total}
use Rattle.mb_segment.proofs.Totals.{asleep_listed, length_set, there, total_set}
use Rattle.mb_segment.proofs.Halves.{half_stays}
use Rattle.mb_segment.proofs.Walks.{SameLooks, Walks, unmoved}
use lib.Seq.{set-get_or}

abbrev pub St : Type 0 → Type 0
St T = State (Option T) (View T)

-- what a step may change beside the view of its pass
pub record Next (T : Type 0) : Type 0 where
  pub history : History T
  pub words : List ℕ
  pub states : List ℕ
  pub homes : Homes T
  pub tokens : ℕ
  pub waiting : ℕ
  pub cut : ℕ
  pub walk : List Event

abbrev pub free_in : {T : Type 0} → History T → List ℕ → ℕ → ℕ
free_in h states cut = free cut (length states - drawn h)

module _ {T : Type 0} where
  -- who has a view, its name, and the accounts of those that came back
  abbrev pub card_of : View T → Role × ℕ × List (Account T)
  card_of v = (v.role, v.account.name, v.ends)

  -- other passes did the same
  abbrev pub Same : History T → History T → ℕ → Type 0
  Same h g n = (j : ℕ) → j ≢ n → (sent_by j g ≡ sent_by j h) × (got_by j g ≡ got_by j h) × (has_cut j g ≡ has_cut j h)

  abbrev pub now : (s : St T) → Keeps s → Next T
  now s k = record {
    history = k.history;
    words = s.words;
    states = k.states;
    homes = s.homes;
    tokens = k.tokens;
    waiting
        = k.waiting;
    cut = k.cut;
    walk = k.walk;
  }

  abbrev pub after : St T → Next T → ℕ → View T → St T
  after s x n w = record { words = x.words; homes = x.homes; views = slice_set s.views n w }

  -- what the step does to the sums of all views keeps the laws of sleep. L sleep, O is owed, C by closers
  abbrev pub Laws : (s : St T) → Keeps s → View T → View T → Next T → Type 0
  Laws s k v w x =
      (L O C L' O' C' : ℕ) → L' + v.duty.asleep ≡ L + w.duty.asleep → O' + owed v ≡ O + owed w
      → C' + v.duty.closing ≡ C + w.duty.closing → L' ≤ x.tokens + x.waiting
      → Quiet (length k.history.rest) k.tokens L O → Shut k.tokens L (free_in k.history k.states k.cut) C
      → Quiet (length x.history.rest) x.tokens L' O' × Shut x.tokens L' (free_in x.history x.states x.cut) C'

  pub record Keeping (s : St T) (k : Keeps s) (n : ℕ) (v w : View T) (x : Next T) : Type 0 where
    pub words : x.words
        ≡ row (drawn x.history + 9223372036854775808 * x.cut) (taken x.history)
        (x.tokens + 4294967296 * x.waiting) x.states
    pub narrow : x.tokens < 4294967296
    pub sized : length x.states ≡ length x.homes
    pub as_many : length x.states ≡ length k.states
    pub within : drawn x.history ≤ length x.states
    pub drawn_ : drawn k.history ≤ drawn x.history
    pub more : taken k.history ≤ taken x.history
    pub cut_ : k.cut ≤ x.cut
    pub cutter : x.cut ≡ cuts_by x.history.cutter
    pub marks : (j : ℕ) → get_elem? k.states j ≢ some 0 → get_elem? x.states j ≢ some 0
    pub undrawn : Undrawn x.history x.states x.homes
    pub waits : Waiting k.names x.history (slice_set s.views n w) x.states x.homes
    pub taken_ : Taken k.names x.history (slice_set s.views n w) x.states x.homes
    pub counted : listed w + (k.tokens + k.waiting) ≡ listed v + (x.tokens + x.waiting)
    pub given : tokens_given w + (k.tokens + tokens_taken v) ≡ tokens_given v + (x.tokens + tokens_taken w)
    pub over : free_in k.history k.states k.cut ≡ 0 → k.history.rest ≡ [] → (free_in x.history x.states x.cut ≡ 0)
        × (x.history.rest ≡ [])
    pub card : card_of w ≡ card_of v
    pub out_ : w.out ≡ v.out
    pub same : Same k.history x.history n
    pub idle : (sent_by k.hub x.history ≡ []) × (got_by k.hub x.history ≡ []) × (has_cut k.hub x.history ≡ false)
    pub roll : (as_ : List (Account T)) → Match k.history k.roll as_ → Match x.history k.roll as_
    pub halves : (j : ℕ) (half : Half T) → j ≢ n → HalfFits k.history k.states j half
        → HalfFits x.history x.states j half
    pub own : Fits x.history x.states x.cut k.hub k.roll n w
    pub walk : Walks k.walk x.walk x.history (length x.states) n w
    pub laws : Laws s k v w x

  -- the view of another pass still fits
  others_fit : (s : St T) (k : Keeps s) (n : ℕ) (v w : View T) (x : Next T) → Keeping s k n v w x → (j : ℕ)
      (u : View T) → j ≢ n
      → Fits k.history k.states k.cut k.hub k.roll j u → Fits x.history x.states x.cut k.hub k.roll j u
  others_fit s k n v w x o j u apart f = record {
    member = λ r. let m = f.member r in record {
      sent = m.sent ∙ sym (o.same j apart).0;
      got = m.got ∙ sym (o.same j apart).1;
      cut = m.cut ∙ sym (o.same j apart).2;
      no_hub = m.no_hub;
      not_back = m.not_back;
    };
    hub_ = λ r. let m = f.hub_ r in
        record { here = m.here; ends = o.roll u.ends m.ends; nothing = m.nothing; idle = m.idle };
    back = f.back;
    debt = f.debt;
    half = o.halves j u.half apart f.half;
    low = let l = f.low in let m = o.more in omega arith;
    ripe = λ i e. let r = f.ripe i e in let m = o.as_many in let t = o.more in let l = r.2 in
        (omega arith, o.marks i r.1, omega arith);
    full = λ e. let r = f.full e in let m = o.as_many in let d = o.drawn_ in let i = o.within in omega arith;
    cut_ = λ e. let r = f.cut_ e in let m = o.cut_ in omega arith;
    empty = let l = f.empty in let m = o.more in omega arith;
    heard = let a = f.heard.0 in let b = f.heard.1 in let d = o.drawn_ in let m = o.more in
        (omega arith, omega arith, f.heard.2, f.heard.3);
    over = λ e. let r = f.over e in o.over r.0 r.1;
  }

  still_called : (s : St T) (k : Keeps s) (n : ℕ) (v w : View T) → get_elem? s.views n ≡ some v
      → card_of w ≡ card_of v → IsCalled k.names k.roll n w
  still_called s k n v w at card = subst (λ (c : Role × ℕ × List (Account T)).
      (c.0 ≡ Member → c.1 ≡ k.names n) × (c.0 ≡ Issuer → Called k.names k.roll c.2)) (sym card) (k.called n v at)

  pub moved : (s : St T) (k : Keeps s) (n : ℕ) (v w : View T) (x : Next T) → get_elem? s.views n ≡ some v
      → Keeping s k n v w x
      → Keeps (after s x n w)
  moved s k n v w x at o =
      let views' = slice_set s.views n w in
      let l = total_set listed s.views n v w at in
      let c₀ = k.counted in
      let c₁ = o.counted in
      let counted' : total listed views' ≡ x.tokens + x.waiting = omega arith in
      let g₀ = total_set tokens_given s.views n v w at in
      let g₁ = total_set tokens_taken s.views n v w at in
      let g₂ = k.given in
      let g₃ = o.given in
      let under = asleep_listed views' in
      let laws' = o.laws (total sleeping s.views) (total owed s.views) (total closing s.views)
      (total sleeping views') (total owed views') (total closing views')
      (total_set sleeping s.views n v w at) (total_set owed s.views n v w at)
      (total_set closing s.views n v w at)
      (omega arith) k.quiet k.shut in
      let many = length_set s.views n w in
      let here = there s.views n v at in
      let small' = k.small in
      let as_many' = o.as_many in
      record {
        history = x.history;
        states = x.states;
        tokens = x.tokens;
        waiting = x.waiting;
        cut = x.cut;
        words = o.words;
        narrow = o.narrow;
        sized = o.sized;
        small = omega arith;
        within = o.within;
        cutter = o.cutter;
        walk = x.walk;
        walked = o.walk.walked;
        true_ = o.walk.true_;
        looked = λ j u e r. ⊎_elim
            (λ (t : (j ≡ n) × (w ≡ u)). subst (λ (y : ℕ × View T). HasLooked x.walk y.0 y.1.sight)
            (λ i. (sym t.0 i, t.1 i)) (o.walk.own (ap (λ (y : View T). y.role) t.1 ∙ r)))
            (λ (t : (j ≢ n) × (get_elem? s.views j ≡ some u)). o.walk.others j u.sight t.0 (k.looked j u t.1 r))
            (at_set s.views n j w u e);
        names = k.names;
        short = k.short;
        undrawn = o.undrawn;
        waits = o.waits;
        taken_ = o.taken_;
        counted = counted';
        given = omega arith;
        quiet = laws'.0;
        shut = laws'.1;
        hub = k.hub;
        roll = k.roll;
        idle = o.idle;
        apart = k.apart;
        rolled = λ j in_. let b = k.rolled j in_ in omega arith;
        known = let b = k.known in omega arith;
        out_ =
            let a = total_set member s.views n v w at in let b = total_set out s.views n v w at in
            let p : member w ≡ member v = λ i. one_if_member (o.card i).0 in
            let q : out w ≡ out v = λ i. if_hub (o.card i).0 (o.out_ i) in
            let e = k.out_ in omega arith;
        newborn = λ j long. (
            let apart : j ≢ n = λ q. omega arith in
            let nb = k.newborn j (omega arith) in (
              (o.same j apart).0 ∙ nb.0,
              (o.same j apart).1 ∙ nb.1,
              (o.same j apart).2 ∙ nb.2,
              sym (o.walk.others j blind apart (sym nb.3, λ some_. absurd (omega arith))).0,
            )
            );
        called = λ j u e. ⊎_elim
            (λ (t : (j ≡ n) × (w ≡ u)). subst (λ (y : ℕ × View T). IsCalled k.names k.roll y.0 y.1)
            (λ i. (sym t.0 i, t.1 i)) (still_called s k n v w at o.card))
            (λ (t : (j ≢ n) × (get_elem? s.views j ≡ some u)). k.called j u t.1)
            (at_set s.views n j w u e);
        fits = λ j u e. ⊎_elim
            (λ (t : (j ≡ n) × (w ≡ u)). subst (λ (y : ℕ × View T). Fits x.history x.states x.cut k.hub k.roll y.0
            y.1)
            (λ i. (sym t.0 i, t.1 i)) o.own)
            (λ (t : (j ≢ n) × (get_elem? s.views j ≡ some u)). others_fit s k n v w x o j u t.0 (k.fits j u t.1))
            (at_set s.views n j w u e);
      }

  -- ---- steps that draw, claim, mark and read nothing
  pub waits_stay : (s : St T) (k : Keeps s) (n : ℕ) (v w : View T) → get_elem? s.views n ≡ some v
      → w.half ≡ v.half
      → Waiting k.names k.history (slice_set s.views n w) k.states s.homes
  waits_stay s k n v w at e i x le x_at = ⊎_elim
      (λ z. inl (z.0, half_stays s.views n v w at e x.by (Writes (spot i x.value)) z.1)) (λ z. inr z)
      (k.waits i x le x_at)

  pub taken_stay : (s : St T) (k : Keeps s) (n : ℕ) (v w : View T) → get_elem? s.views n ≡ some v
      → w.half ≡ v.half
      → Taken k.names k.history (slice_set s.views n w) k.states s.homes
  taken_stay s k n v w at e i c c_at = ⊎_elim
      (λ z. inl (z.0, half_stays s.views n v w at e c.to (Reads (spot i c.entry.value)) z.1)) (λ z. inr z)
      (k.taken_ i c c_at)

  -- the same words of positions, and the same slots
  abbrev pub still : (s : St T) → Keeps s → Next T → Next T
  still s k x = record x { history = k.history; states = k.states; homes = s.homes; cut = k.cut }

  pub record Steady (s : St T) (k : Keeps s) (n : ℕ) (v w : View T) (x : Next T) : Type 0 where
    pub words : x.words
        ≡ row (drawn k.history + 9223372036854775808 * k.cut) (taken k.history)
        (x.tokens + 4294967296 * x.waiting) k.states
    pub narrow : x.tokens < 4294967296
    pub counted : listed w + (k.tokens + k.waiting) ≡ listed v + (x.tokens + x.waiting)
    pub given : tokens_given w + (k.tokens + tokens_taken v) ≡ tokens_given v + (x.tokens + tokens_taken w)
    pub card : card_of w ≡ card_of v
    pub out_ : w.out ≡ v.out
    pub half : w.half ≡ v.half
    pub own : Fits k.history k.states k.cut k.hub k.roll n w
    pub walk : Walks k.walk x.walk k.history (length k.states) n w
    pub laws : Laws s k v w (still s k x)

  pub steady : (s : St T) (k : Keeps s) (n : ℕ) (v w : View T) (x : Next T) → get_elem? s.views n ≡ some v
      → Steady s k n v w x
      → Keeps (after s (still s k x) n w)
  steady s k n v w x at o = moved s k n v w (still s k x)
      at record {
        words = o.words;
        narrow = o.narrow;
        sized = k.sized;
        as_many = refl;
        within = k.within;
        drawn_ = omega arith;
        more = omega arith;
        cut_ = omega arith;
        cutter = k.cutter;
        marks = λ j ne. ne;
        undrawn = k.undrawn;
        waits = waits_stay s k n v w at o.half;
        taken_ = taken_stay s k n v w at o.half;
        counted = o.counted;
        given = o.given;
        over = λ f e. (f, e);
        card = o.card;
        out_ = o.out_;
        same = λ j ne. (refl, refl, refl);
        idle = k.idle;
        roll = λ as_ m. m;
        halves = λ j half ne f. f;
        own = o.own;
        walk = o.walk;
        laws = o.laws;
      }

  -- the same where no word changes
  pub settled : (s : St T) (k : Keeps s) (n : ℕ) (v w : View T) → get_elem? s.views n ≡ some v → listed w
      ≡ listed v → card_of w ≡ card_of v
      → w.out ≡ v.out → w.half ≡ v.half → w.tokens ≡ v.tokens → SameLooks v.sight w.sight
      → Fits k.history k.states k.cut k.hub k.roll n w
      → Laws s k v w (now s k)
      → Keeps record { words = s.words; homes = s.homes; views = slice_set s.views n w }
  settled s k n v w at li ca ou ha to si own laws = steady s k n v w (now s k) at record {
    words = k.words;
    narrow = k.narrow;
    counted = omega arith;
    given = ap (λ (c : Tokens). c.gave + (k.tokens + v.tokens.took)) to
        ∙ ap (λ (c : Tokens). v.tokens.gave + (k.tokens + c.took)) (sym to);
    card = ca;
    out_ = ou;
    half = ha;
    own = own;
    walk = unmoved s k n v w at (ap (λ (c : Role × ℕ × List (Account T)). c.0) ca) si;
    laws = laws;
  }

  -- the same words, and nothing owed: the laws of sleep still hold
  pub at_rest : (s : St T) (k : Keeps s) (v w : View T) → w.duty ≡ v.duty → Laws s k v w (now s k)
  at_rest s k v w e L O C L' O' C' l o c le q h =
      let e₀ = ap (λ (d : Duty). d.asleep) e in
      let e₁ = ap (λ (d : Duty). d.wakes + d.looks + d.fresh + d.closing) e in
      let e₂ = ap (λ (d : Duty). d.closing) e in (
        ⊎_elim (λ y. inl (omega arith)) (λ y. inr (omega arith)) q,
        ⊎_elim (λ y. inl (omega arith)) (λ y. inr (omega arith)) h,
      )

  -- ---- the state after a load, and after a step that changes nothing
  pub loaded : (s : St T) (i n : ℕ) (c : List (ℕ × Option T)) (w : View T)
      → Keeps record { words = s.words; homes = s.homes; views = slice_set s.views n w }
      → Keeps (stepped s i (slice_index s.words i) n c w keeps)
  loaded s i n c w k =
      subst (λ (ws : List ℕ). Keeps record { words = ws; homes = s.homes; views = slice_set s.views n w })
      (sym (set-get_or s.words i 0)) k

  pub stays : (s : St T) (k : Keeps s) (i n : ℕ) (v : View T) → get_elem? s.views n ≡ some v
      → (c : List (ℕ × Option T))
      → Keeps (stepped s i (slice_index s.words i) n c v keeps)
  stays s k i n v at c = loaded s i n c v
      (subst (λ (vs : List (View T)). Keeps record { words = s.words; homes = s.homes; views = vs })
      (sym (set_again s.views n v at)) k)

  abbrev pub Goes : St T → ℕ → ℕ → Sat T → (ℕ → Sat T → Type 0) → ℕ → Type 0
  Goes s i n me then m = (w : View T) × (a : Act (Option T)) × Valid s.homes me.1 a × Keeps
      (stepped s i m n me.1 w a)
      × then (slice_index s.words i) (w, carried_after me.1 a)

  -- a compare-exchange goes as it should if it succeeds, and else changes nothing
  pub exchanges : (i : ℕ) (then : ℕ → Sat T → Type 0) (slots n : ℕ) (me : Sat T) (old new : ℕ)
      → ((s : St T) (k : Keeps s) → length s.homes ≡ slots → get_elem? s.views n ≡ some me.0
      → slice_index s.words i ≡ old → Goes s i n me then new)
      → ((r : ℕ) → r ≢ old → then r me)
      → Allows Keeps slots n me i (λ r. either (r == old) new r) then
  exchanges i then slots n me old new hit miss s k homes at small =
      exchanged (slice_index s.words i) old new (Goes s i n me then)
      (λ e. hit s k homes at e)
      (λ ne. (me.0, keeps, tt, stays s k i n me.0 at me.1, miss (slice_index s.words i) ne))

  pub at0 : (s : St T) (k : Keeps s) → slice_index s.words 0 ≡ drawn k.history + 9223372036854775808 * k.cut
  at0 s k = ap (λ l. slice_index l 0) k.words

  pub at1 : (s : St T) (k : Keeps s) → slice_index s.words 16 ≡ taken k.history
  at1 s k = ap (λ l. slice_index l 16) k.words

  pub at2 : (s : St T) (k : Keeps s) → slice_index s.words 8 ≡ k.tokens + 4294967296 * k.waiting
  at2 s k = ap (λ l. slice_index l 8) k.words
