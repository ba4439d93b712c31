-- What a step has to show, so that the rule holds after it.
use Rattle.mb_ring.proofs.Base.{List, Option, State, [], ap, arith, at_set, false, get_elem?, inl, inr, length}
use Rattle.mb_ring.proofs.Base.{refl, slice_set, some, subst, sym, ℕ, ⊎_elim, ◌*◌, ◌+◌, ◌<◌, ◌∙◌, ◌∷◌, ◌≡◌, ◌≢◌}
use Rattle.mb_ring.proofs.Base.{◌≤◌}
use Rattle.mb_ring.specs.Vocabulary.{Account, Duties, Duty, Event, Fits, Half, HalfFits, History, Homes, IsAwaited}
use Rattle.mb_ring.specs.Vocabulary.{Keeps, Match, Member, Reads, Room, Sight, SightFits, Taken, Undrawn, Values, View}
use Rattle.mb_ring.specs.Vocabulary.{Waiting, Want, Writes, blind, closing, cuts_by, drawn, free, got_by, has_cut}
use Rattle.mb_ring.specs.Vocabulary.{if_hub, in_list, listed, member, one_if_member, out, owed, part, ready}
use Rattle.mb_ring.specs.Vocabulary.{Tallies, sent_by, sleeping, spot, taken, tally, tokens_given, tokens_taken, total, turn, with_duty}
use Rattle.mb_segment.proofs.Spots.{below_length, size_set}
use Rattle.mb_ring.proofs.Totals.{asleep_listed, total_set}
use Rattle.mb_ring.proofs.Halves.{half_stays}
use Rattle.mb_ring.proofs.Walks.{Looks, Walks, only_looks, silent}
use Rattle.mb_ring.proofs.Sleep.{Law, law_rest}

abbrev pub St : Type 0 → Type 0
St T = State (Option T) (View T)

-- what a step may change beside the view of its pass
pub record Next (T : Type 0) : Type 0 where
  pub history : History T
  pub words : List ℕ
  pub states : List ℕ
  pub homes : Homes T
  pub tokens : Want → ℕ
  pub waiting : Want → ℕ
  pub cut : ℕ
  pub walk : List Event

module _ {T : Type 0} where
  -- other passes did the same
  abbrev pub Same : History T → History T → ℕ → Type 0
  Same h g i = (j : ℕ) → j ≢ i → (sent_by j g ≡ sent_by j h) × (got_by j g ≡ got_by j h) × (has_cut j g ≡ has_cut j h)

  abbrev pub now : (s : St T) → Keeps s → Next T
  now s k = record {
    history = k.history;
    words = s.words;
    states = k.states;
    homes = s.homes;
    tokens = k.tokens;
    waiting = k.waiting;
    cut = k.cut;
    walk = k.walk;
  }

  abbrev pub after : St T → Next T → ℕ → View T → St T
  after s x i w = record { words = x.words; homes = x.homes; views = slice_set s.views i w }

  abbrev pub Laws : (s : St T) → Keeps s → View T → View T → Next T → Type 0
  Laws s k v w x = (q : Want) → Law (part q v.duty) (part q w.duty) (ready q k.history k.size k.cut)
      (ready q x.history k.size x.cut) (free k.cut 1) (free x.cut 1) (k.tokens q) (x.tokens q) (x.waiting q)

  -- the list has as many more as its word says
  abbrev pub Counts : (s : St T) → Keeps s → View T → View T → Next T → Type 0
  Counts s k v w x = (q : Want) → listed q w + (k.tokens q + k.waiting q) ≡ listed q v + (x.tokens q + x.waiting q)

  -- the tokens of each list are those given and not taken
  abbrev pub Given : (s : St T) → Keeps s → View T → View T → Next T → Type 0
  Given s k v w x = (q : Want) → tokens_given q w + (k.tokens q + tokens_taken q v)
      ≡ tokens_given q v + (x.tokens q + tokens_taken q w)

  pub record Keeping (s : St T) (k : Keeps s) (i : ℕ) (v w : View T) (x : Next T) : Type 0 where
    pub words : x.words ≡ (drawn x.history + 9223372036854775808 * x.cut) ∷ taken x.history
        ∷ (x.tokens Values + 4294967296 * x.waiting Values) ∷ (x.tokens Room + 4294967296 * x.waiting Room) ∷ x.states
    pub narrow : (q : Want) → x.tokens q < 4294967296
    pub counted : Counts s k v w x
    pub given : Given s k v w x
    pub laws : Laws s k v w x
    pub sized : (length x.states ≡ k.size) × (length x.homes ≡ k.size)
    pub small : drawn x.history ≤ 4611686018427387904
    pub within : drawn x.history ≤ taken x.history + k.size
    pub drawn_ : drawn k.history ≤ drawn x.history
    pub more : taken k.history ≤ taken x.history
    pub cut_ : k.cut ≤ x.cut
    pub cutter : x.cut ≡ cuts_by x.history.cutter
    pub turns : (j : ℕ) → turn k.size k.states j ≤ turn k.size x.states j
    pub undrawn : Undrawn x.history k.size x.states x.homes
    pub waits : Waiting x.history (slice_set s.views i w) k.size x.states x.homes
    pub taken_ : Taken x.history (slice_set s.views i w) k.size x.states
    pub frozen : 0 < k.cut → drawn x.history ≤ drawn k.history
    pub over : 0 < k.cut → k.history.rest ≡ [] → x.history.rest ≡ []
    pub role : w.role ≡ v.role
    pub out_ : w.out ≡ v.out
    pub same : Same k.history x.history i
    pub idle : (sent_by k.hub x.history ≡ []) × (got_by k.hub x.history ≡ []) × (has_cut k.hub x.history ≡ false)
    pub roll : (as_ : List (Account T)) → Match k.history k.roll as_ → Match x.history k.roll as_
    pub halves : (j : ℕ) (half : Half T) → j ≢ i → HalfFits k.history k.size k.states j half
        → HalfFits x.history k.size x.states j half
    pub own : Fits x.history k.size x.states x.cut k.hub k.roll i w
    pub walk : Walks k.walk x.walk x.history k.size i w

  -- what a pass saw stays true
  sight_kept : (s : St T) (k : Keeps s) (i : ℕ) (v w : View T) (x : Next T) → Keeping s k i v w x → (y : Sight)
      → SightFits k.history k.size k.states k.cut y → SightFits x.history k.size x.states x.cut y
  sight_kept s k i v w x o y f = let m = o.more in let d = o.drawn_ in record {
    low = let l = f.low in omega arith;
    top = let l = f.top in omega arith;
    room = λ j e. let r = f.room j e in let t = o.turns j in omega arith;
    ripe = λ j e. let r = (f.ripe j e).0 in let r' = (f.ripe j e).1 in let t = o.turns j in (omega arith, omega arith);
    cut_ = λ e. let r = f.cut_ e in let c = o.cut_ in omega arith;
    empty = let l = f.empty in omega arith;
    full = λ t e. let r = (f.full t e).0 in let r' = (f.full t e).1 in (omega arith, omega arith);
  }

  -- the view of another pass still fits
  others_fit : (s : St T) (k : Keeps s) (i : ℕ) (v w : View T) (x : Next T) → Keeping s k i v w x → (j : ℕ)
      (u : View T) → j ≢ i → Fits k.history k.size k.states k.cut k.hub k.roll j u
      → Fits x.history k.size x.states x.cut k.hub k.roll j u
  others_fit s k i v w x o j u apart f = record {
    member = λ r. let m = f.member r in record {
      sent = m.sent ∙ sym (o.same j apart).0;
      got = m.got ∙ sym (o.same j apart).1;
      cut = m.cut ∙ sym (o.same j apart).2;
      no_hub = m.no_hub;
      not_back = m.not_back;
    };
    hub_ = λ r. let m = f.hub_ r in
        record { here = m.here; ends = o.roll u.ends m.ends; nothing = m.nothing; idle = m.idle };
    back = f.back;
    debt = f.debt;
    half = o.halves j u.half apart f.half;
    sight = sight_kept s k i v w x o u.sight f.sight;
    heard = let a = f.heard.0 in let b = f.heard.1 in let d = o.drawn_ in let m = o.more in
        (omega arith, omega arith, f.heard.2);
    over = λ e. let r = f.over e in let c = o.cut_ in let c' = r.0 in (omega arith, o.over r.0 r.1);
    last = λ r e. let l = f.last r e in let d = o.frozen (f.over e).0 in omega arith;
  }

  awaited : (s : St T) (k : Keeps s) (i : ℕ) (v w : View T) (x : Next T) → get_elem? s.views i ≡ some v
      → Keeping s k i v w x → (q : Want) → IsAwaited (slice_set s.views i w) q (ready q x.history k.size x.cut)
      (free x.cut 1) (x.tokens q) (x.waiting q)
  awaited s k i v w x at o q =
      let views' = slice_set s.views i w in
      let was = k.lists q in
      let l = total_set (listed q) s.views i v w at in
      let c₀ = was.counted in
      let c₁ = o.counted q in
      let counted' : total (listed q) views' ≡ x.tokens q + x.waiting q = omega arith in
      let g = total_set (tokens_given q) s.views i v w at in
      let t = total_set (tokens_taken q) s.views i v w at in
      let g₀ = was.given in
      let g₁ = o.given q in
      let given' : total (tokens_given q) views' ≡ x.tokens q + total (tokens_taken q) views' = omega arith in
      let under = asleep_listed q views' in
      let laws' = o.laws q (total (sleeping q) s.views) (total (owed q) s.views) (total (closing q) s.views)
      (total (sleeping q) views') (total (owed q) views') (total (closing q) views')
      (total_set (sleeping q) s.views i v w at) (total_set (owed q) s.views i v w at)
      (total_set (closing q) s.views i v w at)
      (omega arith) was.quiet was.shut in
      record { narrow = o.narrow q; counted = counted'; given = given'; quiet = laws'.0; shut = laws'.1 }

  pub moved : (s : St T) (k : Keeps s) (i : ℕ) (v w : View T) (x : Next T) → get_elem? s.views i ≡ some v
      → Keeping s k i v w x → Keeps (after s x i w)
  moved s k i v w x at o =
      let many = size_set s.views i w in
      let here = below_length s.views i v at in
      let views' = slice_set s.views i w in
      record {
        history = x.history;
        states = x.states;
        size = k.size;
        tokens = x.tokens;
        waiting = x.waiting;
        cut = x.cut;
        words = o.words;
        lists = awaited s k i v w x at o;
        sized = (o.sized.0, o.sized.1, k.sized.2);
        small = o.small;
        cutter = o.cutter;
        within = o.within;
        walk = x.walk;
        walked = o.walk.walked;
        true_ = o.walk.true_;
        looks = λ j u e r. ⊎_elim
            (λ (t : (j ≡ i) × (w ≡ u)). subst (λ (y : ℕ × View T). Looks k.size x.walk y.0 y.1.sight)
            (λ z. (sym t.0 z, t.1 z)) (o.walk.own (ap (λ (y : View T). y.role) t.1 ∙ r)))
            (λ (t : (j ≢ i) × (get_elem? s.views j ≡ some u)). o.walk.others j u.sight t.0 (k.looks j u t.1 r))
            (at_set s.views i j w u e);
        undrawn = o.undrawn;
        waits = o.waits;
        taken_ = o.taken_;
        hub = k.hub;
        roll = k.roll;
        idle = o.idle;
        apart = k.apart;
        rolled = λ j in_. let b = k.rolled j in_ in omega arith;
        known = let b = k.known in omega arith;
        out_ =
            let a = total_set member s.views i v w at in let b = total_set out s.views i v w at in
            let p : member w ≡ member v = ap one_if_member o.role in
            let q : out w ≡ out v = λ z. if_hub (o.role z) (o.out_ z) in
            let e = k.out_ in omega arith;
        newborn = λ j long. (
            let apart : j ≢ i = λ q. omega arith in
            let nb = k.newborn j (omega arith) in
            let none_ = o.walk.others j blind apart
            ((sym nb.3, λ some_. absurd (omega arith)), (sym nb.4, λ some_. absurd (omega arith))) in (
              (o.same j apart).0 ∙ nb.0,
              (o.same j apart).1 ∙ nb.1,
              (o.same j apart).2 ∙ nb.2,
              sym none_.0.0,
              sym none_.1.0,
            )
            );
        fits = λ j u e. ⊎_elim
            (λ (t : (j ≡ i) × (w ≡ u)). subst
            (λ (y : ℕ × View T). Fits x.history k.size x.states x.cut k.hub k.roll y.0 y.1)
            (λ z. (sym t.0 z, t.1 z)) o.own)
            (λ (t : (j ≢ i) × (get_elem? s.views j ≡ some u)). others_fit s k i v w x o j u t.0 (k.fits j u t.1))
            (at_set s.views i j w u e);
      }

  -- the same where no position, no slot and no cut changes, and nothing is begun or ended
  abbrev pub still : (s : St T) → Keeps s → Next T → Next T
  still s k x = record x { history = k.history; states = k.states; homes = s.homes; cut = k.cut }

  pub record Steady (s : St T) (k : Keeps s) (i : ℕ) (v w : View T) (x : Next T) : Type 0 where
    pub words : x.words ≡ (drawn k.history + 9223372036854775808 * k.cut) ∷ taken k.history
        ∷ (x.tokens Values + 4294967296 * x.waiting Values) ∷ (x.tokens Room + 4294967296 * x.waiting Room) ∷ k.states
    pub narrow : (q : Want) → x.tokens q < 4294967296
    pub counted : Counts s k v w x
    pub given : Given s k v w x
    pub role : w.role ≡ v.role
    pub out_ : w.out ≡ v.out
    pub half : w.half ≡ v.half
    pub own : Fits k.history k.size k.states k.cut k.hub k.roll i w
    pub walk : Walks k.walk x.walk k.history k.size i w
    pub laws : Laws s k v w (still s k x)

  pub steady : (s : St T) (k : Keeps s) (i : ℕ) (v w : View T) (x : Next T) → get_elem? s.views i ≡ some v
      → Steady s k i v w x → Keeps (after s (still s k x) i w)
  steady s k i v w x at o = moved s k i v w (still s k x) at record {
    words = o.words;
    narrow = o.narrow;
    counted = o.counted;
    given = o.given;
    laws = o.laws;
    sized = (k.sized.0, k.sized.1);
    small = k.small;
    within = k.within;
    drawn_ = omega arith;
    more = omega arith;
    cut_ = omega arith;
    cutter = k.cutter;
    turns = λ j. omega arith;
    undrawn = k.undrawn;
    waits = λ j e le e_at. ⊎_elim
        (λ z. inl (z.0, half_stays s.views i v w at o.half e.by (Writes (spot j e.value)) z.1)) (λ z. inr z)
        (k.waits j e le e_at);
    taken_ = λ j c c_at. ⊎_elim
        (λ z. inl (z.0, half_stays s.views i v w at o.half c.to (Reads (spot j c.entry.value)) z.1)) (λ z. inr z)
        (k.taken_ j c c_at);
    frozen = λ _. omega arith;
    over = λ c e. e;
    role = o.role;
    out_ = o.out_;
    same = λ j ne. (refl, refl, refl);
    idle = k.idle;
    roll = λ as_ m. m;
    halves = λ j half ne f. f;
    own = o.own;
    walk = o.walk;
  }

  -- what the pass of a step saw of the walk before, if it did not look
  pub looked_still : (s : St T) (k : Keeps s) (i : ℕ) (v w : View T) → get_elem? s.views i ≡ some v
      → w.role ≡ v.role → only_looks w.sight ≡ only_looks v.sight → w.role ≡ Member → Looks k.size k.walk i w.sight
  looked_still s k i v w at ro si r =
      subst (λ (x : Sight). Looks k.size k.walk i x) (sym si) (k.looks i v at (sym ro ∙ r))

  -- a step that is no event of the walk
  pub no_event : (s : St T) (k : Keeps s) (i : ℕ) (v w : View T) → get_elem? s.views i ≡ some v → w.role ≡ v.role
      → only_looks w.sight ≡ only_looks v.sight → Walks k.walk k.walk k.history k.size i w
  no_event s k i v w at ro si =
      silent k.walk k.history k.size i w (looked_still s k i v w at ro si) k.walked k.true_

  -- the same where no word changes
  pub settled : (s : St T) (k : Keeps s) (i : ℕ) (v w : View T) (walk : List Event) → get_elem? s.views i ≡ some v
      → Walks k.walk walk k.history k.size i w → ((q : Want) → listed q w ≡ listed q v) → w.role ≡ v.role
      → w.out ≡ v.out → w.half ≡ v.half
      → w.tokens ≡ v.tokens → Fits k.history k.size k.states k.cut k.hub k.roll i w → Laws s k v w (now s k)
      → Keeps record { words = s.words; homes = s.homes; views = slice_set s.views i w }
  settled s k i v w walk at ev li ro ou ha to own laws = steady s k i v w record (now s k) { walk = walk } at record {
    words = k.words;
    narrow = λ q. (k.lists q).narrow;
    counted = λ q. let e = li q in omega arith;
    given = λ q. ap (λ (t : Tallies). (tally q t).gave + (k.tokens q + (tally q v.tokens).took)) to
        ∙ ap (λ (t : Tallies). (tally q v.tokens).gave + (k.tokens q + (tally q t).took)) (sym to);
    role = ro;
    out_ = ou;
    half = ha;
    own = own;
    walk = ev;
    laws = laws;
  }

  -- nothing is owed or paid, and no value comes or goes: the laws of sleep still hold
  pub at_rest : (s : St T) (k : Keeps s) (v w : View T) (x : Next T) → w.duty ≡ v.duty → x.tokens ≡ k.tokens
      → x.history ≡ k.history → x.cut ≡ k.cut → Laws s k v w x
  at_rest s k v w x d t h c q = subst
      (λ (y : Duties × (Want → ℕ) × History T × ℕ). Law (part q v.duty) (part q y.0)
      (ready q k.history k.size k.cut) (ready q y.2 k.size y.3) (free k.cut 1) (free y.3 1)
      (k.tokens q) (y.1 q) (x.waiting q))
      (λ z. (sym d z, sym t z, sym h z, sym c z))
      (law_rest (part q v.duty) (ready q k.history k.size k.cut) (free k.cut 1) (k.tokens q) (x.waiting q))

  -- only what is owed for one list changes
  pub one_owes : (s : St T) (k : Keeps s) (v : View T) (q : Want) (f : Duty → Duty)
      → Law (part q v.duty) (f (part q v.duty)) (ready q k.history k.size k.cut) (ready q k.history k.size k.cut)
      (free k.cut 1) (free k.cut 1) (k.tokens q) (k.tokens q) (k.waiting q) → Laws s k v (with_duty q f v) (now s k)
  one_owes s k v Values f law Values = law
  one_owes s k v Values f law Room = law_rest v.duty.room (ready Room k.history k.size k.cut) (free k.cut 1)
      (k.tokens Room) (k.waiting Room)
  one_owes s k v Room f law Values = law_rest v.duty.values (length k.history.rest) (free k.cut 1) (k.tokens Values)
      (k.waiting Values)
  one_owes s k v Room f law Room = law

  pub one_listed : (v : View T) (q : Want) (f : Duty → Duty) → in_list (f (part q v.duty)) ≡ in_list (part q v.duty)
      → (p : Want) → listed p (with_duty q f v) ≡ listed p v
  one_listed v Values f e Values = e
  one_listed v Values f e Room = refl
  one_listed v Room f e Values = refl
  one_listed v Room f e Room = e
