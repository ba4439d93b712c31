-- Steps that change little: loads, and exchanges. What the words are.
use Rattle.mb_ring.proofs.Base.{Act, Allows, List, Option, Valid, ap, arith, carried_after, either, exchanged}
use Rattle.mb_ring.proofs.Base.{get_elem?, keeps, length, refl, set_again, slice_index, slice_set, some}
use Rattle.mb_ring.proofs.Base.{stepped, subst, sym, ℕ, ◌*◌, ◌+◌, ◌<◌, ◌==◌, ◌∙◌, ◌≡◌, ◌≢◌, ◌≤◌}
use Rattle.mb_ring.specs.Vocabulary.{AreTrue, Duties, Duty, Event, Fits, History, IsAwaited, Keeps, Member, Room, Sat, Sight}
use Rattle.mb_ring.specs.Vocabulary.{SightFits, Taken, Tallies, Undrawn, Values, View, Waiting, Want, drawn, free}
use Rattle.mb_ring.specs.Vocabulary.{in_list, list_word, no_duties, on, part, ready, taken, with_duty}
use Rattle.mb_segment.specs.Passes.{no_duty}
use Rattle.mb_ring.proofs.Sleep.{Law}
use Rattle.mb_ring.proofs.Halves.{no_part}
use Rattle.mb_ring.proofs.Walks.{Looks, Walks, only_looks}
use Rattle.mb_ring.proofs.Kept.{St, at_rest, no_event, now, one_listed, one_owes, settled}
use lib.Seq.{set-get_or}

module _ {T : Type 0} where
  -- ---- a view that differs in what it owes alone. Only a pass owes anything
  abbrev pub StaysIdle : View T → Duties → Type 0
  StaysIdle v d = (v.role ≡ Member → ⊥) → v.duty ≡ no_duties → d ≡ no_duties

  -- who owes something, or is in a list, is a pass
  pub owing : (q : Want) (x : Duty → ℕ) (v : View T) (d : Duties) → x no_duty ≡ 0 → 0 < x (part q v.duty)
      → StaysIdle v d
  owing q x v d none_ some_ no_ e =
      let p : x (part q v.duty) ≡ x no_duty = ap (λ (y : Duties). x (part q y)) e ∙ ap x (no_part q) in
      absurd (omega arith)

  pub refit : (h : History T) (n : ℕ) (states : List ℕ) (cut hub : ℕ) (roll : List ℕ) (i : ℕ) (v : View T) (d : Duties)
      (t : Tallies) → StaysIdle v d → Fits h n states cut hub roll i v
      → Fits h n states cut hub roll i record v { duty = d; tokens = t }
  refit h n states cut hub roll i v d t idle f = record {
    member = λ r. let m = f.member r in
        record { sent = m.sent; got = m.got; cut = m.cut; no_hub = m.no_hub; not_back = m.not_back };
    hub_ = λ r. let m = f.hub_ r in
        record { here = m.here; ends = m.ends; nothing = m.nothing; idle = m.idle };
    back = f.back;
    debt = λ no_. idle no_ (f.debt no_);
    half = f.half;
    sight = f.sight;
    heard = f.heard;
    over = f.over;
    last = f.last;
  }

  -- a view that saw something more
  pub sighted : (h : History T) (n : ℕ) (states : List ℕ) (cut hub : ℕ) (roll : List ℕ) (i : ℕ) (v : View T) (x : Sight)
      → Fits h n states cut hub roll i v → SightFits h n states cut x → v.sight.low ≤ x.low
      → Fits h n states cut hub roll i record v { sight = x }
  sighted h n states cut hub roll i v x f y low = record {
    member = λ r. let m = f.member r in
        record { sent = m.sent; got = m.got; cut = m.cut; no_hub = m.no_hub; not_back = m.not_back };
    hub_ = λ r. let m = f.hub_ r in
        record { here = m.here; ends = m.ends; nothing = m.nothing; idle = m.idle };
    back = f.back;
    debt = f.debt;
    half = f.half;
    sight = y;
    heard = f.heard;
    over = f.over;
    last = λ r e. let l = f.last r e in omega arith;
  }

  -- ---- the state after a load, and after a step that changes nothing
  pub loaded : (s : St T) (j i : ℕ) (c : List (ℕ × Option T)) (w : View T)
      → Keeps record { words = s.words; homes = s.homes; views = slice_set s.views i w }
      → Keeps (stepped s j (slice_index s.words j) i c w keeps)
  loaded s j i c w k =
      subst (λ (ws : List ℕ). Keeps record { words = ws; homes = s.homes; views = slice_set s.views i w })
      (sym (set-get_or s.words j 0)) k

  pub sees : (s : St T) (k : Keeps s) (j i : ℕ) (v : View T) → get_elem? s.views i ≡ some v
      → (c : List (ℕ × Option T)) (x : Sight) → only_looks x ≡ only_looks v.sight
      → SightFits k.history k.size k.states k.cut x → v.sight.low ≤ x.low
      → Keeps (stepped s j (slice_index s.words j) i c record v { sight = x } keeps)
  sees s k j i v at c x si y low =
      let w : View T = record v { sight = x } in
      loaded s j i c w (settled s k i v w k.walk at (no_event s k i v w at refl si) (λ q. refl) refl refl refl refl
      (sighted k.history k.size k.states k.cut k.hub k.roll i v x (k.fits i v at) y low)
      (at_rest s k v w (now s k) refl refl refl refl))

  -- a load after which the pass saw something more, and owes other things for one list
  pub pays_at : (s : St T) (k : Keeps s) (j i : ℕ) (v : View T) (walk : List Event) → get_elem? s.views i ≡ some v
      → (c : List (ℕ × Option T)) (q : Want) (f : Duty → Duty) (x : Sight)
      → Walks k.walk walk k.history k.size i record v { duty = on q f v.duty; sight = x }
      → StaysIdle v (on q f v.duty)
      → in_list (f (part q v.duty)) ≡ in_list (part q v.duty)
      → Law (part q v.duty) (f (part q v.duty)) (ready q k.history k.size k.cut) (ready q k.history k.size k.cut)
      (free k.cut 1) (free k.cut 1) (k.tokens q) (k.tokens q) (k.waiting q)
      → SightFits k.history k.size k.states k.cut x → v.sight.low ≤ x.low
      → Keeps (stepped s j (slice_index s.words j) i c record v { duty = on q f v.duty; sight = x } keeps)
  pays_at s k j i v walk at c q f x ev idle li law y low =
      let w : View T = record v { duty = on q f v.duty; sight = x } in
      loaded s j i c w (settled s k i v w walk at ev (one_listed v q f li) refl refl refl refl
      (sighted k.history k.size k.states k.cut k.hub k.roll i (with_duty q f v) x
      (refit k.history k.size k.states k.cut k.hub k.roll i v (on q f v.duty) v.tokens idle (k.fits i v at)) y low)
      (one_owes s k v q f law))

  -- the same, where it is no event of the walk
  pub pays : (s : St T) (k : Keeps s) (j i : ℕ) (v : View T) → get_elem? s.views i ≡ some v
      → (c : List (ℕ × Option T)) (q : Want) (f : Duty → Duty) (x : Sight) → only_looks x ≡ only_looks v.sight
      → StaysIdle v (on q f v.duty) → in_list (f (part q v.duty)) ≡ in_list (part q v.duty)
      → Law (part q v.duty) (f (part q v.duty)) (ready q k.history k.size k.cut) (ready q k.history k.size k.cut)
      (free k.cut 1) (free k.cut 1) (k.tokens q) (k.tokens q) (k.waiting q)
      → SightFits k.history k.size k.states k.cut x → v.sight.low ≤ x.low
      → Keeps (stepped s j (slice_index s.words j) i c record v { duty = on q f v.duty; sight = x } keeps)
  pays s k j i v at c q f x si = pays_at s k j i v k.walk at c q f x
      (no_event s k i v record v { duty = on q f v.duty; sight = x } at refl si)

  pub stays : (s : St T) (k : Keeps s) (j i : ℕ) (v : View T) → get_elem? s.views i ≡ some v
      → (c : List (ℕ × Option T))
      → Keeps (stepped s j (slice_index s.words j) i c v keeps)
  stays s k j i v at c = loaded s j i c v
      (subst (λ (vs : List (View T)). Keeps record { words = s.words; homes = s.homes; views = vs })
      (sym (set_again s.views i v at)) k)

  abbrev pub Goes : St T → ℕ → ℕ → Sat T → (ℕ → Sat T → Type 0) → ℕ → Type 0
  Goes s j i me then m = (w : View T) × (a : Act (Option T)) × Valid s.homes me.1 a × Keeps
      (stepped s j m i me.1 w a)
      × then (slice_index s.words j) (w, carried_after me.1 a)

  -- the rule, with the number of slots by another name
  abbrev pub resized : (s : St T) (k : Keeps s) (n : ℕ) → k.size ≡ n → Keeps s
  resized s k n q = record {
    history = k.history;
    states = k.states;
    size = n;
    tokens = k.tokens;
    waiting = k.waiting;
    cut = k.cut;
    words = k.words;
    sized = subst (λ m. (length k.states ≡ m) × (length s.homes ≡ m) × (0 < m)) q k.sized;
    small = k.small;
    cutter = k.cutter;
    within = subst (λ m. drawn k.history ≤ taken k.history + m) q k.within;
    walk = k.walk;
    walked = k.walked;
    true_ = subst (λ m. AreTrue m k.walk) q k.true_;
    looks = subst (λ m. (i : ℕ) (v : View T) → get_elem? s.views i ≡ some v → v.role ≡ Member
        → Looks m k.walk i v.sight) q k.looks;
    lists = subst (λ m. (p : Want) → IsAwaited s.views p (ready p k.history m k.cut) (free k.cut 1) (k.tokens p)
        (k.waiting p)) q k.lists;
    undrawn = subst (λ m. Undrawn k.history m k.states s.homes) q k.undrawn;
    waits = subst (λ m. Waiting k.history s.views m k.states s.homes) q k.waits;
    taken_ = subst (λ m. Taken k.history s.views m k.states) q k.taken_;
    hub = k.hub;
    roll = k.roll;
    idle = k.idle;
    apart = k.apart;
    rolled = k.rolled;
    known = k.known;
    out_ = k.out_;
    newborn = k.newborn;
    fits = subst (λ m. (i : ℕ) (v : View T) → get_elem? s.views i ≡ some v
        → Fits k.history m k.states k.cut k.hub k.roll i v) q k.fits;
  }

  -- a step goes as it should if it does where the rule speaks of as many slots as there are
  pub steps : (slots i : ℕ) (me : Sat T) (j : ℕ) (f : ℕ → ℕ) (then : ℕ → Sat T → Type 0)
      → ((s : St T) (k : Keeps s) → k.size ≡ slots → get_elem? s.views i ≡ some me.0
      → Goes s j i me then (f (slice_index s.words j)))
      → Allows Keeps slots i me j f then
  steps slots i me j f then go s k homes at small = go s k (sym k.sized.1 ∙ homes) at

  -- a compare-exchange goes as it should if it succeeds, and else changes nothing
  pub exchanges : (j : ℕ) (then : ℕ → Sat T → Type 0) (slots i : ℕ) (me : Sat T) (old new : ℕ)
      → ((s : St T) (k : Keeps s) → k.size ≡ slots → get_elem? s.views i ≡ some me.0
      → slice_index s.words j ≡ old → Goes s j i me then new)
      → ((r : ℕ) → r ≢ old → then r me)
      → Allows Keeps slots i me j (λ r. either (r == old) new r) then
  exchanges j then slots i me old new hit miss s k homes at small =
      exchanged (slice_index s.words j) old new (Goes s j i me then)
      (λ e. hit s k (sym k.sized.1 ∙ homes) at e)
      (λ ne. (me.0, keeps, tt, stays s k j i me.0 at me.1, miss (slice_index s.words j) ne))

  pub at0 : (s : St T) (k : Keeps s) → slice_index s.words 0 ≡ drawn k.history + 9223372036854775808 * k.cut
  at0 s k = ap (λ l. slice_index l 0) k.words

  pub at1 : (s : St T) (k : Keeps s) → slice_index s.words 1 ≡ taken k.history
  at1 s k = ap (λ l. slice_index l 1) k.words

  pub at_list_word : (q : Want) (s : St T) (k : Keeps s)
      → slice_index s.words (list_word q) ≡ k.tokens q + 4294967296 * k.waiting q
  at_list_word Values s k = ap (λ l. slice_index l 2) k.words
  at_list_word Room s k = ap (λ l. slice_index l 3) k.words
