-- A pass learns how many positions are drawn, or claimed. The rule holds.
use Rattle.mb_segment.proofs.Base.{Allows, List, arith, get_elem?, keeps, none, refl, slice_index, slice_set, some, step, ℕ}
use Rattle.mb_segment.proofs.Base.{◌%◌, ◌≡◌, ◌≤◌}
use Rattle.mb_segment.specs.Vocabulary.{Fits, History, Keeps, Known, Sat, View, drawn, learning_drawn, learning_taken}
use Rattle.mb_segment.specs.Vocabulary.{learns_drawn, learns_taken, taken}
use Rattle.mb_segment.proofs.Spots.{below_less}
use Rattle.mb_segment.proofs.Kept.{St, at0, at1, at_rest, loaded, settled}

module _ {T : Type 0} where
  -- a view that learned of more that is so
  knows_more : (h : History T) (states : List ℕ) (cut hub : ℕ) (roll : List ℕ) (n : ℕ) (v : View T) (q : Known)
      → Fits h states cut hub roll n v → v.known.drawn ≤ q.drawn → v.known.taken ≤ q.taken → q.drawn ≤ drawn h
      → q.taken ≤ taken h → Fits h states cut hub roll n record v { known = q }
  knows_more h states cut hub roll n v q f d t d' t' = record {
    member = λ r. let m = f.member r in
        record { sent = m.sent; got = m.got; cut = m.cut; no_hub = m.no_hub; not_back = m.not_back };
    hub_ = λ r. let m = f.hub_ r in
        record { here = m.here; ends = m.ends; nothing = m.nothing; idle = m.idle };
    back = f.back;
    debt = f.debt;
    half = f.half;
    low = f.low;
    ripe = f.ripe;
    full = f.full;
    cut_ = f.cut_;
    empty = f.empty;
    heard = let a = f.heard.2 in (
      d',
      t',
      (
        below_less v.known.drawn q.drawn v.account.sent d a.0,
        below_less v.known.drawn q.drawn v.account.got d a.1,
        below_less v.known.taken q.taken v.account.got t a.2,
      ),
      f.heard.3,
    );
    over = f.over;
  }

  learnt : (s : St T) (k : Keeps s) (n : ℕ) (v : View T) (q : Known) → get_elem? s.views n ≡ some v
      → v.known.drawn ≤ q.drawn → v.known.taken ≤ q.taken → q.drawn ≤ drawn k.history → q.taken ≤ taken k.history
      → Keeps record { words = s.words; homes = s.homes; views = slice_set s.views n record v { known = q } }
  learnt s k n v q at d t d' t' = settled s k n v record v { known = q } at refl refl refl refl refl (refl, refl, refl)
      (knows_more k.history k.states k.cut k.hub k.roll n v q (k.fits n v at) d t d' t')
      (at_rest s k v record v { known = q } refl)

  pub learns_drawn_at : (slots n : ℕ) (me : Sat T)
      → Allows Keeps slots n me 0 (λ r. r) (learning_drawn (step slots 0 0 0 none) me)
  learns_drawn_at slots n me s k homes at small =
      let now_ = at0 s k in let in_ = k.within in let narrow = k.small in
      let h = (k.fits n me.0 at).heard in let d = h.0 in
      let w = learns_drawn (slice_index s.words 0 % 9223372036854775808) me.0 in (
        w,
        keeps,
        tt,
        loaded s 0 n me.1 w (learnt s k n me.0 w.known at (omega arith) (omega arith) (omega arith) h.1),
        ((refl, refl), omega arith),
      )

  pub learns_taken_at : (slots n : ℕ) (me : Sat T)
      → Allows Keeps slots n me 16 (λ r. r) (learning_taken (step slots 16 0 0 none) me)
  learns_taken_at slots n me s k homes at small =
      let now_ = at1 s k in let h = (k.fits n me.0 at).heard in let t = h.1 in
      let w = learns_taken (slice_index s.words 16) me.0 in (
        w,
        keeps,
        tt,
        loaded s 16 n me.1 w (learnt s k n me.0 w.known at (omega arith) (omega arith) h.0 (omega arith)),
        ((refl, refl), omega arith),
      )
