-- Where the count of a pass's looks rises.
use Rattle.mb_ring.proofs.Base.{ap, arith, dec_le, dec_lt, length, slice_index, ℕ, ◌%◌, ◌+◌, ◌<◌, ◌≡◌, ◌≤◌}
use Rattle.mb_ring.specs.Vocabulary.{Duty, IsCut, IsViewOf, Keeps, Sat, counting, found_empty, found_full, load_in, looking}
use Rattle.mb_ring.specs.Vocabulary.{waiting_in}
use Rattle.mb_ring.proofs.Kept.{St}
use Rattle.mb_ring.proofs.Loads.{at1}
use Rattle.mb_ring.proofs.Places.{drawn_is}

module _ {T : Type 0} (s : St T) (k : Keeps s) (n : ℕ) where
  pub at_empty : (f h : Duty → Duty) (v w : Sat T) → IsViewOf s n v.0
      → looking f h (load_in 0 s) v (slice_index s.words 0) w → found_empty v.0 < found_empty w.0
      → (waiting_in s ≡ 0) × (IsCut s → ⊥)
  at_empty f h v w at look more = go (dec_le (slice_index s.words 0 % 9223372036854775808) v.0.sight.low)
      (dec_lt (slice_index s.words 0) 9223372036854775808)
    where
      go : Dec (slice_index s.words 0 % 9223372036854775808 ≤ v.0.sight.low)
          → Dec (slice_index s.words 0 < 9223372036854775808) → (waiting_in s ≡ 0) × (IsCut s → ⊥)
      go (no some_) cut = let e = ap found_empty (look.0 (omega arith)).0 in absurd (omega arith)
      go (yes none_) (no cut) = let e = ap found_empty (look.2 none_ (omega arith)).0 in absurd (omega arith)
      go (yes none_) (yes open_) =
          let l = (k.fits n v.0 at).sight.low in let t = at1 s k in (omega arith, λ cut. absurd (omega arith))

  pub at_full : (f : Duty → Duty) (v w : Sat T) → IsViewOf s n v.0
      → counting f (load_in 1 s) v (slice_index s.words 1) w → found_full v.0 < found_full w.0
      → waiting_in s ≡ length s.homes
  at_full f v w at look more = go (dec_le (slice_index s.words 1 + length s.homes) v.0.sight.top)
    where
      go : Dec (slice_index s.words 1 + length s.homes ≤ v.0.sight.top) → waiting_in s ≡ length s.homes
      go (yes full) =
          let t = at1 s k in let d = drawn_is s k in let l = (k.fits n v.0 at).sight.top in let w' = k.within in
          let m = k.sized.1 in omega arith
      go (no room) = let e = ap found_full (look.1 (omega arith)).0 in absurd (omega arith)
