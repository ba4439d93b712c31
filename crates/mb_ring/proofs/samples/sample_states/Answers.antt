use Rattle.mb_ring.proofs.Base.{[], ap, arith, inl, refl, ◌*◌, slice_index, sym, ℕ, ⊎_elim, ◌+◌, ◌∷◌, ◌≡◌}
use Rattle.std.proofs.Math.Nat.{zero-mod}
use Rattle.mb_segment.proofs.Spots.{all_length, at_below, below_length}
use Rattle.mb_ring.specs.RingSamples.{boasting, crowded, forgotten, overfull, overslept, reused, sent, sleeper, unused}
use Rattle.mb_ring.specs.Vocabulary.{Drew, Room, Values, all_entries, free, sees_empty, turn}
use Rattle.mb_segment.proofs.Halves.{free_shut}
use Rattle.mb_ring.proofs.Loads.{at0, at1, at_list_word}
use Rattle.mb_ring.proofs.PassMoves.{opens}
use Rattle.mb_ring.proofs.Places.{is_drawn, new_open, room_left}
use Rattle.mb_ring.proofs.samples.sample_states.Goals as goal

pub returns-clause-new : goal.returns-clause-new
returns-clause-new c = opens 1 (omega arith)

pub returns-clause-cut : goal.returns-clause-cut
returns-clause-cut c k = new_open (unused 9223372036854775808) k refl (omega arith)

pub returns-clause-overfull : goal.returns-clause-overfull
returns-clause-overfull c k =
    let d = at0 overfull k in let t = at1 overfull k in let m = k.small in let w = k.within in let n = k.sized.1 in
    absurd (omega arith)

pub returns-clause-reused : goal.returns-clause-reused
returns-clause-reused c k =
    let d = at0 reused k in let t = at1 reused k in let m = k.small in
    let l = all_length k.history in
    let e = at_below (all_entries k.history) 0 (omega arith) in
    let word : slice_index k.states 0 ≡ 2 = sym (ap (λ l. slice_index l 4) k.words) in
    let z : turn k.size k.states 0 ≡ slice_index k.states 0 + 2 * 0
    = ap (λ (i : ℕ). slice_index k.states i + 2 * i) (zero-mod k.size) in
    ⊎_elim (λ y. let q = y.0 in absurd (omega arith)) (λ y. let q = y.0 in absurd (omega arith))
    (k.waits 0 e.0 (omega arith) e.1)

pub returns-clause-boasting : goal.returns-clause-boasting
returns-clause-boasting c k =
    let d = at0 boasting k in let m = k.small in
    let e = is_drawn boasting k 1 sent 0 10 (refl, refl) (inl (refl, refl)) in
    let l = all_length k.history in
    let b = below_length (all_entries k.history) 0 e.0 e.1 in absurd (omega arith)

pub returns-clause-overslept : goal.returns-clause-overslept
returns-clause-overslept c k =
    let d = at0 overslept k in let t = at1 overslept k in let l = at_list_word Values overslept k in
    let n = (k.lists Values).narrow in let m = k.small in
    ⊎_elim (λ x. absurd (omega arith)) (λ x. absurd (omega arith)) (k.lists Values).quiet

pub returns-clause-forgotten : goal.returns-clause-forgotten
returns-clause-forgotten c k =
    let d = at0 forgotten k in let l = at_list_word Values forgotten k in
    let n = (k.lists Values).narrow in let m = k.small in
    let none_ : free k.cut 1 ≡ 0 = free_shut k.cut 1 (omega arith) in
    ⊎_elim (λ x. absurd (omega arith)) (λ x. absurd (omega arith)) (k.lists Values).shut

pub returns-clause-crowded : goal.returns-clause-crowded
returns-clause-crowded c k =
    let d = at0 crowded k in let t = at1 crowded k in let l = at_list_word Room crowded k in
    let n = (k.lists Room).narrow in let m = k.small in let z = k.sized.1 in
    let r = room_left crowded k (λ cut. omega arith) in
    ⊎_elim (λ x. absurd (omega arith)) (λ x. absurd (omega arith)) (k.lists Room).quiet

pub returns-clause-dreams : goal.returns-clause-dreams
returns-clause-dreams c k = let l = (k.looks 1 (sees_empty 0 (Drew ∷ []) sleeper) refl refl).0.1 (omega arith) in
    absurd (let d = l.2 in omega arith)
