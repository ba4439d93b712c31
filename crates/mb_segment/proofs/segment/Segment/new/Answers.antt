use Rattle.std.proofs.Common.{List, arith, replicate, rules, subst, sym, ℕ, ◌+◌, ◌∙◌, ◌≡◌}
use Rattle.atomic_table.specs.Table.{opening}
use Rattle.mb_segment.specs.Vocabulary.{Keeps, new_hub}
use Rattle.mb_segment.proofs.Spots.{state_word}
use Rattle.mb_segment.proofs.Halves.{empty_slots}
use Rattle.mb_segment.proofs.PassMoves.{opens}
use Rattle.mb_segment.proofs.segment.Segment.new.Goals as goal

-- words that are all 0, and empty slots, keep the rule
pub vacant-requires : goal.vacant-requires
vacant-requires g c =
    let few = c.ranges.size.fits in
    let many : c.args.size + 17 ≡ state_word c.args.size = omega arith in
    let zeros : c.as_slice.result.now ≡ replicate (c.args.size + 17) 0 = search rules in
    subst (λ (ws : List ℕ). Keeps (opening ws (empty_slots _ c.args.size) new_hub))
    (sym (zeros ∙ (λ i. replicate (many i) 0)))
    (opens c.args.size few)
