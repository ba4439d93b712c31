-- Proof of `steps::pools_are_what_was_done`: all pools of one size that one history leaves are equal.
use Rattle.std.proofs.Common.{ap, arith, subst, sym, ◌∙◌, ◌≡◌}
use Rattle.std.proofs.Math.ListN.{get_or}
use Rattle.std.proofs.lemmas.List.{ext_get_or}
use Rattle.mb_cells.proofs.steps.pools_are_what_was_done.Goals as goal
use Rattle.mb_cells.specs.{Counter, Head, History, IsAfter, IsLaneAfter, PoolIsSound, Item, Link, PoolState, Producer, SameSize, cell_count, new_lane, part}
use Rattle.mb_cells.proofs.LaneSteps.{same_lane}

-- two pools of one size that a history leaves are equal, field by field
one_pool : (h : History) (s t : PoolState) → PoolIsSound s → PoolIsSound t → SameSize s t
    → IsAfter h s → IsAfter h t → s ≡ t
one_pool h s t x y size a b =
    let counter : s.words.counter ≡ t.words.counter = a.words Counter tt ∙ sym (b.words Counter tt) in
    let heads : s.words.heads ≡ t.words.heads =
    ext_get_or 0 s.words.heads t.words.heads (x.heads ∙ sym size.0 ∙ sym y.heads)
    (λ p lt. a.words (Head p) (omega (arith, lt, x.heads))
    ∙ sym (b.words (Head p) (omega (arith, lt, x.heads, size.0)))) in
    let links : s.words.links ≡ t.words.links =
    ext_get_or 0 s.words.links t.words.links (x.links ∙ sym size.1 ∙ sym y.links)
    (λ k lt. a.words (Link k) (omega (arith, lt, x.links))
    ∙ sym (b.words (Link k) (omega (arith, lt, x.links, size.1)))) in
    let items : s.words.items ≡ t.words.items =
    ext_get_or 0 s.words.items t.words.items (sym size.1)
    (λ k lt. a.words (Item k) lt ∙ sym (b.words (Item k) (omega (arith, lt, size.1)))) in
    let lanes : s.lanes ≡ t.lanes =
    ext_get_or new_lane s.lanes t.lanes (sym size.0)
    (λ p lt. same_lane (cell_count s) p (get_or s.lanes p new_lane) (get_or t.lanes p new_lane) (part (Producer p) h)
    (a.lanes p new_lane lt)
    (subst (λ n. IsLaneAfter n p (get_or t.lanes p new_lane) (part (Producer p) h)) size.1
    (b.lanes p new_lane (omega (arith, lt, size.0))))) in
    ap (λ n. record {
      words = record {
        counter = n;
        heads = s.words.heads;
        links = s.words.links;
        items = s.words.items;
      };
      lanes = s.lanes;
    }) counter
    ∙ ap (λ l.
    record {
      words = record { counter = t.words.counter; heads = l; links = s.words.links; items = s.words.items };
      lanes = s.lanes;
    }) heads
    ∙ ap (λ l.
    record {
      words = record { counter = t.words.counter; heads = t.words.heads; links = l; items = s.words.items };
      lanes = s.lanes;
    }) links
    ∙ ap (λ l.
    record {
      words = record { counter = t.words.counter; heads = t.words.heads; links = t.words.links; items = l };
      lanes = s.lanes;
    }) items
    ∙ ap (λ l. record { words = t.words; lanes = l }) lanes

pub returns : goal.returns
returns c = one_pool
