-- Proof of `LineWords::of_line`, which returns the words of a line, or `None` if some word is empty or there are more
-- than `MAX_WORDS`.
use Rattle.std.proofs.Common.{rules, arith, lit<, ◌≡◌, ℕ, ◌<◌, List, [], ◌∷◌, ◌++◌, length, map, take, ap, sym, ◌∙◌}
use Rattle.std.proofs.lemmas.List.{length-set}
use Rattle.std.proofs.lemmas.Grind.{common_steps}
use Rattle.mb_script.specs.Text.{words_in_line}
use Rattle.mb_script.proofs.Cuts.{words_cut, words_last, empty_behind, none_behind, too_many, word_moves, word_kept, words_taken}
use Rattle.mb_script.proofs.few_words.LineWords.of_line.Goals.{then-is_empty-via-then-is_empty, then-is_empty-via-else-is_empty+then-count-eq-MAX_WORDS}
use Rattle.mb_script.proofs.few_words.LineWords.of_line.Goals as goal

pub returns-then-is_empty : goal.returns-then-is_empty
returns-then-is_empty c =
    let rest = c.loop-word.rest.now in
    let h = c.in-Some.ensures.byte (lit< tt) (λ w o f. f) in
    let cut : words_in_line rest ≡ c.in-Some.word.now
    ∷ words_in_line c.in-Some.after.now = rw (h.0, h.1) (words_cut rest h.2) in
    let ws = map (λ w. w.now) (take c.loop-word.count c.loop-word.words) in
    let whole : ws ++ c.in-Some.word.now ∷ words_in_line c.in-Some.after.now ≡ words_in_line c.args.line.now =
    ap (λ (l : List (List ℕ)). ws ++ l) (sym cut) ∙ c.loop-word.invariant.cut in
    let low : c.loop-word.count < 8 = c.loop-word.invariant.few in
    let taken : length ws ≡ c.loop-word.count = words_taken _ _ (omega (arith, low, c.loop-word.invariant.room)) in
    elim c.then-is_empty.branch [
      | then-is_empty-via-then-is_empty w ↦ empty_behind ws _ _ _ _ c.loop-word.invariant.full
          (sym c.is_empty.ensures ∙ w.if-is_empty.true) whole
      | then-is_empty-via-else-is_empty+then-count-eq-MAX_WORDS w ↦ too_many ws _
          c.in-Some.after.now _ 8 (omega (arith, taken, w.if-count-eq-MAX_WORDS.true)) whole
    ]

pub loop-word-preserved : goal.loop-word-preserved
loop-word-preserved c =
    let rest = c.loop-word.rest.now in
    let h = c.in-Some.ensures.byte (lit< tt) (λ w o f. f) in
    let cut : words_in_line rest ≡ c.in-Some.word.now
    ∷ words_in_line c.in-Some.after.now = rw (h.0, h.1) (words_cut rest h.2) in
    let ws = map (λ w. w.now) (take c.loop-word.count c.loop-word.words) in
    let kept = word_kept c.loop-word.words c.loop-word.count c.in-Some.word
    (omega (arith, c.loop-word.invariant.few, c.loop-word.invariant.room)) in
    record {
      text = search rules;
      room = length-set c.loop-word.words c.loop-word.count c.in-Some.word ∙ c.loop-word.invariant.room;
      few = grind (arith, common_steps);
      cut = rw kept (word_moves _ _ rest c.in-Some.after.now _ cut c.loop-word.invariant.cut);
      full = rw kept (none_behind ws c.in-Some.word.now c.loop-word.invariant.full
          (sym c.is_empty.ensures ∙ c.if-is_empty.false));
    }

pub returns : goal.returns
returns c =
    let rest = c.loop-word.rest.now in
    let none = c.in_default.ensures.byte (lit< tt) (λ w o f. f) in
    let last = words_last rest none in
    let ws = map (λ w. w.now) (take c.loop-word.count c.loop-word.words) in
    let kept = word_kept c.loop-word.words c.loop-word.count c.loop-word.rest
    (omega (arith, c.loop-word.invariant.few, c.loop-word.invariant.room)) in
    let whole : ws ++ rest ∷ [] ≡ words_in_line c.args.line.now =
    ap (λ (l : List (List ℕ)). ws ++ l) (sym last) ∙ c.loop-word.invariant.cut in (
      rw (sym whole) (none_behind ws rest c.loop-word.invariant.full
          (sym c.is_empty-2.ensures ∙ c.if-is_empty-2.false)),
      kept ∙ whole,
    )
