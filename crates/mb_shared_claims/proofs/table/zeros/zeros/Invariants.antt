use Rattle.std.proofs.Common.{◌≡◌, ◌+◌, ◌-◌, ◌≤◌, length, replicate, vec_capacity}
use Rattle.mb_shared_claims.proofs.table.zeros.zeros.Given as goal

-- the words are all 0, there is room for `many` of them, and there are at most `many`
abbrev pub invariant-loop-words : goal.invariant-loop-words
invariant-loop-words g l = record {
  zeros : l.words.items ≡ replicate (length l.words.items) 0;
  room : l.many ≤ vec_capacity l.words;
  most : length l.words.items ≤ l.many;
}

-- the words are all 0, there is room for `many`, each pass of the loop added one word, and the piece ends within `many`
abbrev pub invariant-loop : goal.invariant-loop
invariant-loop g l = record {
  zeros : l.words.items ≡ replicate (length l.words.items) 0;
  room : l.many ≤ vec_capacity l.words;
  count : length l.words.items ≡ length l.initial.words.items + l.counter;
  most : length l.initial.words.items + l.piece ≤ l.many;
}

-- how many words are missing: each pass of the loop adds at least one
abbrev pub decreases-loop-words : goal.decreases-loop-words
decreases-loop-words g l = l.many - length l.words.items
