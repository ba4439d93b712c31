-- What the loop of `Table::new` keeps: two lists of `MAX_VALUES` masks, which have the write and read quorums of the
-- values so far in the table of this name.
use Rattle.std.proofs.Common.{◌≡◌, ◌<◌, ℕ, length, slice_index}
use Rattle.mb_quorum.specs.declared.values.TheConstants.{MAX_VALUES}
use Rattle.mb_quorum.specs.Tables.{table_of}
use Rattle.mb_quorum.proofs.table.Table.new.Given as goal

abbrev pub invariant-loop-v : goal.invariant-loop-v
invariant-loop-v l = record {
  all_writes : length l.write ≡ MAX_VALUES;
  all_reads : length l.read ≡ MAX_VALUES;
  writes : (k : ℕ) → k < l.v → slice_index l.write k ≡ (table_of l.name l.values).write k;
  reads : (k : ℕ) → k < l.v → slice_index l.read k ≡ (table_of l.name l.values).read k;
}
