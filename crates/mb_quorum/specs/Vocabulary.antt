-- The definitions that clauses name, in one place, for clauses here and in the crates above.
pub use Rattle.mb_quorum.specs.Bits.{bits_table, named_register, other_register}
pub use Rattle.mb_quorum.specs.Chosen.{chosen_table}
pub use Rattle.mb_quorum.specs.Mask.{mask_of}
pub use Rattle.mb_quorum.specs.Middle.{choose, halves, breadth_of, IsLeastBreadth, set_number, middle_table}
pub use Rattle.mb_quorum.specs.Quorum.{QuorumTable, IsQuorumTable, IsMember, AreDisjoint}
pub use Rattle.mb_quorum.specs.Tables.{table_of}
pub use Rattle.mb_quorum.specs.Unary.{unary_table}
pub use Rattle.mb_quorum.specs.Width.{width_of, IsLeastWidth}
