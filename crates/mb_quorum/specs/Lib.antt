pub mod Bits
-- the lemmas that a table keeps the law of quorum tables are in a file named after the table: `BitsLaw` for `Bits`
pub mod BitsLaw
pub mod Chosen
pub mod Mask
pub mod MaskLaw
pub mod Middle
pub mod MiddleLaw
pub mod Quorum
pub mod Tables
pub mod TablesLaw
pub mod Unary
pub mod UnaryLaw
pub mod Vocabulary
pub mod Width
pub mod WidthLaw
