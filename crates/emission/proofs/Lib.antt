-- Laws of the words of a table that are filled, and of the bits of processes.
pub mod Bits
pub mod Filling
-- What the parts of a design draft is the translation of its circuit.
pub mod Laid
pub mod Expressions
pub mod Statements
pub mod Columns
pub mod Listeners
pub mod Stages
pub mod Declarations
pub mod Theorem
