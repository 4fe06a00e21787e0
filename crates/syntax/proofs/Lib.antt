-- The grammar as a stack machine, and the theorems on refusals 3 and 4.
pub mod Machine
pub mod Rows
pub mod Laws
pub mod Nesting
pub mod Theorem
pub mod Missing
pub mod Counting
pub mod Examples
