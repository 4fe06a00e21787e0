-- The rules: what a circuit does, over the tree of its statements. No instruction, jump or table is used.
pub mod Sizes
pub mod Outcome
pub mod Formulas
pub mod Pending
pub mod Runner
pub mod Statements
pub mod Session
pub mod Dump
pub mod Calls
pub mod Sized
pub mod Cases
