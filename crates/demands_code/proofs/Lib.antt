-- Demand 3 about the code.
pub mod Demand3
