-- The table: instructions, the step machine, when a table is fit, and the translation of a circuit.
pub mod Instructions
pub mod Machine
pub mod Table
pub mod Fit
pub mod Translation
pub mod Cases
