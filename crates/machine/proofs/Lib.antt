-- What each instruction does to the operands' word, and what the loop of a run keeps.
pub mod Fetching
pub mod Stepping
pub mod Running
pub mod Saying
pub mod Relaying
