-- What each token of a design is for, which refusal of 5 to 10 a design gets, the circuit that it stands for, and what a text gets.
pub mod Roles
pub mod Judge
pub mod CircuitOf
pub mod Text
pub mod Examples
