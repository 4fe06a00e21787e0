-- Definitions that the specifications of several crates are written in.
pub mod Pick
pub mod Text
pub mod Decides
