-- Calls one after the other, as their promises tell of them, and what the rules give.
pub mod Calls
pub mod AsWritten
