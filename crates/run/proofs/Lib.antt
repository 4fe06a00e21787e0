-- The words of a session and its cells, what a call on lent words gives, and that no second outcome fits.
pub mod Copying
pub mod Holding
pub mod Giving
pub mod Answering
pub mod Once
