-- A session, and the run of a start and of an advance on one.
pub mod Answers
pub mod Sessions
pub mod Inside
