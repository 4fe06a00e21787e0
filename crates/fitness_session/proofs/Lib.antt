-- Why the tests of a session's fitness decide what they say.
pub mod Climbing
pub mod Driven
pub mod Whole
