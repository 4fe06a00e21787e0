-- Why the tests of fitness decide what they say.
pub mod Spans
pub mod Ranges
pub mod Reading
pub mod Kind
pub mod Passes
pub mod Owners
pub mod Whole
