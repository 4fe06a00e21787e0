-- What the tests of the parts of a table say.
pub mod Inside
