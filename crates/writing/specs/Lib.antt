-- The bytes of the dump, written to a lent buffer.
pub mod Inside
