-- The token at a place of a text, as a number. No public contract of the product names a definition of this crate.
pub mod Inside
