-- What is written of a table while its text is read. No public contract of the product names a definition of this crate.
pub mod Inside
