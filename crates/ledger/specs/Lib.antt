-- The ledger in which refusals 5 to 10 are judged. No public contract of the product names a definition of this crate.
pub mod Inside
