-- Tables and sessions in 64-bit words: docs/FORMAT.md, word by word.
pub mod TableWords
pub mod SessionWords
pub mod Cases
