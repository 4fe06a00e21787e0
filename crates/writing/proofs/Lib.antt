-- Bytes behind bytes, lines of signals, and the digits of a time.
pub mod Buffers
pub mod Rows
pub mod Digits
pub mod Choosing
