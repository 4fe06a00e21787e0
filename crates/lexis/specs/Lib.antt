-- Bytes to tokens, as document 01 says under 'The text'.
pub mod Byte
pub mod Blank
pub mod Run
pub mod Token
pub mod Examples
