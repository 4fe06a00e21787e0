-- What a text does, from its bytes to the bytes of its dump.
pub mod Shown
pub mod Cases
