-- What the functions of the C library answer and leave.
pub mod Codes
