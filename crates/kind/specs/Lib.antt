-- The twelve kinds of an instruction and their numbers.
pub mod Numbers
