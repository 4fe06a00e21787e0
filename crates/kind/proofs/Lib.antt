-- Laws of the kinds.
pub mod Numbers
