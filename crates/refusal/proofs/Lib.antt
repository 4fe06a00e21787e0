-- Laws of the reasons.
pub mod Numbers
