-- Laws of the stop words.
pub mod Stops
