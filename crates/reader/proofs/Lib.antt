-- Laws of the readers.
pub mod Declarations
pub mod Processes
pub mod Designs
pub mod Answering
pub mod Demand2
pub mod Tabling
pub mod OneTable
