-- What the loops of a cycle and of the cycles at one time keep.
pub mod Waking
pub mod Sweeping
pub mod Cycling
pub mod Settling
pub mod Packing
