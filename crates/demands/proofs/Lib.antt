-- The demands over definitions.
pub mod Worked
pub mod Demands
pub mod Header
