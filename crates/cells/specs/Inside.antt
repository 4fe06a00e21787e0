-- Definitions that only contracts inside the library cite. Nobody has to believe them: no exported function's contract names one.
pub mod Moves
pub mod Changes
pub mod Places
