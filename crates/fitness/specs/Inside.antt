-- Definitions that only private contracts cite. Nobody has to believe them: no public contract names one.
pub mod Kinds
pub mod Parts
pub mod Heights
pub mod Drivers
pub mod Tested
