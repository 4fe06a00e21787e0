-- Definitions that only private contracts cite. Nobody has to believe them: no public contract names one.
pub mod Lines
