-- Definitions that only private contracts cite. Nobody has to believe them: the laws in proofs/ tie them to what a design's tokens are judged.
pub mod Standing
