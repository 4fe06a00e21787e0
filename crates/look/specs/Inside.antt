-- Definitions that only private contracts cite. Nobody has to believe them: the laws in proofs/ tie them to the tokens of the text.
pub mod Looks
pub mod Tokens
