-- Which table and which session words hold, and what each word of a fit one says.
-- Of columns and single words:
pub mod Columns
pub mod InstructionWords
pub mod ChangeWords
-- Of tables:
pub mod TableLaws
pub mod Tables
-- Of sessions:
pub mod SessionLaws
pub mod Sessions
-- Of words that may hold neither:
pub mod Decoded
