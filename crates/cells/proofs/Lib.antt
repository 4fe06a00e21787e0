-- Laws of the cells of a session, and of words of yes-or-nos.
pub mod Tabulating
pub mod Waiting
pub mod Columns
pub mod Cutting
pub mod Posting
pub mod Taking
pub mod Words
pub mod Walks
pub mod Nearest
pub mod Dues
pub mod Differing
