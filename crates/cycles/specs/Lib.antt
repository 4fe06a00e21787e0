-- Cycles over a table's words and a session's cells.
pub mod Inside
