-- The cells of a session: values and pending changes in one array of words.
pub mod Cells
pub mod Inside
