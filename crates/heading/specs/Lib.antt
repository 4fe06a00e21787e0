-- What `header` promises.
pub mod Headed
pub mod Inside
