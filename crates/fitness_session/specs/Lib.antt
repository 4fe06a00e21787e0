-- Only definitions that private contracts cite: what the answer says stands in crates fitness and layout.
pub mod Inside
