-- What a text is: trees, the tokens of a tree, which tokens are a design, and the circuit that a tree stands for.
pub mod Tree
pub mod Sentence
pub mod Circuit
