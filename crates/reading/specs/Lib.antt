-- Numbers in an input.
pub mod Number
