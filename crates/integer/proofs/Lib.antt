-- Laws of the operations on single bits.
pub mod Digits
