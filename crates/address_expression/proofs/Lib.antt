-- The laws that the proofs of the functions cite.
pub mod Ranges
pub mod Digits
pub mod Front
pub mod Kept
