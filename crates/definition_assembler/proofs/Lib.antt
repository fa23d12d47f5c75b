-- The laws of the reader, and the claims.
pub mod Steps
pub mod Digits
pub mod Rest
pub mod Back
pub mod Trees
pub mod Sound
pub mod Parts
pub mod Lines
pub mod Words
pub mod Claims
