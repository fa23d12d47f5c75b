mod Bits
pub mod Names
pub mod Passes
pub mod Marked
