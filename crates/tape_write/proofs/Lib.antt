pub mod Puts
pub mod Passes
pub mod Ways
