pub mod Passes
pub mod Shifts
