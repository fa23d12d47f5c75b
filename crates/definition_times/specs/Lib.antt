pub mod Times
pub mod Timer
pub mod Worked
