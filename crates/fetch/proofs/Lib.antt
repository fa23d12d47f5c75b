pub mod Fetch
pub mod Times
