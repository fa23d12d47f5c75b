pub mod Promises
pub mod Several
