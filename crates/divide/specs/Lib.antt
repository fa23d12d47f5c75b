-- What the contract of `divide` cites.
pub mod Wd
