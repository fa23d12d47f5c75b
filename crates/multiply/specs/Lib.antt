-- What the contract of `multiply` cites.
pub mod Wm
