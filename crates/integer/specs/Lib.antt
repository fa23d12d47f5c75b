-- What the contracts of `integer` cite.
pub mod Sums
pub mod Bitwise
pub mod Skip
