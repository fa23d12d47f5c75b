-- The law of the steps; signed numbers of the host.
pub mod Product
pub mod Signed
