-- Laws that the proofs of `shift` cite.
pub mod Narrow
pub mod Places
