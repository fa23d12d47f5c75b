-- What the contracts of `normalize` cite.
pub mod Norm
