-- What the contracts of `rounding` cite.
pub mod Round
pub mod Store
pub mod Convert
