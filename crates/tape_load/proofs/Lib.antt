pub mod Fits
pub mod Laid
