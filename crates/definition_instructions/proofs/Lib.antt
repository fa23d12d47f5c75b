pub mod MicroLaws
pub mod Isolation
pub mod Validity
pub mod DeviceLaws
