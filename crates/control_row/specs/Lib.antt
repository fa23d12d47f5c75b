pub mod Row
pub mod Endings
