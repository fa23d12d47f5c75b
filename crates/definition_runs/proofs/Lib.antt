pub mod RunLaws
pub mod CycleLaws
pub mod CycleValid
pub mod Fetched
