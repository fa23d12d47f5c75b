pub mod Lines
pub mod Entry
