pub mod Unassigned
pub mod Lifted
