pub mod Machine
pub mod Channel
pub mod MicroOps
pub mod Operands
pub mod Meaning
pub mod Codes
pub mod Protected
pub mod Worked
