pub mod Store
pub mod Fields
pub mod Records
pub mod Verdicts
pub mod Answers
pub mod Format
