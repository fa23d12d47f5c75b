pub mod Stretches
pub mod Fewest
pub mod Tapes
pub mod Records
pub mod Bytes
pub mod Claims
