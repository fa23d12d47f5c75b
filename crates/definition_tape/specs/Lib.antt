-- The load tape: its layout, its judge, what it loads, its first remark, the tape of a machine.
pub mod Layout
pub mod Judge
pub mod Load
pub mod Remark
pub mod Blocks
pub mod Bytes
pub mod Writing
pub mod Examples
