-- The numbers that are drawn, and the checksum.
pub mod Drawn
