-- The elementary operations of 14.3 as printed, and what is proved of the definitions of arithmetic besides the contracts.
pub mod Elementary
pub mod Adder
pub mod Claims
