-- What the contracts of `floating` cite.
pub mod Operands
pub mod Add
pub mod Multiply
pub mod Divide
pub mod Convert
