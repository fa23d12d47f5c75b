-- What the contracts of `assembler` cite besides the definition.
pub mod Steps
