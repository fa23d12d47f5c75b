-- The assembler (document 02, E7): what a line is and what it stands for; the reader; what is claimed of them.
pub mod Answers
pub mod Letters
pub mod Grammar
pub mod Line
pub mod Reader
pub mod Head
pub mod Assembling
pub mod Claims
pub mod Worked
