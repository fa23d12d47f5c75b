pub mod Grammars
pub mod Once
pub mod Contents
pub mod Claims
pub mod Numbers
