pub mod Adder
pub mod Double
pub mod Product
pub mod Enough
pub mod Again
pub mod Ends
pub mod Passes
