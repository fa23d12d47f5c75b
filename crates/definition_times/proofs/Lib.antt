pub mod Most
pub mod Laws
