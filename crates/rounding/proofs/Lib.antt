-- Laws of normalizing and rounding AF.
pub mod Left
pub mod Wide
pub mod Once
pub mod Count
