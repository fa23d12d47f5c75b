pub mod Lent
pub mod Numbers
pub mod Cells
pub mod Rows
