pub mod Text
pub mod Cells
pub mod Order
