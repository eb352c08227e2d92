pub mod Energy
pub mod Formulas
pub mod Production
pub mod Stock
pub mod Times
pub mod Yields
