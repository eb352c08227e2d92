pub mod Bounds
pub mod Freight
pub mod Planet
pub mod Queue
pub mod Yard
