pub mod Distances
pub mod Fleets
pub mod Speeds
pub mod Times
pub mod Freight
