pub mod Fleet
pub mod Fleets
