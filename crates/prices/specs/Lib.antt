pub mod Prices
pub mod Durations
