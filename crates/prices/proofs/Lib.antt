pub mod Costs
pub mod Levels
pub mod Longest
