pub mod Sameness
pub mod Unions
pub mod Fewer
pub mod Walked
pub mod Comparing
pub mod Searching
pub mod Naming
