pub mod Names
pub mod Ordering
