pub mod Sums
pub mod Slowest
pub mod Rooting
