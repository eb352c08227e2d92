pub mod Wholes
pub mod Elapsing
pub mod Answered
pub mod Samples
