pub mod Calling
pub mod Continuing
