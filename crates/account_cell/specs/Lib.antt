pub mod Account
pub mod Bounds
pub mod Queue
