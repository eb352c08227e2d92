pub mod Losses
pub mod Parts
pub mod Leaving
pub mod Aftermath
