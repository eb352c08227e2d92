pub mod Ships
pub mod Seen
pub mod Changed
pub mod Raids
