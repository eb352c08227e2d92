pub mod Acting
pub mod Granting
pub mod Sending
