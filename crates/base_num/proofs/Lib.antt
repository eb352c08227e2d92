pub mod Quotients
pub mod Rooting
