pub mod Calls
pub mod Counting
pub mod Drawing
pub mod Errands
pub mod Founded
pub mod Generated
pub mod Homes
pub mod Turns
