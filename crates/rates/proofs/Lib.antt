pub mod Gains
pub mod Powers
pub mod Repetition
pub mod Sizes
pub mod Shares
