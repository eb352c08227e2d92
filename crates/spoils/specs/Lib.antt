pub mod Defences
pub mod Harvest
pub mod Loot
pub mod Shares
