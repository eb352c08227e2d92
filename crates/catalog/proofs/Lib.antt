pub mod Missions
pub mod NeedOrder
pub mod Parts
pub mod Places
pub mod Values
pub mod Words
