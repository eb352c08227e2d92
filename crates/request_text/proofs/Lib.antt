pub mod Calls
pub mod Colons
pub mod Counting
pub mod Heads
pub mod LineHearing
pub mod LineKnowing
pub mod LineSeeing
pub mod LineWindows
pub mod Plain
pub mod ShipParts
pub mod Spelled
pub mod Spellings
pub mod Tails
mod FeedSearch
