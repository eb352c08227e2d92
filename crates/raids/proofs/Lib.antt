pub mod Counts
pub mod Ended
pub mod Manned
pub mod Mustered
pub mod Named
pub mod Settled
pub mod Shares
