pub mod Histories
pub mod Moments
pub mod Pairs
pub mod Sureness
pub mod Tearing
pub mod Telling
