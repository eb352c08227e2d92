pub mod Base
pub mod Sound
pub mod Rules
pub mod Spelling
pub mod Told
pub mod Tallies
pub mod Kept
pub mod Counting
