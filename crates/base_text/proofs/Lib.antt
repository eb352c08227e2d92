pub mod Joining
pub mod Lacking
pub mod Signing
pub mod Spelling
pub mod Splitting
