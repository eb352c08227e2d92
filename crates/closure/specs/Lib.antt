pub mod Lists
pub mod Closure
pub mod Flown
pub mod Answers
pub mod Directory
pub mod Naming
