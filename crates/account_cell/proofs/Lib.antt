pub mod Counts
pub mod Queues
pub mod Reasons
pub mod Spans
pub mod Starts
