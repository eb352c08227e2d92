pub mod Statuses
pub mod Answers
pub mod Trial
pub mod TrialDump
pub mod Beginning
pub mod FoundingText
pub mod Found
