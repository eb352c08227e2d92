pub mod FirstAreas
pub mod FoundingTexts
pub mod Numbering
pub mod Progress
pub mod Streaming
pub mod Trying
pub mod Wordings
