pub mod ShareLemmas
pub mod StepLaws
