pub mod Standing
pub mod Asking
