pub mod Areas
pub mod Laws
pub mod Laying
pub mod Looking
pub mod Reopening
