pub mod Batches
pub mod Fitting
pub mod Gates
pub mod Laws
pub mod Ledger
pub mod Standing
