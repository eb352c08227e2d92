pub mod Cursor
pub mod Fitting
pub mod KindNumbers
pub mod Pieces
pub mod RequestForms
