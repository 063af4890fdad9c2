pub mod Nets
pub mod Rows
pub mod Matrices
pub mod Splits
