pub mod Cuts
pub mod Only
pub mod Pieces
pub mod Reading
pub mod Split
pub mod Weights
pub mod Wrongs
