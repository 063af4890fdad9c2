pub mod Sums
pub mod Boards
pub mod Building
pub mod Values
pub mod Reductions
pub mod Merging
