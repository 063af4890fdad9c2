pub mod Lines
pub mod Joins
pub mod Tokens
pub mod Boards
pub mod Pieces
pub mod Passing
