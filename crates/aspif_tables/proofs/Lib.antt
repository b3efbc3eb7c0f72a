pub mod Pieces
pub mod Added
pub mod Levels
pub mod Lines
