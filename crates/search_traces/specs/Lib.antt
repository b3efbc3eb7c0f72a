pub mod Stored
pub mod Asked
