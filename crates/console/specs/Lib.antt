pub mod Number
pub mod Print
pub mod Ending
