pub mod Sums
pub mod Soft
pub mod Level
pub mod Identity
pub mod Tables
pub mod Judging
pub mod Columns
