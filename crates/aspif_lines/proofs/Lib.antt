pub mod Spans
pub mod Heads
pub mod Readings
pub mod Pairs
pub mod RowKinds
pub mod Names
