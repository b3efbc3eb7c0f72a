pub mod Held
pub mod Sound
pub mod Calls
pub mod Tally
pub mod Demand
pub mod Alike
pub mod Print
