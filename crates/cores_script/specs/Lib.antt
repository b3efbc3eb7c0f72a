pub mod Sound
pub mod Script
