pub mod Text
pub mod Seen
