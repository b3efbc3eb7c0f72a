pub mod Blaming
pub mod Settled
pub mod Turning
pub mod Finishing
pub mod Fronts
pub mod Running
pub mod Preparing
