pub mod Tables
pub mod Alone
pub mod Turning
pub mod Lent
pub mod Walking
pub mod Ending
