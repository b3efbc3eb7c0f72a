pub mod Store
pub mod Write
pub mod Print
