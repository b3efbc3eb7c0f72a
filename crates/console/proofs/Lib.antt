pub mod Numbers
mod Figures
