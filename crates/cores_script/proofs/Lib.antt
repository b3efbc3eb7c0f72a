mod Laws
mod Measured
