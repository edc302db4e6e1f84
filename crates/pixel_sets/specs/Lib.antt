pub mod Bits
pub mod Pixels
