pub mod Blocks
pub mod Filming
pub mod PngIs
pub mod Registers
pub mod Rows
pub mod Sums
pub mod Texts
