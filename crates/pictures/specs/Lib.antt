pub mod Checksums
pub mod Chunks
pub mod Frames
pub mod Pictures
pub mod Plain
pub mod Png
pub mod PngRules
