pub use Rattle.pixel_format.specs.Canvas
pub mod Encoding
pub mod Picture
pub mod Written
pub mod Update
pub mod Parts
