pub mod Format
pub mod Pixel
pub mod Canvas
pub mod Written
pub mod Number
