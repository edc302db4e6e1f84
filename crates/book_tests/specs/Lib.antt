pub mod OnePixel
