pub mod Drawing
pub mod PixelsJoined
pub mod PartsDrawn
