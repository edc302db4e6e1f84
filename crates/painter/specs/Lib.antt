pub use Rattle.rect_codec.specs.Picture as DataPicture
pub mod Picture
pub mod Pixels
pub mod Areas
pub mod Framebuffer
pub mod WholeRows
pub mod Update
pub mod Key
pub mod Sent
pub mod SentUpdate
pub mod Numbered
