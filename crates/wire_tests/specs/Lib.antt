pub mod TestCanvases
pub mod Written
