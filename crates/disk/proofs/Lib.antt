pub mod TakenBack
pub mod Undo
