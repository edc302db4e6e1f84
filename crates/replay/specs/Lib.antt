pub use Rattle.key_index.specs.Indexed
pub mod Faults
pub mod Moments
pub mod Screens
pub mod Slices
