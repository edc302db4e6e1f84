mod Names
mod Plain
mod Methods
pub mod Only
mod Whole
pub mod Cuts
