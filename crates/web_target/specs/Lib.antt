pub mod Orders
pub mod Targets
