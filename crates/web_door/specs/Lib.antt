pub mod Doors
pub mod Upgrades
