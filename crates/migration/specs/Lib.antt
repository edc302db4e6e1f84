pub mod Faults
pub mod Migrating
