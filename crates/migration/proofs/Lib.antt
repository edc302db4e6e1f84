pub mod Copied
pub mod Migrated
pub mod Retold
