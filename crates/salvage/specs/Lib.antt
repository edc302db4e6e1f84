pub mod Faults
pub mod Judge
pub mod Salvaging
