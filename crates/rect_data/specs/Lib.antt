pub mod Grammar
pub mod Data
pub mod Judging
