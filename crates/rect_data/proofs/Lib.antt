pub mod Local
pub mod Content
pub mod Steps
