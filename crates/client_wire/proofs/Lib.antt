pub mod MessageTypes
pub mod Fronts
pub mod Local
pub mod Streams
pub mod Relation
pub mod Resume
pub mod Turns
pub mod ReadBack
