pub mod Table
pub mod Run
pub mod Playing
pub mod Standing
