pub mod Serving
pub mod Room
pub mod TwoCopies
