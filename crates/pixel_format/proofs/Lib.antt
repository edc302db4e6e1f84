pub mod Lanes
pub mod Valid
pub mod Covering
pub mod PixelsLaid
pub mod Eights
pub mod Numbers
pub mod Voting
