pub mod Goes
pub mod Turns
pub mod Messages
pub mod Sessions
pub mod Means
pub mod Same
