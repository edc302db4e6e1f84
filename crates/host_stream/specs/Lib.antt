pub use Rattle.host_session.specs.Session
pub mod Streams
