pub mod FileView
pub mod Untold
pub mod UntoldFolder
pub mod WriteLaws
