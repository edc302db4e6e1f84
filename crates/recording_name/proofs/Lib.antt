pub mod Calls
pub mod Noted
pub mod AfterCrash
pub mod Worked
pub mod SettledFor
