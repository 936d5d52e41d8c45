pub mod Calls
pub mod Joining
